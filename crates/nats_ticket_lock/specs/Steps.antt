-- What each step on the table tells.
use Rattle.std.specs.Prelude.{◌≡◌, ◌≢◌, ℕ, suc, ◌+◌, ◌^◌, ◌<◌, ◌≤◌, List, [], ◌∷◌, ◌++◌, length, max, Bool, true, false, nat_le, Option, Some, None}
use Rattle.atomic_table.specs.Table.{Me, Step}
use Rattle.nats_ticket_lock.specs.declared.rule.Stage.{Stage}
use Rattle.nats_ticket_lock.specs.declared.rule.Stage.TheVariants.{Idle, Waits, Turn, Held}
use Rattle.nats_ticket_lock.specs.declared.rule.Account.{Account}
use Rattle.nats_ticket_lock.specs.declared.rule.View.{View}
use Rattle.nats_ticket_lock.specs.Tally.{count_in}
use Rattle.nats_ticket_lock.specs.Rule.{Begins, Owns, calls_of, numbers}

-- the first of two, if that is so
abbrev pub pick : {A : Type 0} → Bool → A → A → A
pick true x y = x
pick false x y = y

-- the longer of two lists
abbrev pub longer : {E : Type 0} → List E → List E → List E
longer xs ys = pick (nat_le (length xs) (length ys)) ys xs

-- the ticket of a stage, 0 where it has none
abbrev pub ticket_no : Stage → ℕ
ticket_no Idle = 0
ticket_no (Waits t) = t
ticket_no (Turn t) = t
ticket_no (Held t) = t

-- each of these that is no longer than what was seen is a start of it
abbrev pub Earlier : {E : Type 0} → List E → List (List E) → Type 0
Earlier seen [] = Unit {0}
Earlier seen (l ∷ ls) = (length l ≤ length seen → Begins seen l) × Earlier seen ls

module _ {E : Type 0} where
  -- one entry more, under the first number
  abbrev pub add_own : E → List (Account E) → List (Account E)
  add_own e [] = []
  add_own e (a ∷ rest) = record { number = a.number; own = a.own ++ e ∷ [] } ∷ rest

  -- the number of the first account, 0 where there is none
  abbrev pub first_number : List (Account E) → ℕ
  first_number [] = 0
  first_number (a ∷ rest) = a.number

-- what a step is made from: a view, and what it holds
abbrev pub Sat : Type 0 → Type 0 → Type 0 → Type 0
Sat K E D = Me (Option D) (View K E)

module _ {K E : Type 0} where
  -- a view at another stage
  abbrev pub staged : Stage → View K E → View K E
  staged stage v = record v { stage = stage }

  -- a new seat has seen as much, and has no number
  abbrev pub told : View K E → View K E
  told v = record { about = v.about; stage = Idle; seen = v.seen; made = v.made; accounts = []; heard = [] }

  -- two views as one
  abbrev pub joined : View K E → View K E → View K E
  joined v w = record {
    about = v.about;
    stage = v.stage;
    seen = longer v.seen w.seen;
    made = max v.made w.made;
    accounts = v.accounts ++ w.accounts;
    heard = v.seen ∷ w.seen ∷ (v.heard ++ w.heard);
  }

  -- what is left of the view that was joined
  abbrev pub spent_view : View K E
  spent_view = record { about = None; stage = Idle; seen = []; made = 0; accounts = []; heard = [] }

  -- one entry more, its own
  abbrev pub recorded : E → View K E → View K E
  recorded e v = record {
    about = v.about;
    stage = v.stage;
    seen = v.seen ++ e ∷ [];
    made = v.made;
    accounts = add_own e v.accounts;
    heard = v.heard;
  }

  -- one seat more, and its number
  abbrev pub numbered : View K E → View K E
  numbered v = record {
    about = v.about;
    stage = v.stage;
    seen = v.seen;
    made = suc v.made;
    accounts = record { number = suc v.made; own = [] } ∷ v.accounts;
    heard = v.heard;
  }

  -- all entries and all seats are seen
  abbrev pub caught_up : Stage → List E → ℕ → View K E → View K E
  caught_up stage seen made v = record {
    about = v.about;
    stage = stage;
    seen = seen;
    made = made;
    accounts = v.accounts;
    heard = v.heard;
  }

  -- each number that was given is among the view's
  abbrev pub HasAll : View K E → Type 0
  HasAll v = (n : ℕ) → 0 < n → n ≤ v.made → count_in n (numbers v) ≡ 1

  -- a number was given that is not
  abbrev pub Lacks : View K E → Type 0
  Lacks v = (n : ℕ) × (0 < n) × (n ≤ v.made) × (count_in n (numbers v) ≡ 0)

  -- how many numbers it has tells which
  abbrev pub Counted : View K E → Type 0
  Counted v = (length v.accounts ≡ v.made → HasAll v) × (length v.accounts ≢ v.made → Lacks v)

  -- no entry that was seen is under a number that was not given
  abbrev pub OnlyGiven : (E → ℕ) → View K E → Type 0
  OnlyGiven by v = (n : ℕ) → (0 < n → n ≤ v.made → ⊥) → calls_of by n v.seen ≡ []

  module _ {D : Type 0} where
    -- a try to draw the ticket old
    abbrev pub drew : Step (Option D) → Sat K E D → ℕ → Sat K E D → Type 0
    drew st me n w = (n ≡ st.first → w ≡ (staged (Waits n) me.0, me.1)) × (n ≢ st.first → w ≡ me)

    -- its ticket is served, or not
    abbrev pub looked : Step (Option D) → Sat K E D → ℕ → Sat K E D → Type 0
    looked st me n w =
        (n ≡ ticket_no me.0.stage → w ≡ (staged (Turn n) me.0, me.1)) × (n ≢ ticket_no me.0.stage → w ≡ me)

    -- nothing changes, and what was heard of is earlier
    abbrev pub compared : (E → ℕ) → Step (Option D) → Sat K E D → ℕ → Sat K E D → Type 0
    compared by st me n w =
        (w ≡ me) × Earlier me.0.seen me.0.heard × (length me.0.accounts ≤ 2 ^ 63) × Owns by me.0.seen me.0.accounts

    -- the turn is passed on
    abbrev pub passed : Step (Option D) → Sat K E D → ℕ → Sat K E D → Type 0
    passed st me n w = w ≡ (staged Idle me.0, me.1)

    -- how many entries and seats there are
    abbrev pub counted : (E → ℕ) → Step (Option D) → Sat K E D → ℕ → Sat K E D → Type 0
    counted by st me n w = (w ≡ me) × (n ≡ length me.0.seen + me.0.made) × Counted me.0 × OnlyGiven by me.0

    -- the value is given back
    abbrev pub gave : Step (Option D) → Sat K E D → ℕ → Sat K E D → Type 0
    gave st me n w = w ≡ (staged (Turn (ticket_no me.0.stage)) me.0, [])

    module _ (by : E → ℕ) (entries : D → List E) (made : D → ℕ) (suits : K → D → Type 0) where
      -- the value is taken out, and all that it has is seen
      abbrev pub took : Step (Option D) → Sat K E D → ℕ → Sat K E D → Type 0
      took st me n w =
          (y : D) × (w ≡ (caught_up (Held (ticket_no me.0.stage)) (entries y) (made y) me.0, (0, Some y) ∷ []))
          × Begins (entries y) me.0.seen × (me.0.made ≤ made y) × Owns by (entries y) me.0.accounts
          × ((k : K) → me.0.about ≡ Some k → suits k y)

    -- the entry e was added
    abbrev pub added : (E → ℕ) → (D → List E) → Step (Option D) → Sat K E D → ℕ → Sat K E D → Type 0
    added by entries st me n w =
        (y : D) (e : E) → me.1 ≡ (0, Some y) ∷ [] → entries y ≡ me.0.seen ++ e ∷ []
        → (w ≡ (recorded e me.0, me.1)) × Owns by (recorded e me.0).seen (recorded e me.0).accounts

    -- a seat was made
    abbrev pub was_numbered : Step (Option D) → Sat K E D → ℕ → Sat K E D → Type 0
    was_numbered st me n w = w ≡ (numbered me.0, me.1)
