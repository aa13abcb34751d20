-- The rule over the three words, the slot and the views.
use Rattle.std.specs.Prelude.{◌≡◌, ◌⊎◌, ℕ, suc, ◌+◌, ◌^◌, ◌<◌, ◌≤◌, List, [], ◌∷◌, ◌++◌, length, Bool, true, false, nat_eq, map, Option, Some}
use mathlib.Core.Option.{some}
use mathlib.Core.Option as maybe
use lib.ListN.{get_elem?}
use Rattle.atomic_table.specs.Table.{State}
use Rattle.nats_ticket_lock.specs.declared.rule.Stage.{Stage}
use Rattle.nats_ticket_lock.specs.declared.rule.Stage.TheVariants.{Idle, Waits, Turn, Held}
use Rattle.nats_ticket_lock.specs.declared.rule.Account.{Account}
use Rattle.nats_ticket_lock.specs.declared.rule.View.{View}
use Rattle.nats_ticket_lock.specs.Tally.{Spread}

-- an entry put before others, if that is so
abbrev pub keep_if : {E : Type 0} → Bool → E → List E → List E
keep_if true e es = e ∷ es
keep_if false e es = es

-- the entries under a number
abbrev pub calls_of : {E : Type 0} → (E → ℕ) → ℕ → List E → List E
calls_of by n [] = []
calls_of by n (e ∷ es) = keep_if (nat_eq (by e) n) e (calls_of by n es)

-- the first list begins with the second
abbrev pub Begins : {E : Type 0} → List E → List E → Type 0
Begins {E} all start = (rest : List E) × (all ≡ start ++ rest)

-- the ticket of a stage, if it has one
abbrev pub ticket_of : Stage → List ℕ
ticket_of Idle = []
ticket_of (Waits t) = t ∷ []
ticket_of (Turn t) = t ∷ []
ticket_of (Held t) = t ∷ []

module _ {E : Type 0} where
  -- the number of an account
  abbrev pub number_of : Account E → ℕ
  number_of a = a.number

  -- each account has just the entries under its number
  abbrev pub Owns : (E → ℕ) → List E → List (Account E) → Type 0
  Owns by all [] = Unit {0}
  Owns by all (a ∷ rest) = (calls_of by a.number all ≡ a.own) × Owns by all rest

  -- each of these lists is a beginning of all entries
  abbrev pub Heard : List E → List (List E) → Type 0
  Heard all [] = Unit {0}
  Heard all (l ∷ rest) = Begins all l × Heard all rest

module _ {K E : Type 0} where
  -- the tickets of a view, one at most
  abbrev pub tickets : View K E → List ℕ
  tickets v = ticket_of v.stage

  -- the numbers of a view
  abbrev pub numbers : View K E → List ℕ
  numbers v = map number_of v.accounts

  -- knows nothing, and has no number
  abbrev pub blank : K → View K E
  blank key = record { about = Some key; stage = Idle; seen = []; made = 0; accounts = []; heard = [] }

  -- the first seat
  abbrev pub newcomer : K → View K E
  newcomer key = record {
    about = Some key;
    stage = Idle;
    seen = [];
    made = 1;
    accounts = record { number = 1; own = [] } ∷ [];
    heard = [];
  }

  -- one seat has it out
  abbrev pub IsOut : ℕ → List (View K E) → Type 0
  IsOut served views = (j : ℕ) × (v : View K E) × (get_elem? views j ≡ some v) × (v.stage ≡ Held served)

  module _ (all : List E) (count served : ℕ) (v : View K E) where
    -- whoever has the turn has the ticket that is served, and with the value in hand has seen all
    abbrev pub HasTurn : Stage → Type 0
    HasTurn Idle = Unit {0}
    HasTurn (Waits t) = Unit {0}
    HasTurn (Turn t) = t ≡ served
    HasTurn (Held t) = (t ≡ served) × (v.seen ≡ all) × (v.made ≡ count)

  -- what is true of each view
  pub record Knows (by : E → ℕ) (key : K) (all : List E) (count served : ℕ) (v : View K E) : Type 0 where
    pub about : (k : K) → v.about ≡ Some k → k ≡ key
    pub seen : Begins all v.seen
    pub made : v.made ≤ count
    pub heard : Heard all v.heard
    pub owns : Owns by all v.accounts
    pub known : Owns by v.seen v.accounts
    pub turn : HasTurn all count served v v.stage

  module _ {D : Type 0} (by : E → ℕ) (entries : D → List E) (made : D → ℕ) (suits : K → D → Type 0) where
    -- the value is in the slot, and is the latest
    abbrev pub AtHome : K → List E → ℕ → List (maybe.Option (Option D)) → Type 0
    AtHome key all count homes =
        (y : D) × (homes ≡ some (Some y) ∷ []) × (entries y ≡ all) × (made y ≡ count) × suits key y

    -- the rule: what holds of the words, the slot and all views, in terms of all entries, the seats made, and the
    -- tickets drawn and served
    pub record Kept (key : K) (s : State (Option D) (View K E)) : Type 0 where
      pub all : List E
      pub count : ℕ
      pub drawn : ℕ
      pub served : ℕ
      pub words_are : s.words ≡ (length all + count) ∷ drawn ∷ served ∷ []
      pub small : (length all + count ≤ 2 ^ 63) × (drawn < 2 ^ 64)
      pub tickets_are : Spread tickets s.views served drawn
      pub numbers_are : Spread numbers s.views 1 (suc count)
      pub each : (j : ℕ) (v : View K E) → get_elem? s.views j ≡ some v → Knows by key all count served v
      pub others : (n : ℕ) → ((0 < n) → (n ≤ count) → ⊥) → calls_of by n all ≡ []
      pub value : AtHome key all count s.homes ⊎ IsOut served s.views
