-- The bytes that a link took are the first of its text.
use Rattle.std.proofs.Common.{◌≡◌, ℕ, zero, suc, ◌+◌, ◌≤◌, Bool, true, false, min, List, [], ◌∷◌, ◌++◌, length, take, drop, Option, Some, None, refl, sym, ◌∙◌, ap, append-nil, subst, arith}
use Rattle.std.specs.Prelude.{nat_lt, if◌then◌else◌}
use Rattle.std.proofs.lemmas.Bool.{false≢true}
use Rattle.std.proofs.lemmas.List.{take-append-le, take_min}
use Rattle.nats_lines.specs.Operations.{Front, front, got, unfinished, fault}
use Rattle.nats_history.specs.declared.config.Config.{Config}
use Rattle.nats_history.specs.declared.call.Call.{Call}
use Rattle.nats_history.specs.declared.turn.Turn.{Turn}
use Rattle.nats_history.specs.declared.turn.Turn.TheVariants.{Up, Piece, Write, Take}
use Rattle.nats_history.specs.History.{Step, opened, taken, History, is_up, text_by, link_text, taken_count, waiting_bytes}
use Rattle.nats_history.specs.Parts.{Parts, parts_of}
use Rattle.nats_history.specs.Schedule.{followers, chain, own_steps, due_call, due_by, due, put_steps, most_due, write_limit, settled_within, settled, after_turn}
use Rattle.nats_history.proofs.Words.{taken_fits}
use Rattle.nats_heard.specs.Heard.{NoneUp}
use Rattle.nats_heard.proofs.Steps.{Passes, AreAll, followers_all, OwnPasses, own_all}

-- a step that takes no bytes and opens no link
abbrev is_dry : Step → Bool
is_dry (opened info) = false
is_dry (taken n) = false
is_dry step = true

dry_passes : Passes is_dry
dry_passes = record {
  ticks = refl;
  accepts = λ call. refl;
  goes = λ sid. refl;
  passes = λ ticket. refl;
  ends = λ end. refl;
  closes = refl;
}

-- the first bytes of the link's text, as many as were taken
abbrev Took : Config → History → List ℕ → Type 0
Took c h bytes = bytes ≡ take (taken_count c h) (link_text c h)

dry_took : (c : Config) (place : ℕ) (bytes : List ℕ) (step : Step) (h : History) → is_dry step ≡ true → Took c h bytes → Took c ((place, step) ∷ h) bytes
dry_took c place bytes (opened info) h dry took = absurd (false≢true dry)
dry_took c place bytes (taken n) h dry took = absurd (false≢true dry)
dry_took c place bytes step h dry took = took ∙ sym (take-append-le (taken_count c h) (link_text c h) (text_by c h step) (taken_fits c h))

module _ (c : Config) (place : ℕ) (bytes : List ℕ) where
  all_took : (steps : List Step) (h : History) → AreAll is_dry steps → Took c h bytes → Took c (put_steps place steps h) bytes
  all_took [] h dry took = took
  all_took (step ∷ steps) h dry took = all_took steps ((place, step) ∷ h) dry.1 (dry_took c place bytes step h dry.0 took)

  abbrev IsDry : Option Step → Type 0
  IsDry None = Unit {0}
  IsDry (Some step) = is_dry step ≡ true

  due_dry : (p : Parts) → IsDry (due p)
  due_dry p = by_up p.link.is_up
    where
      by_call : (b : Bool) (calls : List Call) → IsDry (due_call b calls)
      by_call true [] = tt
      by_call true (call ∷ more) = refl
      by_call false calls = tt

      by_front : (found : Front) → IsDry (due_by found p)
      by_front (got operation n) = refl
      by_front (fault n) = refl
      by_front unfinished = by_call (nat_lt (length p.link.wire.waiting) write_limit) p.calls

      by_up : (b : Bool) → IsDry (if b then due_by (front p.link.wire.unread) p else None)
      by_up true = by_front (front p.link.wire.unread)
      by_up false = tt

  within_took : (most : ℕ) (next : Option Step) (h : History) → IsDry next → Took c h bytes → Took c (settled_within c place most next h) bytes
  within_took most None h dry took = took
  within_took zero (Some step) h dry took = took
  within_took (suc most) (Some step) h dry took =
      let more = put_steps place (chain (parts_of c h) step) h in
      within_took most (due (parts_of c more)) more (due_dry (parts_of c more))
      (all_took (followers (parts_of c h) step) ((place, step) ∷ h) (followers_all is_dry dry_passes (parts_of c h) step) (dry_took c place bytes step h dry took))

  settled_took : (h : History) → Took c h bytes → Took c (settled c place h) bytes
  settled_took h took = within_took (most_due (parts_of c h)) (due (parts_of c h)) h (due_dry (parts_of c h)) took

-- the bytes that a turn takes
abbrev pub taken_by : Config → History → Turn → List ℕ
taken_by c h (Write n) = take n (waiting_bytes c h)
taken_by c h turn = []

-- some first items and then some of the others are more first items
take_on : {A : Type 0} (k n : ℕ) (xs : List A) → k ≤ length xs
    → take k xs ++ take n (drop k xs) ≡ take (min (k + min n (length (drop k xs))) (length xs)) xs
take_on zero n xs up =
    let same : min (zero + min n (length xs)) (length xs) ≡ min n (length xs) = omega arith in
    sym (ap (λ k. take k xs) same ∙ take_min n xs)
take_on (suc k) n [] up = absurd (omega (arith, up))
take_on (suc k) n (x ∷ xs) up =
    let same : min (suc k + min n (length (drop k xs))) (length (x ∷ xs)) ≡ suc (min (k + min n (length (drop k xs))) (length xs)) = omega arith in
    ap (λ ys. x ∷ ys) (take_on k n xs (omega (arith, up))) ∙ sym (ap (λ m. take m (x ∷ xs)) same)

-- the bytes that a write takes of those that wait, which are none where no link is up
write_took : (n count : ℕ) (text bytes : List ℕ) (up : Bool) → count ≤ length text → bytes ≡ take count text
    → bytes ++ take n (if up then drop count text else [])
    ≡ take (min (count + min n (length (if up then drop count text else []))) (length text)) text
write_took n count text bytes true fits took = ap (λ xs. xs ++ take n (drop count text)) took ∙ take_on count n text fits
write_took n count text bytes false fits took =
    let none : take n [] ≡ [] = by n in
    let same : min (count + min n (length {A = ℕ} [])) (length text) ≡ count = omega (arith, fits) in
    ap (λ xs. bytes ++ xs) none ∙ append-nil bytes ∙ took ∙ sym (ap (λ k. take k text) same)
  where
    by : (k : ℕ) → take {A = ℕ} k [] ≡ []
    by zero = refl
    by (suc k) = refl

quiet_took : (c : Config) (place : ℕ) (bytes : List ℕ) (turn : Turn) (h : History) → OwnPasses is_dry dry_passes turn → Took c h bytes
    → Took c (put_steps place (own_steps (parts_of c h) turn) h) (bytes ++ [])
quiet_took c place bytes turn h dry took =
    subst (Took c (put_steps place (own_steps (parts_of c h) turn) h)) (sym (append-nil bytes))
    (all_took c place bytes (own_steps (parts_of c h) turn) h (own_all is_dry dry_passes (parts_of c h) turn dry) took)

-- a turn by which no link comes up
own_took : (c : Config) (place : ℕ) (bytes : List ℕ) (turn : Turn) (turns : List Turn) (h : History) → NoneUp (turn ∷ turns) → Took c h bytes
    → Took c (put_steps place (own_steps (parts_of c h) turn) h) (bytes ++ taken_by c h turn)
own_took c place bytes (Up info) turns h none took = absurd none
own_took c place bytes (Write n) turns h none took =
    let m = min n (length (waiting_bytes c h)) in
    all_took c place (bytes ++ take n (waiting_bytes c h)) (followers (parts_of c h) (taken m)) ((place, taken m) ∷ h)
    (followers_all is_dry dry_passes (parts_of c h) (taken m))
    (write_took n (taken_count c h) (link_text c h) bytes (is_up h) (taken_fits c h) took
    ∙ sym (ap (take (min (taken_count c h + m) (length (link_text c h)))) (append-nil (link_text c h))))
own_took c place bytes (Piece piece) turns h none took = quiet_took c place bytes (Piece piece) h refl took
own_took c place bytes (Take sid) turns h none took = quiet_took c place bytes (Take sid) h refl took
own_took c place bytes turn turns h none took = quiet_took c place bytes turn h tt took

-- what a turn takes joins what was taken
pub turn_took : (c : Config) (place : ℕ) (bytes : List ℕ) (turn : Turn) (turns : List Turn) (h : History) → NoneUp (turn ∷ turns)
    → bytes ≡ take (taken_count c h) (link_text c h)
    → bytes ++ taken_by c h turn ≡ take (taken_count c (after_turn c place turn h)) (link_text c (after_turn c place turn h))
turn_took c place bytes turn turns h none took =
    settled_took c place (bytes ++ taken_by c h turn) (put_steps place (own_steps (parts_of c h) turn) h) (own_took c place bytes turn turns h none took)
