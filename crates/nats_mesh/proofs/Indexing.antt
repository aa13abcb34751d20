-- One client among the others, by its number.
use Rattle.std.proofs.Common.{◌≡◌, ℕ, zero, suc, ◌-◌, ◌<◌, ◌≤◌, Bool, true, false, List, [], ◌∷◌, length, get_or, slice_set, Some, None, Result, Ok, Err, refl, sym, ◌∙◌, ap, arith}
use Rattle.std.specs.Prelude.{slice_get}
use Rattle.nats_names.specs.declared.failed.NoMemory.{NoMemory}
use Rattle.nats_history.specs.declared.turn.Turn.{Turn}
use Rattle.nats_outboxes.specs.Outboxes.{item_of}
use Rattle.nats_outboxes.proofs.Changed.{at_its_number, kept_at_number}
use Rattle.nats_moves.specs.Mesh.{Member}
use Rattle.nats_mesh.specs.Clients.{with_turn, with_next, Stepped, Brought, may_step, SteppedAt, may_bring, BroughtAt}

get_there : (xs : List Member) (k : ℕ) (d : Member) → k < length xs → slice_get xs k ≡ Some (get_or xs k d)
get_there [] k d within = absurd (omega (arith, within))
get_there (x ∷ xs) zero d within = refl
get_there (x ∷ xs) (suc k) d within = get_there xs k d (omega (arith, within))

item_there : (xs : List Member) (i : ℕ) (d : Member) → (i ≡ 0 → ⊥) → i ≤ length xs → item_of i xs ≡ Some (get_or xs (i - 1) d)
item_there xs zero d some within = absurd (some refl)
item_there xs (suc k) d some within =
    let e : suc k - 1 ≡ k = omega arith in
    get_there xs k d (omega (arith, within)) ∙ ap (λ j. Some (get_or xs j d)) (sym e)

get_past : (xs : List Member) (k : ℕ) → length xs ≤ k → slice_get xs k ≡ None
get_past [] k past = refl
get_past (x ∷ xs) zero past = absurd (omega (arith, past))
get_past (x ∷ xs) (suc k) past = get_past xs k (omega (arith, past))

item_past : (xs : List Member) (i : ℕ) → length xs < i → item_of i xs ≡ None
item_past xs zero past = refl
item_past xs (suc k) past = get_past xs k (omega (arith, past))

-- ---- a turn

pub steps_zero : (turn : Turn) (i : ℕ) (xs : List Member) → i ≡ 0 → SteppedAt i turn xs (Ok false) xs
steps_zero turn i xs is = (ap (λ k. may_step turn (item_of k xs)) is, refl)

pub steps_past : (turn : Turn) (i : ℕ) (xs : List Member) → length xs < i → SteppedAt i turn xs (Ok false) xs
steps_past turn i xs past = (ap (may_step turn) (item_past xs i past), refl)

pub steps_there : (turn : Turn) (i : ℕ) (xs : List Member) (d new : Member) (r : Result Bool NoMemory) → (i ≡ 0 → ⊥) → i ≤ length xs
    → Stepped (get_or xs (i - 1) d) turn r new → SteppedAt i turn xs r (slice_set xs (i - 1) new)
steps_there turn i xs d new (Ok true) some within steps = (
  ap (may_step turn) (item_there xs i d some within) ∙ steps.0,
  ap (slice_set xs (i - 1)) steps.1 ∙ at_its_number (with_turn turn 0) xs i d some within,
)
steps_there turn i xs d new (Ok false) some within steps = (
  ap (may_step turn) (item_there xs i d some within) ∙ steps.0,
  ap (slice_set xs (i - 1)) steps.1 ∙ kept_at_number xs i d some within,
)
steps_there turn i xs d new (Err e) some within steps = tt

-- ---- bytes

pub brings_zero : (text : List ℕ) (i n : ℕ) (xs : List Member) → i ≡ 0 → BroughtAt i text n xs (Ok false) xs
brings_zero text i n xs is = (ap (λ k. may_bring text n (item_of k xs)) is, refl)

pub brings_past : (text : List ℕ) (i n : ℕ) (xs : List Member) → length xs < i → BroughtAt i text n xs (Ok false) xs
brings_past text i n xs past = (ap (may_bring text n) (item_past xs i past), refl)

pub brings_there : (text : List ℕ) (i n : ℕ) (xs : List Member) (d new : Member) (r : Result Bool NoMemory) → (i ≡ 0 → ⊥) → i ≤ length xs
    → Brought text n (get_or xs (i - 1) d) r new → BroughtAt i text n xs r (slice_set xs (i - 1) new)
brings_there text i n xs d new (Ok true) some within brings = (
  ap (may_bring text n) (item_there xs i d some within) ∙ brings.0,
  ap (slice_set xs (i - 1)) brings.1 ∙ at_its_number (with_next text n) xs i d some within,
)
brings_there text i n xs d new (Ok false) some within brings = (
  ap (may_bring text n) (item_there xs i d some within) ∙ brings.0,
  ap (slice_set xs (i - 1)) brings.1 ∙ kept_at_number xs i d some within,
)
brings_there text i n xs d new (Err e) some within brings = tt

-- ---- what waits
