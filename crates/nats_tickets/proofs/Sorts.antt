-- Kinds of tickets, told by runs.
use Rattle.std.proofs.Common.{◌≡◌, ℕ, suc, ◌<◌, ◌≤◌, ◌-◌, zero, Bool, true, false, cond, nat_lt, List, [], ◌∷◌, ◌++◌, length, refl, sym, ◌∙◌, ap, subst, arith, inl, inr}
use Rattle.std.proofs.lemmas.Bool.{lt-ltb, le-ltb, ltb-true}
use Rattle.std.specs.Prelude.{slice_index_or}
use Rattle.std.specs.List.Sorted.{IsPartitionedBy, IsPartitionPoint}
use Rattle.nats_tables.specs.Numbers.{item_of}
use Rattle.nats_tables.proofs.Numbers.{one_more, same_up_to, item_there, item_missing}
use Rattle.nats_history.specs.Schedule.{is_of_request}
use Rattle.nats_tickets.specs.declared.kinds.Run.{Run}
use Rattle.nats_tickets.specs.Runs.{kind_from, kind_in, kinds_in, Runs, last_from, last_kind, Extended}

-- behind all runs the kind is the last one's
last_is : (kind : Bool) (from given s : ℕ) (runs : List Run) → Runs from given runs → given < s → kind_from kind runs s ≡ last_from kind runs
last_is kind from given s [] sound past = refl
last_is kind from given s (r ∷ rs) sound past =
    ap (λ b. cond b (kind_from r.is_request rs s) kind) (lt-ltb r.before s (omega (arith, sound.1, past))) ∙ last_is r.is_request r.before given s rs sound.2 past

-- a run that begins behind a number changes nothing there
early_same : (kind next : Bool) (given s : ℕ) (runs : List Run) → s ≤ given → kind_from kind (runs ++ record { before = given; is_request = next } ∷ []) s ≡ kind_from kind runs s
early_same kind next given s [] low = ap (λ b. cond b next kind) (le-ltb given s low)
early_same kind next given s (r ∷ rs) low = ap (λ k. cond (nat_lt r.before s) k kind) (early_same r.is_request next given s rs low)

-- and is that of the next one
next_is : (kind next : Bool) (from given s : ℕ) (runs : List Run) → Runs from given runs → given < s → kind_from kind (runs ++ record { before = given; is_request = next } ∷ []) s ≡ next
next_is kind next from given s [] sound past = ap (λ b. cond b next kind) (lt-ltb given s past)
next_is kind next from given s (r ∷ rs) sound past =
    ap (λ b. cond b (kind_from r.is_request (rs ++ record { before = given; is_request = next } ∷ []) s) kind) (lt-ltb r.before s (omega (arith, sound.1, past)))
    ∙ next_is r.is_request next r.before given s rs sound.2 past

pub pushed_kind : (given more : ℕ) (kind : Bool) (old new : List Run) → more ≡ suc given → Runs 0 given old → Extended given kind old new → kinds_in more new ≡ kinds_in given old ++ kind ∷ []
pushed_kind given more kind old new is sound (inl same) =
    ap (λ n. kinds_in n new) is
    ∙ (ap (kinds_in (suc given)) same.1 ∙ one_more (kind_in old) given kind (last_is false 0 given (suc given) old sound (omega arith) ∙ same.0))
pushed_kind given more kind old new is sound (inr pushed) =
    ap (λ n. kinds_in n new) is
    ∙ (ap (kinds_in (suc given)) pushed
    ∙ (one_more (kind_in (old ++ record { before = given; is_request = kind } ∷ [])) given kind (next_is false kind 0 given (suc given) old sound (omega arith))
    ∙ ap (λ ks. ks ++ kind ∷ []) (same_up_to (kind_in (old ++ record { before = given; is_request = kind } ∷ [])) (kind_in old) given (λ s low high. early_same false kind given s old high))))

runs_up : (from given more : ℕ) (runs : List Run) → given ≤ more → Runs from given runs → Runs from more runs
runs_up from given more [] fits sound = omega (arith, fits, sound)
runs_up from given more (r ∷ rs) fits sound =
    (sound.0, omega (arith, fits, sound.1), runs_up r.before given more rs fits sound.2)

runs_push : (from given : ℕ) (kind : Bool) (runs : List Run) → Runs from given runs → Runs from (suc given) (runs ++ record { before = given; is_request = kind } ∷ [])
runs_push from given kind [] sound = (sound, omega arith, omega arith)
runs_push from given kind (r ∷ rs) sound =
    (sound.0, omega (arith, sound.1), runs_push r.before given kind rs sound.2)

pub runs_more : (given more : ℕ) (kind : Bool) (old new : List Run) → more ≡ suc given → Runs 0 given old → Extended given kind old new → Runs 0 more new
runs_more given more kind old new is sound (inl same) =
    subst (λ runs. Runs 0 more runs) (sym same.1) (runs_up 0 given more old (omega (arith, is)) sound)
runs_more given more kind old new is sound (inr pushed) =
    subst (λ runs. Runs 0 more runs) (sym pushed) (subst (λ n. Runs 0 n (old ++ record { before = given; is_request = kind } ∷ [])) (sym is) (runs_push 0 given kind old sound))

pub kind_there : (given s : ℕ) (runs : List Run) → 0 < s → s ≤ given → kind_in runs s ≡ is_of_request (item_of s (kinds_in given runs))
kind_there given s runs low high = sym (ap is_of_request (item_there (kind_in runs) given s low high))

pub kind_missing : (given s : ℕ) (runs : List Run) → given < s → false ≡ is_of_request (item_of s (kinds_in given runs))
kind_missing given s runs past = sym (ap is_of_request (item_missing (kind_in runs) given s past))

-- the last run
pub last_at : (kind : Bool) (runs : List Run) (n : ℕ) (d : Run) → length runs ≡ suc n → (slice_index_or runs n d).is_request ≡ last_from kind runs
last_at kind [] n d is = absurd (omega (arith, is))
last_at kind (r ∷ []) zero d is = refl
last_at kind (r ∷ []) (suc n) d is = absurd (omega (arith, is))
last_at kind (r ∷ q ∷ rs) zero d is = absurd (omega (arith, is))
last_at kind (r ∷ q ∷ rs) (suc n) d is = last_at r.is_request (q ∷ rs) n d (omega (arith, is))

pub last_none : (runs : List Run) → length runs ≡ 0 → false ≡ last_kind runs
last_none [] none = refl
last_none (r ∷ rs) none = absurd (omega (arith, none))

low_at : (from given j : ℕ) (d : Run) (runs : List Run) → Runs from given runs → j < length runs → from ≤ (slice_index_or runs j d).before
low_at from given j d [] sound less = absurd (omega (arith, less))
low_at from given zero d (r ∷ rs) sound less = sound.0
low_at from given (suc j) d (r ∷ rs) sound less =
    omega (arith, sound.0, low_at r.before given j d rs sound.2 (omega (arith, less)))

lower : (a b s : ℕ) → a ≤ b → nat_lt b s ≡ true → nat_lt a s ≡ true
lower a b s fits less = let here = ltb-true b s less in lt-ltb a s (omega (arith, fits, here))

-- a run that begins before a ticket comes before those that don't
pub parted : (from given s : ℕ) (runs : List Run) → Runs from given runs → IsPartitionedBy (λ r. nat_lt r.before s) runs
parted from given s [] sound i j d order less is = absurd (omega (arith, less))
parted from given s (r ∷ rs) sound zero zero d order less is = is
parted from given s (r ∷ rs) sound zero (suc j) d order less is =
    lower r.before (slice_index_or rs j d).before s (low_at r.before given j d rs sound.2 (omega (arith, less))) is
parted from given s (r ∷ rs) sound (suc i) zero d order less is = absurd (omega (arith, order))
parted from given s (r ∷ rs) sound (suc i) (suc j) d order less is =
    parted r.before given s rs sound.2 i j d (omega (arith, order)) (omega (arith, less)) is

-- the kind is that of the last run before the point
kind_or : Bool → ℕ → List Run → Run → Bool
kind_or kind zero runs d = kind
kind_or kind (suc j) runs d = (slice_index_or runs j d).is_request

at_point : (kind : Bool) (i s : ℕ) (runs : List Run) (d : Run) → ((k : ℕ) → k < i → nat_lt (slice_index_or runs k d).before s ≡ true) → ((k : ℕ) → i ≤ k → k < length runs → nat_lt (slice_index_or runs k d).before s ≡ false)
    → i ≤ length runs → kind_or kind i runs d ≡ kind_from kind runs s
unfolding kind_or
at_point kind zero s [] d before behind fits = refl
at_point kind (suc i) s [] d before behind fits = absurd (omega (arith, fits))
at_point kind zero s (r ∷ rs) d before behind fits =
    sym (ap (λ b. cond b (kind_from r.is_request rs s) kind) (behind 0 (omega arith) (omega arith)))
at_point kind (suc zero) s (r ∷ rs) d before behind fits =
    at_point r.is_request 0 s rs d (λ k less. absurd (omega (arith, less))) (λ k low less. behind (suc k) (omega (arith, low)) (omega (arith, less))) (omega arith)
    ∙ sym (ap (λ b. cond b (kind_from r.is_request rs s) kind) (before 0 (omega arith)))
at_point kind (suc (suc i)) s (r ∷ rs) d before behind fits =
    at_point r.is_request (suc i) s rs d (λ k less. before (suc k) (omega (arith, less))) (λ k low less. behind (suc k) (omega (arith, low)) (omega (arith, less))) (omega (arith, fits))
    ∙ sym (ap (λ b. cond b (kind_from r.is_request rs s) kind) (before 0 (omega arith)))

pub point_first : (i s : ℕ) (runs : List Run) → i ≡ 0 → i ≤ length runs → IsPartitionPoint (λ r. nat_lt r.before s ≡ true) (λ r. nat_lt r.before s ≡ false) runs i → false ≡ kind_in runs s
unfolding kind_or
point_first i s runs is fits point =
    let d : Run = record { before = 0; is_request = false } in
    at_point false 0 s runs d (λ k less. absurd (omega (arith, less))) (λ k low less. point.1 k d (omega (arith, is)) less) (omega arith)

pub point_later : (i s : ℕ) (runs : List Run) (d : Run) → (i ≡ 0 → ⊥) → i ≤ length runs → IsPartitionPoint (λ r. nat_lt r.before s ≡ true) (λ r. nat_lt r.before s ≡ false) runs i
    → (slice_index_or runs (i - 1) d).is_request ≡ kind_in runs s
unfolding kind_or
point_later zero s runs d some fits point = absurd (some refl)
point_later (suc i) s runs d some fits point =
    let same : suc i - 1 ≡ i = omega arith in
    ap (λ n. (slice_index_or runs n d).is_request) same
    ∙ at_point false (suc i) s runs d (λ k less. point.0 k d (omega arith) less) (λ k low less. point.1 k d low less) fits
