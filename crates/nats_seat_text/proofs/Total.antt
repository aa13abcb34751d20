-- Of workers whose publishes were all accepted, as many calls were accepted as they made.
use Rattle.std.proofs.Common.{◌≡◌, ◌≢◌, ℕ, zero, suc, ◌+◌, ◌*◌, ◌<◌, ◌≤◌, Bool, true, false, cond, nat_eq, eq-eqb, ne_eqb, List, [], ◌∷◌, ◌++◌, count_by, refl, sym, ◌∙◌, ap, arith}
use Rattle.std.proofs.lemmas.List.Sums.{sum_by-append}
use native.Mathlib.Decide.{ℕ_discrete}
use Rattle.nats_core.specs.declared.entry.StepReply.TheVariants as replies
use Rattle.nats_ticket_lock.specs.Rule.{calls_of, keep_if}
use Rattle.nats_desk.specs.declared.entry.SeatEntry.{SeatEntry}
use Rattle.nats_desk.specs.Journal.{entry}
use Rattle.nats_seats.specs.Seats.{by_seat}
use Rattle.nats_seat_workers.specs.Publishing.{published, publish_of, accepted_entry, up_turn, EachPublished, HasNoOthers}
use Rattle.nats_seat_text.specs.Report.{was_accepted, accepted_in}

-- 1 where an entry is a call that was accepted
abbrev point : SeatEntry → ℕ
point e = cond (was_accepted e) 1 0

-- the accepted calls under a number
abbrev under : ℕ → List SeatEntry → ℕ
under n journal = count_by was_accepted (calls_of by_seat n journal)

-- those under the numbers up to one
abbrev up_to : ℕ → List SeatEntry → ℕ
up_to zero journal = under zero journal
up_to (suc n) journal = up_to n journal + under (suc n) journal

-- ---- an entry more

count_first : (e : SeatEntry) (es : List SeatEntry) → count_by was_accepted (e ∷ es) ≡ point e + count_by was_accepted es
count_first e es = sum_by-append (λ x. cond (was_accepted x) 1 0) (e ∷ []) es ∙ omega arith

hit : (n : ℕ) (e : SeatEntry) (journal : List SeatEntry) → e.seat ≡ n → under n (e ∷ journal) ≡ point e + under n journal
hit n e journal is =
    ap (λ b. count_by was_accepted (keep_if b e (calls_of by_seat n journal))) (eq-eqb e.seat n is)
    ∙ count_first e (calls_of by_seat n journal)

miss : (n : ℕ) (e : SeatEntry) (journal : List SeatEntry) → e.seat ≢ n → under n (e ∷ journal) ≡ under n journal
miss n e journal other = ap (λ b. count_by was_accepted (keep_if b e (calls_of by_seat n journal))) (ne_eqb e.seat n other)

above_all : (m : ℕ) (e : SeatEntry) (journal : List SeatEntry) → m < e.seat → up_to m (e ∷ journal) ≡ up_to m journal
above_all zero e journal above = miss 0 e journal (λ is. omega (arith, is, above))
above_all (suc m) e journal above =
    let before = above_all m e journal (omega (arith, above)) in
    let here = miss (suc m) e journal (λ is. omega (arith, is, above)) in
    λ i. before i + here i

among_them : (m : ℕ) (e : SeatEntry) (journal : List SeatEntry) → e.seat ≤ m → up_to m (e ∷ journal) ≡ point e + up_to m journal
among_them zero e journal within = hit 0 e journal (omega (arith, within))
among_them (suc m) e journal within = by (ℕ_discrete e.seat (suc m)) (among_them m e journal)
  where
    by : Dec (e.seat ≡ suc m) → (e.seat ≤ m → up_to m (e ∷ journal) ≡ point e + up_to m journal) → up_to (suc m) (e ∷ journal) ≡ point e + up_to (suc m) journal
    by (yes is) later =
        let before = above_all m e journal (omega (arith, is)) in
        let here = hit (suc m) e journal is in
        (λ i. before i + here i) ∙ omega arith
    by (no other) later =
        let before = later (omega (arith, within, other)) in
        let here = miss (suc m) e journal other in
        (λ i. before i + here i) ∙ omega arith

-- ---- all entries

-- no entry is under a number above this
abbrev AllUpTo : ℕ → List SeatEntry → Type 0
AllUpTo m journal = (n : ℕ) → m < n → calls_of by_seat n journal ≡ []

some_not_none : (e : SeatEntry) (es : List SeatEntry) → e ∷ es ≡ [] → ⊥
some_not_none e es is = cc

rest_none : (n : ℕ) (e : SeatEntry) (journal : List SeatEntry) → calls_of by_seat n (e ∷ journal) ≡ [] → calls_of by_seat n journal ≡ []
rest_none n e journal = by (nat_eq e.seat n)
  where
    by : (b : Bool) → keep_if b e (calls_of by_seat n journal) ≡ [] → calls_of by_seat n journal ≡ []
    by true none = absurd (some_not_none e (calls_of by_seat n journal) none)
    by false none = none

first_within : (m : ℕ) (e : SeatEntry) (journal : List SeatEntry) → AllUpTo m (e ∷ journal) → e.seat ≤ m
first_within m e journal all =
    let own : calls_of by_seat e.seat (e ∷ journal) ≡ e ∷ calls_of by_seat e.seat journal =
    ap (λ b. keep_if b e (calls_of by_seat e.seat journal)) (eq-eqb e.seat e.seat refl) in
    let out : m < e.seat → ⊥ = λ above. some_not_none e (calls_of by_seat e.seat journal) (sym own ∙ all e.seat above) in
    omega (arith, out)

none_in : (m : ℕ) → 0 ≡ up_to m []
none_in zero = refl
none_in (suc m) = let before = none_in m in omega (arith, before)

all_in : (m : ℕ) (journal : List SeatEntry) → AllUpTo m journal → accepted_in journal ≡ up_to m journal
all_in m [] all = none_in m
all_in m (e ∷ journal) all =
    count_first e journal
    ∙ ap (λ n. point e + n) (all_in m journal (λ n above. rest_none n e journal (all n above)))
    ∙ sym (among_them m e journal (first_within m e journal all))

-- ---- of each worker k

all_published : (worker k : ℕ) → count_by was_accepted (published worker k) ≡ k
all_published worker zero = refl
all_published worker (suc k) =
    let e = accepted_entry (suc worker) (publish_of worker (suc k)) in
    sum_by-append (λ x. cond (was_accepted x) 1 0) (published worker k) (e ∷ [])
    ∙ (ap (λ n. n + 1) (all_published worker k) ∙ (let one : k + 1 ≡ suc k = omega arith in one))

made : (journal : List SeatEntry) (k workers : ℕ) → up_to 1 journal ≡ 0 → ((worker : ℕ) → 0 < worker → worker ≤ workers → under (suc worker) journal ≡ k)
    → up_to (suc workers) journal ≡ workers * k
made journal k zero none each = none ∙ omega arith
made journal k (suc workers) none each =
    let before = made journal k workers none (λ worker low high. each worker low (omega arith)) in
    let here = each (suc workers) (omega arith) (omega arith) in
    (λ i. before i + here i) ∙ omega arith

pub all_accepted : (journal : List SeatEntry) (workers k : ℕ) → EachPublished workers k journal → HasNoOthers workers journal → accepted_in journal ≡ workers * k
all_accepted journal workers k published alone =
    let none_under : under 0 journal ≡ 0 = ap (count_by was_accepted) (alone.1 0 (λ some few. omega (arith, some))) in
    let first_under : under 1 journal ≡ 0 = ap (count_by was_accepted) alone.0 in
    let none : up_to 1 journal ≡ 0 = omega (arith, none_under, first_under) in
    all_in (suc workers) journal (λ n above. alone.1 n (λ some few. omega (arith, above, few)))
    ∙ made journal k workers none (λ worker low high. ap (count_by was_accepted) (published worker low high) ∙ all_published worker k)
