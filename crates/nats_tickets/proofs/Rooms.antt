-- The room of tickets that are unsettled, and places among the calls that wait.
use Rattle.std.specs.Prelude.{slice_index_or, slice_set}
use Rattle.std.proofs.Common.{◌≡◌, ℕ, zero, suc, ◌+◌, ◌≤◌, ◌<◌, Bool, true, false, ◌||◌, List, [], ◌∷◌, length, drop, Some, refl, sym, ◌∙◌, ap, arith}
use Rattle.std.proofs.lemmas.Option.{none-some, same_Some}
use Rattle.nats_tables.specs.Numbers.{at_index, at_number, item_of}
use Rattle.nats_tables.proofs.Numbers.{at_index_past}
use Rattle.nats_history.specs.declared.waits.Waits.{Waits}
use Rattle.nats_history.specs.declared.waits.Waits.TheVariants as waits
use Rattle.nats_history.specs.Queue.{first}
use Rattle.nats_history.specs.Tickets.{waits_late, is_waiting_request}
use Rattle.nats_tickets.specs.Kept.{bit, pending_of, pending}

pub first_there : (qs : List Waits) (next : Waits) → first qs ≡ Some next → (length qs ≡ suc (length (drop 1 qs))) × (pending qs ≡ pending_of next + pending (drop 1 qs))
first_there [] next is = absurd (none-some next is)
first_there (q ∷ qs) next is = (refl, ap (λ w. pending_of w + pending qs) (same_Some q next is))

pub pending_late : (k : ℕ) (qs : List Waits) → pending (at_number k waits_late qs) + bit (is_waiting_request (item_of k qs)) ≡ pending qs
pending_late zero qs = omega arith
pending_late (suc i) qs = at i qs
  where
    one : (q : Waits) (n : ℕ) → (pending_of (waits_late q) + n) + bit (is_waiting_request (Some q)) ≡ pending_of q + n
    one waits.Flush n = omega arith
    one waits.Request n = omega arith
    one waits.Late n = omega arith

    at : (i : ℕ) (qs : List Waits) → pending (at_index i waits_late qs) + bit (is_waiting_request (item_of (suc i) qs)) ≡ pending qs
    at zero [] = refl
    at (suc i) [] = refl
    at zero (q ∷ qs) = one q (pending qs)
    at (suc i) (q ∷ qs) = omega (arith, at i qs)

pub bit_or : (a b : Bool) → bit (a || b) ≤ bit a + bit b
bit_or true true = omega arith
bit_or true false = omega arith
bit_or false b = omega arith

-- ---- one of the calls that wait

pub late_past : (k i : ℕ) (qs : List Waits) → k ≡ suc i → length qs ≤ i → qs ≡ at_number k waits_late qs
late_past k i qs is past = sym (ap (λ n. at_number n waits_late qs) is ∙ at_index_past i waits_late qs past)

asked_past_at : (i : ℕ) (qs : List Waits) → length qs ≤ i → false ≡ is_waiting_request (item_of (suc i) qs)
asked_past_at zero [] past = refl
asked_past_at (suc i) [] past = refl
asked_past_at zero (q ∷ qs) past = absurd (omega (arith, past))
asked_past_at (suc i) (q ∷ qs) past = asked_past_at i qs (omega (arith, past))

pub asked_past : (k i : ℕ) (qs : List Waits) → k ≡ suc i → length qs ≤ i → false ≡ is_waiting_request (item_of k qs)
asked_past k i qs is past = asked_past_at i qs past ∙ sym (ap (λ n. is_waiting_request (item_of n qs)) is)

late_set_at : (i : ℕ) (qs : List Waits) (x y : Waits) → i < length qs → x ≡ slice_index_or qs i x → y ≡ waits_late x → slice_set qs i y ≡ at_index i waits_late qs
late_set_at i [] x y less at e = absurd (omega (arith, less))
late_set_at zero (q ∷ qs) x y less at e = ap (λ w. w ∷ qs) (e ∙ ap waits_late at)
late_set_at (suc i) (q ∷ qs) x y less at e = ap (λ ws. q ∷ ws) (late_set_at i qs x y (omega (arith, less)) at e)

pub late_set : (k i : ℕ) (qs : List Waits) (x y : Waits) → k ≡ suc i → i < length qs → x ≡ slice_index_or qs i x → y ≡ waits_late x → slice_set qs i y ≡ at_number k waits_late qs
late_set k i qs x y is less at e = late_set_at i qs x y less at e ∙ sym (ap (λ n. at_number n waits_late qs) is)

late_asked_at : (i : ℕ) (qs : List Waits) (x : Waits) → i < length qs → x ≡ slice_index_or qs i x → is_waiting_request (Some x) ≡ is_waiting_request (item_of (suc i) qs)
late_asked_at i [] x less at = absurd (omega (arith, less))
late_asked_at zero (q ∷ qs) x less at = ap (λ w. is_waiting_request (Some w)) at
late_asked_at (suc i) (q ∷ qs) x less at = late_asked_at i qs x (omega (arith, less)) at

pub late_asked : (k i : ℕ) (qs : List Waits) (x : Waits) → k ≡ suc i → i < length qs → x ≡ slice_index_or qs i x → is_waiting_request (Some x) ≡ is_waiting_request (item_of k qs)
late_asked k i qs x is less at = late_asked_at i qs x less at ∙ sym (ap (λ n. is_waiting_request (item_of n qs)) is)
