-- How many of a journal's entries are a worker's publishes that were accepted.
use Rattle.std.proofs.Common.{◌≡◌, ℕ, zero, suc, ◌+◌, Bool, true, false, cond, ◌&&◌, nat_eq, List, [], ◌∷◌, count_by, refl, sym, ◌∙◌, ap, arith}
use Rattle.std.proofs.lemmas.List.Sums.{sum_by-append}
use Rattle.nats_ticket_lock.specs.Rule.{calls_of, keep_if}
use Rattle.nats_desk.specs.declared.entry.SeatEntry.{SeatEntry}
use Rattle.nats_seats.specs.Seats.{by_seat}
use Rattle.nats_seat_workers.specs.Publishing.{published, publish_of, accepted_entry, is_accepted, is_accepted_by, accepted_by, EachPublished, EachAccepted}

-- an entry that was accepted
abbrev was_accepted : SeatEntry → Bool
was_accepted e = is_accepted e.reply

count_first : (p : SeatEntry → Bool) (e : SeatEntry) (es : List SeatEntry) → count_by p (e ∷ es) ≡ cond (p e) 1 0 + count_by p es
count_first p e es = sum_by-append (λ x. cond (p x) 1 0) (e ∷ []) es ∙ omega arith

one_more : (here : Bool) (e : SeatEntry) (n : ℕ) (rest : List SeatEntry) → n ≡ count_by was_accepted rest
    → cond (here && was_accepted e) 1 0 + n ≡ count_by was_accepted (keep_if here e rest)
one_more true e n rest is = ap (λ m. cond (was_accepted e) 1 0 + m) is ∙ sym (count_first was_accepted e rest)
one_more false e n rest is = omega (arith, is)

counted_of : (number : ℕ) (journal : List SeatEntry) → accepted_by number journal ≡ count_by was_accepted (calls_of by_seat number journal)
counted_of number [] = refl
counted_of number (e ∷ journal) =
    count_first (is_accepted_by number) e journal
    ∙ one_more (nat_eq e.seat number) e (accepted_by number journal) (calls_of by_seat number journal) (counted_of number journal)

counted_published : (worker k : ℕ) → count_by was_accepted (published worker k) ≡ k
counted_published worker zero = refl
counted_published worker (suc k) =
    let e = accepted_entry (suc worker) (publish_of worker (suc k)) in
    sum_by-append (λ x. cond (was_accepted x) 1 0) (published worker k) (e ∷ [])
    ∙ (ap (λ n. n + 1) (counted_published worker k) ∙ (let one : k + 1 ≡ suc k = omega arith in one))

pub each_accepted : (workers k : ℕ) (journal : List SeatEntry) → EachPublished workers k journal → EachAccepted workers k journal
each_accepted workers k journal published worker low high =
    counted_of (suc worker) journal ∙ (ap (count_by was_accepted) (published worker low high) ∙ counted_published worker k)
