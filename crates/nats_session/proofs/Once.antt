-- A ticket settles once, so its reply is handed out once.
use Rattle.std.specs.Str.{bytes_eq}
use Rattle.std.specs.Prelude.{slice_get}
use Rattle.std.proofs.Common.{◌≡◌, ℕ, zero, suc, ◌+◌, ◌-◌, ◌≤◌, ◌<◌, Bool, true, false, cond, not, ◌&&◌, ◌||◌, ◌==◌, List, [], ◌∷◌, ◌++◌, length, map, Option, Some, None, is_some, refl, sym, ◌∙◌, ap, arith, zero-add}
use Rattle.std.proofs.lemmas.List.{append-nil, length-append, map-append}
use Rattle.std.proofs.lemmas.Bool.{false≢true, eqb-true}
use Rattle.nats_lines.specs.Operations.{Operation, message}
use Rattle.nats_history.specs.declared.config.Config.{Config}
use Rattle.nats_history.specs.declared.call.Call.{Call}
use Rattle.nats_history.specs.declared.call.Call.TheVariants.{Flush, Request}
use Rattle.nats_history.specs.declared.call.CallReply.{CallReply}
use Rattle.nats_history.specs.declared.call.CallReply.TheVariants.{Flushed, FlushFailed, TimedOut, Dropped}
use Rattle.nats_history.specs.declared.waits.Waits.{Waits}
use Rattle.nats_history.specs.declared.waits.Waits.TheVariants as waits
use Rattle.nats_history.specs.Queue.{first}
use Rattle.nats_tables.specs.Numbers.{at_index, at_number, item_of}
use Rattle.nats_tables.proofs.Numbers.{length-at_number}
use Rattle.nats_history.specs.History.{Step, opened, read, taken, accepted, handled, passed, link_end, closed, History, requests, waits_as, inbox_of, waiting_bytes}
use Rattle.nats_history.specs.Tickets.{Awaits, Tickets, reaches, flushed_by, nearer, left_by, awaiting, flushed_at_once, flush_handled, flush_settled, request_at, requests_elsewhere, waits_for_reply, requests_but, request_handled, displaced, waits_late, is_waiting_request, is_unsettled, request_reply, queued_with, ticket_handled, asking_after, settled_by, handled_settles, queue_dropped, tickets_after, ticket_of, ticket_in, replied, replied_if, settles, tickets}
use Rattle.nats_tickets.specs.Kept.{reply_in, without}
use Rattle.nats_session.specs.Handler.{settled_tickets, without_all, StoodThere}
use Rattle.nats_session.specs.Laws.{stands_in, number_settled, numbers_settled, ReplyOnce}

abbrev Settled : Type 0
Settled = List (ℕ × CallReply)

-- ---- how often a number stands in a list

abbrev count : ℕ → List ℕ → ℕ
count k [] = 0
count k (x ∷ xs) = cond (k == x) (suc (count k xs)) (count k xs)

count_append : (k : ℕ) (xs ys : List ℕ) → count k (xs ++ ys) ≡ count k xs + count k ys
count_append k [] ys = sym (zero-add (count k ys))
count_append k (x ∷ xs) ys = by (k == x) (count_append k xs ys)
  where
    by : (b : Bool) → count k (xs ++ ys) ≡ count k xs + count k ys → cond b (suc (count k (xs ++ ys))) (count k (xs ++ ys)) ≡ cond b (suc (count k xs)) (count k xs) + count k ys
    by true e = omega (arith, e)
    by false e = e

one_more : (k x : ℕ) (xs : List ℕ) → count k (x ∷ xs) ≡ count k (x ∷ []) + count k xs
one_more k x xs = count_append k (x ∷ []) xs

-- what stands there stands there once at least
abbrev positive : ℕ → Bool
positive zero = false
positive (suc n) = true

stands_positive : (k : ℕ) (xs : List ℕ) → stands_in k xs ≡ positive (count k xs)
stands_positive k [] = refl
stands_positive k (x ∷ xs) = by (k == x) (stands_positive k xs)
  where
    by : (b : Bool) → stands_in k xs ≡ positive (count k xs) → (b || stands_in k xs) ≡ positive (cond b (suc (count k xs)) (count k xs))
    by true e = refl
    by false e = e

reply_positive : (k : ℕ) (xs : Settled) → is_some (reply_in k xs) ≡ positive (count k (numbers_settled xs))
reply_positive k [] = refl
reply_positive k (x ∷ xs) = by (k == x.0) (reply_positive k xs)
  where
    by : (b : Bool) → is_some (reply_in k xs) ≡ positive (count k (numbers_settled xs))
        → is_some (cond b (Some x.1) (reply_in k xs)) ≡ positive (cond b (suc (count k (numbers_settled xs))) (count k (numbers_settled xs)))
    by true e = refl
    by false e = e

-- one of them is taken away
count_without : (k ticket : ℕ) (xs : Settled) → is_some (reply_in ticket xs) ≡ true → count k (ticket ∷ []) + count k (numbers_settled (without ticket xs)) ≡ count k (numbers_settled xs)
count_without k ticket [] e = absurd (false≢true e)
count_without k ticket (x ∷ xs) e = by (ticket == x.0) refl e (count_without k ticket xs)
  where
    by : (b : Bool) → (ticket == x.0) ≡ b → is_some (cond b (Some x.1) (reply_in ticket xs)) ≡ true
        → (is_some (reply_in ticket xs) ≡ true → count k (ticket ∷ []) + count k (numbers_settled (without ticket xs)) ≡ count k (numbers_settled xs))
        → count k (ticket ∷ []) + count k (numbers_settled (cond b xs (x ∷ without ticket xs))) ≡ count k (x.0 ∷ numbers_settled xs)
    by true is e later =
        sym (one_more k ticket (numbers_settled xs)) ∙ ap (λ n. count k (n ∷ numbers_settled xs)) (eqb-true ticket x.0 is)
    by false is e later =
        omega (arith, one_more k x.0 (numbers_settled (without ticket xs)), one_more k x.0 (numbers_settled xs), later e)

count_left : (k : ℕ) (out : List ℕ) (xs : Settled) → StoodThere out xs → count k out + count k (numbers_settled (without_all out xs)) ≡ count k (numbers_settled xs)
count_left k [] xs there = zero-add (count k (numbers_settled xs))
count_left k (ticket ∷ out) xs there =
    omega (arith, one_more k ticket out, count_without k ticket (without_all out xs) there.0, count_left k out xs there.1)

-- ---- the tickets that a step settles

numbers_replied : (reply : CallReply) (ts : List ℕ) → numbers_settled (replied reply ts) ≡ ts
numbers_replied reply [] = refl
numbers_replied reply (t ∷ ts) = ap (λ xs. t ∷ xs) (numbers_replied reply ts)

same_nearer : (n : ℕ) (fs : List Awaits) → map ticket_of (map (nearer n) fs) ≡ map ticket_of fs
same_nearer n [] = refl
same_nearer n (f ∷ fs) = ap (λ ts. f.ticket ∷ ts) (same_nearer n fs)

-- those that bytes reach and those that are left are all
count_taken : (k n : ℕ) (fs : List Awaits) → count k (flushed_by n fs) + count k (map ticket_of (left_by n fs)) ≡ count k (map ticket_of fs)
count_taken k n [] = refl
count_taken k n (f ∷ fs) = by (reaches n f) (count_taken k n fs)
  where
    by : (b : Bool) → count k (flushed_by n fs) + count k (map ticket_of (left_by n fs)) ≡ count k (map ticket_of fs)
        → count k (cond b (f.ticket ∷ flushed_by n fs) []) + count k (map ticket_of (cond b (left_by n fs) (map (nearer n) (f ∷ fs)))) ≡ count k (f.ticket ∷ map ticket_of fs)
    by true e = omega (arith, one_more k f.ticket (flushed_by n fs), one_more k f.ticket (map ticket_of fs), e)
    by false e = zero-add (count k (map ticket_of (map (nearer n) (f ∷ fs)))) ∙ ap (λ ts. count k (f.ticket ∷ ts)) (same_nearer n fs)

-- a flush that is handled settles at once or awaits bytes
count_handled : (k ticket waiting : ℕ) → count k (flushed_at_once ticket waiting) + count k (map ticket_of (awaiting ticket waiting)) ≡ count k (ticket ∷ [])
count_handled k ticket zero = omega arith
count_handled k ticket (suc n) = zero-add (count k (ticket ∷ []))

-- the tickets whose call waits and that are unsettled, from a number on
abbrev open_of : ℕ → Waits → List ℕ
open_of n waits.Flush = n ∷ []
open_of n waits.Request = n ∷ []
open_of n waits.Late = []

abbrev open_from : ℕ → List Waits → List ℕ
open_from n [] = []
open_from n (next ∷ more) = open_of n next ++ open_from (suc n) more

numbers_dropped : (n : ℕ) (qs : List Waits) → numbers_settled (queue_dropped n qs) ≡ open_from n qs
numbers_dropped n [] = refl
numbers_dropped n (waits.Flush ∷ qs) = ap (λ ns. n ∷ ns) (numbers_dropped (suc n) qs)
numbers_dropped n (waits.Request ∷ qs) = ap (λ ns. n ∷ ns) (numbers_dropped (suc n) qs)
numbers_dropped n (waits.Late ∷ qs) = numbers_dropped (suc n) qs

count_open : (k n : ℕ) (next : Waits) → count k (open_of n next) ≤ count k (n ∷ [])
count_open k n waits.Flush = omega arith
count_open k n waits.Request = omega arith
count_open k n waits.Late = omega arith

count_next : (k n : ℕ) (next : Waits) (qs : List Waits) → count k (open_from n (next ∷ qs)) ≡ count k (open_of n next) + count k (open_from (suc n) qs)
count_next k n next qs = count_append k (open_of n next) (open_from (suc n) qs)

count_pushed : (k n : ℕ) (qs : List Waits) (next : Waits) → count k (open_from n (qs ++ next ∷ [])) ≤ count k (open_from n qs) + count k ((n + length qs) ∷ [])
count_pushed k n [] next =
    let zero_more : n + 0 ≡ n = omega arith in
    omega (arith, ap (count k) (append-nil (open_of n next)), count_open k n next, ap (λ m. count k (m ∷ [])) zero_more)
count_pushed k n (q ∷ qs) next =
    let further : n + suc (length qs) ≡ suc n + length qs = omega arith in
    omega (arith, count_append k (open_of n q) (open_from (suc n) (qs ++ next ∷ [])), count_append k (open_of n q) (open_from (suc n) qs), count_pushed k (suc n) qs next, ap (λ m. count k (m ∷ [])) further)

late_of : (k n : ℕ) (next : Waits) → count k (open_of n (waits_late next)) ≤ count k (open_of n next)
late_of k n waits.Flush = omega arith
late_of k n waits.Request = omega arith
late_of k n waits.Late = omega arith

late_fewer : (k n i : ℕ) (qs : List Waits) → count k (open_from n (at_index i waits_late qs)) ≤ count k (open_from n qs)
late_fewer k n i [] = omega arith
late_fewer k n zero (q ∷ qs) =
    omega (arith, count_append k (open_of n (waits_late q)) (open_from (suc n) qs), count_append k (open_of n q) (open_from (suc n) qs), late_of k n q)
late_fewer k n (suc i) (q ∷ qs) =
    omega (arith, count_append k (open_of n q) (open_from (suc n) (at_index i waits_late qs)), count_append k (open_of n q) (open_from (suc n) qs), late_fewer k (suc n) i qs)

late_same : (k n : ℕ) (q : Waits) → is_waiting_request (Some q) ≡ true → count k (open_of n (waits_late q)) + count k (n ∷ []) ≡ count k (open_of n q)
late_same k n waits.Request is = omega arith
late_same k n waits.Flush is = absurd (false≢true is)
late_same k n waits.Late is = absurd (false≢true is)

late_one : (k n i : ℕ) (qs : List Waits) → is_waiting_request (slice_get qs i) ≡ true → count k (open_from n (at_index i waits_late qs)) + count k ((n + i) ∷ []) ≡ count k (open_from n qs)
late_one k n zero [] is = absurd (false≢true is)
late_one k n (suc i) [] is = absurd (false≢true is)
late_one k n zero (q ∷ qs) is =
    let zero_more : n + 0 ≡ n = omega arith in
    omega (arith, count_append k (open_of n (waits_late q)) (open_from (suc n) qs), count_append k (open_of n q) (open_from (suc n) qs), late_same k n q is, ap (λ m. count k (m ∷ [])) zero_more)
late_one k n (suc i) (q ∷ qs) is =
    let further : n + suc i ≡ suc n + i = omega arith in
    omega (arith, count_append k (open_of n q) (open_from (suc n) (at_index i waits_late qs)), count_append k (open_of n q) (open_from (suc n) qs), late_one k (suc n) i qs is, ap (λ m. count k (m ∷ [])) further)

-- by the ticket, where so many were done
late_at : (k done ticket : ℕ) (qs : List Waits) → is_waiting_request (item_of (ticket - done) qs) ≡ true
    → count k (open_from (suc done) (at_number (ticket - done) waits_late qs)) + count k (ticket ∷ []) ≡ count k (open_from (suc done) qs)
late_at k done ticket qs is = by (ticket - done) refl is
  where
    by : (d : ℕ) → ticket - done ≡ d → is_waiting_request (item_of d qs) ≡ true
        → count k (open_from (suc done) (at_number d waits_late qs)) + count k (ticket ∷ []) ≡ count k (open_from (suc done) qs)
    by zero e here = absurd (false≢true here)
    by (suc i) e here =
        let same : suc done + i ≡ ticket = omega (arith, e) in
        omega (arith, late_one k (suc done) i qs here, ap (λ m. count k (m ∷ [])) same)

late_at_fewer : (k n d : ℕ) (qs : List Waits) → count k (open_from n (at_number d waits_late qs)) ≤ count k (open_from n qs)
late_at_fewer k n zero qs = omega arith
late_at_fewer k n (suc i) qs = late_fewer k n i qs

-- ---- requests that wait for a reply

abbrev tickets_in : List (ℕ × List ℕ) → List ℕ
tickets_in asking = map ticket_in asking

count_elsewhere : (k : ℕ) (reply : CallReply) (subject : List ℕ) (asking : List (ℕ × List ℕ))
    → count k (numbers_settled (replied_if reply (request_at subject asking))) + count k (tickets_in (requests_elsewhere subject asking)) ≡ count k (tickets_in asking)
count_elsewhere k reply subject [] = refl
count_elsewhere k reply subject (request ∷ more) = by (bytes_eq subject request.1) (count_elsewhere k reply subject more)
  where
    by : (b : Bool) → count k (numbers_settled (replied_if reply (request_at subject more))) + count k (tickets_in (requests_elsewhere subject more)) ≡ count k (tickets_in more)
        → count k (numbers_settled (replied_if reply (cond b (Some request.0) (request_at subject more)))) + count k (tickets_in (cond b more (request ∷ requests_elsewhere subject more)))
        ≡ count k (request.0 ∷ tickets_in more)
    by true e = sym (one_more k request.0 (tickets_in more))
    by false e =
        omega (arith, one_more k request.0 (tickets_in (requests_elsewhere subject more)), one_more k request.0 (tickets_in more), e)

count_but : (k ticket : ℕ) (asking : List (ℕ × List ℕ)) → waits_for_reply ticket asking ≡ true → count k (tickets_in (requests_but ticket asking)) + count k (ticket ∷ []) ≡ count k (tickets_in asking)
count_but k ticket [] is = absurd (false≢true is)
count_but k ticket (request ∷ more) is = by (ticket == request.0) refl is (count_but k ticket more)
  where
    by : (b : Bool) → (ticket == request.0) ≡ b → (b || waits_for_reply ticket more) ≡ true
        → (waits_for_reply ticket more ≡ true → count k (tickets_in (requests_but ticket more)) + count k (ticket ∷ []) ≡ count k (tickets_in more))
        → count k (tickets_in (cond b more (request ∷ requests_but ticket more))) + count k (ticket ∷ []) ≡ count k (request.0 ∷ tickets_in more)
    by true same here later =
        omega (arith, one_more k request.0 (tickets_in more), ap (λ n. count k (n ∷ [])) (eqb-true ticket request.0 same))
    by false other here later =
        omega (arith, one_more k request.0 (tickets_in (requests_but ticket more)), one_more k request.0 (tickets_in more), later here)

count_but_fewer : (k ticket : ℕ) (asking : List (ℕ × List ℕ)) → count k (tickets_in (requests_but ticket asking)) ≤ count k (tickets_in asking)
count_but_fewer k ticket [] = omega arith
count_but_fewer k ticket (request ∷ more) = by (ticket == request.0) (count_but_fewer k ticket more)
  where
    by : (b : Bool) → count k (tickets_in (requests_but ticket more)) ≤ count k (tickets_in more)
        → count k (tickets_in (cond b more (request ∷ requests_but ticket more))) ≤ count k (request.0 ∷ tickets_in more)
    by true e = omega (arith, one_more k request.0 (tickets_in more))
    by false e =
        omega (arith, one_more k request.0 (tickets_in (requests_but ticket more)), one_more k request.0 (tickets_in more), e)

-- ---- each number settled or is unsettled once at most, and none that was not given

abbrev left : ℕ → Tickets → ℕ
left k t = count k (map ticket_of t.flushing) + (count k (tickets_in t.asking) + count k (open_from (suc t.handled) t.queued))

abbrev both : ℕ → List ℕ → Tickets → ℕ
both k settled t = count k settled + left k t

record Once (k : ℕ) (settled : List ℕ) (t : Tickets) : Type 0 where
  most : both k settled t ≤ 1
  none : t.given < k → both k settled t ≡ 0
  order : t.handled + length t.queued ≡ t.given

-- no more of them than before
once_fewer : (k : ℕ) (settled settled' : List ℕ) (t t' : Tickets) → Once k settled t → both k settled' t' ≤ both k settled t → t'.given ≡ t.given → t'.handled + length t'.queued ≡ t'.given
    → Once k settled' t'
once_fewer k settled settled' t t' once fewer same order = record {
  most = omega (arith, once.most, fewer);
  none = λ less. omega (arith, fewer, once.none (omega (arith, less, same)));
  order = order;
}

-- one more was given
once_given : (k : ℕ) (settled settled' : List ℕ) (t t' : Tickets) → Once k settled t → both k settled' t' ≤ both k settled t + count k (suc t.given ∷ []) → t'.given ≡ suc t.given
    → t'.handled + length t'.queued ≡ t'.given → Once k settled' t'
once_given k settled settled' t t' once more next order = by (k == suc t.given) refl more
  where
    by : (b : Bool) → (k == suc t.given) ≡ b → both k settled' t' ≤ both k settled t + cond b 1 0 → Once k settled' t'
    by true is more =
        let same = eqb-true k (suc t.given) is in
        let before = once.none (omega (arith, same)) in
        record {
          most = omega (arith, more, before);
          none = λ less. absurd (omega (arith, less, same, next));
          order = order;
        }
    by false is more = record {
      most = omega (arith, more, once.most);
      none = λ less. omega (arith, more, once.none (omega (arith, less, next)));
      order = order;
    }

count_same : (k : ℕ) (settled : List ℕ) → count k (settled ++ []) ≡ count k settled
count_same k settled = ap (count k) (append-nil settled)

count_settled : (k : ℕ) (settled : List ℕ) (reply : CallReply) (ts : List ℕ) → count k (settled ++ numbers_settled (replied reply ts)) ≡ count k settled + count k ts
count_settled k settled reply ts =
    count_append k settled (numbers_settled (replied reply ts)) ∙ ap (λ xs. count k settled + count k xs) (numbers_replied reply ts)

-- ---- a call that is handled

abbrev tickets_with : ℕ → ℕ → List Bool → List Waits → List Awaits → List (ℕ × List ℕ) → Tickets
tickets_with given done kinds queued flushing asking =
    record { given = given; handled = done; of_request = kinds; queued = queued; flushing = flushing; asking = asking }

once_flush : (k waiting : ℕ) (settled : List ℕ) (given done : ℕ) (kinds : List Bool) (queued : List Waits) (flushing : List Awaits) (asking : List (ℕ × List ℕ))
    → Once k settled (tickets_with given done kinds queued flushing asking)
    → Once k (settled ++ numbers_settled (replied Flushed (flush_settled waiting (first queued) (tickets_with given done kinds queued flushing asking)))) (flush_handled waiting (first queued) (tickets_with given done kinds queued flushing asking))
once_flush k waiting settled given done kinds [] flushing asking once =
    once_fewer k settled (settled ++ []) _ _ once (omega (arith, count_same k settled)) refl once.order
once_flush k waiting settled given done kinds (waits.Request ∷ qs) flushing asking once =
    once_fewer k settled (settled ++ []) _ _ once (omega (arith, count_same k settled)) refl once.order
once_flush k waiting settled given done kinds (waits.Late ∷ qs) flushing asking once =
    once_fewer k settled (settled ++ []) _ _ once (omega (arith, count_same k settled)) refl once.order
once_flush k waiting settled given done kinds (waits.Flush ∷ qs) flushing asking once =
    let ticket = suc done in
    once_fewer k settled (settled ++ numbers_settled (replied Flushed (flushed_at_once ticket waiting))) _ _ once
    (omega (arith, count_settled k settled Flushed (flushed_at_once ticket waiting), ap (count k) (map-append ticket_of flushing (awaiting ticket waiting)), count_append k (map ticket_of flushing) (map ticket_of (awaiting ticket waiting)), count_handled k ticket waiting, count_next k ticket waits.Flush qs))
    refl (omega (arith, once.order))

once_request : (k : ℕ) (subject settled : List ℕ) (given done : ℕ) (kinds : List Bool) (queued : List Waits) (flushing : List Awaits) (asking : List (ℕ × List ℕ))
    → Once k settled (tickets_with given done kinds queued flushing asking)
    → Once k (settled ++ numbers_settled (replied_if Dropped (displaced subject (first queued) (tickets_with given done kinds queued flushing asking)))) (request_handled subject (first queued) (tickets_with given done kinds queued flushing asking))
once_request k subject settled given done kinds [] flushing asking once =
    once_fewer k settled (settled ++ []) _ _ once (omega (arith, count_same k settled)) refl once.order
once_request k subject settled given done kinds (waits.Flush ∷ qs) flushing asking once =
    once_fewer k settled (settled ++ []) _ _ once (omega (arith, count_same k settled)) refl once.order
once_request k subject settled given done kinds (waits.Late ∷ qs) flushing asking once =
    let gone = numbers_settled (replied_if Dropped (request_at subject asking)) in
    once_fewer k settled (settled ++ gone) _ _ once
    (omega (arith, count_append k settled gone, count_elsewhere k Dropped subject asking, count_next k (suc done) waits.Late qs))
    refl (omega (arith, once.order))
once_request k subject settled given done kinds (waits.Request ∷ qs) flushing asking once =
    let gone = numbers_settled (replied_if Dropped (request_at subject asking)) in
    let rest = requests_elsewhere subject asking in
    once_fewer k settled (settled ++ gone) _ _ once
    (omega (arith, count_append k settled gone, count_elsewhere k Dropped subject asking, count_next k (suc done) waits.Request qs, ap (count k) (map-append ticket_in rest ((suc done, subject) ∷ [])), count_append k (map ticket_in rest) (suc done ∷ [])))
    refl (omega (arith, once.order))

once_handled : (c : Config) (k waiting : ℕ) (call : Call) (settled : List ℕ) (t : Tickets) → Once k settled t
    → Once k (settled ++ numbers_settled (handled_settles c waiting call t)) (ticket_handled c waiting call t)
once_handled c k waiting Flush settled t once =
    once_flush k waiting settled t.given t.handled t.of_request t.queued t.flushing t.asking once
once_handled c k waiting (Request subject payload headers token) settled t once =
    once_request k (inbox_of c token) settled t.given t.handled t.of_request t.queued t.flushing t.asking once
once_handled c k waiting call settled t once =
    once_fewer k settled (settled ++ []) t t once (omega (arith, count_same k settled)) refl once.order

-- ---- a call that is accepted

once_accepted : (k : ℕ) (request : Bool) (settled : List ℕ) (t : Tickets) (next : Option Waits) → Once k settled t
    → Once k (settled ++ []) (record t { given = cond (is_some next) (suc t.given) t.given; of_request = cond (is_some next) (t.of_request ++ request ∷ []) t.of_request; queued = queued_with next t.queued })
once_accepted k request settled t None once =
    once_fewer k settled (settled ++ []) t t once (omega (arith, count_same k settled)) refl once.order
once_accepted k request settled t (Some next) once =
    let last : suc t.handled + length t.queued ≡ suc t.given = omega (arith, once.order) in
    once_given k settled (settled ++ []) t (record t { given = suc t.given; of_request = t.of_request ++ request ∷ []; queued = t.queued ++ next ∷ [] }) once
    (omega (arith, count_same k settled, count_pushed k (suc t.handled) t.queued next, ap (λ n. count k (n ∷ [])) last))
    refl (omega (arith, length-append t.queued (next ∷ []), once.order))

-- ---- an operation that is read

once_read : (k : ℕ) (operation : Operation) (settled : List ℕ) (t : Tickets) → Once k settled t
    → Once k (settled ++ numbers_settled (settled_by operation t.asking)) (record t { asking = asking_after operation t.asking })
once_read k (message sid m) settled t once = by (sid == 0)
  where
    by : (b : Bool) → Once k (settled ++ numbers_settled (cond b (replied_if (request_reply m) (request_at m.subject t.asking)) [])) (record t { asking = cond b (requests_elsewhere m.subject t.asking) t.asking })
    by true =
        let gone = numbers_settled (replied_if (request_reply m) (request_at m.subject t.asking)) in
        once_fewer k settled (settled ++ gone) t (record t { asking = requests_elsewhere m.subject t.asking }) once
        (omega (arith, count_append k settled gone, count_elsewhere k (request_reply m) m.subject t.asking)) refl once.order
    by false = once_fewer k settled (settled ++ []) t t once (omega (arith, count_same k settled)) refl once.order
once_read k operation settled t once =
    once_fewer k settled (settled ++ []) t t once (omega (arith, count_same k settled)) refl once.order

-- ---- a deadline

once_passed : (k ticket : ℕ) (settled : List ℕ) (t : Tickets) → Once k settled t
    → Once k (settled ++ numbers_settled (cond (is_unsettled ticket t) ((ticket, TimedOut) ∷ []) [])) (record t { queued = at_number (ticket - t.handled) waits_late t.queued; asking = requests_but ticket t.asking })
once_passed k ticket settled t once = by (waits_for_reply ticket t.asking) (is_waiting_request (item_of (ticket - t.handled) t.queued)) refl refl
  where
    after_it : Tickets
    after_it = record t { queued = at_number (ticket - t.handled) waits_late t.queued; asking = requests_but ticket t.asking }

    order : t.handled + length (at_number (ticket - t.handled) waits_late t.queued) ≡ t.given
    order = omega (arith, once.order, length-at_number (ticket - t.handled) waits_late t.queued)

    fewer : count k (open_from (suc t.handled) (at_number (ticket - t.handled) waits_late t.queued)) ≤ count k (open_from (suc t.handled) t.queued)
    fewer = late_at_fewer k (suc t.handled) (ticket - t.handled) t.queued

    by : (a b : Bool) → waits_for_reply ticket t.asking ≡ a → is_waiting_request (item_of (ticket - t.handled) t.queued) ≡ b
        → Once k (settled ++ numbers_settled (cond (waits_for_reply ticket t.asking || is_waiting_request (item_of (ticket - t.handled) t.queued)) ((ticket, TimedOut) ∷ []) [])) after_it
    by true b asks waits_there =
        once_fewer k settled _ t after_it once
        (omega (arith, ap (λ x. count k (settled ++ numbers_settled (cond (x || is_waiting_request (item_of (ticket - t.handled) t.queued)) ((ticket, TimedOut) ∷ []) []))) asks, count_append k settled (ticket ∷ []), count_but k ticket t.asking asks, fewer))
        refl order
    by false true asks waits_there =
        once_fewer k settled _ t after_it once
        (omega (arith, ap (λ x. count k (settled ++ numbers_settled (cond (x || is_waiting_request (item_of (ticket - t.handled) t.queued)) ((ticket, TimedOut) ∷ []) []))) asks, ap (λ x. count k (settled ++ numbers_settled (cond x ((ticket, TimedOut) ∷ []) []))) waits_there, count_append k settled (ticket ∷ []), count_but_fewer k ticket t.asking, late_at k t.handled ticket t.queued waits_there))
        refl order
    by false false asks waits_there =
        once_fewer k settled _ t after_it once
        (omega (arith, ap (λ x. count k (settled ++ numbers_settled (cond (x || is_waiting_request (item_of (ticket - t.handled) t.queued)) ((ticket, TimedOut) ∷ []) []))) asks, ap (λ x. count k (settled ++ numbers_settled (cond x ((ticket, TimedOut) ∷ []) []))) waits_there, count_same k settled, count_but_fewer k ticket t.asking, fewer))
        refl order

-- ---- one step

once_after : (c : Config) (k waiting : ℕ) (step : Step) (settled : List ℕ) (t : Tickets) → Once k settled t → Once k (settled ++ numbers_settled (settles c waiting step t)) (tickets_after c waiting step t)
once_after c k waiting (accepted call) settled t once = once_accepted k (requests call) settled t (waits_as call) once
once_after c k waiting (handled call) settled t once = once_handled c k waiting call settled t once
once_after c k waiting (read operation) settled t once = once_read k operation settled t once
once_after c k waiting (passed ticket) settled t once = once_passed k ticket settled t once
once_after c k waiting (taken n) settled t once =
    once_fewer k settled (settled ++ numbers_settled (replied Flushed (flushed_by n t.flushing))) t (tickets_after c waiting (taken n) t) once
    (omega (arith, count_settled k settled Flushed (flushed_by n t.flushing), count_taken k n t.flushing)) refl once.order
once_after c k waiting (opened info) settled t once =
    once_fewer k settled (settled ++ []) t (tickets_after c waiting (opened info) t) once (omega (arith, count_same k settled)) refl once.order
once_after c k waiting (link_end end) settled t once =
    once_fewer k settled (settled ++ numbers_settled (replied FlushFailed (map ticket_of t.flushing))) t (tickets_after c waiting (link_end end) t) once
    (omega (arith, count_settled k settled FlushFailed (map ticket_of t.flushing))) refl once.order
once_after c k waiting closed settled t once =
    let failing = replied FlushFailed (map ticket_of t.flushing) in
    let asked = replied Dropped (map ticket_in t.asking) in
    let queued = queue_dropped (suc t.handled) t.queued in
    once_fewer k settled (settled ++ numbers_settled (failing ++ asked ++ queued)) t (tickets_after c waiting closed t) once
    (omega (arith, count_append k settled (numbers_settled (failing ++ asked ++ queued)), ap (count k) (map-append number_settled (failing ++ asked) queued), count_append k (numbers_settled (failing ++ asked)) (numbers_settled queued), ap (count k) (map-append number_settled failing asked), count_append k (numbers_settled failing) (numbers_settled asked), ap (count k) (numbers_replied FlushFailed (map ticket_of t.flushing)), ap (count k) (numbers_replied Dropped (map ticket_in t.asking)), ap (count k) (numbers_dropped (suc t.handled) t.queued)))
    refl (omega arith)
once_after c k waiting step settled t once =
    once_fewer k settled (settled ++ []) t t once (omega (arith, count_same k settled)) refl once.order

once_settled : (c : Config) (h : History) (k : ℕ) → Once k (numbers_settled (settled_tickets c h)) (tickets c h)
once_settled c [] k = record { most = omega arith; none = λ less. refl; order = refl }
once_settled c ((place, step) ∷ h) k =
    let waiting = length (waiting_bytes c h) in
    let t = tickets c h in
    let before = settled_tickets c h in
    let after = once_after c k waiting step (numbers_settled before) t (once_settled c h k) in
    let same = ap (count k) (map-append number_settled before (settles c waiting step t)) in
    record {
      most = omega (arith, same, after.most);
      none = λ less. omega (arith, same, after.none less);
      order = after.order;
    }

-- ---- what is left to be handed out

left_once : (out left all : ℕ) → out + left ≡ all → all ≤ 1 → positive left ≡ (positive all && not (positive out))
left_once zero zero zero e most = refl
left_once zero zero (suc all) e most = absurd (omega (arith, e))
left_once zero (suc left) zero e most = absurd (omega (arith, e))
left_once zero (suc left) (suc all) e most = refl
left_once (suc out) zero zero e most = absurd (omega (arith, e))
left_once (suc out) zero (suc all) e most = refl
left_once (suc out) (suc left) all e most = absurd (omega (arith, e, most))

pub reply_once : ReplyOnce
reply_once c h out ticket there =
    let all = settled_tickets c h in
    let once = once_settled c h ticket in
    reply_positive ticket (without_all out all)
    ∙ (left_once (count ticket out) (count ticket (numbers_settled (without_all out all))) (count ticket (numbers_settled all)) (count_left ticket out all there) (omega (arith, once.most))
    ∙ (ap (λ b. b && not (positive (count ticket out))) (sym (stands_positive ticket (numbers_settled all)))
    ∙ ap (λ b. stands_in ticket (numbers_settled all) && not b) (sym (stands_positive ticket out))))
