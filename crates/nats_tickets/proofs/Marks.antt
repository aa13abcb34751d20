-- Marks that a write reaches, from the front on.
use Rattle.std.proofs.Common.{◌≡◌, ℕ, suc, ◌+◌, ◌-◌, ◌<◌, ◌≤◌, true, false, cond, nat_le, List, [], ◌∷◌, ◌++◌, length, drop, get_or, map, refl, sym, ◌∙◌, ap, arith}
use Rattle.std.proofs.lemmas.List.{append-nil, append_assoc}
use Rattle.nats_history.specs.declared.call.CallReply.{CallReply}
use Rattle.nats_history.specs.declared.call.CallReply.TheVariants.{Flushed, FlushFailed, Dropped}
use Rattle.nats_history.specs.declared.waits.Waits.{Waits}
use Rattle.nats_history.specs.declared.waits.Waits.TheVariants as waits
use Rattle.nats_history.specs.Tickets.{Awaits, Tickets, flushed_by, nearer, left_by, ticket_of, ticket_in, replied, waits_dropped, queue_dropped}
use Rattle.nats_tickets.specs.declared.flushes.Mark.{Mark}
use Rattle.nats_tickets.specs.Kept.{Kept, awaits, tickets_of, push_all, passed, failed, dropped, pending_of, pending}

abbrev pub seen : ℕ → List Mark → List Awaits
seen taken ms = map (awaits taken) ms

pub nearer_seen : (taken n : ℕ) (ms : List Mark) → seen (taken + n) ms ≡ map (nearer n) (seen taken ms)
nearer_seen taken n [] = refl
nearer_seen taken n (m ∷ ms) =
    let one : m.end - (taken + n) ≡ (m.end - taken) - n = omega arith in
    ap (λ ahead. record { ticket = m.ticket; ahead = ahead } ∷ seen (taken + n) ms) one
    ∙ ap (λ fs. record { ticket = m.ticket; ahead = (m.end - taken) - n } ∷ fs) (nearer_seen taken n ms)

-- the first mark is reached
pub next_left : (taken n : ℕ) (m : Mark) (ms rest : List Mark) → ms ≡ m ∷ rest → nat_le (m.end - taken) n ≡ true → left_by n (seen taken ms) ≡ left_by n (seen taken rest)
next_left taken n m ms rest is reach =
    ap (λ xs. left_by n (seen taken xs)) is ∙ ap (λ b. cond b (left_by n (seen taken rest)) (map (nearer n) (seen taken (m ∷ rest)))) reach

pub next_ready : (taken n : ℕ) (r : CallReply) (m : Mark) (ms rest : List Mark) (ready all : List (ℕ × CallReply)) → ms ≡ m ∷ rest → nat_le (m.end - taken) n ≡ true
    → ready ++ replied r (flushed_by n (seen taken ms)) ≡ all → (ready ++ (m.ticket, r) ∷ []) ++ replied r (flushed_by n (seen taken rest)) ≡ all
next_ready taken n r m ms rest ready all is reach before =
    append_assoc ready ((m.ticket, r) ∷ []) (replied r (flushed_by n (seen taken rest)))
    ∙ (sym (ap (λ xs. ready ++ replied r (flushed_by n (seen taken xs))) is ∙ ap (λ b. ready ++ replied r (cond b (m.ticket ∷ flushed_by n (seen taken rest)) [])) reach) ∙ before)

-- the first mark is not reached, so no other is
pub stop_left : (taken n : ℕ) (m : Mark) (ms rest : List Mark) → ms ≡ m ∷ rest → nat_le (m.end - taken) n ≡ false → seen (taken + n) ms ≡ left_by n (seen taken ms)
stop_left taken n m ms rest is past =
    nearer_seen taken n ms
    ∙ (ap (λ xs. map (nearer n) (seen taken xs)) is
    ∙ sym (ap (λ xs. left_by n (seen taken xs)) is ∙ ap (λ b. cond b (left_by n (seen taken rest)) (map (nearer n) (seen taken (m ∷ rest)))) past))

pub stop_ready : (taken n : ℕ) (r : CallReply) (m : Mark) (ms rest : List Mark) (ready all : List (ℕ × CallReply)) → ms ≡ m ∷ rest → nat_le (m.end - taken) n ≡ false
    → ready ++ replied r (flushed_by n (seen taken ms)) ≡ all → ready ≡ all
stop_ready taken n r m ms rest ready all is past before =
    sym (append-nil ready)
    ∙ (sym (ap (λ xs. ready ++ replied r (flushed_by n (seen taken xs))) is ∙ ap (λ b. ready ++ replied r (cond b (m.ticket ∷ flushed_by n (seen taken rest)) [])) past) ∙ before)

pub first_is : (ms : List Mark) (m : Mark) → 0 < length ms → m ≡ get_or ms 0 m → ms ≡ m ∷ drop 1 ms
first_is [] m some at = absurd (omega arith)
first_is (x ∷ ms) m some at = ap (λ y. y ∷ ms) (sym at)

pub pushed : {A : Type 0} (more waiting : List A) → push_all more waiting ≡ waiting ++ more
pushed [] waiting = sym (append-nil waiting)
pushed (x ∷ more) waiting = pushed more (waiting ++ x ∷ []) ∙ append_assoc waiting (x ∷ []) more

-- these tickets, with flushes that await bytes and settled ones
abbrev pub kept : Tickets → List Awaits → List (ℕ × CallReply) → Kept
kept t fs ready = record { tickets = record t { flushing = fs }; ready = ready }

same_tickets : (taken : ℕ) (ms : List Mark) → tickets_of ms ≡ map ticket_of (seen taken ms)
same_tickets taken [] = refl
same_tickets taken (m ∷ ms) = ap (λ ts. m.ticket ∷ ts) (same_tickets taken ms)

-- all fail
pub next_failed : (r : CallReply) (m : Mark) (ms rest : List Mark) (ready all : List (ℕ × CallReply)) → ms ≡ m ∷ rest → ready ++ replied r (tickets_of ms) ≡ all
    → (ready ++ (m.ticket, r) ∷ []) ++ replied r (tickets_of rest) ≡ all
next_failed r m ms rest ready all is before =
    append_assoc ready ((m.ticket, r) ∷ []) (replied r (tickets_of rest)) ∙ (sym (ap (λ xs. ready ++ replied r (tickets_of xs)) is) ∙ before)

pub failed_kept : (t : Tickets) (taken : ℕ) (ms new : List Mark) (ready all : List (ℕ × CallReply)) → new ≡ [] → all ≡ ready ++ replied FlushFailed (tickets_of ms)
    → kept t (seen 0 new) all ≡ failed (kept t (seen taken ms) ready)
failed_kept t taken ms new ready all none is =
    ap (λ xs. kept t (seen 0 xs) all) none
    ∙ ap (kept t [])
    (is ∙ (ap (λ ts. ready ++ replied FlushFailed ts) (same_tickets taken ms) ∙ sym (pushed (replied FlushFailed (map ticket_of (seen taken ms))) ready)))

-- so many bytes went
pub passed_kept : (t : Tickets) (taken n less : ℕ) (ms new : List Mark) (ready all : List (ℕ × CallReply)) → seen less new ≡ left_by n (seen taken ms)
    → all ≡ ready ++ replied Flushed (flushed_by n (seen taken ms)) → kept t (seen less new) all ≡ passed n (kept t (seen taken ms) ready)
passed_kept t taken n less ms new ready all left is =
    ap (λ fs. kept t fs all) left
    ∙ ap (kept t (left_by n (seen taken ms))) (is ∙ sym (pushed (replied Flushed (flushed_by n (seen taken ms))) ready))

abbrev pub closed : Tickets → List Waits → List Awaits → List (ℕ × List ℕ) → List (ℕ × CallReply) → Kept
closed t queued fs asking ready = record { tickets = record t { handled = t.given; queued = queued; flushing = fs; asking = asking }; ready = ready }

-- all fail that await bytes, then all are dropped that wait for a reply, then those whose call waits settle
pub dropped_kept : (t : Tickets) (taken : ℕ) (ms new : List Mark) (queued : List Waits) (asking : List (ℕ × List ℕ)) (ready mid last all : List (ℕ × CallReply)) → new ≡ [] → queued ≡ [] → asking ≡ []
    → mid ≡ ready ++ replied FlushFailed (tickets_of ms) → last ≡ mid ++ replied Dropped (map ticket_in t.asking) → all ≡ last ++ queue_dropped (suc t.handled) t.queued
    → closed t queued (seen 0 new) asking all ≡ dropped (kept t (seen taken ms) ready)
dropped_kept t taken ms new queued asking ready mid last all none no_call no_request is more end =
    let failing = replied FlushFailed (map ticket_of (seen taken ms)) in
    let asked = replied Dropped (map ticket_in t.asking) in
    let waiting = queue_dropped (suc t.handled) t.queued in
    ap (λ xs. closed t queued (seen 0 xs) asking all) none
    ∙ (ap (λ qs. closed t qs [] asking all) no_call
    ∙ (ap (λ xs. closed t [] [] xs all) no_request
    ∙ ap (closed t [] [] [])
    (end
    ∙ (ap (λ xs. xs ++ waiting) (more ∙ ap (λ xs. xs ++ asked) (is ∙ ap (λ ts. ready ++ replied FlushFailed ts) (same_tickets taken ms)))
    ∙ (append_assoc (ready ++ failing) asked waiting
    ∙ (append_assoc ready failing (asked ++ waiting) ∙ (ap (λ xs. ready ++ xs) (sym (append_assoc failing asked waiting)) ∙ sym (pushed (failing ++ asked ++ waiting) ready))))))))

-- ---- the calls that wait

-- one more that waits for a reply is dropped
pub next_asked : (r : CallReply) (ticket : ℕ) (ts rest : List ℕ) (ready new all : List (ℕ × CallReply)) → ts ≡ ticket ∷ rest → new ≡ ready ++ (ticket, r) ∷ []
    → ready ++ replied r ts ≡ all → new ++ replied r rest ≡ all
next_asked r ticket ts rest ready new all is more before =
    ap (λ xs. xs ++ replied r rest) more ∙ (append_assoc ready ((ticket, r) ∷ []) (replied r rest) ∙ (sym (ap (λ xs. ready ++ replied r xs) is) ∙ before))

-- one more whose call waits settles, if it is unsettled
pub next_queued : (ticket next : ℕ) (waits : Waits) (queued rest : List Waits) (ready new all : List (ℕ × CallReply)) → next ≡ suc ticket → queued ≡ waits ∷ rest
    → new ≡ ready ++ waits_dropped next waits → ready ++ queue_dropped (suc ticket) queued ≡ all → new ++ queue_dropped (suc next) rest ≡ all
next_queued ticket next waits queued rest ready new all number is more before =
    ap (λ xs. xs ++ queue_dropped (suc next) rest) more
    ∙ (append_assoc ready (waits_dropped next waits) (queue_dropped (suc next) rest)
    ∙ (ap (λ n. ready ++ (waits_dropped n waits ++ queue_dropped (suc n) rest)) number
    ∙ (sym (ap (λ qs. ready ++ queue_dropped (suc ticket) qs) is) ∙ before)))

pub pending_more : (qs : List Waits) (next : Waits) → pending (qs ++ next ∷ []) ≡ pending qs + pending_of next
pending_more [] next = omega arith
pending_more (q ∷ qs) next = omega (arith, pending_more qs next)

pub pending_drop : (qs rest : List Waits) (next : Waits) → qs ≡ next ∷ rest → pending qs ≡ pending_of next + pending rest
pending_drop qs rest next is = ap pending is

pub pending_one : (next : Waits) → pending_of next ≤ 1
pending_one waits.Flush = omega arith
pending_one waits.Request = omega arith
pending_one waits.Late = omega arith

pub pending_most : (qs : List Waits) → pending qs ≤ length qs
pending_most [] = omega arith
pending_most (q ∷ qs) = omega (arith, pending_one q, pending_most qs)
