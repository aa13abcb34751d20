-- Flushes await bytes in the order in which they were handled, so a write settles all that it reaches.
use Rattle.std.specs.List.{filter}
use Rattle.std.proofs.Common.{◌≡◌, ℕ, zero, suc, ◌-◌, ◌≤◌, ◌<◌, Bool, true, false, cond, List, [], ◌∷◌, ◌++◌, length, drop, map, Option, Some, None, refl, sym, ◌∙◌, ap, subst, arith}
use Rattle.std.proofs.lemmas.List.{append-nil, length-append, length-drop}
use Rattle.std.proofs.lemmas.Bool.{leb-true, leb-false}
use Rattle.nats_message.specs.declared.op.ClientOp.{ClientOp}
use Rattle.nats_commands.specs.Commands.{command_text}
use Rattle.nats_history.specs.declared.config.Config.{Config}
use Rattle.nats_history.specs.declared.call.Call.{Call}
use Rattle.nats_history.specs.declared.call.Call.TheVariants.{Flush, Request}
use Rattle.nats_history.specs.declared.waits.Waits.{Waits}
use Rattle.nats_history.specs.declared.waits.Waits.TheVariants as waits
use Rattle.nats_history.specs.Queue.{first}
use Rattle.nats_history.specs.History.{Step, opened, taken, handled, link_end, closed, History, is_up, requested, at_of, rows_of, commands, link_text, taken_count, waiting_bytes}
use Rattle.nats_history.specs.Tickets.{Awaits, Tickets, reaches, flushed_by, nearer, left_by, awaiting, flush_handled, request_handled, ticket_handled, ticket_of, tickets}
use Rattle.nats_history.specs.After.{write_all, written}
use Rattle.nats_history.specs.Laws.{FlushesReached}
use Rattle.nats_history.proofs.Refines.{bytes_next}

-- each awaits so many bytes at least, no fewer than the one before it, and the last no more than so many
InOrder : ℕ → List Awaits → ℕ → Type 0
InOrder low [] most = low ≤ most
InOrder low (flush ∷ more) most = (low ≤ flush.ahead) × InOrder flush.ahead more most

order_more : (low : ℕ) (fs : List Awaits) (most more : ℕ) → most ≤ more → InOrder low fs most → InOrder low fs more
unfolding InOrder
order_more low [] most more fits o = omega (arith, fits, o)
order_more low (flush ∷ fs) most more fits o = (o.0, order_more flush.ahead fs most more fits o.1)

order_lower : (lower low : ℕ) (fs : List Awaits) (most : ℕ) → lower ≤ low → InOrder low fs most → InOrder lower fs most
unfolding InOrder
order_lower lower low [] most fits o = omega (arith, fits, o)
order_lower lower low (flush ∷ fs) most fits o = (omega (arith, fits, o.0), o.1)

order_push : (low ticket : ℕ) (fs : List Awaits) (most : ℕ) → InOrder low fs most → InOrder low (fs ++ record { ticket = ticket; ahead = most } ∷ []) most
unfolding InOrder
order_push low ticket [] most o = (o, omega arith)
order_push low ticket (flush ∷ fs) most o = (o.0, order_push flush.ahead ticket fs most o.1)

order_await : (low ticket : ℕ) (fs : List Awaits) (waiting : ℕ) → InOrder low fs waiting → InOrder low (fs ++ awaiting ticket waiting) waiting
order_await low ticket fs zero o = subst (λ xs. InOrder low xs 0) (sym (append-nil fs)) o
order_await low ticket fs (suc n) o = order_push low ticket fs (suc n) o

order_nearer : (n low : ℕ) (fs : List Awaits) (most : ℕ) → InOrder low fs most → InOrder (low - n) (map (nearer n) fs) (most - n)
unfolding InOrder
order_nearer n low [] most o = omega (arith, o)
order_nearer n low (flush ∷ fs) most o = (omega (arith, o.0), order_nearer n flush.ahead fs most o.1)

order_left : (n low : ℕ) (fs : List Awaits) (most : ℕ) → InOrder low fs most → InOrder (low - n) (left_by n fs) (most - n)
unfolding InOrder
order_left n low [] most o = omega (arith, o)
order_left n low (flush ∷ fs) most o = by (reaches n flush) (order_left n flush.ahead fs most o.1)
  where
    by : (b : Bool) → InOrder (flush.ahead - n) (left_by n fs) (most - n) → InOrder (low - n) (cond b (left_by n fs) (map (nearer n) (flush ∷ fs))) (most - n)
    by true later = order_lower (low - n) (flush.ahead - n) (left_by n fs) (most - n) (omega (arith, o.0)) later
    by false later = order_nearer n low (flush ∷ fs) most o

-- ---- what waits

longer : (cs : List ClientOp) (waiting : List ℕ) → length waiting ≤ length (write_all cs waiting)
longer [] waiting = omega arith
longer (command ∷ more) waiting =
    omega (arith, length-append waiting (command_text command), longer more (waiting ++ command_text command))

grows : (up : Bool) (cs : List ClientOp) (text : List ℕ) → length (cond up text []) ≤ length (written up cs (cond up text []))
grows true [] text = omega arith
grows true (command ∷ more) text = longer (command ∷ more) text
grows false [] text = omega arith
grows false (command ∷ more) text = omega arith

no_fewer : (c : Config) (h : History) (place : ℕ) (step : Step) → waiting_bytes c ((place, step) ∷ h) ≡ written (is_up h) (commands c (requested h) (at_of h) (rows_of c h) step) (waiting_bytes c h)
    → length (waiting_bytes c h) ≤ length (waiting_bytes c ((place, step) ∷ h))
no_fewer c h place step e =
    let more = grows (is_up h) (commands c (requested h) (at_of h) (rows_of c h) step) (drop (taken_count c h) (link_text c h)) in
    omega (arith, more, ap length e)

order_flush : (next : Option Waits) (t : Tickets) (waiting : ℕ) → InOrder 0 t.flushing waiting → InOrder 0 (flush_handled waiting next t).flushing waiting
order_flush (Some waits.Flush) t waiting o = order_await 0 (suc t.handled) t.flushing waiting o
order_flush (Some waits.Request) t waiting o = o
order_flush (Some waits.Late) t waiting o = o
order_flush None t waiting o = o

order_request : (subject : List ℕ) (next : Option Waits) (t : Tickets) (waiting : ℕ) → InOrder 0 t.flushing waiting → InOrder 0 (request_handled subject next t).flushing waiting
order_request subject (Some waits.Flush) t waiting o = o
order_request subject (Some waits.Request) t waiting o = o
order_request subject (Some waits.Late) t waiting o = o
order_request subject None t waiting o = o

order_handled : (c : Config) (call : Call) (t : Tickets) (waiting : ℕ) → InOrder 0 t.flushing waiting → InOrder 0 (ticket_handled c waiting call t).flushing waiting
order_handled c Flush t waiting o = order_flush (first t.queued) t waiting o
order_handled c (Request subject payload headers token) t waiting o = order_request _ (first t.queued) t waiting o
order_handled c call t waiting o = o

ordered : (c : Config) (h : History) → InOrder 0 (tickets c h).flushing (length (waiting_bytes c h))
unfolding InOrder
ordered c [] = omega arith
ordered c ((place, opened info) ∷ h) = omega arith
ordered c ((place, link_end end) ∷ h) = omega arith
ordered c ((place, closed) ∷ h) = omega arith
ordered c ((place, taken n) ∷ h) =
    let left : length (waiting_bytes c ((place, taken n) ∷ h)) ≡ length (waiting_bytes c h) - n =
    ap length (bytes_next c h place (taken n)) ∙ length-drop n (waiting_bytes c h)
    in
    subst (λ most. InOrder 0 (left_by n (tickets c h).flushing) most) (sym left)
    (order_lower 0 (0 - n) (left_by n (tickets c h).flushing) (length (waiting_bytes c h) - n) (omega arith) (order_left n 0 (tickets c h).flushing (length (waiting_bytes c h)) (ordered c h)))
ordered c ((place, handled call) ∷ h) =
    let t = tickets c h in
    order_more 0 (tickets c ((place, handled call) ∷ h)).flushing (length (waiting_bytes c h)) (length (waiting_bytes c ((place, handled call) ∷ h)))
    (no_fewer c h place (handled call) (bytes_next c h place (handled call)))
    (order_handled c call t (length (waiting_bytes c h)) (ordered c h))
ordered c ((place, step) ∷ h) =
    order_more 0 (tickets c h).flushing (length (waiting_bytes c h)) (length (waiting_bytes c ((place, step) ∷ h)))
    (no_fewer c h place step (bytes_next c h place step)) (ordered c h)

-- ---- a write

none_reached : (n low : ℕ) (fs : List Awaits) (most : ℕ) → n < low → InOrder low fs most → filter (reaches n) fs ≡ []
unfolding InOrder
none_reached n low [] most past o = refl
none_reached n low (flush ∷ fs) most past o = by (reaches n flush) refl (none_reached n flush.ahead fs most (omega (arith, past, o.0)) o.1)
  where
    by : (b : Bool) → reaches n flush ≡ b → filter (reaches n) fs ≡ [] → cond b (flush ∷ filter (reaches n) fs) (filter (reaches n) fs) ≡ []
    by true is rest = let low_enough = leb-true flush.ahead n is in absurd (omega (arith, low_enough, past, o.0))
    by false is rest = rest

all_reached : (n low : ℕ) (fs : List Awaits) (most : ℕ) → InOrder low fs most → flushed_by n fs ≡ map ticket_of (filter (reaches n) fs)
unfolding InOrder
all_reached n low [] most o = refl
all_reached n low (flush ∷ fs) most o = by (reaches n flush) refl (all_reached n flush.ahead fs most o.1)
  where
    by : (b : Bool) → reaches n flush ≡ b → flushed_by n fs ≡ map ticket_of (filter (reaches n) fs)
        → cond b (flush.ticket ∷ flushed_by n fs) [] ≡ map ticket_of (cond b (flush ∷ filter (reaches n) fs) (filter (reaches n) fs))
    by true is rest = ap (λ ts. flush.ticket ∷ ts) rest
    by false is rest = sym (ap (map ticket_of) (none_reached n flush.ahead fs most (leb-false flush.ahead n is) o.1))

pub flushes_reached : FlushesReached
flushes_reached c h n = all_reached n 0 (tickets c h).flushing (length (waiting_bytes c h)) (ordered c h)
