-- What is kept of tickets, and what becomes of it.
use Rattle.std.specs.Prelude.{◌≡◌, ◌+◌, ◌<◌, ◌-◌, ◌==◌, Bool, true, false, Option, Some, None, if◌then◌else◌, length, ℕ, suc, List, [], ◌∷◌, ◌++◌, map, slice_index_or}
use Rattle.std.specs.List.{remove}
use Rattle.nats_message.specs.declared.message.Message.{Message}
use Rattle.nats_history.specs.declared.config.Config.{Config}
use Rattle.nats_history.specs.declared.call.CallReply.{CallReply}
use Rattle.nats_history.specs.declared.call.CallReply.TheVariants.{Flushed, FlushFailed, TimedOut, Dropped}
use Rattle.nats_history.specs.declared.waits.Waits.{Waits}
use Rattle.nats_history.specs.declared.waits.Waits.TheVariants as waits
use Rattle.nats_history.specs.Queue.{first}
use Rattle.nats_tables.specs.Numbers.{at_number}
use Rattle.nats_history.specs.History.{Step}
use Rattle.nats_history.specs.Tickets.{Awaits, Tickets, no_tickets, flushed_by, left_by, flush_handled, flush_settled, request_handled, displaced, requests_elsewhere, request_at, requests_but, waits_late, is_unsettled, request_reply, ticket_of, ticket_in, replied, replied_if, queue_dropped, tickets_after, settles}
use Rattle.nats_tickets.specs.declared.flushes.Mark.{Mark}

-- the tickets, and the settled ones that were not handed out, each with its reply, in the order in which they were
-- settled
pub record Kept : Type 0 where
  pub tickets : Tickets
  pub ready : List (ℕ × CallReply)

-- more behind those that wait, one after another
abbrev pub push_all : {A : Type 0} → List A → List A → List A
push_all [] waiting = waiting
push_all (x ∷ more) waiting = push_all more (waiting ++ x ∷ [])

abbrev pub nothing_kept : Kept
nothing_kept = record { tickets = no_tickets; ready = [] }

-- what a mark awaits, where the link took so many bytes as marks count them
abbrev pub awaits : ℕ → Mark → Awaits
awaits taken mark = record { ticket = mark.ticket; ahead = mark.end - taken }

abbrev pub mark_ticket : Mark → ℕ
mark_ticket mark = mark.ticket

abbrev pub tickets_of : List Mark → List ℕ
tickets_of marks = map mark_ticket marks

abbrev pub of_request : Waits → Bool
of_request waits.Flush = false
of_request waits.Request = true
of_request waits.Late = true

-- one more call waits
abbrev pub given_one : Waits → Kept → Kept
given_one next k = record k {
  tickets = record k.tickets {
    given = suc k.tickets.given;
    of_request = k.tickets.of_request ++ of_request next ∷ [];
    queued = k.tickets.queued ++ next ∷ [];
  };
}

-- a new link came up
abbrev pub renewed : Kept → Kept
renewed k = record k { tickets = record k.tickets { flushing = [] } }

-- the oldest call that waits is a flush, and is handled while so many bytes wait
abbrev pub flush_one : ℕ → Kept → Kept
flush_one waiting k = record {
  tickets = flush_handled waiting (first k.tickets.queued) k.tickets;
  ready = push_all (replied Flushed (flush_settled waiting (first k.tickets.queued) k.tickets)) k.ready;
}

-- the oldest call that waits is a request, and is handled: its reply is to come to a subject
abbrev pub request_one : List ℕ → Kept → Kept
request_one subject k = record {
  tickets = request_handled subject (first k.tickets.queued) k.tickets;
  ready = push_all (replied_if Dropped (displaced subject (first k.tickets.queued) k.tickets)) k.ready;
}

-- a message came to the inbox
abbrev pub arrived : Message → Kept → Kept
arrived m k = record {
  tickets = record k.tickets { asking = requests_elsewhere m.subject k.tickets.asking };
  ready = push_all (replied_if (request_reply m) (request_at m.subject k.tickets.asking)) k.ready;
}

-- the deadline of a ticket came
abbrev pub timed_out : ℕ → Kept → Kept
timed_out ticket k = record {
  tickets = record k.tickets {
    queued = at_number (ticket - k.tickets.handled) waits_late k.tickets.queued;
    asking = requests_but ticket k.tickets.asking;
  };
  ready = push_all (if is_unsettled ticket k.tickets then (ticket, TimedOut) ∷ [] else []) k.ready;
}

-- the link took n bytes
abbrev pub passed : ℕ → Kept → Kept
passed n k = record {
  tickets = record k.tickets { flushing = left_by n k.tickets.flushing };
  ready = push_all (replied Flushed (flushed_by n k.tickets.flushing)) k.ready;
}

-- the link ended
abbrev pub failed : Kept → Kept
failed k = record {
  tickets = record k.tickets { flushing = [] };
  ready = push_all (replied FlushFailed (map ticket_of k.tickets.flushing)) k.ready;
}

-- what settles at the close: flushes that await bytes fail, requests that wait for a reply are dropped, and so on
-- with the calls that wait
abbrev pub closing_settles : Tickets → List (ℕ × CallReply)
closing_settles t =
    replied FlushFailed (map ticket_of t.flushing)
    ++ replied Dropped (map ticket_in t.asking) ++ queue_dropped (suc t.handled) t.queued

-- the session closed
abbrev pub dropped : Kept → Kept
dropped k = record {
  tickets = record k.tickets { handled = k.tickets.given; queued = []; flushing = []; asking = [] };
  ready = push_all (closing_settles k.tickets) k.ready;
}

-- what a step makes of them, where so many bytes wait before it
abbrev pub kept_after : Config → ℕ → Step → Kept → Kept
kept_after c waiting step k = record {
  tickets = tickets_after c waiting step k.tickets;
  ready = push_all (settles c waiting step k.tickets) k.ready;
}

-- how many tickets a call that waits has yet to settle
abbrev pub pending_of : Waits → ℕ
pending_of waits.Flush = 1
pending_of waits.Request = 1
pending_of waits.Late = 0

-- the same of all that wait
abbrev pub pending : List Waits → ℕ
pending [] = 0
pending (next ∷ more) = pending_of next + pending more

abbrev pub one_if : Option ℕ → ℕ
one_if None = 0
one_if (Some ticket) = 1

abbrev pub bit : Bool → ℕ
bit true = 1
bit false = 0

-- the reply of a ticket that settled and was not handed out
abbrev pub reply_in : ℕ → List (ℕ × CallReply) → Option CallReply
reply_in ticket [] = None
reply_in ticket (settled ∷ more) = if ticket == settled.0 then Some settled.1 else reply_in ticket more

-- the others
abbrev pub without : ℕ → List (ℕ × CallReply) → List (ℕ × CallReply)
without ticket [] = []
without ticket (settled ∷ more) = if ticket == settled.0 then more else settled ∷ without ticket more

-- where a ticket stands among the settled ones, if it does
abbrev pub IsPlaceIn : ℕ → List (ℕ × CallReply) → Option ℕ → Type 0
IsPlaceIn ticket settled None = (reply_in ticket settled ≡ None) × (without ticket settled ≡ settled)
IsPlaceIn ticket settled (Some place) = (place < length settled)
    × (((x : ℕ × CallReply) → x ≡ slice_index_or settled place x → reply_in ticket settled ≡ Some x.1)
    × (without ticket settled ≡ remove settled place))
