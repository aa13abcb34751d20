-- The tickets of flushes and requests: what becomes of them, and how each settles.
use Rattle.std.specs.Prelude.{ℕ, zero, suc, ◌+◌, ◌-◌, Bool, true, false, ◌||◌, ◌==◌, nat_le, List, [], ◌∷◌, ◌++◌, length, drop, map, Option, Some, None, if◌then◌else◌}
use Rattle.std.specs.Str.{bytes_eq}
use Rattle.nats_message.specs.declared.message.Message.{Message}
use Rattle.nats_lines.specs.Operations.{Operation, message}
use Rattle.nats_history.specs.declared.config.Config.{Config}
use Rattle.nats_history.specs.declared.call.Call.{Call}
use Rattle.nats_history.specs.declared.call.Call.TheVariants.{Flush, Request}
use Rattle.nats_history.specs.declared.call.CallReply.{CallReply}
use Rattle.nats_history.specs.declared.call.CallReply.TheVariants.{Flushed, Replied, FlushFailed, NoResponders, TimedOut, Dropped}
use Rattle.nats_history.specs.declared.waits.Waits.{Waits}
use Rattle.nats_history.specs.declared.waits.Waits.TheVariants as waits
use Rattle.nats_history.specs.Queue.{first}
use Rattle.nats_tables.specs.Numbers.{at_number, item_of}
use Rattle.nats_history.specs.History.{Step, opened, read, taken, accepted, handled, passed, link_end, closed, History, waits_as, takes_ticket, requests, inbox_of, waiting_bytes}

-- a flush that was handled and that no write reached yet: its ticket, and how many waiting bytes are ahead of it
pub record Awaits : Type 0 where
  pub ticket : ℕ
  pub ahead : ℕ

pub record Tickets : Type 0 where
  -- how many were given
  pub given : ℕ
  -- of how many of the first the call was handled, or dropped at the close
  pub handled : ℕ
  -- of each ticket by its number, whether its call is a request
  pub of_request : List Bool
  -- what the calls of the tickets behind the handled ones wait as, oldest first
  pub queued : List Waits
  -- the handled flushes that await bytes, oldest first
  pub flushing : List Awaits
  -- the handled requests that wait for a reply, oldest first, each with its ticket and the subject of its reply
  pub asking : List (ℕ × List ℕ)

-- n more bytes reach what a flush awaits
abbrev pub reaches : ℕ → Awaits → Bool
reaches n flush = nat_le flush.ahead n

-- the tickets that n more bytes settle, from the oldest on: no flush awaits fewer bytes than an older one
abbrev pub flushed_by : ℕ → List Awaits → List ℕ
flushed_by n [] = []
flushed_by n (flush ∷ more) = if reaches n flush then flush.ticket ∷ flushed_by n more else []

abbrev pub nearer : ℕ → Awaits → Awaits
nearer n flush = record { ticket = flush.ticket; ahead = flush.ahead - n }

-- the flushes that still await bytes after n more
abbrev pub left_by : ℕ → List Awaits → List Awaits
left_by n [] = []
left_by n (flush ∷ more) = if reaches n flush then left_by n more else map (nearer n) (flush ∷ more)

-- a flush that is handled while so many bytes wait awaits them
abbrev pub awaiting : ℕ → ℕ → List Awaits
awaiting ticket zero = []
awaiting ticket (suc n) = record { ticket = ticket; ahead = suc n } ∷ []

-- and where none waits it is flushed at once
abbrev pub flushed_at_once : ℕ → ℕ → List ℕ
flushed_at_once ticket zero = ticket ∷ []
flushed_at_once ticket (suc n) = []

-- the oldest ticket whose call waits is of a flush, which is handled while so many bytes wait
abbrev pub flush_handled : ℕ → Option Waits → Tickets → Tickets
flush_handled waiting (Some waits.Flush) t =
    record t {
      handled = suc t.handled;
      queued = drop 1 t.queued;
      flushing = t.flushing ++ awaiting (suc t.handled) waiting;
    }
flush_handled waiting next t = t

abbrev pub flush_settled : ℕ → Option Waits → Tickets → List ℕ
flush_settled waiting (Some waits.Flush) t = flushed_at_once (suc t.handled) waiting
flush_settled waiting next t = []

-- ---- requests

-- the ticket of the request whose reply comes to a subject, if one waits for it: no two wait for the same
abbrev pub request_at : List ℕ → List (ℕ × List ℕ) → Option ℕ
request_at subject [] = None
request_at subject (request ∷ more) = if bytes_eq subject request.1 then Some request.0 else request_at subject more

-- the other requests
abbrev pub requests_elsewhere : List ℕ → List (ℕ × List ℕ) → List (ℕ × List ℕ)
requests_elsewhere subject [] = []
requests_elsewhere subject (request ∷ more) =
    if bytes_eq subject request.1 then more else request ∷ requests_elsewhere subject more

-- the request of a ticket waits for its reply
abbrev pub waits_for_reply : ℕ → List (ℕ × List ℕ) → Bool
waits_for_reply ticket [] = false
waits_for_reply ticket (request ∷ more) = (ticket == request.0) || waits_for_reply ticket more

-- the other requests
abbrev pub requests_but : ℕ → List (ℕ × List ℕ) → List (ℕ × List ℕ)
requests_but ticket [] = []
requests_but ticket (request ∷ more) = if ticket == request.0 then more else request ∷ requests_but ticket more

-- the oldest ticket whose call waits is of a request, which is handled: it waits for its reply, but where its
-- deadline came before; an older one that waits for a reply to the same subject waits no more
abbrev pub request_handled : List ℕ → Option Waits → Tickets → Tickets
request_handled subject (Some waits.Request) t = record t {
  handled = suc t.handled;
  queued = drop 1 t.queued;
  asking = requests_elsewhere subject t.asking ++ (suc t.handled, subject) ∷ [];
}
request_handled subject (Some waits.Late) t =
    record t { handled = suc t.handled; queued = drop 1 t.queued; asking = requests_elsewhere subject t.asking }
request_handled subject next t = t

abbrev pub displaced : List ℕ → Option Waits → Tickets → Option ℕ
displaced subject (Some waits.Request) t = request_at subject t.asking
displaced subject (Some waits.Late) t = request_at subject t.asking
displaced subject next t = None

abbrev pub waits_late : Waits → Waits
waits_late waits.Request = waits.Late
waits_late other = other

-- a request waits to be handled, and its deadline did not come yet
abbrev pub is_waiting_request : Option Waits → Bool
is_waiting_request (Some waits.Request) = true
is_waiting_request next = false

-- a request is unsettled: it waits for its reply or to be handled, and its deadline did not come yet
abbrev pub is_unsettled : ℕ → Tickets → Bool
is_unsettled ticket t = waits_for_reply ticket t.asking || is_waiting_request (item_of (ticket - t.handled) t.queued)

-- a reply of this status says that nobody answers requests to the subject
abbrev pub no_responders : ℕ
no_responders = 503

abbrev pub is_no_responders : Option ℕ → Bool
is_no_responders None = false
is_no_responders (Some status) = status == no_responders

-- how a request settles by the message that came to the subject of its reply
abbrev pub request_reply : Message → CallReply
request_reply m = if is_no_responders m.status then NoResponders else Replied m

-- ---- what becomes of tickets

abbrev pub replied : CallReply → List ℕ → List (ℕ × CallReply)
replied reply tickets = map (λ ticket. (ticket, reply)) tickets

abbrev pub replied_if : CallReply → Option ℕ → List (ℕ × CallReply)
replied_if reply None = []
replied_if reply (Some ticket) = (ticket, reply) ∷ []

abbrev pub queued_with : Option Waits → List Waits → List Waits
queued_with None queued = queued
queued_with (Some next) queued = queued ++ next ∷ []

abbrev pub ticket_handled : Config → ℕ → Call → Tickets → Tickets
ticket_handled c waiting Flush t = flush_handled waiting (first t.queued) t
ticket_handled c waiting (Request subject payload headers token) t =
    request_handled (inbox_of c token) (first t.queued) t
ticket_handled c waiting call t = t

-- a message to number 0 is the reply to the request that waits for it
abbrev pub asking_after : Operation → List (ℕ × List ℕ) → List (ℕ × List ℕ)
asking_after (message sid m) asking = if sid == 0 then requests_elsewhere m.subject asking else asking
asking_after operation asking = asking

abbrev pub settled_by : Operation → List (ℕ × List ℕ) → List (ℕ × CallReply)
settled_by (message sid m) asking = if sid == 0 then replied_if (request_reply m) (request_at m.subject asking) else []
settled_by operation asking = []

-- the k-th accepted flush or request has ticket k; what waits before a step says what a flush that it handles awaits
abbrev pub tickets_after : Config → ℕ → Step → Tickets → Tickets
tickets_after c waiting (accepted call) t = record t {
  given = if takes_ticket call then suc t.given else t.given;
  of_request = if takes_ticket call then t.of_request ++ requests call ∷ [] else t.of_request;
  queued = queued_with (waits_as call) t.queued;
}
tickets_after c waiting (handled call) t = ticket_handled c waiting call t
tickets_after c waiting (read operation) t = record t { asking = asking_after operation t.asking }
tickets_after c waiting (taken n) t = record t { flushing = left_by n t.flushing }
tickets_after c waiting (passed ticket) t =
    record t { queued = at_number (ticket - t.handled) waits_late t.queued; asking = requests_but ticket t.asking }
tickets_after c waiting (opened info) t = record t { flushing = [] }
tickets_after c waiting (link_end end) t = record t { flushing = [] }
tickets_after c waiting closed t = record t { handled = t.given; queued = []; flushing = []; asking = [] }
tickets_after c waiting step t = t

abbrev pub ticket_of : Awaits → ℕ
ticket_of flush = flush.ticket

abbrev pub ticket_in : ℕ × List ℕ → ℕ
ticket_in request = request.0

-- how a ticket whose call waits settles at the close
abbrev pub waits_dropped : ℕ → Waits → List (ℕ × CallReply)
waits_dropped ticket waits.Flush = (ticket, FlushFailed) ∷ []
waits_dropped ticket waits.Request = (ticket, Dropped) ∷ []
waits_dropped ticket waits.Late = []

-- how those from a ticket on do
abbrev pub queue_dropped : ℕ → List Waits → List (ℕ × CallReply)
queue_dropped ticket [] = []
queue_dropped ticket (next ∷ more) = waits_dropped ticket next ++ queue_dropped (suc ticket) more

abbrev pub handled_settles : Config → ℕ → Call → Tickets → List (ℕ × CallReply)
handled_settles c waiting Flush t = replied Flushed (flush_settled waiting (first t.queued) t)
handled_settles c waiting (Request subject payload headers token) t =
    replied_if Dropped (displaced (inbox_of c token) (first t.queued) t)
handled_settles c waiting call t = []

-- the tickets that a step settles, where these are the waiting bytes and the tickets before it: a flush is flushed
-- where it is handled and no byte waits, or else by the bytes that are taken; it fails as its link ends, and at the
-- close. A request settles by a message to number 0 whose subject is that of its reply, by its deadline, or it is
-- dropped by a later one that waits for a reply to the same subject, and at the close
abbrev pub settles : Config → ℕ → Step → Tickets → List (ℕ × CallReply)
settles c waiting (handled call) t = handled_settles c waiting call t
settles c waiting (read operation) t = settled_by operation t.asking
settles c waiting (taken n) t = replied Flushed (flushed_by n t.flushing)
settles c waiting (passed ticket) t = if is_unsettled ticket t then (ticket, TimedOut) ∷ [] else []
settles c waiting (link_end end) t = replied FlushFailed (map ticket_of t.flushing)
settles c waiting closed t =
    replied FlushFailed (map ticket_of t.flushing)
    ++ replied Dropped (map ticket_in t.asking) ++ queue_dropped (suc t.handled) t.queued
settles c waiting step t = []

abbrev pub no_tickets : Tickets
no_tickets = record { given = 0; handled = 0; of_request = []; queued = []; flushing = []; asking = [] }

-- the tickets as they stand
abbrev pub tickets : Config → History → Tickets
tickets c [] = no_tickets
tickets c ((place, step) ∷ h) = tickets_after c (length (waiting_bytes c h)) step (tickets c h)

-- one more ticket where one is given
abbrev pub grown_tickets : {A : Type 0} → Step → List (Option A) → List (Option A)
grown_tickets (accepted call) rows = if takes_ticket call then rows ++ None ∷ [] else rows
grown_tickets step rows = rows

-- a ticket settles once, at the first place that fits
abbrev pub settle_once : {A : Type 0} → A → Option A → Option A
settle_once reply None = Some reply
settle_once reply (Some earlier) = Some earlier

abbrev pub settle_rows : ℕ → List (ℕ × CallReply) → List (Option (ℕ × CallReply)) → List (Option (ℕ × CallReply))
settle_rows place [] rows = rows
settle_rows place ((ticket, reply) ∷ more) rows =
    settle_rows place more (at_number ticket (settle_once (place, reply)) rows)

-- the tickets by their numbers, each with the place at which it settled and its reply, if it did
abbrev pub ticket_rows : Config → History → List (Option (ℕ × CallReply))
ticket_rows c [] = []
ticket_rows c ((place, step) ∷ h) =
    settle_rows place (settles c (length (waiting_bytes c h)) step (tickets c h)) (grown_tickets step (ticket_rows c h))
