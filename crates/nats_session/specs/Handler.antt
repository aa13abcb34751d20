-- What the calls of a handler answer and leave.
use Rattle.std.specs.Prelude.{◌≡◌, ℕ, suc, ◌≤◌, Bool, true, false, not, ◌&&◌, ◌||◌, List, [], ◌∷◌, ◌++◌, length, drop, map, Option, Some, None, is_some, Result, Ok, Err, ◌==◌, if◌then◌else◌}
use Rattle.std.specs.Option.{option_map}
use Rattle.nats_names.specs.declared.event.Event.{Event}
use Rattle.nats_names.specs.declared.state.State.{State}
use Rattle.nats_names.specs.declared.state.State.TheVariants as states
use Rattle.nats_names.specs.declared.event.Event.TheVariants.{Closed, SlowConsumer}
use Rattle.nats_message.specs.declared.op.ClientOp.TheVariants as client
use Rattle.nats_commands.specs.Commands.{command_text}
use Rattle.nats_info.specs.declared.info.ServerInfo.{ServerInfo}
use Rattle.nats_message.specs.declared.message.Message.{Message}
use Rattle.nats_lines.specs.Operations.{Operation, message, peeked_view, got, front}
use Rattle.nats_wire.specs.Wire.{Wire, fresh}
use Rattle.nats_history.specs.declared.config.Config.{Config}
use Rattle.nats_history.specs.declared.call.Call.{Call}
use Rattle.nats_history.specs.declared.call.CallReply.{CallReply}
use Rattle.nats_history.specs.declared.transcript.LinkWord.{LinkWord}
use Rattle.nats_history.specs.declared.transcript.LinkWord.TheVariants as word
use Rattle.nats_history.specs.declared.turn.Turn.{Turn}
use Rattle.nats_history.specs.declared.turn.Due.{Due}
use Rattle.nats_history.specs.declared.turn.Due.TheVariants as due_names
use Rattle.nats_session.specs.declared.handler.played.Played.{Played}
use Rattle.nats_session.specs.declared.handler.played.Played.TheVariants as played
use Rattle.nats_session.specs.declared.handler.due.Look.{Look}
use Rattle.nats_session.specs.declared.handler.due.Look.TheVariants as looks
use Rattle.nats_subs.specs.declared.subs.subscription.Delivery.{Delivery}
use Rattle.nats_subs.specs.declared.subs.subscription.Delivery.TheVariants.{Put, Dropped, Unwanted, Ignored}
use Rattle.nats_history.specs.Queue.{first}
use Rattle.nats_tables.specs.Numbers.{at_number, item_of, change}
use Rattle.nats_history.specs.History.{default_max_payload, limit_told, Step, cut, read, handled, link_end, History, drained_by, second, kept, events, waiting_bytes}
use Rattle.nats_history.specs.Tickets.{settles, no_tickets, tickets}
use Rattle.nats_history.specs.Counts.{no_statistics, message_counted}
use Rattle.nats_history.specs.Parts.{Parts, parts_of}
use Rattle.nats_history.specs.Schedule.{is_valid_turn, refusal, call_reply, accepted_step, call_steps, due, chain, ends_link, put_steps}
use Rattle.nats_history.specs.After.{after, events_of, settled_of}
pub use Rattle.nats_tickets.specs.Kept.{push_all}
use Rattle.nats_tickets.specs.Kept.{Kept, arrived, reply_in, without}
use Rattle.nats_subs.specs.Delivery.{delivery_at, deliver, altered, with_rows, rows_with}
use Rattle.nats_subs.specs.declared.subs.subscription.Alteration.TheVariants as alterations

-- ---- a handler as it is seen

-- its parts, the events that wait to be handed out, oldest first, and the settled tickets that were not handed out
pub record Seen : Type 0 where
  pub parts : Parts
  pub events : List Event
  pub ready : List (ℕ × CallReply)

-- what is kept of tickets
abbrev pub kept_of : Seen → Kept
kept_of seen = record { tickets = seen.parts.tickets; ready = seen.ready }

-- what was handed out: how many events, and the replies of which tickets, the latest first
pub record HandedOut : Type 0 where
  pub events : ℕ
  pub tickets : List ℕ

abbrev pub nothing_handed : HandedOut
nothing_handed = record { events = 0; tickets = [] }

-- the tickets that settled, each with its reply, in the order in which they did
abbrev pub settled_tickets : Config → History → List (ℕ × CallReply)
settled_tickets c [] = []
settled_tickets c ((place, step) ∷ h) = settled_tickets c h ++ settles c (length (waiting_bytes c h)) step (tickets c h)

-- those that are left where these were handed out
abbrev pub without_all : List ℕ → List (ℕ × CallReply) → List (ℕ × CallReply)
without_all [] settled = settled
without_all (ticket ∷ earlier) settled = without ticket (without_all earlier settled)

-- each of these stood there when it was handed out
abbrev pub StoodThere : List ℕ → List (ℕ × CallReply) → Type 0
StoodThere [] settled = Unit {0}
StoodThere (ticket ∷ earlier) settled =
    (is_some (reply_in ticket (without_all earlier settled)) ≡ true) × StoodThere earlier settled

-- a handler stands for a history, of which this was handed out
pub record StandsFor (c : Config) (out : HandedOut) (h : History) (seen : Seen) : Type 0 where
  pub parts : seen.parts ≡ parts_of c h
  pub handed_out : out.events ≤ length (events c h)
  pub waiting : seen.events ≡ drop out.events (map second (events c h))
  pub replied : StoodThere out.tickets (settled_tickets c h)
  pub ready : seen.ready ≡ without_all out.tickets (settled_tickets c h)

-- as it is made: no link came up and nothing happened
abbrev pub idle : Config → Parts
idle c = record {
  config = c;
  is_closed = false;
  drain = record { is_accepted = false; is_handled = false };
  link = record {
    number = 0;
    is_up = false;
    max_payload = default_max_payload;
    info = None;
    infos = 0;
    reads = 0;
    pings = [];
    wire = fresh;
  };
  calls = [];
  subs = record { given = 0; subscribed = 0; rows = [] };
  requested = false;
  tickets = no_tickets;
  statistics = no_statistics;
}

abbrev pub seen_after : Seen → Step → Seen
seen_after seen step = record {
  parts = after seen.parts step;
  events = push_all (events_of seen.parts step) seen.events;
  ready = push_all (settled_of seen.parts step) seen.ready;
}

abbrev pub seen_all : Seen → List Step → Seen
seen_all seen [] = seen
seen_all seen (step ∷ steps) = seen_all (seen_after seen step) steps

-- the close has an event
abbrev pub close_events : Bool → List Event
close_events false = []
close_events true = Closed ∷ []

-- how a session stands
abbrev pub state_of : Parts → State
state_of p =
    if p.link.is_up then states.Connected else (if p.link.number == 0 then states.Pending else states.Disconnected)

-- the events that some steps give out
abbrev pub all_events : Parts → List Step → List Event
all_events p [] = []
all_events p (step ∷ steps) = events_of p step ++ all_events (after p step) steps

-- the tickets that some steps settle
abbrev pub all_settled : Parts → List Step → List (ℕ × CallReply)
all_settled p [] = []
all_settled p (step ∷ steps) = settled_of p step ++ all_settled (after p step) steps

-- the same with these buffers of the link
abbrev pub with_buffers : Wire → Seen → Seen
with_buffers wire seen = record seen { parts = record seen.parts { link = record seen.parts.link { wire = wire } } }

-- one more operation was read
abbrev pub counted : Seen → Seen
counted seen =
    record seen {
      parts = record seen.parts
          { link = record seen.parts.link { reads = cut (suc seen.parts.link.reads) } };
    }

-- an INFO that is read is what the server said last, and where it tells a limit, that holds from here on
abbrev pub info_kept : ServerInfo → Seen → Seen
info_kept info seen = record seen {
  parts = record seen.parts {
    link = record seen.parts.link {
      max_payload = limit_told info.max_payload seen.parts.link.max_payload;
      info = Some info;
      infos = cut (suc seen.parts.link.infos);
    };
  };
}

-- the first unread bytes are taken away, as one more operation was read
abbrev pub read_past : ℕ → Seen → Seen
read_past n seen = record seen {
  parts = record seen.parts {
    link = record seen.parts.link {
      reads = cut (suc seen.parts.link.reads);
      wire = record seen.parts.link.wire { unread = drop n seen.parts.link.wire.unread };
    };
  };
}

-- the same where it was a message of such a length
abbrev pub message_past : ℕ → ℕ → Seen → Seen
message_past n len seen =
    read_past n (record seen { parts = record seen.parts { statistics = message_counted len seen.parts.statistics } })

-- a turn may be played: it may come here and no step is due
abbrev pub can_play : Parts → Turn → Bool
can_play p turn = is_valid_turn p turn && not (is_some (due p))

-- the steps lead from one to the other: whatever history the old one stands for, the new one stands for that
-- history with the steps
abbrev pub LeadTo : Seen → List Step → Seen → Type 0
LeadTo old steps new =
    (c : Config) (out : HandedOut) (h : History) (place : ℕ) → StandsFor c out h old
    → StandsFor c out (put_steps place steps h) new

-- ---- due steps

abbrev pub delivery_name : ℕ → Message → Delivery → Due
delivery_name sid m Put = due_names.Put sid
delivery_name sid m Dropped = due_names.Dropped sid m
delivery_name sid m Unwanted = due_names.Read
delivery_name sid m Ignored = due_names.Read

-- what becomes of a message that comes for the subscription of a number
abbrev pub delivery_of : Parts → ℕ → Delivery
delivery_of p sid = delivery_at p.config (item_of sid p.subs.rows)

-- the same of an operation that is read: what is no message is none for a subscription
abbrev pub coming : Parts → Operation → Delivery
coming p (message sid m) = delivery_of p sid
coming p operation = Ignored

-- what is seen after a message that comes for a subscription, by what became of it
abbrev pub delivered_seen : ℕ → Message → Seen → Seen
delivered_seen sid m old = record old {
  parts = record old.parts {
    subs = with_rows (at_number sid (λ sub. kept (deliver old.parts.config m sub)) old.parts.subs.rows) old.parts.subs;
  };
}

-- a subscription that is open and shut ends, and the server is told
abbrev pub unwanted_seen : ℕ → Seen → Seen
unwanted_seen sid old = record old {
  parts = record old.parts {
    link = record old.parts.link {
      wire = record old.parts.link.wire {
        waiting = old.parts.link.wire.waiting ++ command_text (client.Unsubscribe sid None);
      };
    };
    subs = with_rows (rows_with sid alterations.End old.parts.subs.rows) old.parts.subs;
  };
}

abbrev pub after_message : ℕ → Message → Delivery → Seen → Seen
after_message sid m Unwanted old = unwanted_seen sid old
after_message sid m Dropped old = record old { events = old.events ++ SlowConsumer sid ∷ [] }
after_message sid m Put old = delivered_seen sid m old
after_message sid m Ignored old = delivered_seen sid m old

-- what is seen after a message to the inbox, by which a request may settle
abbrev pub arrived_seen : Message → Seen → Seen
arrived_seen m old = record old {
  parts = record old.parts { tickets = (arrived m (kept_of old)).tickets };
  ready = (arrived m (kept_of old)).ready;
}

-- what is seen after a message of a number, but for its bytes
abbrev pub come_seen : ℕ → Message → Seen → Seen
come_seen sid m old = if sid == 0 then arrived_seen m old else after_message sid m (delivery_of old.parts sid) old

-- what is seen after a PONG by which the link stays up, but for its bytes: its PING is answered, and the
-- subscription that it drained ends
abbrev pub pong_read : Seen → Seen
pong_read old = record old {
  parts = record old.parts {
    link = record old.parts.link { pings = drop 1 old.parts.link.pings };
    subs =
        with_rows (change (drained_by (first old.parts.link.pings))
        (λ sub. kept (altered alterations.End sub)) old.parts.subs.rows)
        old.parts.subs;
  };
}

-- the word by which a link ends among the steps
abbrev pub end_in : List Step → Option LinkWord
end_in [] = None
end_in (link_end word ∷ steps) = Some word
end_in (step ∷ steps) = end_in steps

abbrev pub own_name : Parts → Step → Due
own_name p (read (message sid m)) = delivery_name sid m (delivery_of p sid)
own_name p (read operation) = due_names.Read
own_name p (handled call) = due_names.Handled
own_name p step = due_names.Nothing

abbrev pub ended_or : Option LinkWord → Due → Due
ended_or None name = name
ended_or (Some word) name = due_names.Ended

-- how a due step is named: where the link ends at it or at what follows it at once, by that
abbrev pub name_of : Parts → Step → Due
name_of p step = ended_or (end_in (chain p step)) (own_name p step)

-- the same name, apart from where its message is
abbrev pub played_name : Played → Due
played_name played.Nothing = due_names.Nothing
played_name played.Read = due_names.Read
played_name (played.Put sid) = due_names.Put sid
played_name (played.Dropped sid m) = due_names.Dropped sid m.value
played_name played.Handled = due_names.Handled
played_name played.Ended = due_names.Ended

-- the step that is due was played with what follows it at once, and named; or none is due
abbrev pub Advances : Option Step → Seen → Due → Seen → Type 0
Advances None old name new = (name ≡ due_names.Nothing) × (new ≡ old)
Advances (Some step) old name new = (name ≡ name_of old.parts step) × (new ≡ seen_all old (chain old.parts step))

-- the step of the oldest waiting call, if one waits
abbrev pub handled_first : Parts → Option Step
handled_first p = option_map handled (first p.calls)

-- the word by which the link ends as this call is handled, if one waits and it does
abbrev pub command_end : Option Call → Option LinkWord
command_end None = None
command_end (Some call) = ends_link call

abbrev pub seen_handled : Option Call → Seen → Seen
seen_handled None old = old
seen_handled (Some call) old = seen_after old (handled call)

-- no link is up, or nothing is unread and no call waits
abbrev pub is_at_rest : Parts → Bool
is_at_rest p = not p.link.is_up || (length p.link.wire.unread == 0 && length p.calls == 0)

-- a look at the parts tells which step is due, and what becomes of a message
abbrev pub Sees : Parts → Look → Type 0
Sees p looks.Nothing = due p ≡ None
Sees p (looks.Read peeked delivery) =
    (due p ≡ Some (read (peeked_view peeked.op)))
    × (front p.link.wire.unread ≡ got (peeked_view peeked.op) peeked.len)
    × (peeked.len ≤ length p.link.wire.unread) × (p.link.is_up ≡ true)
    × (delivery ≡ coming p (peeked_view peeked.op))
Sees p looks.Fault = due p ≡ Some (link_end word.Fault)
Sees p looks.Command = (due p ≡ handled_first p) × (is_some (first p.calls) ≡ true) × (p.link.is_up ≡ true)

abbrev pub is_nothing : Look → Bool
is_nothing looks.Nothing = true
is_nothing (looks.Read peeked delivery) = false
is_nothing looks.Fault = false
is_nothing looks.Command = false

-- ---- calls

-- a call was accepted or refused by its reply; or memory was wanting for one that isn't refused: then it comes back and
-- nothing changed
abbrev pub Answers : List Step → Seen → Call → Result CallReply Call → Seen → Type 0
Answers steps old call (Ok reply) new = (reply ≡ call_reply old.parts call) × (new ≡ seen_all old steps)
Answers steps old call (Err back) new = (back ≡ call) × (new ≡ old) × (refusal old.parts call ≡ None)

abbrev pub Submits : Seen → Call → Result CallReply Call → Seen → Type 0
Submits old call result new = Answers (call_steps old.parts call) old call result new

-- the same but for the subscription that is let go
abbrev pub TakesIn : Seen → Call → Result CallReply Call → Seen → Type 0
TakesIn old call result new = Answers (accepted_step (refusal old.parts call) call) old call result new

-- ---- events

-- the event of a history that is to be handed out next
abbrev pub next_of : Config → HandedOut → History → Option Event
next_of c out h = first (drop out.events (map second (events c h)))

abbrev pub handed : Option Event → HandedOut → HandedOut
handed None out = out
handed (Some event) out = record out { events = suc out.events }

-- the oldest event that waits is handed out: whatever history the old one stands for, it is that history's next,
-- and the new one stands for the history with one more handed out
abbrev pub HandsOut : Seen → Option Event → Seen → Type 0
HandsOut old event new =
    (c : Config) (out : HandedOut) (h : History) → StandsFor c out h old
    → (event ≡ next_of c out h) × StandsFor c (handed event out) h new

-- ---- replies of tickets

abbrev pub handed_reply : ℕ → Option CallReply → HandedOut → HandedOut
handed_reply ticket None out = out
handed_reply ticket (Some reply) out = record out { tickets = ticket ∷ out.tickets }

-- the reply of a ticket is handed out, where it settled and was not handed out: whatever history the old one stands
-- for, it is that history's, and the new one stands for the history with this one more handed out
abbrev pub HandsReply : ℕ → Seen → Option CallReply → Seen → Type 0
HandsReply ticket old reply new =
    (c : Config) (out : HandedOut) (h : History) → StandsFor c out h old
    → (reply ≡ reply_in ticket (without_all out.tickets (settled_tickets c h)))
    × StandsFor c (handed_reply ticket reply out) h new
