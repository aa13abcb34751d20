-- How far a session is on the one link of its life, over the bytes that the link gave and took behind the handshake.
use Rattle.std.specs.Prelude.{◌≡◌, ◌⊎◌, ◌≤◌, ◌<◌, ℕ, ◌+◌, ◌-◌, Bool, true, false, List, [], ◌∷◌, ◌++◌, length, take, drop, Option, Some, None, option_map, Result, Ok, Err, if◌then◌else◌}
use Rattle.std.specs.Global.{Vec}
use Rattle.std.specs.List.{concat, flat_map}
use Rattle.nats_names.specs.Names.{is_publishable, is_valid}
use Rattle.nats_names.specs.declared.cause.Cause.TheVariants as cause
use Rattle.nats_names.specs.declared.failed.NoMemory.{NoMemory}
use Rattle.nats_message.specs.declared.op.ClientOp.TheVariants as client
use Rattle.nats_commands.specs.Commands.{command_text}
use Rattle.nats_message.specs.declared.message.Message.{Message}
use Rattle.nats_lines.specs.Operations.{Operation, operations}
use Rattle.nats_outside.specs.Told.{ReadTold, WriteTold}
use Rattle.nats_dial.specs.Lines.{Took}
use Rattle.nats_message.specs.declared.message.OutboundMessage.{OutboundMessage}
use Rattle.nats_history.specs.declared.call.Call.{Call}
use Rattle.nats_history.specs.declared.call.Call.TheVariants as call
use Rattle.nats_history.specs.declared.call.CallReply.{CallReply}
use Rattle.nats_history.specs.declared.call.CallReply.TheVariants as replies
use Rattle.nats_history.specs.declared.call.TakeReply.TheVariants as takes
use Rattle.nats_core.specs.declared.entry.StepReply.{StepReply}
use Rattle.nats_core.specs.declared.entry.StepReply.TheVariants as answers
use Rattle.nats_core.specs.Journal.{Logged, with_session}
use Rattle.nats_core.specs.Calls.{parts_in}
use Rattle.nats_tickets.specs.Kept.{reply_in, without}
use Rattle.nats_history.specs.declared.stage.Stage.TheVariants as stages
use Rattle.nats_history.specs.declared.waits.Waits.{Waits}
use Rattle.nats_history.specs.declared.waits.Waits.TheVariants as waits
use Rattle.nats_history.specs.History.{Sub}
use Rattle.nats_history.specs.Tickets.{Tickets, Awaits, no_tickets}
use Rattle.nats_history.specs.Schedule.{due}
use Rattle.nats_session.specs.Handler.{Seen}
use Rattle.nats_system.specs.declared.errors.PublishErrorKind.TheVariants as publishing
use Rattle.nats_system.specs.declared.errors.SubscribeErrorKind.TheVariants as subscribing
use Rattle.nats_message_text.specs.Printed.{message_line}
use Rattle.nats_live.specs.declared.error.LiveError.{LiveError}
use Rattle.nats_live.specs.declared.error.LiveError.TheVariants as refused
use Rattle.nats_live.specs.Ended.{messages, pongs, ends_in_fault}
use Rattle.nats_live.specs.State.{Noise, Kept, state, begun, no_subs}

-- ---- what is read

-- what is unread goes on with some bytes behind the operations that were read of them: whatever comes behind both
pub record GoesOn (joined : List ℕ) (done : List Operation) (unread : List ℕ) : Type 0 where
  pub ops : (more : List ℕ) → operations (joined ++ more) ≡ done ++ operations (unread ++ more)
  pub faults : (more : List ℕ) → ends_in_fault (joined ++ more) ≡ ends_in_fault (unread ++ more)

-- ---- the session

-- the link came up and gave these bytes, and all that they made due is done: each PING of theirs is answered, or they
-- end in what is no operation, and the link is over; this is the limit of payloads
pub record HasBegun (most : ℕ) (joined : List ℕ) (seen : Seen) : Type 0 where
  pub mux : List ℕ
  pub noise : Noise
  pub up : Bool
  pub unread : List ℕ
  pub waiting : List ℕ
  pub is : seen ≡ state mux noise (begun up unread waiting)
  pub limit : noise.most ≡ most
  pub settled : due seen.parts ≡ None
  pub ups : up ≡ true → GoesOn joined (operations joined) unread × (waiting ≡ pongs (operations joined))
  pub downs : up ≡ false → ends_in_fault joined ≡ true

-- the same, but for want of memory, where nothing else is refused
abbrev pub HasBegunOr : ℕ → List ℕ → Result (Unit {0}) LiveError → Seen → Type 0
HasBegunOr most joined (Ok done) seen = HasBegun most joined seen
HasBegunOr most joined (Err e) seen = e ≡ refused.NoMemory

-- ---- a publish and a flush

-- how far a publish and then a flush came: the publish waits to be handled, or was handled; both wait; the
-- flush waits; it awaits all bytes that wait; it is done
pub data Phase : Type 0 where
  sending both : OutboundMessage → Phase
  sent flush_waits flush_awaits flush_done : Phase

abbrev pub calls_at : Phase → List Call
calls_at (sending m) = call.Publish m ∷ []
calls_at (both m) = call.Publish m ∷ call.Flush ∷ []
calls_at flush_waits = call.Flush ∷ []
calls_at phase = []

abbrev pub publish_text : OutboundMessage → List ℕ
publish_text m = command_text (client.Publish m.subject m.payload m.reply m.headers)

-- what waits to be written
abbrev pub unwritten_at : Phase → List ℕ
unwritten_at (sending m) = publish_text m
unwritten_at (both m) = publish_text m
unwritten_at phase = []

-- the one ticket is of a flush, handled or not, that awaits so many bytes
abbrev pub one_flush : ℕ → List Waits → List Awaits → Tickets
one_flush handled queued flushing = record {
  given = 1;
  handled = handled;
  of_request = false ∷ [];
  queued = queued;
  flushing = flushing;
  asking = [];
}

abbrev pub tickets_at : Phase → List ℕ → Tickets
tickets_at (sending m) waiting = no_tickets
tickets_at sent waiting = no_tickets
tickets_at (both m) waiting = one_flush 0 (waits.Flush ∷ []) []
tickets_at flush_waits waiting = one_flush 0 (waits.Flush ∷ []) []
tickets_at flush_awaits waiting = one_flush 1 [] (record { ticket = 1; ahead = length waiting } ∷ [])
tickets_at flush_done waiting = one_flush 1 [] []

abbrev pub ready_at : Phase → List (ℕ × CallReply)
ready_at flush_done = (1, replies.Flushed) ∷ []
ready_at phase = []

abbrev pub at_phase : Phase → Bool → List ℕ → List ℕ → Kept
at_phase phase up unread waiting = record {
  up = up;
  calls = calls_at phase;
  subs = no_subs;
  tickets = tickets_at phase waiting;
  ready = ready_at phase;
  unread = unread;
  waiting = waiting;
}

-- the flush was accepted
abbrev pub HasFlush : Phase → Type 0
HasFlush (sending m) = ⊥
HasFlush sent = ⊥
HasFlush phase = Unit {0}

-- what is so of the bytes that wait
abbrev pub FitsPhase : Phase → List ℕ → Type 0
FitsPhase flush_awaits waiting = 0 < length waiting
FitsPhase flush_done waiting = waiting ≡ []
FitsPhase phase waiting = Unit {0}

-- no step is due; while the link is up, what it took, what waits and what waits to be written are this text;
-- once it is over, no flush is done
pub record Sends (text took : List ℕ) (phase : Phase) (seen : Seen) : Type 0 where
  pub settled : due seen.parts ≡ None
  pub ups : seen.parts.link.is_up ≡ true → (mux : List ℕ) × (noise : Noise) × (unread : List ℕ) × (waiting : List ℕ)
      × (seen ≡ state mux noise (at_phase phase true unread waiting)) × FitsPhase phase waiting
      × (took ++ (waiting ++ unwritten_at phase) ≡ text)
  pub downs : seen.parts.link.is_up ≡ false → reply_in 1 seen.ready ≡ Some replies.Flushed → ⊥

-- the same in some phase of the flush
abbrev pub Flushes : List ℕ → List ℕ → Seen → Type 0
Flushes text took seen = (phase : Phase) × HasFlush phase × Sends text took phase seen

-- what a flush comes to: the link took all of the text behind what it had taken; or it was over before, or failed
abbrev pub FlushEnds : Bool → List ℕ → Result (Unit {0}) LiveError → WriteTold → Type 0
FlushEnds up all (Ok done) w = Took all w
FlushEnds up all (Err refused.LinkEnded) w = (up ≡ false) ⊎ (1 ≤ w.faults)
FlushEnds up all (Err refused.NoMemory) w = Unit {0}
FlushEnds up all (Err (refused.Connect e)) w = ⊥
FlushEnds up all (Err (refused.Publish e)) w = ⊥
FlushEnds up all (Err (refused.Subscribe e)) w = ⊥

-- ---- a subscription

-- the one subscription asks for this subject, has no limit, and these messages wait; it is open, or waits to be
-- subscribed
abbrev pub one_sub : Bool → List ℕ → ℕ → List Message → Sub
one_sub opened subject puts waiting = record {
  interest = Some (record { subject = subject; queue_group = None });
  stage = if opened then stages.Open else stages.Asked;
  is_shut = false;
  is_gone = false;
  is_draining = false;
  limit = None;
  puts = puts;
  waiting = waiting;
}

abbrev pub receiving : Bool → Bool → List ℕ → ℕ → List Message → List ℕ → List ℕ → Kept
receiving up opened subject puts messages unread waiting = record {
  up = up;
  calls = if opened then [] else call.Subscribe subject None ∷ [];
  subs = record { given = 1; subscribed = if opened then 1 else 0; rows = one_sub opened subject puts messages ∷ [] };
  tickets = no_tickets;
  ready = [];
  unread = unread;
  waiting = waiting;
}

abbrev pub sub_text : List ℕ → List ℕ
sub_text subject = command_text (client.Subscribe 1 subject None)

-- the text of a session that subscribed once it had read some operations, and read more since
abbrev pub subscribed_text : List ℕ → List Operation → List Operation → List ℕ
subscribed_text subject first since = pongs first ++ sub_text subject ++ pongs since

-- what waits to be written of it
abbrev pub unasked : Bool → List ℕ → List ℕ
unasked true subject = []
unasked false subject = sub_text subject

-- the link gave these bytes, whose operations are the first ones, read before the subscribe, and those since;
-- of the messages of subscription 1 since then so many were taken, and the others wait; it took these bytes of
-- the session's text
pub record Receives (subject joined : List ℕ) (first since : List Operation) (took : List ℕ) (taken : ℕ)
    (seen : Seen) : Type 0 where
  pub mux : List ℕ
  pub noise : Noise
  pub up : Bool
  pub opened : Bool
  pub puts : ℕ
  pub unread : List ℕ
  pub waiting : List ℕ
  pub is : seen ≡ state mux noise (receiving up opened subject puts (drop taken (messages 1 since)) unread waiting)
  pub settled : due seen.parts ≡ None
  pub all : operations joined ≡ first ++ since
  pub fits : taken ≤ length (messages 1 since)
  pub fresh : opened ≡ false → since ≡ []
  pub ups : up ≡ true → GoesOn joined (first ++ since) unread
      × (took ++ (waiting ++ unasked opened subject) ≡ subscribed_text subject first since)
  pub left : List ℕ
  pub text : took ++ left ≡ subscribed_text subject first since

-- ---- calls

-- what comes of publishing on a session that has begun: the publish is written behind the PONGs, unless the
-- link is over, and a flush awaits all of it; or the subject or the payload is refused
abbrev pub published_text : List ℕ → List ℕ → List ℕ → List ℕ
published_text joined subject payload =
    pongs (operations joined) ++ command_text (client.Publish subject payload None None)

abbrev pub Accepts : ℕ → List ℕ → List ℕ → List ℕ → Result ℕ LiveError → Seen → Seen → Type 0
Accepts limit joined subject payload (Ok ticket) old new = (ticket ≡ 1)
    × Flushes (published_text joined subject payload) [] new × (new.parts.link.is_up ≡ old.parts.link.is_up)
Accepts limit joined subject payload (Err (refused.Publish (publishing.InvalidSubject, source))) old new =
    (source ≡ Some cause.Format) × (is_publishable subject ≡ false)
Accepts limit joined subject payload
    (Err (refused.Publish (publishing.MaxPayloadExceeded, Some (cause.Payload most size)))) old new =
    (most ≡ limit) × (size ≡ length payload) × (limit < size)
Accepts limit joined subject payload (Err (refused.Publish e)) old new = ⊥
Accepts limit joined subject payload (Err (refused.Subscribe e)) old new = ⊥
Accepts limit joined subject payload (Err (refused.Connect e)) old new = ⊥
Accepts limit joined subject payload (Err refused.LinkEnded) old new = ⊥
Accepts limit joined subject payload (Err refused.NoMemory) old new = Unit {0}

-- what the reply to a publish comes to, and to a flush
abbrev pub publish_answer : StepReply → Result (Unit {0}) LiveError
publish_answer (answers.Call replies.Accepted) = Ok tt
publish_answer (answers.Call replies.InvalidSubject) =
    Err (refused.Publish (publishing.InvalidSubject, Some cause.Format))
publish_answer (answers.Call (replies.MaxPayloadExceeded limit size)) =
    Err (refused.Publish (publishing.MaxPayloadExceeded, Some (cause.Payload limit size)))
publish_answer reply = Err (refused.Publish (publishing.Send, Some cause.Closed))

abbrev pub ticket_of : StepReply → Result ℕ LiveError
ticket_of (answers.Call (replies.Numbered ticket)) = Ok ticket
ticket_of reply = Err (refused.Publish (publishing.Send, Some cause.Closed))

-- whether a ticket's reply is there, which is then handed out; one that isn't never comes once no link is up
abbrev pub IsSettled : ℕ → Logged → Option (Result (Unit {0}) LiveError) → Logged → Type 0
IsSettled ticket old (Some (Ok done)) new = reply_in ticket old.session.ready ≡ Some replies.Flushed
IsSettled ticket old (Some (Err e)) new = (e ≡ refused.LinkEnded)
    × (((reply_in ticket old.session.ready ≡ Some replies.Flushed) → ⊥)
    × ((reply_in ticket old.session.ready ≡ None) → (parts_in old).link.is_up ≡ false))
IsSettled ticket old None new = (reply_in ticket old.session.ready ≡ None) × ((parts_in old).link.is_up ≡ true)
    × (new ≡ with_session (record old.session { ready = without ticket old.session.ready }) old)

-- what comes of publishing on a session that has begun, on a link that took some text before
abbrev pub Publishes : ℕ → List ℕ → List ℕ → List ℕ → List ℕ → Result (Unit {0}) LiveError → Seen → WriteTold → Type 0
Publishes limit joined head subject payload (Ok done) old w = Took (head ++ published_text joined subject payload) w
Publishes limit joined head subject payload (Err (refused.Publish (publishing.InvalidSubject, source))) old w =
    (source ≡ Some cause.Format) × (is_publishable subject ≡ false)
Publishes limit joined head subject payload
    (Err (refused.Publish (publishing.MaxPayloadExceeded, Some (cause.Payload most size)))) old w =
    (most ≡ limit) × (size ≡ length payload) × (limit < size)
Publishes limit joined head subject payload (Err (refused.Publish e)) old w = ⊥
Publishes limit joined head subject payload (Err (refused.Subscribe e)) old w = ⊥
Publishes limit joined head subject payload (Err (refused.Connect e)) old w = ⊥
Publishes limit joined head subject payload (Err refused.LinkEnded) old w =
    (old.parts.link.is_up ≡ false) ⊎ (1 ≤ w.faults)
Publishes limit joined head subject payload (Err refused.NoMemory) old w = Unit {0}

-- what comes of subscribing on one: its subscription is open, unless the link is over; or the subject is refused
abbrev pub Subscribes : List ℕ → List ℕ → Result (Unit {0}) LiveError → Seen → Seen → Type 0
Subscribes joined subject (Ok done) old new = (new.parts.link.is_up ≡ old.parts.link.is_up)
    × (old.parts.link.is_up ≡ true → Receives subject joined (operations joined) [] [] 0 new)
Subscribes joined subject (Err (refused.Subscribe (subscribing.InvalidSubject, source))) old new =
    (source ≡ Some cause.Format) × (is_valid subject ≡ false)
Subscribes joined subject (Err (refused.Subscribe e)) old new = ⊥
Subscribes joined subject (Err (refused.Publish e)) old new = ⊥
Subscribes joined subject (Err (refused.Connect e)) old new = ⊥
Subscribes joined subject (Err refused.LinkEnded) old new = ⊥
Subscribes joined subject (Err refused.NoMemory) old new = Unit {0}

-- ---- what came of receiving

-- a half gave more pieces, which are these bytes
pub record GaveLater (bytes : List ℕ) (before after : ReadTold) : Type 0 where
  pub later : List (List ℕ)
  pub pieces : after.pieces ≡ option_map (λ (ps : List (List ℕ)). ps ++ later) before.pieces
  pub joined : concat later ≡ bytes

-- a half or the link's end broke it off, or what it gave ends in what is no operation
abbrev pub IsOver : List ℕ → ReadTold → WriteTold → Type 0
IsOver joined r w = (1 ≤ r.faults + w.faults) ⊎ ((1 ≤ r.ends) ⊎ (ends_in_fault joined ≡ true))

-- how far receiving is, on a link that gave some bytes and took some text before: it gave more bytes, and took
-- more text
pub record IsReceiving (subject joined : List ℕ) (first : List Operation) (taken : ℕ) (head : List ℕ) (seen : Seen)
    (r0 r : ReadTold) (w : WriteTold) : Type 0 where
  pub bytes : List ℕ
  pub since : List Operation
  pub took : List ℕ
  pub gave : GaveLater bytes r0 r
  pub receives : Receives subject (joined ++ bytes) first since took taken seen
  pub wrote : Took (head ++ took) w
  -- once anything was read the text of the subscribe was taken
  pub asked : (since ≡ []) ⊎ ((answered : List ℕ) × (took ≡ subscribed_text subject first [] ++ answered))
  pub over : seen.parts.link.is_up ≡ false → IsOver (joined ++ bytes) r w

-- n messages were printed, the first of subscription 1 since it subscribed; or fewer came, and the link is over
abbrev pub ReceiveEnds : List ℕ → List ℕ → List Operation → ℕ → List ℕ → Result (Vec ℕ) LiveError → Seen → ReadTold
    → ReadTold
    → WriteTold → Type 0
ReceiveEnds subject joined first n head (Ok text) seen r0 r w =
    (far : IsReceiving subject joined first n head seen r0 r w)
    × (text.items ≡ flat_map message_line (take n (messages 1 far.since)))
ReceiveEnds subject joined first n head (Err refused.LinkEnded) seen r0 r w = (taken : ℕ)
    × (far : IsReceiving subject joined first taken head seen r0 r w)
    × (taken ≡ length (messages 1 far.since)) × (taken < n) × (seen.parts.link.is_up ≡ false)
ReceiveEnds subject joined first n head (Err refused.NoMemory) seen r0 r w = Unit {0}
ReceiveEnds subject joined first n head (Err (refused.Connect e)) seen r0 r w = ⊥
ReceiveEnds subject joined first n head (Err (refused.Publish e)) seen r0 r w = ⊥
ReceiveEnds subject joined first n head (Err (refused.Subscribe e)) seen r0 r w = ⊥

-- ---- the rounds of receiving

-- what the reply to a subscribe comes to
abbrev pub subscribe_answer : StepReply → Result (Unit {0}) LiveError
subscribe_answer (answers.Call (replies.Numbered number)) = Ok tt
subscribe_answer (answers.Call replies.InvalidSubject) =
    Err (refused.Subscribe (subscribing.InvalidSubject, Some cause.Format))
subscribe_answer reply = Err (refused.Subscribe (subscribing.Other, Some cause.Closed))

-- the message of a reply to a take, where one waited
abbrev pub message_in : StepReply → Option Message
message_in (answers.Take (takes.Message m)) = Some m
message_in reply = None

-- the oldest message that waits was taken; none where none does; whether the link is up stays
abbrev pub TakesOne : List ℕ → List ℕ → List Operation → List Operation → List ℕ → ℕ → Bool
    → Result (Option Message) LiveError → Seen
    → Type 0
TakesOne subject joined first since took taken up (Ok (Some m)) new = (new.parts.link.is_up ≡ up)
    × Receives subject joined first since took (taken + 1) new
    × (take 1 (drop taken (messages 1 since)) ≡ m ∷ [])
TakesOne subject joined first since took taken up (Ok None) new = (new.parts.link.is_up ≡ up)
    × Receives subject joined first since took taken new × (taken ≡ length (messages 1 since))
TakesOne subject joined first since took taken up (Err e) new = e ≡ refused.NoMemory

-- messages that waited were taken and printed, until no more are wanted or none waits
abbrev pub TakesAll : List ℕ → List ℕ → List Operation → List Operation → List ℕ → ℕ → Bool → ℕ → List ℕ
    → Result ℕ LiveError → Seen
    → List ℕ → Type 0
TakesAll subject joined first since took taken up wanted before (Ok left) new after = (left ≤ wanted)
    × (new.parts.link.is_up ≡ up)
    × Receives subject joined first since took (taken + (wanted - left)) new
    × (after ≡ before ++ flat_map message_line (take (wanted - left) (drop taken (messages 1 since))))
    × ((left ≡ 0) ⊎ (taken + (wanted - left) ≡ length (messages 1 since)))
TakesAll subject joined first since took taken up wanted before (Err e) new after = e ≡ refused.NoMemory

-- all that waited was written, or the link is over, and was before, or failed
abbrev pub IsWritten : List ℕ → List ℕ → List Operation → List Operation → List ℕ → ℕ → List ℕ → Bool
    → Result (Unit {0}) NoMemory
    → Seen → WriteTold → WriteTold → Type 0
IsWritten subject joined first since had taken head was (Ok done) new before after = (more : List ℕ)
    × Receives subject joined first since (had ++ more) taken new × Took (head ++ (had ++ more)) after
    × (before.faults ≤ after.faults)
    × (new.parts.link.is_up ≡ true → had ++ more ≡ subscribed_text subject first since)
    × (new.parts.link.is_up ≡ false → (was ≡ false) ⊎ (1 ≤ after.faults))
IsWritten subject joined first since had taken head was (Err e) new before after = Unit {0}

-- what comes of receiving on a session that has begun, on a link that took some text before
abbrev pub ReceivesAll : List ℕ → List ℕ → List ℕ → ℕ → Result (Vec ℕ) LiveError → Seen → ReadTold → ReadTold
    → WriteTold → Type 0
ReceivesAll joined head subject n (Ok text) seen r0 r w =
    ReceiveEnds subject joined (operations joined) n head (Ok text) seen r0 r w
ReceivesAll joined head subject n (Err (refused.Subscribe (subscribing.InvalidSubject, source))) seen r0 r w =
    (source ≡ Some cause.Format) × (is_valid subject ≡ false)
ReceivesAll joined head subject n (Err (refused.Subscribe e)) seen r0 r w = ⊥
ReceivesAll joined head subject n (Err (refused.Publish e)) seen r0 r w = ⊥
ReceivesAll joined head subject n (Err (refused.Connect e)) seen r0 r w = ⊥
ReceivesAll joined head subject n (Err refused.LinkEnded) seen r0 r w = ((r ≡ r0) × (ends_in_fault joined ≡ true))
    ⊎ ReceiveEnds subject joined (operations joined) n head (Err refused.LinkEnded) seen r0 r w
ReceivesAll joined head subject n (Err refused.NoMemory) seen r0 r w = Unit {0}

-- ---- a session from its beginning to its end, seen by the link alone

abbrev pub PublishedOver : ℕ → List ℕ → List ℕ → List ℕ → List ℕ → Result (Unit {0}) LiveError → WriteTold → Type 0
PublishedOver limit joined head subject payload (Ok done) w = Took (head ++ published_text joined subject payload) w
PublishedOver limit joined head subject payload (Err (refused.Publish (publishing.InvalidSubject, source))) w =
    (source ≡ Some cause.Format) × (is_publishable subject ≡ false)
PublishedOver limit joined head subject payload
    (Err (refused.Publish (publishing.MaxPayloadExceeded, Some (cause.Payload most size)))) w =
    (most ≡ limit) × (size ≡ length payload) × (limit < size)
PublishedOver limit joined head subject payload (Err (refused.Publish e)) w = ⊥
PublishedOver limit joined head subject payload (Err (refused.Subscribe e)) w = ⊥
PublishedOver limit joined head subject payload (Err (refused.Connect e)) w = ⊥
PublishedOver limit joined head subject payload (Err refused.LinkEnded) w =
    (ends_in_fault joined ≡ true) ⊎ (1 ≤ w.faults)
PublishedOver limit joined head subject payload (Err refused.NoMemory) w = Unit {0}

-- the link gave more bytes and took more text: so far receiving came
pub record CameSoFar (subject joined head : List ℕ) (r0 r : ReadTold) (w : WriteTold) : Type 0 where
  pub bytes : List ℕ
  pub since : List Operation
  pub took : List ℕ
  pub left : List ℕ
  pub gave : GaveLater bytes r0 r
  pub all : operations (joined ++ bytes) ≡ operations joined ++ since
  pub text : took ++ left ≡ subscribed_text subject (operations joined) since
  pub wrote : Took (head ++ took) w

abbrev pub ReceivedOver : List ℕ → List ℕ → List ℕ → ℕ → Result (Vec ℕ) LiveError → ReadTold → ReadTold → WriteTold
    → Type 0
ReceivedOver joined head subject n (Ok text) r0 r w = (far : CameSoFar subject joined head r0 r w)
    × (n ≤ length (messages 1 far.since)) × (text.items ≡ flat_map message_line (take n (messages 1 far.since)))
    × ((answered : List ℕ) × (far.took ≡ subscribed_text subject (operations joined) [] ++ answered))
ReceivedOver joined head subject n (Err (refused.Subscribe (subscribing.InvalidSubject, source))) r0 r w =
    (source ≡ Some cause.Format) × (is_valid subject ≡ false)
ReceivedOver joined head subject n (Err (refused.Subscribe e)) r0 r w = ⊥
ReceivedOver joined head subject n (Err (refused.Publish e)) r0 r w = ⊥
ReceivedOver joined head subject n (Err (refused.Connect e)) r0 r w = ⊥
ReceivedOver joined head subject n (Err refused.LinkEnded) r0 r w = ((r ≡ r0) × (ends_in_fault joined ≡ true))
    ⊎ ((far : CameSoFar subject joined head r0 r w) × (length (messages 1 far.since) < n)
    × IsOver (joined ++ far.bytes) r w)
ReceivedOver joined head subject n (Err refused.NoMemory) r0 r w = Unit {0}
