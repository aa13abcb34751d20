-- What each turn of a session makes happen: validity, own steps, due steps, replies.
use Rattle.std.specs.Prelude.{ℕ, zero, suc, ◌+◌, ◌-◌, ◌^◌, Bool, true, false, not, ◌&&◌, ◌||◌, nat_lt, nat_le, min, List, [], ◌∷◌, ◌++◌, length, Option, Some, None, if◌then◌else◌}
use Rattle.nats_names.specs.Names.{is_nonempty, is_publishable, is_valid}
use Rattle.nats_message.specs.declared.message.Message.{Message}
use Rattle.nats_lines.specs.Operations.{Operation, pong_op, Front, unfinished, got, fault, front, length_or_0}
use Rattle.nats_commands.specs.Commands.{sent_block}
use Rattle.nats_history.specs.declared.config.Config.{Config}
use Rattle.nats_history.specs.declared.call.Call.{Call}
use Rattle.nats_history.specs.declared.call.Call.TheVariants.{Reconnect}
use Rattle.nats_history.specs.declared.call.CallReply.{CallReply}
use Rattle.nats_history.specs.declared.call.CallReply.TheVariants.{Accepted, Numbered, InvalidSubject, InvalidQueueName, MaxPayloadExceeded, Closed, NoNumber, Full}
use Rattle.nats_history.specs.declared.call.Interest.{Interest}
use Rattle.nats_history.specs.declared.call.TakeReply.{TakeReply}
use Rattle.nats_history.specs.declared.call.TakeReply.TheVariants as takes
use Rattle.nats_history.specs.declared.ping.Ping.{Ping}
use Rattle.nats_history.specs.declared.ping.Ping.TheVariants as pinged
use Rattle.nats_history.specs.declared.turn.Turn.{Turn}
use Rattle.nats_history.specs.declared.turn.Turn.TheVariants.{Up, Piece, Write, Tick, Lost, GiveUp, Hangup, Do, Take, Deadline}
use Rattle.nats_history.specs.declared.transcript.LinkWord.{LinkWord}
use Rattle.nats_history.specs.declared.transcript.LinkWord.TheVariants as word
use Rattle.nats_history.specs.Queue.{first}
use Rattle.nats_history.specs.Sent.{ReplyAt, at_subject, at_inbox, Sending, sent}
use Rattle.nats_tables.specs.Numbers.{item_of}
use Rattle.nats_history.specs.History.{Step, opened, fed, read, ticked, taken, accepted, handled, took, gone, passed, link_end, closed, History, ticks, asks, subscribes, takes_ticket, names, lets_go, Sub, is_ended}
use Rattle.nats_history.specs.Tickets.{is_unsettled}
use Rattle.nats_history.specs.Parts.{Parts, parts_of}

-- ---- replies

-- the client is full: as many accepted calls wait as its capacity
abbrev pub is_full : Parts → Bool
is_full p = nat_le p.config.client_capacity (length p.calls)

-- a subject that may be published to: nonempty, and publishable unless the settings skip that
abbrev pub may_publish_to : Config → List ℕ → Bool
may_publish_to c subject = is_nonempty subject && (c.skip_subject_validation || is_publishable subject)

-- what may be left out passes a test
abbrev pub passes : (List ℕ → Bool) → Option (List ℕ) → Bool
passes test None = true
passes test (Some text) = test text

-- a reply may be asked to go there; those to the inbox go to subjects that begin with a prefix which is publishable,
-- whatever the settings skip
abbrev pub may_reply_at : Config → ReplyAt → Bool
may_reply_at c (at_subject reply) = passes (may_publish_to c) reply
may_reply_at c (at_inbox token) = is_publishable c.inbox_prefix

abbrev pub may_send : Config → Option Sending → Bool
may_send c None = true
may_send c (Some m) = may_publish_to c m.subject && may_reply_at c m.reply

-- a test, and what is asked for is valid, if something is
abbrev pub asks_validly : Bool → Option Interest → Bool
asks_validly rest None = rest
asks_validly rest (Some asked) = rest && is_valid asked.subject

-- the subjects of a call may stand there: those of a message that it sends, and that which it subscribes to
abbrev pub has_subjects : Config → Call → Bool
has_subjects c call = asks_validly (may_send c (sent call)) (asks call)

abbrev pub group_passes : Option Interest → Bool
group_passes None = true
group_passes (Some asked) = passes is_publishable asked.queue_group

-- its queue group may stand there
abbrev pub has_group : Call → Bool
has_group call = group_passes (asks call)

abbrev pub size_with : Option Sending → ℕ
size_with None = 0
size_with (Some m) = length_or_0 (sent_block m.headers) + length m.payload

-- its size in bytes: the payload, and the header block where one is sent
abbrev pub size_of : Call → ℕ
size_of call = size_with (sent call)

-- it would be given a number or a ticket and none is left
abbrev pub has_no_number : Parts → Call → Bool
has_no_number p call =
    (subscribes call && nat_le (2 ^ 64 - 1) p.subs.given) || (takes_ticket call && nat_le (2 ^ 64 - 1) p.tickets.given)

-- no further call is accepted: the session closed, or a drain of the whole session was accepted
abbrev pub takes_no_call : Parts → Bool
takes_no_call p = p.is_closed || p.drain.is_accepted

-- the reply by which a call is refused, by the first of these that holds, or none
abbrev pub refusal : Parts → Call → Option CallReply
refusal p call =
    if not (has_subjects p.config call) then Some InvalidSubject else
    (if not (has_group call) then Some InvalidQueueName else
    (if nat_lt p.link.max_payload (size_of call) then Some (MaxPayloadExceeded p.link.max_payload (size_of call)) else
    (if takes_no_call p then Some Closed else
    (if has_no_number p call then Some NoNumber else
    (if is_full p then Some Full else None)))))

-- the reply of a call that is accepted
abbrev pub accepted_reply : Parts → Call → CallReply
accepted_reply p call =
    if subscribes call then Numbered (suc p.subs.given)
    else (if takes_ticket call then Numbered (suc p.tickets.given) else Accepted)

abbrev pub reply_by : Option CallReply → CallReply → CallReply
reply_by None reply = reply
reply_by (Some refused) reply = refused

abbrev pub call_reply : Parts → Call → CallReply
call_reply p call = reply_by (refusal p call) (accepted_reply p call)

-- no further message will be put into its queue
abbrev pub is_closed_sub : Sub → Bool
is_closed_sub sub = sub.is_shut || is_ended sub.stage

abbrev pub oldest : Bool → List Message → TakeReply
oldest over [] = if over then takes.Ended else takes.Empty
oldest over (m ∷ more) = takes.Message m

abbrev pub sub_take : Sub → TakeReply
sub_take sub = oldest (is_closed_sub sub) sub.waiting

abbrev pub take_reply_of : Option Sub → TakeReply
take_reply_of None = takes.Ended
take_reply_of (Some sub) = sub_take sub

-- a take answers the oldest waiting message, or whether one may still come
abbrev pub take_reply : Parts → ℕ → TakeReply
take_reply p sid = take_reply_of (item_of sid p.subs.rows)

-- ---- turns

-- a subscription may be named: its number was given, and its user did not let it go
abbrev pub is_there : Option Sub → Bool
is_there None = false
is_there (Some sub) = not sub.is_gone

abbrev pub may_name : Parts → Option ℕ → Bool
may_name p None = true
may_name p (Some s) = is_there (item_of s p.subs.rows)

-- a ticket is of a request
abbrev pub is_of_request : Option Bool → Bool
is_of_request None = false
is_of_request (Some request) = request

-- a turn may come here
abbrev pub is_valid_turn : Parts → Turn → Bool
is_valid_turn p (Up info) = not p.link.is_up && not p.is_closed
is_valid_turn p (Piece bytes) = p.link.is_up
is_valid_turn p (Write n) = p.link.is_up
is_valid_turn p Tick = p.link.is_up
is_valid_turn p Lost = p.link.is_up
is_valid_turn p GiveUp = not p.link.is_up && not p.is_closed
is_valid_turn p Hangup = not p.is_closed
is_valid_turn p (Do call) = may_name p (names call)
is_valid_turn p (Take sid) = is_there (item_of sid p.subs.rows)
is_valid_turn p (Deadline ticket) = is_of_request (item_of ticket p.tickets.of_request)

-- a link's end that closes the session: the user hung up, or a drain of the whole session was handled
abbrev pub closes : Bool → LinkWord → Bool
closes drained word.Hangup = true
closes drained end = drained

abbrev pub closing : Bool → List Step
closing false = []
closing true = closed ∷ []

-- a link's end with what follows it at once
abbrev pub ending : Bool → Option LinkWord → List Step
ending drained None = []
ending drained (Some end) = link_end end ∷ closing (closes drained end)

-- the word by which the link ends as a call is handled, if it does
abbrev pub ends_link : Call → Option LinkWord
ends_link Reconnect = Some word.Reconnect
ends_link call = None

-- the word by which the link ends as a PONG answers this PING, if it does
abbrev pub pong_end : Option Ping → Option LinkWord
pong_end None = None
pong_end (Some pinged.DrainAll) = Some word.Drained
pong_end (Some ping) = None

-- the word by which the link ends as an operation is read, if it does
abbrev pub read_end : List Ping → Operation → Option LinkWord
read_end pings pong_op = pong_end (first pings)
read_end pings operation = None

-- the word by which the link ends at once after a step, if it does
abbrev pub end_after : Parts → Step → Option LinkWord
end_after p (handled call) = ends_link call
end_after p (read operation) = read_end p.link.pings operation
end_after p step = None

-- what follows a step at once, where these are the parts before it
abbrev pub followers : Parts → Step → List Step
followers p (link_end end) = closing (closes p.drain.is_handled end)
followers p step = ending p.drain.is_handled (end_after p step)

-- a step with what follows it at once
abbrev pub chain : Parts → Step → List Step
chain p step = step ∷ followers p step

abbrev pub accepted_step : Option CallReply → Call → List Step
accepted_step None call = accepted call ∷ []
accepted_step (Some refused) call = []

abbrev pub took_step : ℕ → TakeReply → List Step
took_step sid (takes.Message m) = took sid ∷ []
took_step sid takes.Empty = []
took_step sid takes.Ended = []

-- its user lets a subscription go
abbrev pub gone_step : Option ℕ → List Step
gone_step None = []
gone_step (Some s) = gone s ∷ []

-- the steps of a call: it is accepted or not, and whatever the reply its user lets a subscription go
abbrev pub call_steps : Parts → Call → List Step
call_steps p call = accepted_step (refusal p call) call ++ gone_step (lets_go call)

-- a tick ends the link where so many before it have no answer
abbrev pub tick_limit : ℕ
tick_limit = 2

-- what a turn itself makes happen
abbrev pub own_steps : Parts → Turn → List Step
own_steps p (Up info) = chain p (opened info)
own_steps p (Piece bytes) = chain p (fed bytes)
own_steps p (Write n) = chain p (taken (min n (length p.link.wire.waiting)))
own_steps p Tick = if nat_le tick_limit (ticks p.link.pings) then chain p (link_end word.Ticks) else chain p ticked
own_steps p Lost = chain p (link_end word.Lost)
own_steps p GiveUp = chain p closed
own_steps p Hangup = if p.link.is_up then chain p (link_end word.Hangup) else chain p closed
own_steps p (Do call) = call_steps p call
own_steps p (Take sid) = took_step sid (take_reply p sid)
own_steps p (Deadline ticket) = if is_unsettled ticket p.tickets then chain p (passed ticket) else []

-- ---- due steps

-- a call is due while fewer bytes wait than this
abbrev pub write_limit : ℕ
write_limit = 65535

abbrev pub due_call : Bool → List Call → Option Step
due_call true (call ∷ more) = Some (handled call)
due_call true [] = None
due_call false calls = None

-- reading comes first: the operation at the front of the unread bytes, or the link's end at a fault; then the oldest
-- waiting call
abbrev pub due_by : Front → Parts → Option Step
due_by (got operation n) p = Some (read operation)
due_by (fault n) p = Some (link_end word.Fault)
due_by unfinished p = due_call (nat_lt (length p.link.wire.waiting) write_limit) p.calls

-- the step that is due, while a link is up
abbrev pub due : Parts → Option Step
due p = if p.link.is_up then due_by (front p.link.wire.unread) p else None

-- that step with what follows it at once, if there is one
abbrev pub due_chain : Parts → Option Step → List Step
due_chain p None = []
due_chain p (Some step) = chain p step

abbrev pub put_steps : ℕ → List Step → History → History
put_steps place [] h = h
put_steps place (step ∷ steps) h = put_steps place steps ((place, step) ∷ h)

-- each due step takes an operation or a call away, or ends the link
abbrev pub most_due : Parts → ℕ
most_due p = length p.link.wire.unread + length p.calls

abbrev pub settled_within : Config → ℕ → ℕ → Option Step → History → History
settled_within c place most None h = h
settled_within c place zero (Some step) h = h
settled_within c place (suc most) (Some step) h =
    let more = put_steps place (chain (parts_of c h) step) h in
    settled_within c place most (due (parts_of c more)) more

-- the history with all steps that are due, one after another, each chosen from the history so far, until none is
abbrev pub settled : Config → ℕ → History → History
settled c place h = settled_within c place (most_due (parts_of c h)) (due (parts_of c h)) h

-- ---- a whole list

-- the history after one more turn: its own steps, then those that are due
abbrev pub after_turn : Config → ℕ → Turn → History → History
after_turn c place turn h = settled c place (put_steps place (own_steps (parts_of c h) turn) h)

-- the history after all turns, the first of them at this place
abbrev pub steps_from : Config → ℕ → List Turn → History → History
steps_from c place [] h = h
steps_from c place (turn ∷ turns) h = steps_from c (suc place) turns (after_turn c place turn h)

-- all that a list of turns makes happen
abbrev pub steps : Config → List Turn → History
steps c turns = steps_from c 1 turns []

-- the place of the first turn that may not come where it stands
abbrev pub out_of_turn_from : Config → ℕ → List Turn → History → Option ℕ
out_of_turn_from c place [] h = None
out_of_turn_from c place (turn ∷ turns) h =
    if is_valid_turn (parts_of c h) turn then out_of_turn_from c (suc place) turns (after_turn c place turn h)
    else Some place

abbrev pub out_of_turn : Config → List Turn → Option ℕ
out_of_turn c turns = out_of_turn_from c 1 turns []
