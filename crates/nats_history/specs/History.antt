-- What happened to a session, and the words that tell of it.
use Rattle.std.specs.Prelude.{ℕ, zero, suc, ◌+◌, ◌-◌, ◌^◌, Bool, true, false, not, ◌&&◌, ◌||◌, ◌==◌, nat_lt, nat_le, min, List, [], ◌∷◌, ◌++◌, length, drop, map, Option, Some, None, is_some, if◌then◌else◌, codes}
use Rattle.nats_names.specs.declared.event.Event.{Event}
use Rattle.nats_names.specs.declared.event.Event.TheVariants.{Connected, Disconnected, LameDuckMode, Draining, Closed, SlowConsumer, ServerError}
use Rattle.nats_info.specs.declared.info.ServerInfo.{ServerInfo}
use Rattle.nats_message.specs.declared.message.Message.{Message}
use Rattle.nats_message.specs.declared.op.ClientOp.{ClientOp}
use Rattle.nats_message.specs.declared.op.ClientOp.TheVariants as client
use Rattle.nats_lines.specs.Operations.{Operation, message, info_op, error_op, ping_op, pong_op, Front, got, unfinished, fault, front, behind}
use Rattle.nats_commands.specs.Commands.{command_text}
use Rattle.nats_history.specs.declared.config.Config.{Config}
use Rattle.nats_history.specs.declared.call.Call.{Call}
use Rattle.nats_history.specs.declared.call.Call.TheVariants.{Subscribe, Unsubscribe, Limit, Drain, DrainAll, Flush, Request, DropSub}
use Rattle.nats_history.specs.declared.call.Interest.{Interest}
use Rattle.nats_history.specs.declared.ping.Ping.{Ping}
use Rattle.nats_history.specs.declared.ping.Ping.TheVariants as pinged
use Rattle.nats_history.specs.declared.stage.Stage.{Stage}
use Rattle.nats_history.specs.declared.stage.Stage.TheVariants.{Asked, Open, Ended}
use Rattle.nats_history.specs.declared.waits.Waits.{Waits}
use Rattle.nats_history.specs.declared.waits.Waits.TheVariants as waits
use Rattle.nats_history.specs.declared.transcript.LinkWord.{LinkWord}
use Rattle.nats_history.specs.declared.transcript.LinkWord.TheVariants as word
use Rattle.nats_history.specs.Queue.{first}
use Rattle.nats_history.specs.Sent.{ReplyAt, at_subject, at_inbox, Sending, sent, limits, is_request}
use Rattle.nats_tables.specs.Numbers.{About, nobody, everyone, only, is_about, named, item_of, count_from}
use Rattle.nats_tables.specs.Rows.{tidied}

-- what can happen
pub data Step : Type 0 where
  -- a link came up
  opened : ServerInfo → Step
  -- bytes joined the link's bytes
  fed : List ℕ → Step
  -- one operation was read
  read : Operation → Step
  -- a tick wrote a PING
  ticked : Step
  -- that many bytes of the link's text were taken
  taken : ℕ → Step
  -- a call was accepted
  accepted : Call → Step
  -- the oldest waiting call was handled
  handled : Call → Step
  -- the oldest waiting message of the subscription of that number was taken
  took : ℕ → Step
  -- the subscription of that number was let go by its user
  gone : ℕ → Step
  -- the deadline of the request of that ticket came before it settled
  passed : ℕ → Step
  -- the link ended
  link_end : LinkWord → Step
  -- the session closed
  closed : Step

-- a message is read
abbrev pub came : ℕ → Message → Step
came sid m = read (message sid m)

-- all that happened, newest first, each step with its place, the number of its turn from 1
abbrev pub History : Type 0
History = List (ℕ × Step)

-- counts that only grow stop here
abbrev pub cut : ℕ → ℕ
cut n = min n (2 ^ 64 - 1)

-- ---- links

abbrev pub links_after : Step → ℕ → ℕ
links_after (opened info) n = cut (suc n)
links_after step n = n

-- the number of the newest link, 0 before any
abbrev pub links : History → ℕ
links [] = 0
links ((place, step) ∷ h) = links_after step (links h)

abbrev pub up_after : Step → Bool → Bool
up_after (opened info) up = true
up_after (link_end end) up = false
up_after step up = up

-- a link is up: it came up and has not ended
abbrev pub is_up : History → Bool
is_up [] = false
is_up ((place, step) ∷ h) = up_after step (is_up h)

abbrev pub closed_after : Step → Bool → Bool
closed_after closed is_closed = true
closed_after step is_closed = is_closed

-- the session closed
abbrev pub is_closed : History → Bool
is_closed [] = false
is_closed ((place, step) ∷ h) = closed_after step (is_closed h)

-- the drain of the whole session
pub record WholeDrain : Type 0 where
  pub is_accepted : Bool
  pub is_handled : Bool

-- the limit after an INFO that is read tells one; 0 tells none
abbrev pub limit_told : ℕ → ℕ → ℕ
limit_told told limit = if told == 0 then limit else told

abbrev pub max_payload_after : Step → ℕ → ℕ
max_payload_after (opened info) n = info.max_payload
max_payload_after (read (info_op info)) n = limit_told info.max_payload n
max_payload_after step n = n

-- the limit of a payload's size with its header block, in bytes, before any link came up
abbrev pub default_max_payload : ℕ
default_max_payload = 1048576

-- and then that of the INFO by which the newest link came up, or of the last one read since that tells a limit
abbrev pub max_payload : History → ℕ
max_payload [] = default_max_payload
max_payload ((place, step) ∷ h) = max_payload_after step (max_payload h)

abbrev pub info_after : Step → Option ServerInfo → Option ServerInfo
info_after (opened info) last = Some info
info_after (read (info_op info)) last = Some info
info_after step last = last

-- what a server said of itself last, if one did
abbrev pub last_info : History → Option ServerInfo
last_info [] = None
last_info ((place, step) ∷ h) = info_after step (last_info h)

-- one more INFO was read, on whichever link
abbrev pub infos_after : Step → ℕ → ℕ
infos_after (read (info_op info)) n = cut (suc n)
infos_after step n = n

-- how many INFOs were read over all links; those by which links came up are not among them
abbrev pub infos : History → ℕ
infos [] = 0
infos ((place, step) ∷ h) = infos_after step (infos h)

-- one more operation was read, on whichever link
abbrev pub all_reads_after : Step → ℕ → ℕ
all_reads_after (read operation) n = cut (suc n)
all_reads_after step n = n

-- how many operations were read over all links
abbrev pub all_reads : History → ℕ
all_reads [] = 0
all_reads ((place, step) ∷ h) = all_reads_after step (all_reads h)

-- the bytes that joined the newest link, as one text
abbrev pub joined : History → List ℕ
joined [] = []
joined ((place, opened info) ∷ h) = []
joined ((place, fed bytes) ∷ h) = joined h ++ bytes
joined (e ∷ h) = joined h

abbrev pub is_got : Front → Bool
is_got (got operation n) = true
is_got unfinished = false
is_got (fault n) = false

-- how many operations of the newest link were read; what isn't there can't be
abbrev pub reads : History → ℕ
reads [] = 0
reads ((place, opened info) ∷ h) = 0
reads ((place, read operation) ∷ h) = if is_got (front (behind (reads h) (joined h))) then suc (reads h) else reads h
reads (e ∷ h) = reads h

-- the bytes of the link that is up behind the operations that were read
abbrev pub unread : History → List ℕ
unread h = if is_up h then behind (reads h) (joined h) else []

-- the PINGs after a call is handled: each drain writes one
abbrev pub pinged_after : Call → List Ping → List Ping
pinged_after (Drain s) pings = pings ++ pinged.Drain s ∷ []
pinged_after DrainAll pings = pings ++ pinged.DrainAll ∷ []
pinged_after call pings = pings

-- a PONG answers the oldest PING that none answered, and an unasked one does nothing
abbrev pub pings_after : Step → List Ping → List Ping
pings_after (opened info) pings = []
pings_after (link_end end) pings = []
pings_after ticked pings = pings ++ pinged.Tick ∷ []
pings_after (handled call) pings = pinged_after call pings
pings_after (read pong_op) pings = drop 1 pings
pings_after step pings = pings

abbrev pub tick_of : Ping → ℕ
tick_of pinged.Tick = 1
tick_of ping = 0

-- how many of them are of ticks
abbrev pub ticks : List Ping → ℕ
ticks [] = 0
ticks (ping ∷ more) = tick_of ping + ticks more

-- ---- calls

-- the accepted calls, oldest first; none after the session closed
abbrev pub calls : History → List Call
calls [] = []
calls ((place, accepted call) ∷ h) = calls h ++ call ∷ []
calls ((place, closed) ∷ h) = []
calls (e ∷ h) = calls h

-- how many of them were handled
abbrev pub handled_count : History → ℕ
handled_count [] = 0
handled_count ((place, handled call) ∷ h) = min (suc (handled_count h)) (length (calls h))
handled_count ((place, closed) ∷ h) = 0
handled_count (e ∷ h) = handled_count h

-- the calls that wait: the accepted ones less as many of the first as were handled
abbrev pub waiting_calls : History → List Call
waiting_calls h = drop (handled_count h) (calls h)

-- ---- numbers

-- what a call asks for, if it subscribes
abbrev pub asks : Call → Option Interest
asks (Subscribe subject group) = Some (record { subject = subject; queue_group = group })
asks call = None

-- a call that is given a subscription number when it is accepted, and whose handling opens that subscription
abbrev pub subscribes : Call → Bool
subscribes call = is_some (asks call)

-- the subscription that a call names
abbrev pub names : Call → Option ℕ
names (Unsubscribe s) = Some s
names (Limit s n) = Some s
names (Drain s) = Some s
names (DropSub s) = Some s
names call = None

-- the subscription that a call shuts once it is accepted
abbrev pub shuts : Call → Option ℕ
shuts (Unsubscribe s) = Some s
shuts call = None

-- a call whose handling drains the subscription that it names
abbrev pub drains : Call → Bool
drains (Drain s) = true
drains call = false

-- a call whose handling drains the session
abbrev pub drains_all : Call → Bool
drains_all DrainAll = true
drains_all call = false

-- what a call that is given a ticket when it is accepted waits as, if it is one
abbrev pub waits_as : Call → Option Waits
waits_as Flush = Some waits.Flush
waits_as (Request subject payload headers token) = Some waits.Request
waits_as call = None

-- a call that is given a ticket when it is accepted
abbrev pub takes_ticket : Call → Bool
takes_ticket call = is_some (waits_as call)

-- a call that asks for a reply under the inbox
abbrev pub requests : Call → Bool
requests call = is_request (sent call)

-- the subscription that the user of a call lets go, whatever the reply
abbrev pub lets_go : Call → Option ℕ
lets_go (DropSub s) = Some s
lets_go call = None

abbrev pub drain_after : Step → WholeDrain → WholeDrain
drain_after (accepted call) drain = record drain { is_accepted = drains_all call || drain.is_accepted }
drain_after (handled call) drain = record drain { is_handled = drains_all call || drain.is_handled }
drain_after step drain = drain

-- whether a drain of the whole session was accepted, and whether it was handled
abbrev pub whole_drain : History → WholeDrain
whole_drain [] = record { is_accepted = false; is_handled = false }
whole_drain ((place, step) ∷ h) = drain_after step (whole_drain h)

abbrev pub requested_after : Step → Bool → Bool
requested_after (handled call) requested = requests call || requested
requested_after step requested = requested

-- a request was handled, on whichever link
abbrev pub requested : History → Bool
requested [] = false
requested ((place, step) ∷ h) = requested_after step (requested h)

-- what a step's meaning hangs on
pub record At : Type 0 where
  -- how many subscription numbers were given
  pub given : ℕ
  -- how many subscribes were handled
  pub subscribed : ℕ
  -- the PINGs of the newest link that no PONG answered, oldest first; none once it ended
  pub pings : List Ping

-- the number after those that are subscribed, where it was given
abbrev pub next_number : ℕ → ℕ → Option ℕ
next_number given subscribed = if nat_lt subscribed given then Some (suc subscribed) else None

-- the number that the next handled subscribe is of: the first given one that is not subscribed yet
abbrev pub next_subscribed : At → Option ℕ
next_subscribed at = next_number at.given at.subscribed

abbrev pub given_after : Step → At → ℕ
given_after (accepted call) at = if subscribes call then suc at.given else at.given
given_after step at = at.given

abbrev pub subscribed_after : Step → At → ℕ
subscribed_after (handled call) at =
    if subscribes call && nat_lt at.subscribed at.given then suc at.subscribed else at.subscribed
subscribed_after step at = at.subscribed

abbrev pub at_after : Step → At → At
at_after step at = record {
  given = given_after step at;
  subscribed = subscribed_after step at;
  pings = pings_after step at.pings;
}

abbrev pub at_of : History → At
at_of [] = record { given = 0; subscribed = 0; pings = [] }
at_of ((place, step) ∷ h) = at_after step (at_of h)

-- how many numbers were given: the k-th accepted subscribe has number k
abbrev pub given : History → ℕ
given h = (at_of h).given

-- the PINGs of the newest link that no PONG answered
abbrev pub pings : History → List Ping
pings h = (at_of h).pings

-- the numbers that were given
abbrev pub numbers : History → List ℕ
numbers h = count_from 1 (given h)

-- whom a PONG drains: the subscription of whose drain the PING was that it answers, if it was one
abbrev pub drained_by : Option Ping → About
drained_by None = nobody
drained_by (Some (pinged.Drain s)) = only s
drained_by (Some ping) = nobody

-- whom a step is about: an accepted subscribe is of the number that it is given, a handled one of the next number
-- that was given; other calls and a message name their own; a PONG is about whom it drains; a new link, a link's
-- end and the close are about all
abbrev pub about_read : List Ping → Operation → About
about_read pings (message sid m) = only sid
about_read pings pong_op = drained_by (first pings)
about_read pings operation = nobody

abbrev pub about : At → Step → About
about at (opened info) = everyone
about at (accepted call) = if subscribes call then only (suc at.given) else named (shuts call)
about at (handled call) = if subscribes call then named (next_subscribed at) else named (names call)
about at (read operation) = about_read at.pings operation
about at (took sid) = only sid
about at (gone sid) = only sid
about at (link_end end) = everyone
about at closed = everyone
about at step = nobody

-- a number that was given
abbrev pub is_given : ℕ → At → Bool
is_given zero at = false
is_given (suc k) at = nat_lt k at.given

-- a step tells something of a subscription, once its number is given
abbrev pub concerns : ℕ → At → Step → Bool
concerns s at step = is_about s (about at step) && is_given s (at_after step at)

-- ---- one subscription

-- what a history tells of one subscription
pub record Told : Type 0 where
  -- what it asks for, once its subscribe was accepted
  pub interest : Option Interest
  pub stage : Stage
  -- no message is put any more
  pub is_shut : Bool
  -- no call may name it any more
  pub is_gone : Bool
  -- its drain was handled
  pub is_draining : Bool
  -- at how many puts it ends, where that was asked for
  pub limit : Option ℕ
  pub puts : List (ℕ × Message)
  pub drops : List (ℕ × Message)
  -- how many of the first puts wait no more: they were taken, or went with the subscription
  pub takes : ℕ

-- before anything happened to it
abbrev pub nothing_told : Told
nothing_told = record {
  interest = None;
  stage = Asked;
  is_shut = false;
  is_gone = false;
  is_draining = false;
  limit = None;
  puts = [];
  drops = [];
  takes = 0;
}

-- a subscription as it stands
pub record Sub : Type 0 where
  pub interest : Option Interest
  pub stage : Stage
  pub is_shut : Bool
  pub is_gone : Bool
  pub is_draining : Bool
  pub limit : Option ℕ
  -- how many messages were put, cut
  pub puts : ℕ
  -- its waiting messages, oldest first
  pub waiting : List Message

abbrev pub second : {A : Type 0} → ℕ × A → A
second pair = pair.1

-- its waiting messages are the puts without the first ones that wait no more
abbrev pub sub_of : Told → Sub
sub_of t = record {
  interest = t.interest;
  stage = t.stage;
  is_shut = t.is_shut;
  is_gone = t.is_gone;
  is_draining = t.is_draining;
  limit = t.limit;
  puts = cut (length t.puts);
  waiting = map second (drop t.takes t.puts);
}

abbrev pub is_open : Stage → Bool
is_open Open = true
is_open Asked = false
is_open Ended = false

abbrev pub is_ended : Stage → Bool
is_ended Ended = true
is_ended Asked = false
is_ended Open = false

-- there is room: fewer wait than the subscription capacity
abbrev pub has_room : Config → Sub → Bool
has_room c sub = nat_lt (length sub.waiting) c.subscription_capacity

-- messages are put or dropped: it is open and not shut
abbrev pub listens : Sub → Bool
listens sub = is_open sub.stage && not sub.is_shut

-- a message that comes for it is put where there is room
abbrev pub puts : Config → Sub → Bool
puts c sub = listens sub && has_room c sub

-- and else dropped
abbrev pub drops : Config → Sub → Bool
drops c sub = listens sub && not (has_room c sub)

-- so many puts reach a limit
abbrev pub reached : Option ℕ → ℕ → Bool
reached None n = false
reached (Some limit) n = nat_le limit n

-- a subscription opens when its subscribe is handled; at the close one that did not open yet waits no more for
-- that, and ends
abbrev pub opens : Step → Bool
opens (handled call) = subscribes call
opens closed = true
opens step = false

-- the calls whose handling ends the subscription that they name
abbrev pub call_ends : Call → Sub → Bool
call_ends (Unsubscribe s) sub = true
call_ends (DropSub s) sub = true
call_ends (Limit s n) sub = nat_le n sub.puts
call_ends call sub = false

-- the ways for an open subscription to end: such a call is handled, or a message comes while it is shut, or one is
-- put that reaches its limit, or a new link comes up while it is shut, or the PONG of its drain comes, or the link
-- ends while it is drained, or the session closes
abbrev pub ends : Config → Sub → Step → Bool
ends c sub (handled call) = call_ends call sub
ends c sub (read (message sid m)) = sub.is_shut || (has_room c sub && reached sub.limit (cut (suc sub.puts)))
ends c sub (opened info) = sub.is_shut
ends c sub (read pong_op) = true
ends c sub (link_end end) = sub.is_draining
ends c sub closed = true
ends c sub step = false

abbrev pub open_if : Bool → Stage → Stage
open_if false stage = stage
open_if true Asked = Open
open_if true Open = Open
open_if true Ended = Ended

abbrev pub end_if : Bool → Stage → Stage
end_if false stage = stage
end_if true Asked = Asked
end_if true Open = Ended
end_if true Ended = Ended

abbrev pub stage_after : Config → Step → Sub → Stage
stage_after c step sub = end_if (ends c sub step) (open_if (opens step) sub.stage)

abbrev pub shut_after : Step → Bool → Bool
shut_after (accepted call) shut = is_some (shuts call) || shut
shut_after (gone sid) shut = true
shut_after step shut = shut

abbrev pub gone_after : Step → Bool → Bool
gone_after (gone sid) is_gone = true
gone_after step is_gone = is_gone

abbrev pub draining_after : Step → Bool → Bool
draining_after (handled call) draining = drains call || draining
draining_after step draining = draining

abbrev pub interest_by : Option Interest → Option Interest → Option Interest
interest_by None interest = interest
interest_by (Some asked) interest = Some asked

-- what it asks for is what its subscribe did
abbrev pub interest_after : Step → Option Interest → Option Interest
interest_after (accepted call) interest = interest_by (asks call) interest
interest_after step interest = interest

abbrev pub newer_limit : Option ℕ → Option ℕ → Option ℕ
newer_limit None limit = limit
newer_limit (Some n) limit = Some n

abbrev pub limit_by : Call → Option ℕ → Option ℕ
limit_by call limit = newer_limit (limits call) limit

-- its limit is that of the last Limit that was handled
abbrev pub limit_after : Step → Option ℕ → Option ℕ
limit_after (handled call) limit = limit_by call limit
limit_after step limit = limit

abbrev pub puts_by : Config → ℕ → Sub → Step → List (ℕ × Message)
puts_by c place sub (read (message sid m)) = if puts c sub then (place, m) ∷ [] else []
puts_by c place sub step = []

abbrev pub drops_by : Config → ℕ → Sub → Step → List (ℕ × Message)
drops_by c place sub (read (message sid m)) = if drops c sub then (place, m) ∷ [] else []
drops_by c place sub step = []

-- a take is counted where a message waits; with the subscription all that wait go
abbrev pub takes_after : Told → Step → ℕ
takes_after t (took sid) = min (suc t.takes) (length t.puts)
takes_after t (gone sid) = length t.puts
takes_after t step = t.takes

abbrev pub told_after : Config → ℕ → Step → Told → Told
told_after c place step t = record {
  interest = interest_after step t.interest;
  stage = stage_after c step (sub_of t);
  is_shut = shut_after step t.is_shut;
  is_gone = gone_after step t.is_gone;
  is_draining = draining_after step t.is_draining;
  limit = limit_after step t.limit;
  puts = t.puts ++ puts_by c place (sub_of t) step;
  drops = t.drops ++ drops_by c place (sub_of t) step;
  takes = takes_after t step;
}

-- all that a history tells of the subscription of number s
abbrev pub told : Config → ℕ → History → Told
told c s [] = nothing_told
told c s ((place, step) ∷ h) = if concerns s (at_of h) step then told_after c place step (told c s h) else told c s h

-- nothing can change a subscription any more that is gone and ended
abbrev pub is_over : Sub → Bool
is_over sub = sub.is_gone && is_ended sub.stage

-- so all of these are told alike
abbrev pub forgotten : Sub
forgotten = record {
  interest = None;
  stage = Ended;
  is_shut = true;
  is_gone = true;
  is_draining = false;
  limit = None;
  puts = 0;
  waiting = [];
}

abbrev pub kept : Sub → Sub
kept sub = tidied is_over forgotten sub

-- the subscriptions by their numbers, as they stand
abbrev pub rows_of : Config → History → List Sub
rows_of c h = map (λ s. kept (sub_of (told c s h))) (numbers h)

-- ---- the link's text

abbrev pub subscribe_command : Option ℕ → List ℕ → Option (List ℕ) → List ClientOp
subscribe_command None subject group = []
subscribe_command (Some s) subject group = client.Subscribe s subject group ∷ []

abbrev pub unsubscribe_command : Bool → ℕ → Option ℕ → List ClientOp
unsubscribe_command true s max = client.Unsubscribe s max ∷ []
unsubscribe_command false s max = []

abbrev pub is_open_at : Option Sub → Bool
is_open_at None = false
is_open_at (Some sub) = is_open sub.stage

-- it is open and shut, so that a message that comes for it ends it
abbrev pub is_closing : Sub → Bool
is_closing sub = is_open sub.stage && sub.is_shut

abbrev pub is_closing_at : Option Sub → Bool
is_closing_at None = false
is_closing_at (Some sub) = is_closing sub

-- the commands that g gives of each subscription from a number on
abbrev pub commands_from : (ℕ → Sub → List ClientOp) → ℕ → List Sub → List ClientOp
commands_from g s [] = []
commands_from g s (sub ∷ more) = g s sub ++ commands_from g (suc s) more

-- the command that asks for no further messages of a subscription, where it is open
abbrev pub unsubscribed : ℕ → Sub → List ClientOp
unsubscribed s sub = unsubscribe_command (is_open sub.stage) s None

-- what the subjects of all replies to requests begin with: the inbox prefix and the mux id, with a dot behind each
abbrev pub inbox : Config → List ℕ
inbox c = c.inbox_prefix ++ codes "." ++ c.mux_id ++ codes "."

-- the subject of the reply to a request with a token
abbrev pub inbox_of : Config → List ℕ → List ℕ
inbox_of c token = inbox c ++ token

-- the command that asks for the replies to requests, under number 0
abbrev pub inbox_commands : Config → Bool → List ClientOp
inbox_commands c false = []
inbox_commands c true = client.Subscribe 0 (inbox c ++ codes "*") None ∷ []

-- the command that goes before a message, where a request was handled before or was not: that which asks for the
-- replies to requests goes before the first of them
abbrev pub inbox_before : Config → Bool → ReplyAt → List ClientOp
inbox_before c asked (at_subject reply) = []
inbox_before c asked (at_inbox token) = inbox_commands c (not asked)

-- the subject that the reply is asked to, if it is to one
abbrev pub reply_text : Config → ReplyAt → Option (List ℕ)
reply_text c (at_subject reply) = reply
reply_text c (at_inbox token) = Some (inbox_of c token)

-- the commands that send a message
abbrev pub send_commands : Config → Bool → Option Sending → List ClientOp
send_commands c asked None = []
send_commands c asked (Some m) =
    inbox_before c asked m.reply ++ client.Publish m.subject m.payload (reply_text c m.reply) m.headers ∷ []

-- the commands of a call that is handled, where a request was handled before or was not
abbrev pub call_commands : Config → Bool → At → List Sub → Call → List ClientOp
call_commands c asked at subs (Subscribe subject group) = subscribe_command (next_subscribed at) subject group
call_commands c asked at subs (Unsubscribe s) = unsubscribe_command (is_open_at (item_of s subs)) s None
call_commands c asked at subs (Limit s n) = unsubscribe_command (is_open_at (item_of s subs)) s (Some n)
call_commands c asked at subs (DropSub s) = unsubscribe_command (is_open_at (item_of s subs)) s None
call_commands c asked at subs (Drain s) = unsubscribe_command (is_open_at (item_of s subs)) s None ++ client.Ping ∷ []
call_commands c asked at subs DrainAll = commands_from unsubscribed 1 subs ++ client.Ping ∷ []
call_commands c asked at subs call = send_commands c asked (sent call)

-- what is left of a limit after so many puts, if there is one
abbrev pub limit_commands : ℕ → ℕ → Option ℕ → List ClientOp
limit_commands s puts None = []
limit_commands s puts (Some limit) = client.Unsubscribe s (Some (limit - puts)) ∷ []

abbrev pub subscribed_again : ℕ → Sub → Option Interest → List ClientOp
subscribed_again s sub None = []
subscribed_again s sub (Some asked) =
    client.Subscribe s asked.subject asked.queue_group ∷ limit_commands s sub.puts sub.limit

-- the commands that subscribe one again on a new link: where it is open and not shut, with what is left of its limit
abbrev pub again : ℕ → Sub → List ClientOp
again s sub = if listens sub then subscribed_again s sub sub.interest else []

-- the same of all from a number on
abbrev pub all_again : ℕ → List Sub → List ClientOp
all_again s subs = commands_from again s subs

-- the commands that a step writes, where these are the subscriptions before it and a request was handled before or
-- was not: a new link asks for the replies again where one was
abbrev pub commands : Config → Bool → At → List Sub → Step → List ClientOp
commands c asked at subs (opened info) = all_again 1 subs ++ inbox_commands c asked
commands c asked at subs (handled call) = call_commands c asked at subs call
commands c asked at subs (read (message sid m)) = unsubscribe_command (is_closing_at (item_of sid subs)) sid None
commands c asked at subs (read ping_op) = client.Pong ∷ []
commands c asked at subs ticked = client.Ping ∷ []
commands c asked at subs step = []

abbrev pub texts : List ClientOp → List ℕ
texts [] = []
texts (command ∷ more) = command_text command ++ texts more

-- the text that a step writes after a history
abbrev pub text_by : Config → History → Step → List ℕ
text_by c h step = texts (commands c (requested h) (at_of h) (rows_of c h) step)

-- the text of the newest link: that of the commands written since it came up
abbrev pub link_text : Config → History → List ℕ
link_text c [] = []
link_text c ((place, opened info) ∷ h) = text_by c h (opened info)
link_text c ((place, step) ∷ h) = link_text c h ++ text_by c h step

-- how many bytes of it were taken
abbrev pub taken_count : Config → History → ℕ
taken_count c [] = 0
taken_count c ((place, opened info) ∷ h) = 0
taken_count c ((place, taken n) ∷ h) = min (taken_count c h + n) (length (link_text c h))
taken_count c (e ∷ h) = taken_count c h

-- the bytes that wait: the text of the link that is up without those that were taken
abbrev pub waiting_bytes : Config → History → List ℕ
waiting_bytes c h = if is_up h then drop (taken_count c h) (link_text c h) else []

-- ---- events

-- a link's end disconnects, but where the user hung up or the session was drained
abbrev pub end_events : LinkWord → List Event
end_events word.Lost = Disconnected ∷ []
end_events word.Fault = Disconnected ∷ []
end_events word.Ticks = Disconnected ∷ []
end_events word.Reconnect = Disconnected ∷ []
end_events word.Hangup = []
end_events word.Drained = []
end_events word.Up = []

-- a message that meets a full queue has an event
abbrev pub drop_events : Config → ℕ → Option Sub → List Event
drop_events c sid None = []
drop_events c sid (Some sub) = if drops c sub then SlowConsumer sid ∷ [] else []

-- an INFO of a server that is about to stop has an event
abbrev pub info_events : Bool → List Event
info_events true = LameDuckMode ∷ []
info_events false = []

-- a drain of the session has an event once it is handled
abbrev pub drain_events : Bool → List Event
drain_events true = Draining ∷ []
drain_events false = []

-- the events that a step gives out, where these are the subscriptions before it
abbrev pub new_events : Config → List Sub → Step → List Event
new_events c subs (opened info) = Connected ∷ []
new_events c subs (link_end end) = end_events end
new_events c subs (handled call) = drain_events (drains_all call)
new_events c subs closed = Closed ∷ []
new_events c subs (read (message sid m)) = drop_events c sid (item_of sid subs)
new_events c subs (read (error_op error)) = ServerError error ∷ []
new_events c subs (read (info_op info)) = info_events info.lame_duck_mode
new_events c subs step = []

-- the events that a step gives out after a history
abbrev pub events_by : Config → History → Step → List Event
events_by c h step = new_events c (rows_of c h) step

abbrev pub at_place : {A : Type 0} → ℕ → List A → List (ℕ × A)
at_place place [] = []
at_place place (x ∷ xs) = (place, x) ∷ at_place place xs

-- all events in order, each with its place
abbrev pub events : Config → History → List (ℕ × Event)
events c [] = []
events c ((place, step) ∷ h) = events c h ++ at_place place (events_by c h step)
