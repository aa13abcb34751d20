-- The subscribes that a client writes on its one link have numbers that were subscribed, or 0.
use Rattle.std.proofs.Common.{◌≡◌, ℕ, suc, ◌≤◌, Bool, true, false, not, ◌&&◌, List, [], ◌∷◌, ◌++◌, map, Option, Some, None, refl, arith}
use Rattle.std.specs.Prelude.{nat_lt, if◌then◌else◌}
use Rattle.std.proofs.lemmas.Bool.{false≢true}
use Rattle.nats_info.specs.declared.info.ServerInfo.{ServerInfo}
use Rattle.nats_message.specs.declared.op.ClientOp.{ClientOp}
use Rattle.nats_message.specs.declared.op.ClientOp.TheVariants as client
use Rattle.nats_lines.specs.Operations.{Operation, message, ping_op}
use Rattle.nats_history.specs.declared.config.Config.{Config}
use Rattle.nats_history.specs.declared.call.Call.{Call}
use Rattle.nats_history.specs.declared.call.Call.TheVariants.{Subscribe, Unsubscribe, Limit, Drain, DrainAll, DropSub}
use Rattle.nats_history.specs.declared.turn.Turn.{Turn}
use Rattle.nats_history.specs.declared.turn.Turn.TheVariants.{Up}
use Rattle.nats_history.specs.History.{Step, opened, read, ticked, handled, History, At, subscribes, subscribed_after, at_of, requested, rows_of, Sub, is_open, is_open_at, is_closing_at, subscribe_command, unsubscribe_command, commands_from, unsubscribed, inbox_commands, inbox_before, send_commands, call_commands, commands}
use Rattle.nats_history.specs.Sent.{ReplyAt, at_subject, at_inbox, Sending, sent}
use Rattle.nats_tables.specs.Numbers.{item_of}
use Rattle.nats_history.specs.Schedule.{after_turn, steps}
use Rattle.nats_link_text.specs.Sent.{commands_by, link_commands}
use Rattle.nats_client_text.specs.Law.{as_read}
use Rattle.nats_heard.specs.Heard.{NoneUp}
use Rattle.nats_own_laws.proofs.Keeping.{is_further, settled_keep, turn_keeps, turns_keep}

abbrev pub IsOp : ℕ → ClientOp → Type 0
IsOp limit (client.Subscribe sid subject group) = sid ≤ limit
IsOp limit op = Unit {0}

-- the subscribes among commands have numbers up to a limit
abbrev pub AreOps : ℕ → List ClientOp → Type 0
AreOps limit [] = Unit {0}
AreOps limit (op ∷ ops) = IsOp limit op × AreOps limit ops

both_ops : (limit : ℕ) (some more : List ClientOp) → AreOps limit some → AreOps limit more → AreOps limit (some ++ more)
both_ops limit [] more are others = others
both_ops limit (op ∷ some) more are others = (are.0, both_ops limit some more are.1 others)

up_op : (limit higher : ℕ) (op : ClientOp) → limit ≤ higher → IsOp limit op → IsOp higher op
up_op limit higher (client.Subscribe sid subject group) up is = omega (arith, up, is)
up_op limit higher op up is = tt

up_ops : (limit higher : ℕ) (ops : List ClientOp) → limit ≤ higher → AreOps limit ops → AreOps higher ops
up_ops limit higher [] up are = tt
up_ops limit higher (op ∷ ops) up are = (up_op limit higher op up are.0, up_ops limit higher ops up are.1)

read_op : (limit : ℕ) (op : ClientOp) → IsOp limit op → IsOp limit (as_read op)
read_op limit (client.Subscribe sid subject group) is = is
read_op limit (client.Unsubscribe sid most) is = tt
read_op limit (client.Publish subject payload respond headers) is = tt
read_op limit client.Ping is = tt
read_op limit client.Pong is = tt
read_op limit (client.Connect info) is = tt

-- as they are read, too
pub read_ops : (limit : ℕ) (ops : List ClientOp) → AreOps limit ops → AreOps limit (map as_read ops)
read_ops limit [] are = tt
read_ops limit (op ∷ ops) are = (read_op limit op are.0, read_ops limit ops are.1)

-- ---- one step

subscribe_ops : (room : Bool) (n : ℕ) (subject : List ℕ) (group : Option (List ℕ))
    → AreOps (if room then suc n else n) (subscribe_command (if room then Some (suc n) else None) subject group)
subscribe_ops true n subject group = (omega arith, tt)
subscribe_ops false n subject group = tt

unsubscribe_ops : (limit : ℕ) (test : Bool) (s : ℕ) (most : Option ℕ) → AreOps limit (unsubscribe_command test s most)
unsubscribe_ops limit true s most = (tt, tt)
unsubscribe_ops limit false s most = tt

from_ops : (limit s : ℕ) (subs : List Sub) → AreOps limit (commands_from unsubscribed s subs)
from_ops limit s [] = tt
from_ops limit s (sub ∷ subs) =
    both_ops limit (unsubscribed s sub) (commands_from unsubscribed (suc s) subs) (unsubscribe_ops limit (is_open sub.stage) s None)
    (from_ops limit (suc s) subs)

inbox_ops : (limit : ℕ) (c : Config) (asks : Bool) → AreOps limit (inbox_commands c asks)
inbox_ops limit c true = (omega arith, tt)
inbox_ops limit c false = tt

before_ops : (limit : ℕ) (c : Config) (asked : Bool) (reply : ReplyAt) → AreOps limit (inbox_before c asked reply)
before_ops limit c asked (at_subject reply) = tt
before_ops limit c asked (at_inbox token) = inbox_ops limit c (not asked)

send_ops : (limit : ℕ) (c : Config) (asked : Bool) (m : Option Sending) → AreOps limit (send_commands c asked m)
send_ops limit c asked None = tt
send_ops limit c asked (Some m) = both_ops limit (inbox_before c asked m.reply) _ (before_ops limit c asked m.reply) (tt, tt)

call_ops : (c : Config) (asked : Bool) (at : At) (subs : List Sub) (call : Call)
    → AreOps (subscribed_after (handled call) at) (call_commands c asked at subs call)
call_ops c asked at subs (Subscribe subject group) = subscribe_ops (nat_lt at.subscribed at.given) at.subscribed subject group
call_ops c asked at subs (Unsubscribe s) = unsubscribe_ops at.subscribed (is_open_at (item_of s subs)) s None
call_ops c asked at subs (Limit s n) = unsubscribe_ops at.subscribed (is_open_at (item_of s subs)) s (Some n)
call_ops c asked at subs (DropSub s) = unsubscribe_ops at.subscribed (is_open_at (item_of s subs)) s None
call_ops c asked at subs (Drain s) =
    both_ops at.subscribed (unsubscribe_command (is_open_at (item_of s subs)) s None) (client.Ping ∷ [])
    (unsubscribe_ops at.subscribed (is_open_at (item_of s subs)) s None) (tt, tt)
call_ops c asked at subs DrainAll =
    both_ops at.subscribed (commands_from unsubscribed 1 subs) (client.Ping ∷ []) (from_ops at.subscribed 1 subs) (tt, tt)
call_ops c asked at subs call = send_ops at.subscribed c asked (sent call)

read_by_ops : (limit : ℕ) (c : Config) (asked : Bool) (at : At) (subs : List Sub) (operation : Operation)
    → AreOps limit (commands c asked at subs (read operation))
read_by_ops limit c asked at subs (message sid m) = unsubscribe_ops limit (is_closing_at (item_of sid subs)) sid None
read_by_ops limit c asked at subs ping_op = (tt, tt)
read_by_ops limit c asked at subs operation = tt

step_ops : (c : Config) (asked : Bool) (at : At) (subs : List Sub) (step : Step) → is_further step ≡ true
    → AreOps (subscribed_after step at) (commands c asked at subs step)
step_ops c asked at subs (opened info) further = absurd (false≢true further)
step_ops c asked at subs (handled call) further = call_ops c asked at subs call
step_ops c asked at subs (read operation) further = read_by_ops at.subscribed c asked at subs operation
step_ops c asked at subs ticked further = (tt, tt)
step_ops c asked at subs step further = tt

pub subscribed_grows : (step : Step) (at : At) → at.subscribed ≤ subscribed_after step at
subscribed_grows (handled call) at = by (subscribes call && nat_lt at.subscribed at.given)
  where
    by : (b : Bool) → at.subscribed ≤ (if b then suc at.subscribed else at.subscribed)
    by true = omega arith
    by false = omega arith
subscribed_grows step at = omega arith

-- ---- one link

-- the commands of the newest link subscribe numbers that were subscribed
abbrev pub AreOwn : Config → History → Type 0
AreOwn c h = AreOps (at_of h).subscribed (link_commands c h)

own_next : (c : Config) (place : ℕ) (step : Step) (h : History) → is_further step ≡ true → AreOwn c h → AreOwn c ((place, step) ∷ h)
own_next c place (opened info) h further own = absurd (false≢true further)
own_next c place step h further own =
    both_ops (subscribed_after step (at_of h)) (link_commands c h) (commands_by c h step)
    (up_ops (at_of h).subscribed (subscribed_after step (at_of h)) (link_commands c h) (subscribed_grows step (at_of h)) own)
    (step_ops c (requested h) (at_of h) (rows_of c h) step refl)

pub steps_own : (c : Config) (info : ServerInfo) (turns : List Turn) → NoneUp turns → AreOwn c (steps c (Up info ∷ turns))
steps_own c info turns none =
    turns_keep c (AreOwn c) (own_next c) 2 turns (after_turn c 1 (Up info) []) none
    (settled_keep c (AreOwn c) (own_next c) 1 ((1, opened info) ∷ []) tt)

-- ---- how many were subscribed, as turns go on

abbrev HasUp : ℕ → History → Type 0
HasUp limit h = limit ≤ (at_of h).subscribed

up_next : (limit place : ℕ) (step : Step) (h : History) → is_further step ≡ true → HasUp limit h → HasUp limit ((place, step) ∷ h)
up_next limit place step h further up = omega (arith, up, subscribed_grows step (at_of h))

pub turn_grows : (c : Config) (place : ℕ) (turn : Turn) (turns : List Turn) (h : History) → NoneUp (turn ∷ turns)
    → (at_of h).subscribed ≤ (at_of (after_turn c place turn h)).subscribed
turn_grows c place turn turns h none =
    turn_keeps c (HasUp (at_of h).subscribed) (up_next (at_of h).subscribed) place turn turns h none (omega arith)
