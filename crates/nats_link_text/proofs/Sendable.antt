-- The commands that are written after such a history may be read back.
use Rattle.std.proofs.Common.{◌≡◌, ℕ, suc, ◌+◌, ◌-◌, ◌≤◌, ◌<◌, ◌^◌, Bool, true, false, not, cond, List, [], ◌∷◌, ◌++◌, length, Option, Some, None, refl, sym, ap, ◌∙◌, arith, lit<}
use Rattle.std.specs.Prelude.{nat_lt}
use Rattle.std.proofs.lemmas.Bool.{false≢true, ltb-true, ltb-false}
use Rattle.nats_tables.specs.Numbers.{item_of}
use Rattle.nats_tables.proofs.Numbers.{item_missing}
use Rattle.nats_message.specs.declared.op.ClientOp.{ClientOp}
use Rattle.nats_message.specs.declared.op.ClientOp.TheVariants as client
use Rattle.nats_lines.specs.Operations.{message, ping_op}
use Rattle.nats_client_text.specs.Law.{IsName, IsNameOrNone, IsBelow, AreSendable}
use Rattle.nats_history.specs.declared.config.Config.{Config}
use Rattle.nats_history.specs.declared.call.Call.{Call}
use Rattle.nats_history.specs.declared.call.Call.TheVariants.{Subscribe, Unsubscribe, Limit, Drain, DrainAll, DropSub}
use Rattle.nats_history.specs.declared.call.Interest.{Interest}
use Rattle.nats_history.specs.History.{Step, opened, handled, read, ticked, link_end, History, is_up, requested, at_of, given, next_number, told, Sub, sub_of, is_open, listens, kept, rows_of, subscribe_command, unsubscribe_command, is_open_at, is_closing_at, commands_from, unsubscribed, inbox_commands, inbox_before, reply_text, send_commands, call_commands, limit_commands, subscribed_again, again, all_again}
use Rattle.nats_history.specs.Sent.{ReplyAt, at_subject, at_inbox, Sending, sent}
use Rattle.nats_history.proofs.Refines.{length-rows}
use Rattle.nats_link_text.specs.Sent.{commands_by, link_commands, ended_commands, up_commands, sent_commands}
use Rattle.nats_link_text.specs.Typed.{IsTypedConfig}
use Rattle.nats_link_text.proofs.Names.{reply_name, replies_name}
use Rattle.nats_link_text.proofs.Sound.{SoundReply, SoundSending, SoundCall, SoundStep, SoundHistory, SoundAsk, SoundSub, AreSoundSubs, given_fits, requested_prefix, rows_sound}

sendable_append : (one other : List ClientOp) → AreSendable one → AreSendable other → AreSendable (one ++ other)
sendable_append [] other are more = more
sendable_append (op ∷ ops) other are more = (are.0, sendable_append ops other are.1 more)

-- ---- one subscription

unsubscribe_sendable : (there : Bool) (s : ℕ) (max : Option ℕ) → (there ≡ true → s < 2 ^ 64) → IsBelow max → AreSendable (unsubscribe_command there s max)
unsubscribe_sendable true s max fits below = ((fits refl, below), tt)
unsubscribe_sendable false s max fits below = tt

limit_sendable : (s puts : ℕ) (limit : Option ℕ) → s < 2 ^ 64 → IsBelow limit → AreSendable (limit_commands s puts limit)
limit_sendable s puts None fits below = tt
limit_sendable s puts (Some limit) fits below =
    let less : limit - puts < 2 ^ 64 = omega (arith, below) in ((fits, less), tt)

again_sendable : (s : ℕ) (sub : Sub) → s < 2 ^ 64 → SoundSub sub → AreSendable (again s sub)
again_sendable s sub fits is = by (listens sub) sub.interest is.0
  where
    by : (b : Bool) (interest : Option Interest) → SoundAsk interest → AreSendable (cond b (subscribed_again s sub interest) [])
    by false interest ask = tt
    by true None ask = tt
    by true (Some asked) ask = ((fits, ask.0, ask.1), limit_sendable s sub.puts sub.limit fits is.1)

unsubscribed_sendable : (s : ℕ) (sub : Sub) → s < 2 ^ 64 → SoundSub sub → AreSendable (unsubscribed s sub)
unsubscribed_sendable s sub fits is = unsubscribe_sendable (is_open sub.stage) s None (λ there. fits) tt

-- ---- all of them

from_sendable : (g : ℕ → Sub → List ClientOp) (s : ℕ) (rows : List Sub) → ((k : ℕ) (sub : Sub) → k < 2 ^ 64 → SoundSub sub → AreSendable (g k sub))
    → AreSoundSubs rows → s + length rows ≤ 2 ^ 64 → AreSendable (commands_from g s rows)
from_sendable g s [] each are fits = tt
from_sendable g s (sub ∷ more) each are fits =
    sendable_append (g s sub) (commands_from g (suc s) more) (each s sub (omega (arith, fits)) are.0) (from_sendable g (suc s) more each are.1 (omega (arith, fits)))

rows_fit : (c : Config) (h : History) → SoundHistory c h → 1 + length (rows_of c h) ≤ 2 ^ 64
rows_fit c h sound = omega (arith, length-rows c h, given_fits c h sound)

-- a number that stands for a subscription was given
number_fits : (c : Config) (h : History) (s : ℕ) (test : Option Sub → Bool) → test None ≡ false → SoundHistory c h → test (item_of s (rows_of c h)) ≡ true → s < 2 ^ 64
number_fits c h s test none sound is = by (nat_lt (given h) s) refl
  where
    by : (b : Bool) → nat_lt (given h) s ≡ b → s < 2 ^ 64
    by true past =
        absurd (false≢true (sym none ∙ (ap test (sym (item_missing (λ k. kept (sub_of (told c k h))) (given h) s (ltb-true (given h) s past))) ∙ is)))
    by false low = omega (arith, ltb-false (given h) s low, given_fits c h sound)

-- ---- calls

next_sendable : (given subscribed : ℕ) (subject : List ℕ) (group : Option (List ℕ)) → given < 2 ^ 64 → IsName subject → IsNameOrNone group
    → AreSendable (subscribe_command (next_number given subscribed) subject group)
next_sendable given subscribed subject group fits name other = by (nat_lt subscribed given) refl
  where
    by : (b : Bool) → nat_lt subscribed given ≡ b → AreSendable (subscribe_command (cond b (Some (suc subscribed)) None) subject group)
    by true less =
        let below : suc subscribed < 2 ^ 64 = omega (arith, ltb-true subscribed given less, fits) in ((below, name, other), tt)
    by false less = tt

inbox_sendable : (c : Config) (asks : Bool) → IsTypedConfig c → (asks ≡ true → IsName c.inbox_prefix) → AreSendable (inbox_commands c asks)
inbox_sendable c false typed prefix = tt
inbox_sendable c true typed prefix =
    let least : 0 < 2 ^ 64 = lit< tt in ((least, replies_name c (prefix refl) typed.0, tt), tt)

before_sendable : (c : Config) (h : History) (reply : ReplyAt) → IsTypedConfig c → SoundReply c reply → AreSendable (inbox_before c (requested h) reply)
before_sendable c h (at_subject reply) typed is = tt
before_sendable c h (at_inbox token) typed is = inbox_sendable c (not (requested h)) typed (λ first. is.0)

reply_sendable : (c : Config) (reply : ReplyAt) → IsTypedConfig c → SoundReply c reply → IsNameOrNone (reply_text c reply)
reply_sendable c (at_subject reply) typed is = is
reply_sendable c (at_inbox token) typed is = reply_name c token is.0 typed.0 is.1

send_sendable : (c : Config) (h : History) (m : Option Sending) → IsTypedConfig c → SoundSending c m → AreSendable (send_commands c (requested h) m)
send_sendable c h None typed is = tt
send_sendable c h (Some m) typed is =
    sendable_append (inbox_before c (requested h) m.reply) (client.Publish m.subject m.payload (reply_text c m.reply) m.headers ∷ []) (before_sendable c h m.reply typed is.1) ((is.0, reply_sendable c m.reply typed is.1, is.2, is.3), tt)

call_sendable : (c : Config) (h : History) (call : Call) → IsTypedConfig c → SoundHistory c h → SoundCall c call
    → AreSendable (call_commands c (requested h) (at_of h) (rows_of c h) call)
call_sendable c h (Subscribe subject group) typed sound is =
    next_sendable (given h) (at_of h).subscribed subject group (given_fits c h sound) is.1.0 is.1.1
call_sendable c h (Unsubscribe s) typed sound is =
    unsubscribe_sendable (is_open_at (item_of s (rows_of c h))) s None (number_fits c h s is_open_at refl sound) tt
call_sendable c h (Limit s n) typed sound is =
    unsubscribe_sendable (is_open_at (item_of s (rows_of c h))) s (Some n) (number_fits c h s is_open_at refl sound) is.2
call_sendable c h (DropSub s) typed sound is =
    unsubscribe_sendable (is_open_at (item_of s (rows_of c h))) s None (number_fits c h s is_open_at refl sound) tt
call_sendable c h (Drain s) typed sound is =
    let there = is_open_at (item_of s (rows_of c h)) in
    sendable_append (unsubscribe_command there s None) (client.Ping ∷ []) (unsubscribe_sendable there s None (number_fits c h s is_open_at refl sound) tt) (tt, tt)
call_sendable c h DrainAll typed sound is =
    sendable_append (commands_from unsubscribed 1 (rows_of c h)) (client.Ping ∷ []) (from_sendable unsubscribed 1 (rows_of c h) unsubscribed_sendable (rows_sound c h sound) (rows_fit c h sound)) (tt, tt)
call_sendable c h call typed sound is = send_sendable c h (sent call) typed is.0

-- ---- steps

pub step_sendable : (c : Config) (h : History) (step : Step) → IsTypedConfig c → SoundHistory c h → SoundStep c h step → AreSendable (commands_by c h step)
step_sendable c h (opened info) typed sound is =
    sendable_append (all_again 1 (rows_of c h)) (inbox_commands c (requested h)) (from_sendable again 1 (rows_of c h) again_sendable (rows_sound c h sound) (rows_fit c h sound)) (inbox_sendable c (requested h) typed (requested_prefix c h sound))
step_sendable c h (handled call) typed sound is = call_sendable c h call typed sound is
step_sendable c h (read (message sid m)) typed sound is =
    unsubscribe_sendable (is_closing_at (item_of sid (rows_of c h))) sid None (number_fits c h sid is_closing_at refl sound) tt
step_sendable c h (read ping_op) typed sound is = (tt, tt)
step_sendable c h ticked typed sound is = (tt, tt)
step_sendable c h step typed sound is = tt

-- ---- links

link_sendable : (c : Config) (h : History) → IsTypedConfig c → SoundHistory c h → AreSendable (link_commands c h)
link_sendable c [] typed sound = tt
link_sendable c ((place, opened info) ∷ h) typed sound = step_sendable c h (opened info) typed sound.1 sound.0
link_sendable c ((place, step) ∷ h) typed sound =
    sendable_append (link_commands c h) (commands_by c h step) (link_sendable c h typed sound.1) (step_sendable c h step typed sound.1 sound.0)

-- the commands of each of some links
abbrev pub AreAllSendable : List (List ClientOp) → Type 0
AreAllSendable [] = Unit {0}
AreAllSendable (ops ∷ more) = AreSendable ops × AreAllSendable more

all_append : (one other : List (List ClientOp)) → AreAllSendable one → AreAllSendable other → AreAllSendable (one ++ other)
all_append [] other are more = more
all_append (ops ∷ one) other are more = (are.0, all_append one other are.1 more)

ended_sendable : (c : Config) (h : History) → IsTypedConfig c → SoundHistory c h → AreAllSendable (ended_commands c h)
ended_sendable c [] typed sound = tt
ended_sendable c ((place, link_end end) ∷ h) typed sound =
    all_append (ended_commands c h) (link_commands c h ∷ []) (ended_sendable c h typed sound.1) (link_sendable c h typed sound.1, tt)
ended_sendable c ((place, step) ∷ h) typed sound = ended_sendable c h typed sound.1

pub sent_sendable : (c : Config) (h : History) → IsTypedConfig c → SoundHistory c h → AreAllSendable (sent_commands c h)
sent_sendable c h typed sound =
    all_append (ended_commands c h) (up_commands c h) (ended_sendable c h typed sound) (by (is_up h))
  where
    by : (b : Bool) → AreAllSendable (cond b (link_commands c h ∷ []) [])
    by true = (link_sendable c h typed sound, tt)
    by false = tt
