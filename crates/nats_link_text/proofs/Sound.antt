-- Histories whose calls say no more than they are: what the words tell of them keeps that.
use Rattle.std.proofs.Common.{◌≡◌, ℕ, zero, suc, ◌<◌, ◌^◌, Bool, true, false, cond, ◌||◌, ◌==◌, List, [], ◌∷◌, ◌++◌, drop, map, Option, Some, None, refl, lit<}
use Rattle.std.proofs.lemmas.Bool.{false≢true}
use Rattle.nats_lines.specs.Operations.{Operation, info_op}
use Rattle.nats_commands.specs.Commands.{sent_block}
use Rattle.nats_client_text.specs.Law.{IsName, IsNameOrNone, IsBelow, IsCounted, AreHeadersOrNone}
use Rattle.nats_history.specs.declared.config.Config.{Config}
use Rattle.nats_history.specs.declared.call.Call.{Call}
use Rattle.nats_history.specs.declared.call.Interest.{Interest}
use Rattle.nats_history.specs.History.{Step, opened, read, accepted, handled, closed, History, max_payload_after, max_payload, calls, handled_count, waiting_calls, asks, subscribes, requests, requested, at_of, given, concerns, numbers, Told, told_after, told, Sub, sub_of, interest_by, newer_limit, limit_by, is_over, forgotten, kept, rows_of}
use Rattle.nats_history.specs.Sent.{ReplyAt, at_subject, at_inbox, Sending, sent, limits, is_at_inbox, is_request}
use Rattle.nats_link_text.specs.Typed.{IsToken}
use Rattle.nats_link_text.proofs.Infos.{SoundRead}

abbrev pub SoundReply : Config → ReplyAt → Type 0
SoundReply c (at_subject reply) = IsNameOrNone reply
SoundReply c (at_inbox token) = IsName c.inbox_prefix × IsToken token

abbrev pub SoundSending : Config → Option Sending → Type 0
SoundSending c None = Unit {0}
SoundSending c (Some m) = IsName m.subject × SoundReply c m.reply × AreHeadersOrNone m.headers × IsCounted (sent_block m.headers) m.payload

abbrev pub SoundAsk : Option Interest → Type 0
SoundAsk None = Unit {0}
SoundAsk (Some asked) = IsName asked.subject × IsNameOrNone asked.queue_group

-- a call whose names may be published to, whose headers are names and values, and whose numbers fit
abbrev pub SoundCall : Config → Call → Type 0
SoundCall c call = SoundSending c (sent call) × SoundAsk (asks call) × IsBelow (limits call)

abbrev pub AreSoundCalls : Config → List Call → Type 0
AreSoundCalls c [] = Unit {0}
AreSoundCalls c (call ∷ more) = SoundCall c call × AreSoundCalls c more

-- such a call is accepted or handled, a number that is given fits, and so does a limit that a server tells
abbrev pub SoundStep : Config → History → Step → Type 0
SoundStep c h (accepted call) = SoundCall c call × (subscribes call ≡ true → suc (given h) < 2 ^ 64)
SoundStep c h (handled call) = SoundCall c call
SoundStep c h (opened info) = info.max_payload < 2 ^ 64
SoundStep c h (read operation) = SoundRead operation
SoundStep c h step = Unit {0}

abbrev pub SoundHistory : Config → History → Type 0
SoundHistory c [] = Unit {0}
SoundHistory c ((place, step) ∷ h) = SoundStep c h step × SoundHistory c h

-- ---- numbers

pub given_fits : (c : Config) (h : History) → SoundHistory c h → given h < 2 ^ 64
given_fits c [] sound = lit< tt
given_fits c ((place, accepted call) ∷ h) sound = by (subscribes call) refl (given_fits c h sound.1)
  where
    by : (b : Bool) → subscribes call ≡ b → given h < 2 ^ 64 → (cond b (suc (given h)) (given h)) < 2 ^ 64
    by true is fits = sound.0.1 is
    by false is fits = fits
given_fits c ((place, step) ∷ h) sound = given_fits c h sound.1

limit_fits : (operation : Operation) (limit : ℕ) → SoundRead operation → limit < 2 ^ 64
    → max_payload_after (read operation) limit < 2 ^ 64
limit_fits (info_op info) limit told below = by (info.max_payload == 0)
  where
    by : (b : Bool) → cond b limit info.max_payload < 2 ^ 64
    by true = below
    by false = told
limit_fits operation limit told below = below

pub payload_fits : (c : Config) (h : History) → SoundHistory c h → max_payload h < 2 ^ 64
payload_fits c [] sound = lit< tt
payload_fits c ((place, opened info) ∷ h) sound = sound.0
payload_fits c ((place, read operation) ∷ h) sound =
    limit_fits operation (max_payload h) sound.0 (payload_fits c h sound.1)
payload_fits c ((place, step) ∷ h) sound = payload_fits c h sound.1

-- ---- calls

joined_sound : (c : Config) (more : List Call) (call : Call) → AreSoundCalls c more → SoundCall c call → AreSoundCalls c (more ++ call ∷ [])
joined_sound c [] call are is = (is, tt)
joined_sound c (first ∷ more) call are is = (are.0, joined_sound c more call are.1 is)

calls_sound : (c : Config) (h : History) → SoundHistory c h → AreSoundCalls c (calls h)
calls_sound c [] sound = tt
calls_sound c ((place, accepted call) ∷ h) sound = joined_sound c (calls h) call (calls_sound c h sound.1) sound.0.0
calls_sound c ((place, closed) ∷ h) sound = tt
calls_sound c ((place, step) ∷ h) sound = calls_sound c h sound.1

left_sound : (c : Config) (n : ℕ) (all : List Call) → AreSoundCalls c all → AreSoundCalls c (drop n all)
left_sound c zero all are = are
left_sound c (suc n) [] are = tt
left_sound c (suc n) (call ∷ more) are = left_sound c n more are.1

-- the calls that wait
pub waiting_sound : (c : Config) (h : History) → SoundHistory c h → AreSoundCalls c (waiting_calls h)
waiting_sound c h sound = left_sound c (handled_count h) (calls h) (calls_sound c h sound)

-- where a request was handled the replies have a name
reply_prefix : (c : Config) (reply : ReplyAt) → SoundReply c reply → is_at_inbox reply ≡ true → IsName c.inbox_prefix
reply_prefix c (at_subject reply) is asked = absurd (false≢true asked)
reply_prefix c (at_inbox token) is asked = is.0

sending_prefix : (c : Config) (m : Option Sending) → SoundSending c m → is_request m ≡ true → IsName c.inbox_prefix
sending_prefix c None is asked = absurd (false≢true asked)
sending_prefix c (Some m) is asked = reply_prefix c m.reply is.1 asked

request_prefix : (c : Config) (call : Call) → SoundCall c call → requests call ≡ true → IsName c.inbox_prefix
request_prefix c call is asked = sending_prefix c (sent call) is.0 asked

pub requested_prefix : (c : Config) (h : History) → SoundHistory c h → requested h ≡ true → IsName c.inbox_prefix
requested_prefix c [] sound asked = absurd (false≢true asked)
requested_prefix c ((place, handled call) ∷ h) sound asked = by (requests call) refl asked (requested_prefix c h sound.1)
  where
    by : (b : Bool) → requests call ≡ b → (b || requested h) ≡ true → (requested h ≡ true → IsName c.inbox_prefix) → IsName c.inbox_prefix
    by true is either earlier = request_prefix c call sound.0 is
    by false is either earlier = earlier either
requested_prefix c ((place, step) ∷ h) sound asked = requested_prefix c h sound.1 asked

-- ---- subscriptions

abbrev pub SoundTold : Told → Type 0
SoundTold t = SoundAsk t.interest × IsBelow t.limit

abbrev pub SoundSub : Sub → Type 0
SoundSub sub = SoundAsk sub.interest × IsBelow sub.limit

abbrev pub AreSoundSubs : List Sub → Type 0
AreSoundSubs [] = Unit {0}
AreSoundSubs (sub ∷ more) = SoundSub sub × AreSoundSubs more

asks_sound : (asked interest : Option Interest) → SoundAsk asked → SoundAsk interest → SoundAsk (interest_by asked interest)
asks_sound None interest is ask = ask
asks_sound (Some asked) interest is ask = is

limit_sound : (newer limit : Option ℕ) → IsBelow newer → IsBelow limit → IsBelow (newer_limit newer limit)
limit_sound None limit is below = below
limit_sound (Some n) limit is below = is

told_next : (c : Config) (h : History) (place : ℕ) (step : Step) (t : Told) → SoundStep c h step → SoundTold t → SoundTold (told_after c place step t)
told_next c h place (accepted call) t is told = (asks_sound (asks call) t.interest is.0.1 told.0, told.1)
told_next c h place (handled call) t is told = (told.0, limit_sound (limits call) t.limit is.2 told.1)
told_next c h place step t is told = (told.0, told.1)

told_sound : (c : Config) (s : ℕ) (h : History) → SoundHistory c h → SoundTold (told c s h)
told_sound c s [] sound = (tt, tt)
told_sound c s ((place, step) ∷ h) sound =
    let before = told_sound c s h sound.1 in
    either (concerns s (at_of h) step) (told c s h) (told_after c place step (told c s h)) before (told_next c h place step (told c s h) sound.0 before)
  where
    either : (b : Bool) (t u : Told) → SoundTold t → SoundTold u → SoundTold (cond b u t)
    either true t u p q = q
    either false t u p q = p

kept_sound : (sub : Sub) → SoundSub sub → SoundSub (kept sub)
kept_sound sub is = by (is_over sub)
  where
    by : (b : Bool) → SoundSub (cond b forgotten sub)
    by true = (tt, tt)
    by false = is

pub rows_sound : (c : Config) (h : History) → SoundHistory c h → AreSoundSubs (rows_of c h)
rows_sound c h sound = each (numbers h)
  where
    each : (given : List ℕ) → AreSoundSubs (map (λ s. kept (sub_of (told c s h))) given)
    each [] = tt
    each (s ∷ more) = (kept_sound (sub_of (told c s h)) (told_sound c s h sound), each more)
