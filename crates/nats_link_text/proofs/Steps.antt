-- The steps of a list of turns: calls that were tested and accepted, and those that are handled after them.
use Rattle.std.proofs.Common.{◌≡◌, ℕ, zero, suc, ◌+◌, ◌<◌, ◌^◌, Bool, true, false, not, cond, ◌||◌, List, [], ◌∷◌, ◌++◌, length, Option, Some, None, refl, sym, subst, arith}
use Rattle.std.specs.Prelude.{◌-◌, ◌&&◌, nat_lt, nat_le, min}
use Rattle.std.specs.List.{list_all, slice_split}
use Rattle.std.proofs.lemmas.Bool.{false≢true, ltb-false, leb-false}
use Rattle.std.proofs.lemmas.Option.{none-some, same_Some}
use Rattle.nats_names.specs.Names.{is_dot, is_nonempty, is_publishable, is_valid}
use Rattle.nats_header.specs.Headers.{Headers}
use Rattle.nats_commands.specs.Commands.{sent_block}
use Rattle.nats_lines.specs.Operations.{Front, got, unfinished, fault, front, length_or_0}
use Rattle.nats_client_text.specs.Law.{IsNameOrNone, IsCounted}
use Rattle.nats_history.specs.declared.config.Config.{Config}
use Rattle.nats_history.specs.declared.call.Call.{Call}
use Rattle.nats_history.specs.declared.call.Interest.{Interest}
use Rattle.nats_history.specs.declared.call.CallReply.{CallReply}
use Rattle.nats_history.specs.declared.call.TakeReply.{TakeReply}
use Rattle.nats_history.specs.declared.call.TakeReply.TheVariants as takes
use Rattle.nats_history.specs.declared.turn.Turn.{Turn}
use Rattle.nats_history.specs.declared.turn.Turn.TheVariants.{Up, Piece, Write, Tick, Lost, GiveUp, Hangup, Do, Take, Deadline}
use Rattle.nats_history.specs.declared.transcript.LinkWord.{LinkWord}
use Rattle.nats_history.specs.declared.transcript.LinkWord.TheVariants as word
use Rattle.nats_history.specs.History.{Step, opened, fed, read, ticked, taken, accepted, handled, passed, link_end, closed, History, is_up, unread, max_payload, waiting_calls, asks, subscribes, takes_ticket, lets_go, given, ticks, waiting_bytes}
use Rattle.nats_history.specs.Tickets.{is_unsettled}
use Rattle.nats_history.specs.Parts.{Parts, parts_of}
use Rattle.nats_history.specs.Sent.{ReplyAt, at_subject, at_inbox, Sending, sent}
use Rattle.nats_history.specs.Schedule.{may_publish_to, passes, may_reply_at, may_send, asks_validly, has_subjects, group_passes, has_group, size_with, size_of, has_no_number, takes_no_call, refusal, take_reply, closes, closing, ending, end_after, followers, chain, accepted_step, took_step, gone_step, tick_limit, own_steps, due_call, due_by, due, most_due, put_steps, settled_within, after_turn, steps_from, steps}
use Rattle.nats_link_text.specs.Typed.{IsTextOrNone, IsTypedReply, IsTypedSending, IsTypedAsk, IsTypedCall, IsTypedTurn, AreTypedTurns, IsTypedConfig}
use Rattle.nats_link_text.proofs.Names.{both}
use Rattle.nats_link_text.proofs.Infos.{front_sound}
use Rattle.nats_link_text.proofs.Sound.{SoundReply, SoundSending, SoundAsk, SoundCall, AreSoundCalls, SoundStep, SoundHistory, payload_fits, waiting_sound}

-- ---- what a call that is not refused is

publishable : (c : Config) (subject : List ℕ) → c.skip_subject_validation ≡ false → may_publish_to c subject ≡ true → is_publishable subject ≡ true
publishable c subject tested is =
    by c.skip_subject_validation tested (both (is_nonempty subject) (c.skip_subject_validation || is_publishable subject) is).1
  where
    by : (skips : Bool) → skips ≡ false → (skips || is_publishable subject) ≡ true → is_publishable subject ≡ true
    by true tested is = absurd (false≢true (sym tested))
    by false tested is = is

reply_named : (c : Config) (reply : Option (List ℕ)) → c.skip_subject_validation ≡ false → IsTextOrNone reply → passes (may_publish_to c) reply ≡ true → IsNameOrNone reply
reply_named c None tested typed is = tt
reply_named c (Some subject) tested typed is = (typed, publishable c subject tested is)

group_named : (group : Option (List ℕ)) → IsTextOrNone group → passes is_publishable group ≡ true → IsNameOrNone group
group_named None typed is = tt
group_named (Some group) typed is = (typed, is)

counted : (headers : Option Headers) (payload : List ℕ) → length_or_0 (sent_block headers) + length payload < 2 ^ 64 → IsCounted (sent_block headers) payload
counted headers payload small = by (sent_block headers) small
  where
    by : (block : Option (List ℕ)) → length_or_0 block + length payload < 2 ^ 64 → IsCounted block payload
    by None small = omega (arith, small)
    by (Some block) small = small

reply_sound : (c : Config) (reply : ReplyAt) → c.skip_subject_validation ≡ false → IsTypedConfig c → IsTypedReply reply → may_reply_at c reply ≡ true → SoundReply c reply
reply_sound c (at_subject reply) tested config typed may = reply_named c reply tested typed may
reply_sound c (at_inbox token) tested config typed may = ((config.1, may), typed)

sending_sound : (c : Config) (m : Option Sending) → c.skip_subject_validation ≡ false → IsTypedConfig c → IsTypedSending m → may_send c m ≡ true → size_with m < 2 ^ 64 → SoundSending c m
sending_sound c None tested config typed may small = tt
sending_sound c (Some m) tested config typed may small =
    let parts = both (may_publish_to c m.subject) (may_reply_at c m.reply) may in
    ((typed.0, publishable c m.subject tested parts.0), reply_sound c m.reply tested config typed.1 parts.1, typed.2, counted m.headers m.payload small)

rest_holds : (rest : Bool) (asked : Option Interest) → asks_validly rest asked ≡ true → rest ≡ true
rest_holds rest None is = is
rest_holds rest (Some asked) is = (both rest (is_valid asked.subject) is).0

ask_sound : (rest : Bool) (asked : Option Interest) → IsTypedAsk asked → asks_validly rest asked ≡ true → group_passes asked ≡ true → SoundAsk asked
ask_sound rest None typed valid grouped = tt
ask_sound rest (Some asked) typed valid grouped =
    let parts = both (is_publishable asked.subject) (list_all is_nonempty (slice_split is_dot asked.subject)) (both rest (is_valid asked.subject) valid).1 in
    ((typed.0, parts.0), group_named asked.queue_group typed.1 grouped)

call_sound : (c : Config) (call : Call) → c.skip_subject_validation ≡ false → IsTypedConfig c → IsTypedCall call → has_subjects c call ≡ true → has_group call ≡ true → size_of call < 2 ^ 64
    → SoundCall c call
call_sound c call tested config typed subjects grouped small = (
  sending_sound c (sent call) tested config typed.0 (rest_holds (may_send c (sent call)) (asks call) subjects) small,
  ask_sound (may_send c (sent call)) (asks call) typed.1 subjects grouped,
  typed.2,
)

goes_on : (b : Bool) (refused : CallReply) (more : Option CallReply) → cond b (Some refused) more ≡ None → (b ≡ false) × (more ≡ None)
goes_on true refused more none = absurd (none-some refused (sym none))
goes_on false refused more none = (refl, none)

holds : (b : Bool) → not b ≡ false → b ≡ true
holds true is = refl
holds false is = absurd (false≢true (sym is))

none_full : (subscribes full takes other : Bool) → ((subscribes && full) || (takes && other)) ≡ false → subscribes ≡ true → full ≡ false
none_full true false takes other left is = refl
none_full true true takes other left is = absurd (false≢true (sym left))
none_full false full takes other left is = absurd (false≢true is)

number_left : (given : ℕ) → nat_le (2 ^ 64 - 1) given ≡ false → suc given < 2 ^ 64
number_left given left = let below = leb-false (2 ^ 64 - 1) given left in omega (arith, below)

accepted_sound : (c : Config) (h : History) (call : Call) → c.skip_subject_validation ≡ false → IsTypedConfig c → IsTypedCall call → SoundHistory c h → refusal (parts_of c h) call ≡ None
    → SoundStep c h (accepted call)
accepted_sound c h call tested config typed sound none =
    let p = parts_of c h in
    let subjects = goes_on (not (has_subjects c call)) _ _ none in
    let groups = goes_on (not (has_group call)) _ _ subjects.1 in
    let sizes = goes_on (nat_lt (max_payload h) (size_of call)) _ _ groups.1 in
    let taken_in = goes_on (takes_no_call p) _ _ sizes.1 in
    let room = goes_on (has_no_number p call) _ _ taken_in.1 in
    let small : size_of call < 2 ^ 64 = omega (arith, ltb-false (max_payload h) (size_of call) sizes.0, payload_fits c h sound) in (
      call_sound c call tested config typed (holds (has_subjects c call) subjects.0) (holds (has_group call) groups.0) small,
      λ is. number_left (given h) (none_full (subscribes call) (nat_le (2 ^ 64 - 1) (given h)) (takes_ticket call) (nat_le (2 ^ 64 - 1) p.tickets.given) room.0 is),
    )

-- ---- steps that follow others

-- a step that accepts and handles no call, opens no link and reads nothing
abbrev Plain : Step → Type 0
Plain (accepted call) = ⊥
Plain (handled call) = ⊥
Plain (opened info) = ⊥
Plain (read operation) = ⊥
Plain step = Unit {0}

abbrev ArePlain : List Step → Type 0
ArePlain [] = Unit {0}
ArePlain (step ∷ more) = Plain step × ArePlain more

plain_sound : (c : Config) (h : History) (step : Step) → Plain step → SoundStep c h step
plain_sound c h (accepted call) is = absurd is
plain_sound c h (handled call) is = absurd is
plain_sound c h (opened info) is = absurd is
plain_sound c h (read operation) is = absurd is
plain_sound c h step is = tt

put_plain : (c : Config) (place : ℕ) (more : List Step) (h : History) → ArePlain more → SoundHistory c h → SoundHistory c (put_steps place more h)
put_plain c place [] h are sound = sound
put_plain c place (step ∷ more) h are sound = put_plain c place more ((place, step) ∷ h) are.1 (plain_sound c h step are.0, sound)

closing_plain : (closing_is : Bool) → ArePlain (closing closing_is)
closing_plain true = (tt, tt)
closing_plain false = tt

ending_plain : (drained : Bool) (end : Option LinkWord) → ArePlain (ending drained end)
ending_plain drained None = tt
ending_plain drained (Some end) = (tt, closing_plain (closes drained end))

followers_plain : (p : Parts) (step : Step) → ArePlain (followers p step)
followers_plain p (link_end end) = closing_plain (closes p.drain.is_handled end)
followers_plain p step = ending_plain p.drain.is_handled (end_after p step)

gone_plain : (s : Option ℕ) → ArePlain (gone_step s)
gone_plain None = tt
gone_plain (Some s) = (tt, tt)

took_plain : (sid : ℕ) (reply : TakeReply) → ArePlain (took_step sid reply)
took_plain sid (takes.Message m) = (tt, tt)
took_plain sid takes.Empty = tt
took_plain sid takes.Ended = tt

chain_sound : (c : Config) (place : ℕ) (p : Parts) (step : Step) (h : History) → SoundStep c h step → SoundHistory c h → SoundHistory c (put_steps place (chain p step) h)
chain_sound c place p step h is sound = put_plain c place (followers p step) ((place, step) ∷ h) (followers_plain p step) (is, sound)

-- ---- due steps

due_sound : (c : Config) (h : History) (step : Step) → SoundHistory c h → due (parts_of c h) ≡ Some step → SoundStep c h step
due_sound c h step sound is = by_up (is_up h) is
  where
    by_call : (room : Bool) (waiting : List Call) → AreSoundCalls c waiting → due_call room waiting ≡ Some step → SoundStep c h step
    by_call true (call ∷ more) are is = subst (SoundStep c h) (same_Some (handled call) step is) are.0
    by_call true [] are is = absurd (none-some step is)
    by_call false waiting are is = absurd (none-some step is)

    by_front : (f : Front) → front (unread h) ≡ f → due_by f (parts_of c h) ≡ Some step → SoundStep c h step
    by_front (got operation n) here is =
        subst (SoundStep c h) (same_Some (read operation) step is) (front_sound (unread h) operation n here)
    by_front (fault n) here is = subst (SoundStep c h) (same_Some (link_end word.Fault) step is) tt
    by_front unfinished here is = by_call (nat_lt (length (waiting_bytes c h)) 65535) (waiting_calls h) (waiting_sound c h sound) is

    by_up : (up : Bool) → cond up (due_by (front (unread h)) (parts_of c h)) None ≡ Some step → SoundStep c h step
    by_up true is = by_front (front (unread h)) refl is
    by_up false is = absurd (none-some step is)

within_sound : (c : Config) (place most : ℕ) (next : Option Step) (h : History) → SoundHistory c h → due (parts_of c h) ≡ next → SoundHistory c (settled_within c place most next h)
within_sound c place most None h sound is = sound
within_sound c place zero (Some step) h sound is = sound
within_sound c place (suc most) (Some step) h sound is =
    let more = put_steps place (chain (parts_of c h) step) h in
    within_sound c place most (due (parts_of c more)) more (chain_sound c place (parts_of c h) step h (due_sound c h step sound is) sound) refl

-- ---- turns

module _ (c : Config) (tested : c.skip_subject_validation ≡ false) (config : IsTypedConfig c) where
  call_steps_sound : (place : ℕ) (call : Call) (h : History) (r : Option CallReply) → IsTypedCall call → SoundHistory c h → refusal (parts_of c h) call ≡ r
      → SoundHistory c (put_steps place (accepted_step r call ++ gone_step (lets_go call)) h)
  call_steps_sound place call h None typed sound is =
      put_plain c place (gone_step (lets_go call)) ((place, accepted call) ∷ h) (gone_plain (lets_go call)) (accepted_sound c h call tested config typed sound is, sound)
  call_steps_sound place call h (Some refused) typed sound is = put_plain c place (gone_step (lets_go call)) h (gone_plain (lets_go call)) sound

  own_sound : (place : ℕ) (turn : Turn) (h : History) → IsTypedTurn turn → SoundHistory c h → SoundHistory c (put_steps place (own_steps (parts_of c h) turn) h)
  own_sound place (Up info) h typed sound = chain_sound c place (parts_of c h) (opened info) h typed sound
  own_sound place (Piece bytes) h typed sound = chain_sound c place (parts_of c h) (fed bytes) h tt sound
  own_sound place (Write n) h typed sound = chain_sound c place (parts_of c h) (taken (min n (length (waiting_bytes c h)))) h tt sound
  own_sound place Tick h typed sound = by (nat_le tick_limit (ticks (parts_of c h).link.pings))
    where
      by : (b : Bool) → SoundHistory c (put_steps place (cond b (chain (parts_of c h) (link_end word.Ticks)) (chain (parts_of c h) ticked)) h)
      by true = chain_sound c place (parts_of c h) (link_end word.Ticks) h tt sound
      by false = chain_sound c place (parts_of c h) ticked h tt sound
  own_sound place Lost h typed sound = chain_sound c place (parts_of c h) (link_end word.Lost) h tt sound
  own_sound place GiveUp h typed sound = chain_sound c place (parts_of c h) closed h tt sound
  own_sound place Hangup h typed sound = by (is_up h)
    where
      by : (b : Bool) → SoundHistory c (put_steps place (cond b (chain (parts_of c h) (link_end word.Hangup)) (chain (parts_of c h) closed)) h)
      by true = chain_sound c place (parts_of c h) (link_end word.Hangup) h tt sound
      by false = chain_sound c place (parts_of c h) closed h tt sound
  own_sound place (Do call) h typed sound = call_steps_sound place call h (refusal (parts_of c h) call) typed sound refl
  own_sound place (Take sid) h typed sound =
      put_plain c place (took_step sid (take_reply (parts_of c h) sid)) h (took_plain sid (take_reply (parts_of c h) sid)) sound
  own_sound place (Deadline ticket) h typed sound = by (is_unsettled ticket (parts_of c h).tickets)
    where
      by : (b : Bool) → SoundHistory c (put_steps place (cond b (chain (parts_of c h) (passed ticket)) []) h)
      by true = chain_sound c place (parts_of c h) (passed ticket) h tt sound
      by false = sound

  turn_sound : (place : ℕ) (turn : Turn) (h : History) → IsTypedTurn turn → SoundHistory c h → SoundHistory c (after_turn c place turn h)
  turn_sound place turn h typed sound =
      let own = put_steps place (own_steps (parts_of c h) turn) h in
      within_sound c place (most_due (parts_of c own)) (due (parts_of c own)) own (own_sound place turn h typed sound) refl

  all_sound : (place : ℕ) (turns : List Turn) (h : History) → AreTypedTurns turns → SoundHistory c h → SoundHistory c (steps_from c place turns h)
  all_sound place [] h typed sound = sound
  all_sound place (turn ∷ turns) h typed sound =
      all_sound (suc place) turns (after_turn c place turn h) typed.1 (turn_sound place turn h typed.0 sound)

  pub steps_sound : (turns : List Turn) → AreTypedTurns turns → SoundHistory c (steps c turns)
  steps_sound turns typed = all_sound 1 turns [] typed tt
