-- What each core keeps, through all that is done to it, and what its calls come to.
use Rattle.std.proofs.Common.{◌≡◌, ℕ, Bool, true, false, not, is_some, ◌&&◌, List, [], ◌∷◌, ◌++◌, drop, Option, Some, None, Result, Ok, Err, IsErr, IsErrAnd, OnOk, OnErr, IfOk, IfErr, refl, sym, ◌∙◌, ap, subst, arith}
use Rattle.std.proofs.lemmas.Bool.{false≢true}
use Rattle.nats_names.specs.declared.event.Event.{Event}
use Rattle.nats_history.specs.declared.config.Config.{Config}
use Rattle.nats_history.specs.declared.call.Call.{Call}
use Rattle.nats_history.specs.declared.call.CallReply.{CallReply}
use Rattle.nats_history.specs.declared.turn.Turn.{Turn}
use Rattle.nats_history.specs.declared.turn.Turn.TheVariants as turns
use Rattle.nats_history.specs.History.{Step, History}
use Rattle.nats_history.specs.Parts.{Parts}
use Rattle.nats_history.specs.Schedule.{is_valid_turn, own_steps, call_reply, due}
use Rattle.nats_tickets.specs.Kept.{without}
use Rattle.nats_session.specs.Handler.{Seen, HandedOut, nothing_handed, StandsFor, seen_all, can_play, handed, HandsOut, handed_reply, HandsReply}
use Rattle.nats_session.proofs.Handlers.{both_true}
use Rattle.nats_core.specs.declared.answers.StepError.{StepError}
use Rattle.nats_core.specs.declared.answers.StepError.TheVariants.{OutOfTurn, LinkGone, NoMemory}
use Rattle.nats_core.specs.declared.entry.Entry.{Entry}
use Rattle.nats_core.specs.declared.entry.StepReply.{StepReply}
use Rattle.nats_core.specs.declared.entry.StepReply.TheVariants as replies
use Rattle.nats_core.specs.Journal.{turns_of, reply_to, IsRight, StandsForTurns, Logged, core_of, config_of, journal_turns, IsSound, new_core, due_rounds, with_session, caught_up, entries_with, entry_of, played}
use Rattle.nats_core.specs.Calls.{parts_in, PlaysDue, Plays, Steps, is_on, up_number, PlaysOn, StepsOn, Submits}
use Rattle.nats_core.proofs.Dues.{config_all, config_rounds, rounds_enough, none_after_all}
use Rattle.nats_core.proofs.Journals.{right_more, stands_rounds, parts_are, stands_entry}

-- ---- what a core keeps

sound_from : (core : Logged) (c : Config) → config_of core ≡ c → IsRight c core.entries → (core.is_kept ≡ true → StandsForTurns c (journal_turns core) core.session) → (core.is_kept ≡ false → core.entries ≡ [])
    → IsSound core
sound_from core c is right stands unkept = record {
  right = subst (λ k. IsRight k core.entries) (sym is) right;
  stands = λ kept. subst (λ k. StandsForTurns k (journal_turns core) core.session) (sym is) (stands kept);
  unkept = unkept;
}

pub sound_new : (c : Config) (kept : Bool) → IsSound (new_core c kept)
sound_new c kept = record {
  right = record { valid = refl; replied = refl };
  stands = λ is. record {
    out = nothing_handed;
    history = [];
    stands = record { parts = refl; handed_out = omega arith; waiting = refl; replied = tt; ready = refl };
    rest = refl;
  };
  unkept = λ is. refl;
}

-- ---- which turn may be played

and_true : (b : Bool) → (b && true) ≡ b
and_true true = refl
and_true false = refl

pub may_where_none : (p : Parts) (t : Turn) → due p ≡ None → can_play p t ≡ is_valid_turn p t
may_where_none p t none = ap (λ o. is_valid_turn p t && not (is_some o)) none ∙ and_true (is_valid_turn p t)

second_true : (a b : Bool) → (a && b) ≡ true → b ≡ true
second_true true b is = is
second_true false b is = absurd (false≢true is)

none_of : (next : Option Step) → not (is_some next) ≡ true → next ≡ None
none_of None is = refl
none_of (Some step) is = absurd (false≢true is)

pub may_valid : (p : Parts) (t : Turn) → can_play p t ≡ true → is_valid_turn p t ≡ true
may_valid p t may = both_true (is_valid_turn p t) (not (is_some (due p))) may

pub may_none : (p : Parts) (t : Turn) → can_play p t ≡ true → due p ≡ None
may_none p t may = none_of (due p) (second_true (is_valid_turn p t) (not (is_some (due p))) may)

pub not_both : (next : Option Step) → next ≡ None → is_some next ≡ true → ⊥
not_both next none some = false≢true (sym (ap is_some none) ∙ some)

-- ---- what a core keeps as its fields change

-- due steps were played
pub sound_due : (kept : Bool) (entries : List Entry) (old new : Seen) → IsSound (core_of kept entries old) → ((rounds : ℕ) × (new ≡ due_rounds rounds old)) → IsSound (core_of kept entries new)
sound_due kept entries old new sound due =
    subst (λ s. IsSound (core_of kept entries s)) (sym due.1) (sound_from (core_of kept entries (due_rounds due.0 old)) old.parts.config (config_rounds due.0 old) sound.right (λ is. stands_rounds old.parts.config (turns_of entries) due.0 old (sound.stands is)) sound.unkept)

-- nothing of the session changed
pub sound_same : (kept : Bool) (entries : List Entry) (old new : Seen) → IsSound (core_of kept entries old) → new ≡ old → IsSound (core_of kept entries new)
sound_same kept entries old new sound same = subst (λ s. IsSound (core_of kept entries s)) (sym same) sound

-- the own steps of a turn were played, and it was noted where the journal is kept
own_kept : (entries : List Entry) (old : Seen) (t : Turn) → IsSound (core_of true entries old) → can_play old.parts t ≡ true
    → IsSound (core_of true (entries ++ entry_of old.parts t ∷ []) (seen_all old (own_steps old.parts t)))
own_kept entries old t sound may =
    let c = old.parts.config in
    let own = own_steps old.parts t in
    let stands = sound.stands refl in
    let none = may_none old.parts t may in
    sound_from (core_of true (entries ++ entry_of old.parts t ∷ []) (seen_all old own)) c (config_all old own)
    (right_more c entries t old.parts sound.right (parts_are c (turns_of entries) old stands none) (may_valid old.parts t may))
    (λ is. stands_entry c entries t old stands none)
    (λ is. absurd (false≢true (sym is)))

own_unkept : (entries : List Entry) (old : Seen) (t : Turn) → IsSound (core_of false entries old) → IsSound (core_of false entries (seen_all old (own_steps old.parts t)))
own_unkept entries old t sound =
    let own = own_steps old.parts t in
    sound_from (core_of false entries (seen_all old own)) old.parts.config (config_all old own) sound.right (λ is. absurd (false≢true is)) sound.unkept

pub sound_noted : {A E : Type 0} (r : Result A E) (kept : Bool) (entries more : List Entry) (old new : Seen) (t : Turn) → IsSound (core_of kept entries old) → can_play old.parts t ≡ true
    → OnOk r (new ≡ seen_all old (own_steps old.parts t)) → OnOk r (more ≡ entries_with kept (entry_of old.parts t) entries) → OnErr r (new ≡ old) → OnErr r (more ≡ entries) → IsSound (core_of kept more new)
sound_noted (Ok reply) kept entries more old new t sound may seen noted same stay =
    subst (λ s. IsSound (core_of kept more s)) (sym seen) (subst (λ es. IsSound (core_of kept es (seen_all old (own_steps old.parts t)))) (sym noted) (by kept sound))
  where
    by : (b : Bool) → IsSound (core_of b entries old) → IsSound (core_of b (entries_with b (entry_of old.parts t) entries) (seen_all old (own_steps old.parts t)))
    by true sound = own_kept entries old t sound may
    by false sound = own_unkept entries old t sound
sound_noted (Err e) kept entries more old new t sound may seen noted same stay =
    subst (λ s. IsSound (core_of kept more s)) (sym same) (subst (λ es. IsSound (core_of kept es old)) (sym stay) sound)

-- and what that comes to
pub played_noted : {A E : Type 0} (r : Result A E) (kept : Bool) (entries more : List Entry) (old new : Seen) (t : Turn) (core : Logged) → core_of kept entries old ≡ core
    → OnOk r (new ≡ seen_all old (own_steps old.parts t)) → OnOk r (more ≡ entries_with kept (entry_of old.parts t) entries) → OnOk r (core_of kept more new ≡ played t core)
played_noted (Ok reply) kept entries more old new t core is seen noted =
    ap (λ s. core_of kept more s) seen ∙ (ap (λ es. core_of kept es (seen_all old (own_steps old.parts t))) noted ∙ ap (played t) is)
played_noted (Err e) kept entries more old new t core is seen noted = tt

pub stays_noted : {A E : Type 0} (r : Result A E) (kept : Bool) (entries more : List Entry) (old new : Seen) (core : Logged) → core_of kept entries old ≡ core
    → OnErr r (new ≡ old) → OnErr r (more ≡ entries) → OnErr r (core_of kept more new ≡ core)
stays_noted (Ok reply) kept entries more old new core is same stay = tt
stays_noted (Err e) kept entries more old new core is same stay =
    ap (λ s. core_of kept more s) same ∙ (ap (λ es. core_of kept es old) stay ∙ is)

-- something was handed out
sound_handed : (kept : Bool) (entries : List Entry) (old new : Seen) → IsSound (core_of kept entries old) → new.parts ≡ old.parts
    → ((c : Config) (out : HandedOut) (h : History) → StandsFor c out h old → (more : HandedOut) × StandsFor c more h new) → IsSound (core_of kept entries new)
sound_handed kept entries old new sound same hands =
    sound_from (core_of kept entries new) old.parts.config (ap (λ (p : Parts). p.config) same) sound.right (λ is. let stands = sound.stands is in let more = hands old.parts.config stands.out stands.history stands.stands in record {
      out = more.0;
      history = stands.history;
      stands = more.1;
      rest = stands.rest;
    }) sound.unkept

pub sound_event : (kept : Bool) (entries : List Entry) (old new : Seen) (event : Option Event) → IsSound (core_of kept entries old) → new ≡ record old { events = drop 1 old.events } → HandsOut old event new
    → IsSound (core_of kept entries new)
sound_event kept entries old new event sound rest hands =
    sound_handed kept entries old new sound (ap (λ (s : Seen). s.parts) rest) (λ c out h stands. (handed event out, (hands c out h stands).1))

pub sound_reply : (kept : Bool) (entries : List Entry) (old new : Seen) (ticket : ℕ) (reply : Option CallReply) → IsSound (core_of kept entries old) → new ≡ record old { ready = without ticket old.ready }
    → HandsReply ticket old reply new → IsSound (core_of kept entries new)
sound_reply kept entries old new ticket reply sound rest hands =
    sound_handed kept entries old new sound (ap (λ (s : Seen). s.parts) rest) (λ c out h stands. (handed_reply ticket reply out, (hands c out h stands).1))

-- ---- what calls come to

-- due steps were played on the session
pub plays_due : (kept : Bool) (entries : List Entry) (old new : Seen) (core : Logged) → core_of kept entries old ≡ core → ((rounds : ℕ) × (new ≡ due_rounds rounds old)) → PlaysDue core (core_of kept entries new)
plays_due kept entries old new core is due = record {
  rounds = due.0;
  same = ap (λ s. core_of kept entries s) due.1 ∙ ap (λ (x : Logged). with_session (due_rounds due.0 x.session) x) is;
}

-- playing due steps until none is left
due_all : (old new : Logged) → PlaysDue old new → due (parts_in new) ≡ None → new ≡ caught_up old
due_all old new plays none =
    plays.same
    ∙ ap (λ s. with_session s old) (rounds_enough plays.rounds old.session (ap (λ (core : Logged). due (parts_in core)) (sym plays.same) ∙ none))

pub catches_up : {A E : Type 0} (r : Result A E) (old new : Logged) → PlaysDue old new → OnOk r (due (parts_in new) ≡ None) → OnOk r (new ≡ caught_up old)
catches_up (Ok u) old new plays none = due_all old new plays none
catches_up (Err e) old new plays none = tt

pub none_caught_up : (old new : Logged) → new ≡ caught_up old → due (parts_in new) ≡ None
none_caught_up old new is = ap (λ (core : Logged). due (parts_in core)) is ∙ none_after_all old.session

-- a turn is played once the due steps are
pub steps_by : (old mid new : Logged) (t : Turn) (r : Result StepReply StepError) → PlaysDue old mid → mid ≡ caught_up old → Plays mid t r new → Steps old t r new
steps_by old mid new t (Ok reply) due is plays = subst (λ core. Plays core t (Ok reply) new) is plays
steps_by old mid new t (Err OutOfTurn) due is plays = subst (λ core. Plays core t (Err OutOfTurn) new) is plays
steps_by old mid new t (Err (LinkGone current)) due is plays = absurd plays
steps_by old mid new t (Err NoMemory) due is plays = (
  subst (PlaysDue old) (sym plays.1) due,
  λ none. ap (λ core. is_valid_turn (parts_in core) t) (sym is) ∙ plays.0,
)

-- memory was wanting for a step that was due before
pub steps_behind : (old new : Logged) (t : Turn) → PlaysDue old new → is_some (due (parts_in new)) ≡ true → Steps old t (Err NoMemory) new
steps_behind old new t plays behind = (plays, λ none. absurd (not_both (due (parts_in new)) none behind))

-- memory was wanting for the turn
pub plays_wanting : (old new : Logged) (t : Turn) (r : Result StepReply StepError) → IsErr r × IsErrAnd r (λ e. e ≡ NoMemory) → is_valid_turn (parts_in old) t ≡ true → new ≡ old → Plays old t r new
plays_wanting old new t (Ok reply) is valid same = absurd is.1
plays_wanting old new t (Err e) is valid same = subst (λ x. Plays old t (Err x) new) (sym is.1) (valid, same)

pub plays_ok : (old mid new : Logged) (t : Turn) (reply : StepReply) → is_valid_turn (parts_in old) t ≡ true → reply ≡ reply_to (parts_in old) t → mid ≡ played t old → PlaysDue mid new → Plays old t (Ok reply) new
plays_ok old mid new t reply valid is own due = (valid, is, subst (λ core. PlaysDue core new) own due)

pub steps_wanting : (old new : Logged) (t : Turn) (r : Result StepReply StepError) → IsErr r × IsErrAnd r (λ e. e ≡ NoMemory) → PlaysDue old new → is_some (due (parts_in new)) ≡ true → Steps old t r new
steps_wanting old new t (Ok reply) is plays behind = absurd is.1
steps_wanting old new t (Err e) is plays behind = subst (λ x. Steps old t (Err x) new) (sym is.1) (steps_behind old new t plays behind)

pub plays_on : (link : ℕ) (old new : Logged) (t : Turn) (r : Result StepReply StepError) → is_on link (parts_in old) ≡ true
    → Plays old t r new → PlaysOn link old t r new
plays_on link old new t (Ok reply) on plays = (plays, on)
plays_on link old new t (Err OutOfTurn) on plays = (plays, on)
plays_on link old new t (Err (LinkGone current)) on plays = absurd plays
plays_on link old new t (Err NoMemory) on plays = (plays, on)

pub steps_on_by : (link : ℕ) (old mid new : Logged) (t : Turn) (r : Result StepReply StepError) → PlaysDue old mid
    → mid ≡ caught_up old → PlaysOn link mid t r new → StepsOn link old t r new
steps_on_by link old mid new t (Ok reply) due is plays = (
  steps_by old mid new t (Ok reply) due is plays.0,
  ap (λ core. is_on link (parts_in core)) (sym is) ∙ plays.1,
)
steps_on_by link old mid new t (Err OutOfTurn) due is plays = (
  steps_by old mid new t (Err OutOfTurn) due is plays.0,
  ap (λ core. is_on link (parts_in core)) (sym is) ∙ plays.1,
)
steps_on_by link old mid new t (Err (LinkGone current)) due is plays = (
  ap (λ core. is_on link (parts_in core)) (sym is) ∙ plays.0,
  plays.1 ∙ ap (λ core. up_number (parts_in core)) is,
  plays.2 ∙ is,
)
steps_on_by link old mid new t (Err NoMemory) due is plays = (
  steps_by old mid new t (Err NoMemory) due is plays.0,
  λ none. ap (λ core. is_on link (parts_in core)) (sym is) ∙ plays.1,
)

pub steps_on_behind : (link : ℕ) (old new : Logged) (t : Turn) → PlaysDue old new → is_some (due (parts_in new)) ≡ true → StepsOn link old t (Err NoMemory) new
steps_on_behind link old new t plays behind = (
  steps_behind old new t plays behind,
  λ none. absurd (not_both (due (parts_in new)) none behind),
)

pub steps_on_wanting : (link : ℕ) (old new : Logged) (t : Turn) (r : Result StepReply StepError) → IsErr r × IsErrAnd r (λ e. e ≡ NoMemory) → PlaysDue old new → is_some (due (parts_in new)) ≡ true → StepsOn link old t r new
steps_on_wanting link old new t (Ok reply) is plays behind = absurd is.1
steps_on_wanting link old new t (Err e) is plays behind = subst (λ x. StepsOn link old t (Err x) new) (sym is.1) (steps_on_behind link old new t plays behind)

-- a call that may come once no step is due
pub may_caught_up : (old mid : Logged) (t : Turn) → mid ≡ caught_up old → is_valid_turn (parts_in (caught_up old)) t ≡ true → can_play (parts_in mid) t ≡ true
may_caught_up old mid t is valid =
    may_where_none (parts_in mid) t (none_caught_up old mid is) ∙ (ap (λ core. is_valid_turn (parts_in core) t) is ∙ valid)

pub submits_by : (old mid new : Logged) (call : Call) (r : Result CallReply Call) → PlaysDue old mid → mid ≡ caught_up old → IfOk r (λ reply. reply ≡ call_reply (parts_in mid) call)
    → OnOk r (PlaysDue (played (turns.Do call) mid) new) → IfErr r (λ back. back ≡ call) → OnErr r (new ≡ mid) → Submits old call r new
submits_by old mid new call (Ok reply) due is replied plays back stay = (
  replied ∙ ap (λ core. call_reply (parts_in core) call) is,
  subst (λ core. PlaysDue (played (turns.Do call) core) new) is plays,
)
submits_by old mid new call (Err other) due is replied plays back stay = (back, subst (PlaysDue old) (sym stay) due)

-- ---- the journal

entries_due : (old new : Logged) → PlaysDue old new → new.entries ≡ old.entries
entries_due old new plays = ap (λ (core : Logged). core.entries) plays.same

-- what one entry more or none is, by what a turn answered
abbrev pub Notes : Logged → Turn → Result StepReply StepError → Logged → Type 0
Notes old t (Ok reply) new = new.entries ≡ entries_with old.is_kept (record { turn = t; reply = reply }) old.entries
Notes old t (Err e) new = new.entries ≡ old.entries

pub steps_note : (old new : Logged) (t : Turn) (r : Result StepReply StepError) → Steps old t r new → Notes old t r new
steps_note old new t (Ok reply) steps =
    entries_due (played t (caught_up old)) new steps.2
    ∙ ap (λ x. entries_with old.is_kept (record { turn = t; reply = x }) old.entries) (sym steps.1)
steps_note old new t (Err OutOfTurn) steps = ap (λ (core : Logged). core.entries) steps.1
steps_note old new t (Err (LinkGone current)) steps = absurd steps
steps_note old new t (Err NoMemory) steps = entries_due old new steps.0

pub steps_on_note : (link : ℕ) (old new : Logged) (t : Turn) (r : Result StepReply StepError) → StepsOn link old t r new → Notes old t r new
steps_on_note link old new t (Ok reply) steps = steps_note old new t (Ok reply) steps.0
steps_on_note link old new t (Err OutOfTurn) steps = steps_note old new t (Err OutOfTurn) steps.0
steps_on_note link old new t (Err (LinkGone current)) steps = ap (λ (core : Logged). core.entries) steps.2
steps_on_note link old new t (Err NoMemory) steps = steps_note old new t (Err NoMemory) steps.0

pub noted_ok : (old new : Logged) (t : Turn) (r : Result StepReply StepError) → Notes old t r new
    → IfOk r (λ reply. new.entries ≡ entries_with old.is_kept (record { turn = t; reply = reply }) old.entries)
noted_ok old new t (Ok reply) notes = notes
noted_ok old new t (Err e) notes = tt

pub noted_err : (old new : Logged) (t : Turn) (r : Result StepReply StepError) → Notes old t r new → OnErr r (new.entries ≡ old.entries)
noted_err old new t (Ok reply) notes = tt
noted_err old new t (Err e) notes = notes

-- a call
pub submits_note : (old new : Logged) (call : Call) (r : Result CallReply Call) → Submits old call r new
    → IfOk r (λ reply. new.entries ≡ entries_with old.is_kept (record { turn = turns.Do call; reply = replies.Call reply }) old.entries)
submits_note old new call (Ok reply) submits =
    entries_due (played (turns.Do call) (caught_up old)) new submits.1
    ∙ ap (λ x. entries_with old.is_kept (record { turn = turns.Do call; reply = replies.Call x }) old.entries) (sym submits.0)
submits_note old new call (Err back) submits = tt

pub submits_stay : (old new : Logged) (call : Call) (r : Result CallReply Call) → Submits old call r new → OnErr r (new.entries ≡ old.entries)
submits_stay old new call (Ok reply) submits = tt
submits_stay old new call (Err back) submits = entries_due old new submits.1
