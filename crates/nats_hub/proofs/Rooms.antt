-- A core as its turns leave it, and a call that finds room.
use Rattle.std.proofs.Common.{◌≡◌, ℕ, Bool, true, false, Result, Ok, Err, OnOk, refl, sym, ◌∙◌, ap, subst}
use Rattle.nats_history.specs.declared.call.Call.{Call}
use Rattle.nats_history.specs.declared.turn.Turn.{Turn}
use Rattle.nats_history.specs.Schedule.{call_reply}
use Rattle.nats_core.specs.declared.answers.StepError.{StepError}
use Rattle.nats_core.specs.declared.answers.StepError.TheVariants.{OutOfTurn, LinkGone, NoMemory as Wanting}
use Rattle.nats_core.specs.declared.entry.StepReply.{StepReply}
use Rattle.nats_core.specs.Journal.{Logged, caught_up}
use Rattle.nats_core.proofs.Cores.{catches_up, none_caught_up}
use Rattle.nats_core.specs.Calls.{PlaysDue, Steps, StepsOn, parts_in}
use Rattle.nats_refusals.specs.Refusals.{MayAnswer, answer_of, may_call}
use Rattle.nats_refusals.proofs.Replying.{may_answer, never_full}

pub kept_due : (old new : Logged) → PlaysDue old new → new.is_kept ≡ old.is_kept
kept_due old new plays = ap (λ (core : Logged). core.is_kept) plays.same

pub entries_due : (old new : Logged) → PlaysDue old new → new.entries ≡ old.entries
entries_due old new plays = ap (λ (core : Logged). core.entries) plays.same

pub kept_step : (old new : Logged) (t : Turn) (r : Result StepReply StepError) → Steps old t r new → new.is_kept ≡ old.is_kept
kept_step old new t (Ok reply) steps = ap (λ (core : Logged). core.is_kept) steps.2.same
kept_step old new t (Err OutOfTurn) steps = ap (λ (core : Logged). core.is_kept) steps.1
kept_step old new t (Err (LinkGone current)) steps = absurd steps
kept_step old new t (Err Wanting) steps = ap (λ (core : Logged). core.is_kept) steps.0.same

pub kept_step_on : (link : ℕ) (old new : Logged) (t : Turn) (r : Result StepReply StepError) → StepsOn link old t r new → new.is_kept ≡ old.is_kept
kept_step_on link old new t (Ok reply) steps = kept_step old new t (Ok reply) steps.0
kept_step_on link old new t (Err OutOfTurn) steps = kept_step old new t (Err OutOfTurn) steps.0
kept_step_on link old new t (Err (LinkGone current)) steps = ap (λ (core : Logged). core.is_kept) steps.2
kept_step_on link old new t (Err Wanting) steps = kept_step old new t (Err Wanting) steps.0

pub idle_after : {A E : Type 0} (r : Result A E) (old new : Logged) → OnOk r (new ≡ caught_up old) → OnOk r (caught_up new ≡ new)
idle_after (Ok u) old new is =
    sym (catches_up {A = Unit {0}} {E = Unit {0}} (Ok tt) new new (record { rounds = 0; same = refl }) (none_caught_up old new is))
idle_after (Err e) old new is = tt

pub ruleset due_rules = (kept_due, entries_due, idle_after)

pub waited : (core : Logged) (call : Call) → caught_up core ≡ core → may_call (parts_in core) ≡ true
    → MayAnswer true call (answer_of (call_reply (parts_in (caught_up core)) call))
waited core call idle may =
    subst (λ (it : Logged). MayAnswer true call (answer_of (call_reply (parts_in it) call))) (sym idle) (never_full (parts_in core) call may)

pub answered : (core : Logged) (call : Call) → MayAnswer false call (answer_of (call_reply (parts_in core) call))
answered core call = may_answer (parts_in core) call
