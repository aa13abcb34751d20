-- One turn of a core, one write to a link, one read of it, each with all that it makes due.
use Rattle.std.specs.Prelude.{◌≡◌, ◌<◌, ◌≤◌, ℕ, Bool, true, false, List, [], length, take, Result, Ok, Err}
use Rattle.std.specs.Io.KnownBytes.{append_known}
use Rattle.nats_names.specs.declared.failed.NoMemory.{NoMemory}
use Rattle.nats_addr.specs.Resolving.{risen}
use Rattle.nats_outside.specs.Told.{ReadTold, WriteTold}
use Rattle.nats_history.specs.declared.turn.Turn.{Turn}
use Rattle.nats_history.specs.declared.turn.Turn.TheVariants as turns
use Rattle.nats_history.specs.Schedule.{is_valid_turn}
use Rattle.nats_core.specs.declared.answers.StepError.{StepError}
use Rattle.nats_core.specs.declared.answers.StepError.TheVariants.{OutOfTurn, LinkGone, NoMemory as Wanting}
use Rattle.nats_core.specs.declared.answers.ReadOnce.{ReadOnce}
use Rattle.nats_core.specs.declared.answers.ReadOnce.TheVariants as reads
use Rattle.nats_core.specs.declared.answers.WriteOnce.{WriteOnce}
use Rattle.nats_core.specs.declared.answers.WriteOnce.TheVariants as writes
use Rattle.nats_core.specs.declared.entry.StepReply.{StepReply}
use Rattle.nats_core.specs.Journal.{Logged, caught_up, played, reply_to}
use Rattle.nats_core.specs.Calls.{parts_in}
use Rattle.nats_core.specs.Links.{told_after, GivesNone, waiting_in}
use Rattle.nats_live.specs.declared.error.LiveError.{LiveError}
use Rattle.nats_live.specs.declared.error.LiveError.TheVariants as refused

-- a core once a turn was played, and all steps that were due before it and after it
abbrev pub wholly_played : Turn → Logged → Logged
wholly_played turn core = caught_up (played turn (caught_up core))

-- a turn that may come is played; want of memory says nothing of the core
abbrev pub PlaysWhole : Logged → Turn → Result StepReply StepError → Logged → Type 0
PlaysWhole old turn (Ok reply) new = (is_valid_turn (parts_in (caught_up old)) turn ≡ true)
    × (reply ≡ reply_to (parts_in (caught_up old)) turn) × (new ≡ wholly_played turn old)
PlaysWhole old turn (Err OutOfTurn) new =
    (is_valid_turn (parts_in (caught_up old)) turn ≡ false) × (new ≡ caught_up old)
PlaysWhole old turn (Err (LinkGone current)) new = ⊥
PlaysWhole old turn (Err Wanting) new = Unit {0}

-- a link that is up is hung up, unless memory was wanting; one that is down is left so
abbrev pub HangsUpWhere : Bool → Logged → Logged → Type 0
HangsUpWhere true old new = (result : Result StepReply StepError) × PlaysWhole old turns.Hangup result new
HangsUpWhere false old new = new ≡ old

abbrev pub HangsUp : Logged → Logged → Type 0
HangsUp old new = HangsUpWhere (parts_in old).link.is_up old new

-- a turn that may not come is one whose link is over
abbrev pub step_refused : StepError → LiveError
step_refused OutOfTurn = refused.LinkEnded
step_refused (LinkGone current) = refused.LinkEnded
step_refused Wanting = refused.NoMemory

-- a write to the link that is up took the first bytes that wait, or none waits, or it failed; nothing where no
-- link is up
abbrev pub WritesWhole : Logged → WriteTold → WriteTold → Result WriteOnce NoMemory → Logged → Type 0
WritesWhole old before after (Ok (writes.Wrote n)) new = ((parts_in (caught_up old)).link.is_up ≡ true) × (0 < n)
    × (n ≤ length (waiting_in (caught_up old)))
    × (after ≡ record before { taken = append_known before.taken (take n (waiting_in (caught_up old))) })
    × (new ≡ wholly_played (turns.Write n) old)
WritesWhole old before after (Ok writes.Idle) new = ((parts_in (caught_up old)).link.is_up ≡ true)
    × (waiting_in (caught_up old) ≡ []) × (after ≡ before) × (new ≡ caught_up old)
WritesWhole old before after (Ok writes.Lost) new = ((parts_in (caught_up old)).link.is_up ≡ true)
    × (after ≡ record before { faults = risen 1 before.faults }) × (new ≡ wholly_played turns.Lost old)
WritesWhole old before after (Ok writes.Gone) new = ((parts_in (caught_up old)).link.is_up ≡ false)
    × (after ≡ before) × (new ≡ caught_up old)
WritesWhole old before after (Err e) new = Unit {0}

-- a read of the link that is up gave some bytes of a buffer, or none; nothing where no link is up
abbrev pub ReadsWhole : Logged → List ℕ → ReadTold → ReadTold → Result ReadOnce NoMemory → Logged → Type 0
ReadsWhole old buf before after (Ok (reads.Played n)) new = ((parts_in (caught_up old)).link.is_up ≡ true) × (0 < n)
    × (n ≤ length buf) × (after ≡ told_after (Ok n) buf after.left before)
    × (new ≡ wholly_played (turns.Piece (take n buf)) old)
ReadsWhole old buf before after (Ok reads.Lost) new = ((parts_in (caught_up old)).link.is_up ≡ true)
    × GivesNone before after × (new ≡ wholly_played turns.Lost old)
ReadsWhole old buf before after (Ok reads.Gone) new = ((parts_in (caught_up old)).link.is_up ≡ false)
    × (after ≡ before) × (new ≡ caught_up old)
ReadsWhole old buf before after (Err e) new = Unit {0}
