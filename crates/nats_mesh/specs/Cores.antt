-- A turn on a core, and what waits for its link.
use Rattle.std.specs.Prelude.{◌≡◌, ℕ, ◌-◌, Bool, true, false, List, [], ◌∷◌, ◌++◌, length, slice_get, Option, Some, None, Result, Ok, Err, IsErr}
use Rattle.nats_names.specs.declared.failed.NoMemory.{NoMemory}
use Rattle.nats_history.specs.declared.config.Config.{Config}
use Rattle.nats_history.specs.declared.turn.Turn.{Turn}
use Rattle.nats_history.specs.declared.transcript.LinkRow.{LinkRow}
use Rattle.nats_history.specs.Parts.{parts_of}
use Rattle.nats_history.specs.Schedule.{is_valid_turn, steps}
use Rattle.nats_history.specs.Transcripts.{transcript}
use Rattle.nats_core.specs.declared.answers.StepError.{StepError}
use Rattle.nats_core.specs.declared.answers.StepError.TheVariants.{OutOfTurn, LinkGone, NoMemory as Wanting}
use Rattle.nats_core.specs.declared.entry.StepReply.{StepReply}
use Rattle.nats_core.specs.Journal.{Logged, config_of, journal_turns}

-- a turn may come behind some turns
abbrev pub may_come : Config → List Turn → Turn → Bool
may_come c turns turn = is_valid_turn (parts_of c (steps c turns)) turn

-- of a core whose journal is kept: a turn that may come is noted; whether it may come is answered
abbrev pub PlaysBy : Logged → Turn → Result Bool NoMemory → Logged → Type 0
PlaysBy old turn (Ok true) new = old.is_kept ≡ true
    → (may_come (config_of old) (journal_turns old) turn ≡ true) × (journal_turns new ≡ journal_turns old ++ turn ∷ [])
PlaysBy old turn (Ok false) new = old.is_kept ≡ true
    → (may_come (config_of old) (journal_turns old) turn ≡ false) × (journal_turns new ≡ journal_turns old)
PlaysBy old turn (Err e) new = Unit {0}

-- its journal is kept or not as before, and its settings stay
abbrev pub Keeps : Logged → Logged → Type 0
Keeps old new = (new.is_kept ≡ old.is_kept) × (config_of new ≡ config_of old)

abbrev pub PlaysTurn : Logged → Turn → Result Bool NoMemory → Logged → Type 0
PlaysTurn old turn r new = Keeps old new × PlaysBy old turn r new

-- whether a turn was played; memory may be wanting
abbrev pub TellsPlayed : Result StepReply StepError → Result Bool NoMemory → Type 0
TellsPlayed (Ok reply) r = r ≡ Ok true
TellsPlayed (Err OutOfTurn) r = r ≡ Ok false
TellsPlayed (Err (LinkGone current)) r = r ≡ Ok false
TellsPlayed (Err Wanting) r = IsErr r

abbrev pub left_in : Option LinkRow → List ℕ
left_in None = []
left_in (Some row) = row.left

-- what waits for the last link, or waited at its end
abbrev pub last_left : List LinkRow → List ℕ
last_left links = left_in (slice_get links (length links - 1))

abbrev pub left_bytes : Config → List Turn → List ℕ
left_bytes c turns = last_left (transcript c turns).links
