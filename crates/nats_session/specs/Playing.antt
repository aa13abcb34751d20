-- What playing a list of turns from the beginning leaves.
use Rattle.std.specs.Prelude.{◌≡◌, List, Some, None, Result, Ok, Err}
use Rattle.nats_history.specs.declared.config.Config.{Config}
use Rattle.nats_history.specs.declared.turn.Turn.{Turn}
use Rattle.nats_history.specs.declared.transcript.RunError.{RunError}
use Rattle.nats_history.specs.declared.transcript.RunError.TheVariants as refused
use Rattle.nats_history.specs.Parts.{Parts}
use Rattle.nats_history.specs.Schedule.{out_of_turn}
use Rattle.nats_history.specs.Transcripts.{transcript}
use Rattle.nats_session.specs.Sheet.{Sheet, finished}

-- parts and a sheet that finish as the transcript, where each turn may come where it stands; else the first that
-- may not is told, or memory was wanting
abbrev pub PlaysTo : Config → List Turn → Result (Unit {0}) RunError → Parts → Sheet → Type 0
PlaysTo c turns (Ok done) p sheet = (out_of_turn c turns ≡ None) × (finished p sheet ≡ transcript c turns)
PlaysTo c turns (Err (refused.OutOfTurn place)) p sheet = out_of_turn c turns ≡ Some place
PlaysTo c turns (Err refused.NoMemory) p sheet = Unit {0}
