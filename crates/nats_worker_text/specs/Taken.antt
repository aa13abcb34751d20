-- How many bytes the link takes of turns, and of whole writes behind them.
use Rattle.std.specs.Prelude.{ℕ, zero, suc, ◌-◌, ◌^◌, List, [], ◌∷◌, ◌++◌, length, Option, Some, None, if◌then◌else◌}
use Rattle.nats_history.specs.declared.config.Config.{Config}
use Rattle.nats_history.specs.declared.turn.Turn.{Turn}
use Rattle.nats_history.specs.declared.turn.Turn.TheVariants.{Write}
use Rattle.nats_history.specs.declared.transcript.LinkRow.{LinkRow}
use Rattle.nats_history.specs.History.{is_up}
use Rattle.nats_history.specs.Schedule.{out_of_turn, steps}
use Rattle.nats_history.specs.Transcripts.{transcript}

-- the link takes all that waits
abbrev pub whole_write : Turn
whole_write = Write (2 ^ 64 - 1)

-- it does so this often
abbrev pub writes : ℕ → List Turn
writes zero = []
writes (suc n) = writes n ++ whole_write ∷ []

-- turns, and so many such writes behind them where a link is up there
abbrev pub written_out : Config → ℕ → List Turn → List Turn
written_out c n turns = if is_up (steps c turns) then turns ++ writes n else turns

-- how many bytes link 1 took, 0 where there is none
abbrev pub first_taken : List LinkRow → ℕ
first_taken [] = 0
first_taken (row ∷ rows) = length row.taken

abbrev pub taken_by : Option ℕ → List LinkRow → ℕ
taken_by None links = first_taken links
taken_by (Some place) links = 0

-- how many bytes link 1 takes as these turns are played, 0 where one of them may not come where it stands
abbrev pub bytes_taken : Config → List Turn → ℕ
bytes_taken c turns = taken_by (out_of_turn c turns) (transcript c turns).links
