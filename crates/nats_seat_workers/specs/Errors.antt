-- What workers that did not come to their end are told.
use Rattle.std.specs.Prelude.{ℕ, List, codes}
use Rattle.nats_desk.specs.declared.errors.PlayError.{PlayError}
use Rattle.nats_desk.specs.declared.errors.PlayError.TheVariants as unplayed
use Rattle.nats_seat_workers.specs.declared.error.WorkError.{WorkError}
use Rattle.nats_seat_workers.specs.declared.error.WorkError.TheVariants.{Refused, NoMemory}

-- what is printed
abbrev pub work_error_text : WorkError → List ℕ
work_error_text Refused = codes "the session was not the workers' alone"
work_error_text NoMemory = codes "out of memory"

-- what a turn that was not played comes to
abbrev pub refusal_by : PlayError → WorkError
refusal_by (unplayed.OutOfTurn turn) = Refused
refusal_by (unplayed.NoMemory turn) = NoMemory
