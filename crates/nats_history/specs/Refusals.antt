-- What refusals print.
use Rattle.std.specs.Prelude.{ℕ, List, ◌++◌, codes}
use Rattle.std.specs.Fmt.{decimal}
use Rattle.nats_history.specs.declared.transcript.RunError.{RunError}
use Rattle.nats_history.specs.declared.transcript.RunError.TheVariants as refused

abbrev pub run_error_text : RunError → List ℕ
run_error_text (refused.OutOfTurn place) = codes "turn " ++ decimal place ++ codes " may not come there"
run_error_text refused.NoMemory = codes "out of memory"
