-- What errors print.
use Rattle.std.specs.Prelude.{ℕ, List, ◌++◌, codes}
use Rattle.std.specs.Fmt.{decimal}
use Rattle.nats_broker.specs.declared.turn.RouteError.{RouteError}
use Rattle.nats_broker.specs.declared.turn.RouteError.TheVariants as refused

abbrev pub route_error_text : RouteError → List ℕ
route_error_text (refused.OutOfTurn place) = codes "turn " ++ (decimal place ++ codes " out of turn")
route_error_text refused.NoMemory = codes "out of memory"
