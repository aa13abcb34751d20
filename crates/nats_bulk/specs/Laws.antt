-- A sentence about the list of turns.
use Rattle.std.specs.Prelude.{◌≡◌, ℕ, None}
use Rattle.nats_history.specs.Schedule.{out_of_turn}
use Rattle.nats_bulk.specs.Generated.{bulk_config, generated}

-- however many turns the list has, each may come where it stands
abbrev pub InTurn : Type 0
InTurn = (n : ℕ) → out_of_turn bulk_config (generated n) ≡ None
