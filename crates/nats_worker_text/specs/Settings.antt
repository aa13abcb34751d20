-- The settings of a session at which workers publish.
use Rattle.std.specs.Prelude.{ℕ}
use Rattle.nats_history.specs.declared.config.Config.{Config}
use Rattle.nats_bulk.specs.Generated.{bulk_config}

-- those of a long list of turns, but so many calls may wait
abbrev pub workers_config : ℕ → Config
workers_config calls = record bulk_config { client_capacity = calls }
