-- The settings of a session that was told none.
use Rattle.std.specs.Prelude.{false, codes}
use Rattle.nats_history.specs.declared.config.Config.{Config}

abbrev pub default_config : Config
default_config = record {
  client_capacity = 2048;
  subscription_capacity = 65536;
  skip_subject_validation = false;
  inbox_prefix = codes "_INBOX";
  mux_id = codes "MUX1";
}
