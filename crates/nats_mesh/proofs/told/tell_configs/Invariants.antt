-- the settings before this one were told
use Rattle.std.proofs.Common.{drop}
use Rattle.nats_own_laws.specs.Own.{AreTypedConfigs}
use Rattle.nats_mesh.proofs.told.tell_configs.Given as goal

abbrev pub invariant-loop-config : goal.invariant-loop-config
invariant-loop-config l = AreTypedConfigs (drop l.config-index l.configs) → AreTypedConfigs l.configs
