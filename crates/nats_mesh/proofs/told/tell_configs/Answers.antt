-- One more config is told.
use Rattle.std.proofs.Common.{sym, subst, arith}
use Rattle.std.proofs.lemmas.List.{drop_all}
use Rattle.nats_own_laws.specs.Own.{AreTypedConfigs}
use Rattle.nats_mesh.proofs.Listed.{configs_on}
use Rattle.nats_mesh.proofs.told.tell_configs.Goals as goal

pub loop-config-init : goal.loop-config-init
loop-config-init c = λ all. all

pub loop-config-preserved : goal.loop-config-preserved
loop-config-preserved c =
    configs_on c.args.configs.now c.loop-config.config-index c.config-item.result c.loop-config-test.true c.config-item.is c.tell_config.ensures c.loop-config.invariant

pub returns : goal.returns
returns c =
    c.loop-config.invariant (subst AreTypedConfigs (sym (drop_all c.loop-config.config-index c.args.configs.now (omega (arith, c.loop-config-test.false)))) tt)
