-- One more value is told.
use Rattle.std.proofs.Common.{sym, subst, arith}
use Rattle.std.proofs.lemmas.List.{drop_all}
use Rattle.nats_client_text.specs.Law.{AreTexts}
use Rattle.nats_mesh.proofs.Listed.{values_on}
use Rattle.nats_mesh.proofs.told.tell_values.Goals as goal

pub loop-value-init : goal.loop-value-init
loop-value-init c = λ all. all

pub loop-value-preserved : goal.loop-value-preserved
loop-value-preserved c =
    values_on c.args.values.now c.loop-value.value-index c.value-item.result c.loop-value-test.true c.value-item.is c.tell_value.ensures c.loop-value.invariant

pub returns : goal.returns
returns c =
    c.loop-value.invariant (subst AreTexts (sym (drop_all c.loop-value.value-index c.args.values.now (omega (arith, c.loop-value-test.false)))) tt)
