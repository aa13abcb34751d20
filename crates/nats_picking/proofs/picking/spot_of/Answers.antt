-- What the comparison says of the place.
use Rattle.std.proofs.Common.{arith}
use Rattle.nats_picking.specs.Picking.{nows}
use Rattle.nats_picking.proofs.Picks.{stands_at, past_one, put_before, put_same, within}
use Rattle.nats_picking.proofs.picking.spot_of.Goals as goal

pub returns-in-Less : goal.returns-in-Less
returns-in-Less c =
    let stands = stands_at c.args.all.now c.all.k c.index-all-k.result c.all-test.true c.index-all-k.is in
    (within c.args.all.now c.all.k c.all.invariant.0, put_before c.args.i.now c.index-all-k.result.now (nows c.args.all.now) c.all.k stands c.in-Less.ensures c.all.invariant.1)

pub returns-in-Equal : goal.returns-in-Equal
returns-in-Equal c =
    let stands = stands_at c.args.all.now c.all.k c.index-all-k.result c.all-test.true c.index-all-k.is in
    (_, _, stands, put_same c.args.i.now c.index-all-k.result.now (nows c.args.all.now) c.all.k stands c.in-Equal.ensures c.all.invariant.1)

pub all-preserved : goal.all-preserved
all-preserved c =
    let stands = stands_at c.args.all.now c.all.k c.index-all-k.result c.all-test.true c.index-all-k.is in
    (omega (arith, c.all-test.true), past_one c.args.i.now c.index-all-k.result.now (nows c.args.all.now) c.all.k stands c.in-Greater.ensures c.all.invariant.1)
