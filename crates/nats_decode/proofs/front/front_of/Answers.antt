-- What stands at the front follows from what is seen there.
use Rattle.nats_decode.specs.Decoder.{sight_view}
use Rattle.nats_decode.proofs.Sights.{ok_by_sight, ok_fits}
use Rattle.nats_decode.proofs.front.front_of.Goals as goal

pub returns-clause-front : goal.returns-clause-front
returns-clause-front c = ok_by_sight c.args.bytes.now (sight_view c.sight_of.result) c.front_by.result c.sight_of.ensures c.front_by.ensures.front

pub returns-clause-fits : goal.returns-clause-fits
returns-clause-fits c =
    ok_fits c.args.bytes.now c.front_by.result (ok_by_sight c.args.bytes.now (sight_view c.sight_of.result) c.front_by.result c.sight_of.ensures c.front_by.ensures.front)
