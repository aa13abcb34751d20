-- What stands at the front follows from what is seen there.
use Rattle.nats_decode.specs.Decoder.{sight_view}
use Rattle.nats_decode.proofs.Sights.{ok_by_sight, ok_fits}
use Rattle.nats_unread.proofs.unread.Unread.front.Goals as goal

pub returns-clause-front : goal.returns-clause-front
returns-clause-front c = ok_by_sight c.args.self.now.bytes (sight_view c.sight.result) c.front_kept.result c.sight.ensures c.front_kept.ensures.front

pub returns-clause-fits : goal.returns-clause-fits
returns-clause-fits c =
    ok_fits c.args.self.now.bytes c.front_kept.result (ok_by_sight c.args.self.now.bytes (sight_view c.sight.result) c.front_kept.result c.sight.ensures c.front_kept.ensures.front)
