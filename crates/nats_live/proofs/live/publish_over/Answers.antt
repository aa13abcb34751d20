-- What came of the session is what its link shows.
use Rattle.nats_live.specs.Ended.{limit_with}
use Rattle.nats_live.proofs.Ends.{published_over}
use Rattle.nats_live.proofs.live.publish_over.Goals as goal

pub returns : goal.returns
returns g c = λ head took.
    published_over (limit_with c.args.info.max_payload c.args.rest.items) c.args.rest.items head c.args.subject.now c.args.payload.now
    c.in_ok-core.core.session
    (g.T.LinkWrite.write_told c.publish_on-result.new.write) c.publish_on-result.result c.in_ok-core.ensures.begun
    (c.publish_on-result.ensures (limit_with c.args.info.max_payload c.args.rest.items) c.args.rest.items head c.in_ok-core.ensures.begun took)
