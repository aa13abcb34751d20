-- What came of the session is what its link shows.
use Rattle.nats_live.specs.Ended.{limit_with}
use Rattle.nats_live.proofs.Ends.{received_over}
use Rattle.nats_live.proofs.live.receive_over.Goals as goal

pub returns : goal.returns
returns g c = λ head took.
    received_over c.args.rest.items head c.args.subject.now c.args.count c.receive_on-result.new.core.session
    (g.L.LinkRead.read_told c.args.read.now) (g.L.LinkRead.read_told c.receive_on-result.new.read)
    (g.T.LinkWrite.write_told c.receive_on-result.new.write) c.receive_on-result.result c.requires
    (c.receive_on-result.ensures (limit_with c.args.info.max_payload c.args.rest.items) c.args.rest.items head c.in_ok-core.ensures.begun took)
