use Rattle.nats_dial.proofs.Greeting.{begun_of}
use Rattle.nats_dial.proofs.greet.begin.Goals as goal

pub returns : goal.returns
returns g c = begun_of c.args.addr.now c.args.options.now.connection_timeout c.args.start c.new.result c.new.ensures
