-- The first line decides who reads.
use Rattle.std.proofs.Common.{ap, ◌∙◌}
use Rattle.nats_broker_text.specs.Commands.{is_unfinished}
use Rattle.nats_broker_text.proofs.Fronts.{by_connect, by_client, connect_there, where_refused}
use Rattle.nats_broker_text.proofs.read.read_command.Goals as goal

pub returns-in-Some-clause-front : goal.returns-in-Some-clause-front
returns-in-Some-clause-front c =
    rw (by_connect c.args.text.now c.in-Some.behind.now c.in-Some.ensures.behind) c.read_connect.ensures.front

pub returns-in-Some-clause-memory : goal.returns-in-Some-clause-memory
returns-in-Some-clause-memory c =
    let behind = c.in-Some.behind.now in
    where_refused c.read_connect.result
    (ap is_unfinished (by_connect c.args.text.now behind c.in-Some.ensures.behind) ∙ connect_there behind)

pub returns-in-None-clause-front : goal.returns-in-None-clause-front
returns-in-None-clause-front c = rw (by_client c.args.text.now c.in-None.ensures.behind) c.read_client.ensures.front

pub returns-in-None-clause-memory : goal.returns-in-None-clause-memory
returns-in-None-clause-memory c = rw (by_client c.args.text.now c.in-None.ensures.behind) c.read_client.ensures.memory
