-- The entry of the ticket goes.
use Rattle.std.proofs.Common.{◌∙◌}
use Rattle.nats_tickets.proofs.Asks.{but_is}
use Rattle.nats_tickets.proofs.asking.forget.Goals as goal

pub returns-clause-entries : goal.returns-clause-entries
returns-clause-entries c = c.look_out-subject.ensures.entries ∙ but_is c.args.ticket c.args.subjects.now.entries
