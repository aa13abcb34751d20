use Rattle.std.proofs.Common.{rules}
use Rattle.nats_ticket_lock.proofs.Told.{begins_as}
use Rattle.nats_ticket_lock.proofs.ticket.TicketLock.open.Goals as goal

pub new-requires : goal.new-requires
new-requires g c = begins_as _ _ _ _ _ _ c.args.value (search rules) c.requires.0 c.requires.1 c.requires.2
