use Rattle.std.proofs.Common.{rules}
use Rattle.nats_ticket_lock.proofs.Moves.{counts}
use Rattle.nats_ticket_lock.proofs.ticket.TicketLock.count.Goals as goal

pub load-requires : goal.load-requires
load-requires g c = (search rules, search rules, counts _ _ _ _ _ _ _ _ _ c.requires.1)
