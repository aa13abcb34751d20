use Rattle.std.proofs.Common.{rules}
use Rattle.nats_ticket_lock.proofs.Moves.{joins}
use Rattle.nats_ticket_lock.proofs.ticket.TicketLock.join.Goals as goal

pub join_seat-requires : goal.join_seat-requires
join_seat-requires g c = (search rules, search rules, search rules, search rules, joins _ _ _ _ _ _ _ _ _ c.requires.idle.0 c.requires.idle.1)
