use Rattle.std.proofs.Common.{rules, refl}
use Rattle.nats_ticket_lock.proofs.Moves.{passes}
use Rattle.nats_ticket_lock.proofs.ticket.TicketLock.pass.Goals as goal

pub store-requires : goal.store-requires
store-requires g c = (search rules, search rules, passes _ _ _ _ _ _ _ _ _ _ c.requires.1 refl)
