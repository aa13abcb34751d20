use Rattle.std.proofs.Common.{rules}
use Rattle.nats_ticket_lock.proofs.Moves.{compares}
use Rattle.nats_ticket_lock.proofs.ticket.TicketLock.compare.Goals as goal

pub load-requires : goal.load-requires
load-requires g c = (search rules, search rules, compares _ _ _ _ _ _ _ _)
