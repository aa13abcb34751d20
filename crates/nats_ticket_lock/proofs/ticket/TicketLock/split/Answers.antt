use Rattle.std.proofs.Common.{rules}
use Rattle.nats_ticket_lock.proofs.Moves.{tells}
use Rattle.nats_ticket_lock.proofs.ticket.TicketLock.split.Goals as goal

pub split_seat-requires : goal.split_seat-requires
split_seat-requires g c = (search rules, search rules, tells _ _ _ _ _ _ _)
