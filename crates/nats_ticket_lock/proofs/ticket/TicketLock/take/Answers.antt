use Rattle.std.proofs.Common.{rules, ap, Some}
use Rattle.nats_ticket_lock.proofs.Moves.{takes_out, held_first}
use Rattle.nats_ticket_lock.proofs.ticket.TicketLock.take.Goals as goal

pub load-requires : goal.load-requires
load-requires g c = (search rules, search rules, takes_out _ _ _ _ _ _ _ _ _ c.requires.1 c.requires.2)

pub exchange-requires : goal.exchange-requires
exchange-requires g c = (search rules, (Some c.load.ensures.2.0, held_first _ _ (ap (λ m. m.1) c.load.ensures.2.1)))
