use Rattle.std.proofs.Common.{rules, ap, ◌∙◌}
use Rattle.nats_ticket_lock.proofs.Moves.{looks}
use Rattle.nats_ticket_lock.proofs.ticket.TicketLock.wait.Goals as goal

pub load-served-requires : goal.load-served-requires
load-served-requires g c = (search rules, search rules, looks _ _ _ _ _ _ _ _ _ (ap (λ me. me.0.stage) c.loop.invariant.1 ∙ c.requires.1))
