use Rattle.std.proofs.Common.{rules, refl, ap, ◌∙◌, ◌<◌}
use Rattle.nats_ticket_lock.proofs.Moves.{draws}
use Rattle.nats_ticket_lock.proofs.ticket.TicketLock.draw.Goals as goal

pub compare_exchange-found-requires : goal.compare_exchange-found-requires
compare_exchange-found-requires g c =
    let lt : c.peek-ticket.result < 18446744073709551615 = search rules in
    (search rules, search rules, draws _ _ _ _ _ _ _ _ _ _ (ap (λ me. me.0.stage) c.loop.invariant.1 ∙ c.requires.1) lt refl)
