use Rattle.std.proofs.Common.{rules}
use Rattle.nats_ticket_lock.proofs.Told.{gives_as, after_give}
use Rattle.nats_ticket_lock.proofs.ticket.TicketLock.give.Goals as goal

pub load-requires : goal.load-requires
load-requires g c =
    let r = c.requires.same in
    (search rules, search rules, gives_as _ _ _ _ _ _ _ _ _ _ _ r.2.0 (search rules) c.hold.ensures.1 c.requires.held.1 r.0 r.1 r.2.1 r.2.2)

pub returns : goal.returns
returns g c = (search rules, after_give _ _ _ _ _ c.hold.ensures.1 c.requires.held.1 c.load.ensures.2)
