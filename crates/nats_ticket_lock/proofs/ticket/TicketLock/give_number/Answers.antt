use Rattle.std.proofs.Common.{rules}
use Rattle.nats_ticket_lock.proofs.Told.{gives_as, makes_as, after_make, after_give}
use Rattle.nats_ticket_lock.proofs.ticket.TicketLock.give_number.Goals as goal

pub fetch_add-requires : goal.fetch_add-requires
fetch_add-requires g c = (search rules, search rules, makes_as _ _ _ _ _ _ _ _ _ _ _ c.hold.ensures.1 c.requires.held.1 c.requires.same.0)

pub load-requires : goal.load-requires
load-requires g c =
    let r = c.requires.same in let n = c.requires.number in
    (search rules, search rules, gives_as _ _ _ _ _ _ _ _ _ _ _ r.1.0 (search rules) (after_make _ _ _ _ c.hold.ensures.1 c.fetch_add.ensures.2) c.requires.held.1 n.0 n.1 r.1.1 r.1.2)

pub returns : goal.returns
returns g c = (search rules, after_give _ _ _ _ _ (after_make _ _ _ _ c.hold.ensures.1 c.fetch_add.ensures.2) c.requires.held.1 c.load.ensures.2)
