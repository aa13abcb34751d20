use Rattle.std.proofs.Common.{rules}
use Rattle.nats_ticket_lock.proofs.Told.{gives_as, adds_as, after_add, after_give}
use Rattle.nats_ticket_lock.proofs.ticket.TicketLock.give_entry.Goals as goal

pub fetch_add-requires : goal.fetch_add-requires
fetch_add-requires g c =
    let e = c.requires.entry in
    (search rules, search rules, adds_as _ _ _ _ _ _ _ _ _ _ _ e.0 c.hold.ensures.1 c.requires.held.1 e.1 e.2 e.3 c.requires.same.1)

pub load-requires : goal.load-requires
load-requires g c =
    let e = c.requires.entry in let r = c.requires.same in
    (search rules, search rules, gives_as _ _ _ _ _ _ _ _ _ _ _ r.2.0 (search rules) (after_add _ _ _ _ _ _ c.hold.ensures.1 c.fetch_add.ensures.2 e.0 e.1).0 c.requires.held.1 e.1 r.0 r.2.1 r.2.2)

pub returns : goal.returns
returns g c = (
  search rules,
  λ e ey.
      let a = after_add _ _ _ _ _ _ c.hold.ensures.1 c.fetch_add.ensures.2 e ey in
      (after_give _ _ _ _ _ a.0 c.requires.held.1 c.load.ensures.2, a.1),
)
