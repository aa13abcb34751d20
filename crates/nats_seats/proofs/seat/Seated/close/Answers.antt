-- Where it has as many numbers as seats were made it has each; where it has fewer, one of them is missing.
use Rattle.std.proofs.Common.{◌≡◌, rules, ap, sym, subst, length, arith}
use Rattle.nats_history.specs.declared.config.Config.{Config}
use Rattle.nats_ticket_lock.specs.Steps.{Lacks, Sat}
use Rattle.nats_desk.specs.declared.desk.Desk.{Desk}
use Rattle.nats_desk.specs.declared.entry.SeatEntry.{SeatEntry}
use Rattle.nats_seats.specs.Seats.{Closes}
use Rattle.nats_seats.proofs.Leaving.{closes_at}
use Rattle.nats_seats.proofs.seat.Seated.close.Goals as goal

pub returns-then-made-self-clause-closed : goal.returns-then-made-self-clause-closed
returns-then-made-self-clause-closed g c =
    let all : length c.self.inside.place.me.0.accounts ≡ c.enter-ticket.result.1.made = omega (arith, c.if-made-self.true, c.self.invariant.6, c.made-made.ensures.made) in
    subst (λ k. Closes k c.into_journal.result.items) c.self.view_is
    (closes_at c.self.inside.place c.enter-ticket.new.place _ _ c.enter-ticket.result.1 c.into_journal.result.items c.enter-ticket.ensures.place.1 c.count.ensures.3 c.count.ensures.4 all
    c.enter-ticket.ensures.seen.0 c.enter-ticket.ensures.seen.2 c.into_journal.ensures.entries)

pub returns-clause-open : goal.returns-clause-open
returns-clause-open g c =
    let entered = c.enter-ticket.ensures.place.1 in
    let lacks = c.count.ensures.3.1 (λ q. c.if-made-self.false (let a = ap (λ (m : Sat Config SeatEntry Desk). length m.0.accounts) entered in let b = ap (λ (m : Sat Config SeatEntry Desk). m.0.made) entered in omega (arith, q, a, b, c.self.invariant.6, c.made-made.ensures.made))) in
    (search rules, subst (λ (m : Sat Config SeatEntry Desk). Lacks m.0) (sym c.leave.ensures.1) (subst (λ (m : Sat Config SeatEntry Desk). Lacks m.0) (sym c.count.ensures.1) lacks))
