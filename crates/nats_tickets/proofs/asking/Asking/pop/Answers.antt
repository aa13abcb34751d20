-- The first request goes from both.
use Rattle.nats_tickets.proofs.Asks.{indexed_less}
use Rattle.nats_tickets.proofs.asking.Asking.pop.Goals as goal

pub invariant_of-self : goal.invariant_of-self
invariant_of-self c =
    indexed_less c.in-Some.subject c.in-Some.ticket c.self.inside.subjects.entries c.pop_first.new.self.entries c.self.inside.tickets.entries c.forget_subject.new.tickets.entries c.self.invariant c.in-Some.ensures.value c.in-Some.ensures.updates.0 c.forget_subject.ensures

pub invariant_of-self-in-Some-2 : goal.invariant_of-self-in-Some-2
invariant_of-self-in-Some-2 c =
    indexed_less c.in-Some.subject c.in-Some.ticket c.self.inside.subjects.entries c.pop_first.new.self.entries c.self.inside.tickets.entries c.forget_subject.new.tickets.entries c.self.invariant c.in-Some.ensures.value c.in-Some.ensures.updates.0 c.forget_subject.ensures
