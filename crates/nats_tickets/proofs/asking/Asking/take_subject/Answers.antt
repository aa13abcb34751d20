-- What the index finds is the one that waits for the subject.
use Rattle.std.proofs.Common.{◌∙◌, ap}
use Rattle.nats_history.specs.Tickets.{request_at, requests_elsewhere}
use Rattle.nats_tickets.specs.Asking.{but_if}
use Rattle.nats_tickets.proofs.Asks.{found_is, indexed_gone}
use Rattle.nats_tickets.proofs.asking.Asking.take_subject.Goals as goal

pub invariant_of-self : goal.invariant_of-self
invariant_of-self c =
    indexed_gone c.args.subject.now c.find_out-ticket.result c.self.inside.subjects.entries c.forget_if.new.subjects.entries c.self.inside.tickets.entries c.find_out-ticket.new.tickets.entries c.self.invariant c.find_out-ticket.ensures.ticket c.forget_if.ensures.updated c.find_out-ticket.ensures.rest

pub returns-clause-ticket : goal.returns-clause-ticket
returns-clause-ticket c =
    c.find_out-ticket.ensures.ticket
    ∙ ((found_is c.args.subject.now c.self.inside.subjects.entries c.self.inside.tickets.entries c.self.invariant c.ordered.ensures).0 ∙ ap (request_at c.args.subject.now) c.self.view_is)

pub returns-clause-rest : goal.returns-clause-rest
returns-clause-rest c =
    c.forget_if.ensures.entries
    ∙ (ap (λ o. but_if o c.self.inside.subjects.entries) c.find_out-ticket.ensures.ticket
    ∙ ((found_is c.args.subject.now c.self.inside.subjects.entries c.self.inside.tickets.entries c.self.invariant c.ordered.ensures).1 ∙ ap (requests_elsewhere c.args.subject.now) c.self.view_is))
