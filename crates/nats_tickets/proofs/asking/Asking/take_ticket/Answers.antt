-- The request of the ticket goes from both.
use Rattle.std.proofs.Common.{◌∙◌, ap, sym, is_some}
use Rattle.nats_history.specs.Tickets.{waits_for_reply, requests_but}
use Rattle.nats_tickets.proofs.Asks.{but_is, waits_is, indexed_without}
use Rattle.nats_tickets.proofs.asking.Asking.take_ticket.Goals as goal

pub invariant_of-self : goal.invariant_of-self
invariant_of-self c =
    indexed_without c.look_out-subject.result c.args.ticket c.self.inside.subjects.entries c.look_out-subject.new.subjects.entries c.self.inside.tickets.entries c.forget_subject_if.new.tickets.entries c.self.invariant c.look_out-subject.ensures.subject c.look_out-subject.ensures.updated c.forget_subject_if.ensures

pub returns-clause-asked : goal.returns-clause-asked
returns-clause-asked c =
    c.is_some.ensures
    ∙ (ap is_some c.look_out-subject.ensures.subject ∙ (sym (waits_is c.args.ticket c.self.inside.subjects.entries) ∙ ap (waits_for_reply c.args.ticket) c.self.view_is))

pub returns-clause-rest : goal.returns-clause-rest
returns-clause-rest c =
    c.look_out-subject.ensures.entries ∙ (but_is c.args.ticket c.self.inside.subjects.entries ∙ ap (requests_but c.args.ticket) c.self.view_is)
