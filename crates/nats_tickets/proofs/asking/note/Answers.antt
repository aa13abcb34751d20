-- What stood at the subject.
use Rattle.std.proofs.Common.{◌∙◌, ap}
use Rattle.nats_tickets.specs.Asking.{find}
use Rattle.nats_tickets.proofs.asking.note.Goals as goal

pub returns-clause-earlier : goal.returns-clause-earlier
returns-clause-earlier c =
    c.in-Ok.ensures.old ∙ ap (λ s. find s c.args.tickets.now.entries) c.in_ok-key.ensures
