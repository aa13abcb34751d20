-- A number that was not given is of no request.
use Rattle.std.proofs.Common.{◌∙◌, ap, sym, arith, ◌≡◌}
use Rattle.nats_tables.specs.Numbers.{item_of}
use Rattle.nats_history.specs.Schedule.{is_of_request}
use Rattle.nats_tickets.specs.Runs.{kind_in}
use Rattle.nats_tickets.proofs.Sorts.{kind_there, kind_missing}
use Rattle.nats_tickets.proofs.kinds.Kinds.is_request.Goals as goal

pub returns-then-ticket-eq0 : goal.returns-then-ticket-eq0
returns-then-ticket-eq0 c =
    let none : c.args.ticket ≡ 0 = omega (arith, c.if-ticket-eq0.true) in
    ap (λ n. is_of_request (item_of n c.args.self.now)) (sym none)

pub returns-then-ticket-self : goal.returns-then-ticket-self
returns-then-ticket-self c =
    kind_missing c.self.inside.given c.args.ticket c.self.inside.runs.items (omega (arith, c.if-ticket-self.true)) ∙ ap (λ ks. is_of_request (item_of c.args.ticket ks)) c.self.view_is

pub returns : goal.returns
returns c =
    c.kind_at.ensures
    ∙ (ap (λ runs. kind_in runs c.args.ticket) c.as_slice.ensures.value
    ∙ (kind_there c.self.inside.given c.args.ticket c.self.inside.runs.items (omega (arith, c.if-ticket-eq0.false)) (omega (arith, c.if-ticket-self.false)) ∙ ap (λ ks. is_of_request (item_of c.args.ticket ks)) c.self.view_is))
