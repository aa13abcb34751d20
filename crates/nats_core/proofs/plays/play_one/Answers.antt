-- The step that is due has a name; none is due at rest.
use Rattle.std.proofs.Common.{sym, ap, ◌∙◌}
use Rattle.std.specs.Prelude.{is_some}
use Rattle.nats_session.proofs.Settles.{at_rest_none}
use Rattle.nats_core.proofs.Dues.{none_round, advances_round, tells_some}
use Rattle.nats_core.proofs.plays.play_one.Goals as goal

pub returns-then-is_at_rest-clause-one : goal.returns-then-is_at_rest-clause-one
returns-then-is_at_rest-clause-one c =
    sym (none_round c.args.handler.now
    (at_rest_none c.args.handler.now.parts (sym c.is_at_rest.ensures ∙ c.if-is_at_rest.true)))

pub returns-then-is_at_rest-clause-some : goal.returns-then-is_at_rest-clause-some
returns-then-is_at_rest-clause-some c =
    sym (ap is_some (at_rest_none c.args.handler.now.parts (sym c.is_at_rest.ensures ∙ c.if-is_at_rest.true)))

pub returns-clause-one : goal.returns-clause-one
returns-clause-one c = advances_round c.args.handler.now c.advance.new.self c.in_ok-advance.field-0 c.in_ok-advance.ensures.ok

pub returns-clause-some : goal.returns-clause-some
returns-clause-some c =
    c.is_step.ensures ∙ tells_some c.args.handler.now c.advance.new.self c.in_ok-advance.field-0 c.in_ok-advance.ensures.ok
