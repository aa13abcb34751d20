-- A name that is there has a value.
use Rattle.std.proofs.Common.{◌==◌, not, length, ap, ◌∙◌}
use Rattle.nats_header.specs.Headers.{has_name}
use Rattle.nats_header.proofs.Laws.{nat_lt-zero, values_of-there}
use Rattle.nats_header.proofs.map.HeaderMap.get_last.Goals as goal

pub returns-clause-there : goal.returns-clause-there
returns-clause-there c =
    c.last.ensures.item.0
    ∙ nat_lt-zero (length c.values_under.result.now)
    ∙ ap (λ values. not (length values == 0)) c.values_under.ensures
    ∙ values_of-there c.self.inside.fields c.args.key.now c.self.invariant.fields
    ∙ ap (λ headers. has_name headers c.args.key.now) c.self.view_is
