-- What the name and the others have afterwards.
use Rattle.nats_header.proofs.Laws.{values_of-appended, others-appended}
use Rattle.nats_header.proofs.map.HeaderMap.append.Goals as goal

pub returns-clause-values : goal.returns-clause-values
returns-clause-values g c =
    values_of-appended c.append_field.new.self c.args.self.now c.in_ok-name.name c.in_ok-name.value _ _ c.in_ok-name.ensures.0 c.in_ok-name.ensures.1 c.in_ok-append_field.ensures.ok

pub returns-clause-others : goal.returns-clause-others
returns-clause-others g c =
    others-appended c.append_field.new.self c.args.self.now c.in_ok-name.name c.in_ok-name.value _ _ c.in_ok-name.ensures.0 c.in_ok-name.ensures.1 c.in_ok-append_field.ensures.ok
