-- What the name and the others have afterwards.
use Rattle.nats_header.proofs.Laws.{values_of-inserted, others-inserted}
use Rattle.nats_header.proofs.map.HeaderMap.insert.Goals as goal

pub returns-clause-values : goal.returns-clause-values
returns-clause-values g c =
    values_of-inserted c.insert_field.new.self c.args.self.now c.in_ok-name.name c.in_ok-name.value _ _ c.in_ok-name.ensures.0 c.in_ok-name.ensures.1 c.in_ok-insert_field.ensures.ok

pub returns-clause-others : goal.returns-clause-others
returns-clause-others g c =
    others-inserted c.insert_field.new.self c.args.self.now c.in_ok-name.name c.in_ok-name.value _ _ c.in_ok-name.ensures.0 c.in_ok-name.ensures.1 c.in_ok-insert_field.ensures.ok
