-- The law, by that of what links carry.
use Rattle.nats_own_laws.proofs.Asked.{own_numbers}
use Rattle.nats_own_laws.proofs.laws.own_numbers.Goals as goal

pub returns : goal.returns
returns c = own_numbers c.no_smuggling.ensures
