use Rattle.nats_rpc_laws.proofs.Services.{answers_in_order}
use Rattle.nats_rpc_laws.proofs.answers_in_order.Goals as goal

pub returns : goal.returns
returns g c = answers_in_order g.F.FnMut (λ v. v.items)
