-- the link that was open was handed back
use Rattle.std.proofs.Common.{◌≡◌, subst}
use Rattle.nats_start.specs.Steps.{LinkOut}
use Rattle.nats_start.proofs.Returned.{one_back}
use Rattle.nats_start.proofs.first_link.begin.Goals as goal

pub returns-in-Err-clause-back : goal.returns-in-Err-clause-back
returns-in-Err-clause-back g c = λ a out.
    one_back a _ _ _ (subst (LinkOut a (g.W.Reach.seen c.args.world.now)) c.in-Some.is out) c.hand_back.ensures.back
