-- a link that is open was handed back
use Rattle.std.proofs.Common.{◌≡◌, subst, sym, rules}
use Rattle.nats_outside.specs.Told.{Seen}
use Rattle.nats_dial.specs.Causes.{AllBack}
use Rattle.nats_start.specs.Steps.{LinkOut}
use Rattle.nats_start.proofs.Returned.{one_back}
use Rattle.nats_start.proofs.first_link.out_of_memory.Goals.{in-Some, in_default}
use Rattle.nats_start.proofs.first_link.out_of_memory.Goals as goal

pub returns-clause-back : goal.returns-clause-back
returns-clause-back g c = elim c.match-link.branch [
  | in-Some w ↦ λ a out. subst (λ s. AllBack a (g.W.Reach.seen s)) (sym w.world-is)
      (one_back a _ _ _ (subst (LinkOut a (g.W.Reach.seen c.args.world)) w.in-Some.is out) w.hand_back.ensures.back)
  | in_default w ↦ λ a out. subst (λ s. AllBack a (g.W.Reach.seen s)) (sym w.world-is)
      (subst (LinkOut a (g.W.Reach.seen c.args.world)) w.in_default.is out)
]
