-- A number is drawn beside what all parts tell, and what stands beside them.
use Rattle.nats_outside.proofs.seen.draw.Goals as goal

pub returns-clause-beside : goal.returns-clause-beside
returns-clause-beside g c = (g.met.W.Reach.by_draw c.draw.new.self c.args.world.now c.draw.ensures.beside).3
