-- The due steps are played on the session.
use Rattle.nats_core.proofs.Cores.{sound_due, plays_due, catches_up}
use Rattle.nats_core.proofs.machine.Core.catch_up.Goals as goal

pub invariant_of-self : goal.invariant_of-self
invariant_of-self c =
    sound_due c.self.inside.is_kept c.self.inside.entries.items c.self.inside.session c.play_due.new.self c.self.invariant c.play_due.ensures.rounds

pub returns-clause-plays : goal.returns-clause-plays
returns-clause-plays c =
    plays_due c.self.inside.is_kept c.self.inside.entries.items c.self.inside.session c.play_due.new.self c.args.self.now c.self.view_is c.play_due.ensures.rounds

pub returns-clause-ok : goal.returns-clause-ok
returns-clause-ok c =
    catches_up c.play_due.result c.args.self.now _ (plays_due c.self.inside.is_kept c.self.inside.entries.items c.self.inside.session c.play_due.new.self c.args.self.now c.self.view_is c.play_due.ensures.rounds) c.play_due.ensures.ok
