-- The turn is played and noted over the fields.
use Rattle.std.proofs.Common.{◌≡◌, true, sym, subst}
use Rattle.nats_session.specs.Handler.{can_play}
use Rattle.nats_core.specs.Journal.{Logged}
use Rattle.nats_core.specs.Calls.{parts_in}
use Rattle.nats_core.proofs.Cores.{sound_noted, played_noted, stays_noted}
use Rattle.nats_core.proofs.machine.Core.note_turn.Goals as goal

pub invariant_of-self : goal.invariant_of-self
invariant_of-self c =
    sound_noted c.play_own.result c.self.inside.is_kept c.self.inside.entries.items c.play_own.new.entries.items c.self.inside.session c.play_own.new.self c.args.turn c.self.invariant
    (subst (λ (core : Logged). can_play (parts_in core) c.args.turn ≡ true) (sym c.self.view_is) c.requires)
    c.play_own.ensures.seen c.play_own.ensures.noted c.play_own.ensures.same c.play_own.ensures.stay

pub returns-clause-ok : goal.returns-clause-ok
returns-clause-ok c =
    played_noted c.play_own.result c.self.inside.is_kept c.self.inside.entries.items c.play_own.new.entries.items c.self.inside.session c.play_own.new.self c.args.turn c.args.self.now c.self.view_is c.play_own.ensures.seen c.play_own.ensures.noted

pub returns-clause-err : goal.returns-clause-err
returns-clause-err c =
    stays_noted c.play_own.result c.self.inside.is_kept c.self.inside.entries.items c.play_own.new.entries.items c.self.inside.session c.play_own.new.self c.args.self.now c.self.view_is c.play_own.ensures.same c.play_own.ensures.stay
