-- The call is taken in and noted over the fields.
use Rattle.std.proofs.Common.{◌≡◌, true, sym, subst}
use Rattle.nats_history.specs.declared.turn.Turn.TheVariants as turns
use Rattle.nats_session.specs.Handler.{can_play}
use Rattle.nats_core.specs.Journal.{Logged}
use Rattle.nats_core.specs.Calls.{parts_in}
use Rattle.nats_core.proofs.Cores.{sound_noted, played_noted, stays_noted}
use Rattle.nats_core.proofs.machine.Core.note_call.Goals as goal

pub invariant_of-self : goal.invariant_of-self
invariant_of-self c =
    sound_noted c.submit_own.result c.self.inside.is_kept c.self.inside.entries.items c.submit_own.new.entries.items c.self.inside.session c.submit_own.new.self (turns.Do c.args.call) c.self.invariant
    (subst (λ (core : Logged). can_play (parts_in core) (turns.Do c.args.call) ≡ true) (sym c.self.view_is) c.requires)
    c.submit_own.ensures.seen c.submit_own.ensures.noted c.submit_own.ensures.same c.submit_own.ensures.stay

pub returns-clause-ok : goal.returns-clause-ok
returns-clause-ok c =
    played_noted c.submit_own.result c.self.inside.is_kept c.self.inside.entries.items c.submit_own.new.entries.items c.self.inside.session c.submit_own.new.self (turns.Do c.args.call) c.args.self.now c.self.view_is c.submit_own.ensures.seen c.submit_own.ensures.noted

pub returns-clause-err : goal.returns-clause-err
returns-clause-err c =
    stays_noted c.submit_own.result c.self.inside.is_kept c.self.inside.entries.items c.submit_own.new.entries.items c.self.inside.session c.submit_own.new.self c.args.self.now c.self.view_is c.submit_own.ensures.same c.submit_own.ensures.stay
