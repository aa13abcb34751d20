-- The piece is played and noted over the fields.
use Rattle.std.proofs.Common.{◌≡◌, true, sym, subst}
use Rattle.nats_history.specs.declared.turn.Turn.TheVariants as turns
use Rattle.nats_session.specs.Handler.{can_play}
use Rattle.nats_core.specs.Journal.{Logged}
use Rattle.nats_core.specs.Calls.{parts_in}
use Rattle.nats_core.proofs.Cores.{sound_noted, played_noted, stays_noted}
use Rattle.nats_core.proofs.machine.Core.note_piece.Goals as goal

pub invariant_of-self : goal.invariant_of-self
invariant_of-self c =
    sound_noted c.piece_own.result c.self.inside.is_kept c.self.inside.entries.items c.piece_own.new.entries.items c.self.inside.session c.piece_own.new.self (turns.Piece c.args.bytes.now) c.self.invariant
    (subst (λ (core : Logged). can_play (parts_in core) (turns.Piece c.args.bytes.now) ≡ true) (sym c.self.view_is) c.requires)
    c.piece_own.ensures.seen c.piece_own.ensures.noted c.piece_own.ensures.same c.piece_own.ensures.stay

pub returns-clause-ok : goal.returns-clause-ok
returns-clause-ok c =
    played_noted c.piece_own.result c.self.inside.is_kept c.self.inside.entries.items c.piece_own.new.entries.items c.self.inside.session c.piece_own.new.self (turns.Piece c.args.bytes.now) c.args.self.now c.self.view_is c.piece_own.ensures.seen c.piece_own.ensures.noted

pub returns-clause-err : goal.returns-clause-err
returns-clause-err c =
    stays_noted c.piece_own.result c.self.inside.is_kept c.self.inside.entries.items c.piece_own.new.entries.items c.self.inside.session c.piece_own.new.self c.args.self.now c.self.view_is c.piece_own.ensures.same c.piece_own.ensures.stay
