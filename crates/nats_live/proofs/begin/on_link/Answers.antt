-- A link came up on a new core.
use Rattle.std.proofs.Common.{◌≡◌, refl, sym, subst, true}
use Rattle.std.specs.Prelude.{IfErr}
use Rattle.nats_history.specs.declared.turn.Turn.TheVariants as turns
use Rattle.nats_history.specs.Schedule.{is_valid_turn}
use Rattle.nats_core.specs.Calls.{parts_in}
use Rattle.nats_core.specs.Journal.{Logged, caught_up}
use Rattle.nats_live.specs.declared.error.LiveError.TheVariants as refused
use Rattle.nats_live.specs.Steps.{step_refused}
use Rattle.nats_live.proofs.Coming.{up_begun}
use Rattle.nats_live.proofs.Posting.{refused_play}
use Rattle.nats_live.proofs.Wants.{err_by}
use Rattle.nats_live.proofs.begin.on_link.Goals as goal

pub returns-clause-begun : goal.returns-clause-begun
returns-clause-begun c =
    (up_begun c.in_ok-core.core c.play.new.core c.in_ok-core.ensures.0 c.args.info c.in_ok-play.field-0
    c.in_ok-core.ensures.1
    c.in_ok-play.ensures).0

pub returns-clause-up : goal.returns-clause-up
returns-clause-up c =
    (up_begun c.in_ok-core.core c.play.new.core c.in_ok-core.ensures.0 c.args.info c.in_ok-play.field-0
    c.in_ok-core.ensures.1
    c.in_ok-play.ensures).1

pub returns-in_err-play-clause-err : goal.returns-in_err-play-clause-err
returns-in_err-play-clause-err c =
    err_by (λ r. IfErr r (λ e. e ≡ refused.NoMemory)) (step_refused c.in_err-play.field-0.0)
    c.from_residual-in_err-play.result c.from_residual-in_err-play.ensures.0 c.from_residual-in_err-play.ensures.1
    (refused_play c.in_ok-core.core c.play.new.core (turns.Up c.args.info) c.in_err-play.field-0.0
    (subst (λ (k : Logged). is_valid_turn (parts_in (caught_up k)) (turns.Up c.args.info) ≡ true)
    (sym c.in_ok-core.ensures.1) refl)
    c.in_err-play.ensures)
