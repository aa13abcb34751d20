-- Each round plays the step that is due, until none is.
use Rattle.std.proofs.Common.{suc, refl, sym, ◌∙◌, ap}
use Rattle.nats_core.specs.Journal.{due_round}
use Rattle.nats_core.proofs.Dues.{round_nearer, round_ends}
use Rattle.nats_core.proofs.plays.play_due.Goals as goal

pub due-init : goal.due-init
due-init c = (0, refl)

pub due-smaller : goal.due-smaller
due-smaller c =
    round_nearer c.due.handler c.play_one.new.handler c.in_ok-play_one.ensures.one
    (sym c.in_ok-play_one.ensures.some ∙ c.if-branch.true)

pub due-preserved : goal.due-preserved
due-preserved c = (suc c.due.invariant.0, c.in_ok-play_one.ensures.one ∙ ap due_round c.due.invariant.1)
