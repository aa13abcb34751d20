-- The turns of one entry more.
use Rattle.std.proofs.Common.{ap, sym, ◌∙◌, ◌++◌, ◌∷◌, [], List, take}
use Rattle.nats_history.specs.declared.turn.Turn.{Turn}
use Rattle.nats_core.specs.Journal.{turns_of}
use Rattle.nats_rpc_script.proofs.Coming.{turns_more}
use Rattle.nats_rpc_script.proofs.play.turns_of.Goals as goal

pub loop-entry-preserved : goal.loop-entry-preserved
loop-entry-preserved c =
    c.in_ok-push.ensures.items
    ∙ ap (λ (turns : List Turn). turns ++ c.in_ok-copy.field-0 ∷ []) c.loop-entry.invariant
    ∙ ap (λ (turn : Turn). turns_of (take c.loop-entry.entry-index c.args.journal.now) ++ turn ∷ []) c.in_ok-copy.ensures
    ∙ sym (turns_more c.args.journal.now c.loop-entry.entry-index c.entry-item.result c.loop-entry-test.true c.entry-item.is)
