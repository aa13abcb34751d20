-- One turn more.
use Rattle.std.proofs.Common.{[], ◌∷◌, ◌++◌, sym, ◌∙◌, ap}
use Rattle.nats_core.specs.Journal.{turns_of}
use Rattle.nats_thread_text.proofs.Turns.{turns_more}
use Rattle.nats_thread_text.proofs.output.turns_in.Goals as goal

pub entries-preserved : goal.entries-preserved
entries-preserved c =
    c.in_ok-push.ensures.items
    ∙ (ap (λ turns. turns ++ c.turn_of.result ∷ []) c.entries.invariant
    ∙ (ap (λ turn. turns_of c.entries.yielded ++ turn ∷ []) c.turn_of.ensures ∙ sym (turns_more c.entries.yielded c.in-Some.entry)))
