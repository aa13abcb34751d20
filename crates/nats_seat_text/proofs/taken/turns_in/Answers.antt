-- One turn more.
use Rattle.std.proofs.Common.{[], ◌∷◌, ◌++◌, sym, ◌∙◌, ap}
use Rattle.nats_seat_text.specs.Report.{turns_in}
use Rattle.nats_seat_text.proofs.Turns.{turns_more}
use Rattle.nats_seat_text.proofs.taken.turns_in.Goals as goal

pub entries-preserved : goal.entries-preserved
entries-preserved c =
    c.in_ok-push.ensures.items
    ∙ (ap (λ turns. turns ++ c.turn_of.result ∷ []) c.entries.invariant
    ∙ (ap (λ turn. turns_in c.entries.yielded ++ turn ∷ []) c.turn_of.ensures ∙ sym (turns_more c.entries.yielded c.in-Some.entry)))
