-- A first part of the text is written where the sink fails.
use Rattle.std.proofs.Common.{refl}
use Rattle.nats_replay.proofs.Asking.{cut_answers}
use Rattle.nats_replay.proofs.asked.answer_asked.Goals as goal

pub returns-in-Ok-clause-answers : goal.returns-in-Ok-clause-answers
returns-in-Ok-clause-answers g c =
    cut_answers c.args.asked _ _ _ c.in-Ok.output _ _ _ _ _ c.in-Ok.ensures refl c.in-Err-write_all.ensures.cause
    (rw c.as_slice.ensures.value at c.in-Err-write_all.ensures.front)
