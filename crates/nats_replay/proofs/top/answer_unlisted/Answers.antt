-- Nothing was printed of words that are no command before the text that says so.
use Rattle.std.proofs.Common.{refl}
use Rattle.nats_replay.proofs.top.answer_unlisted.Goals as goal

pub returns-in-Err-clause-unknown_cut_short : goal.returns-in-Err-clause-unknown_cut_short
returns-in-Err-clause-unknown_cut_short g c = λ four is.
    rw (c.in-None.ensures.unprinted refl) at c.in-Err.ensures.front
