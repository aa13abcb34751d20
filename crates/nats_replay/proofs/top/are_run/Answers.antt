-- One word is `run` exactly where its bytes are.
use Rattle.std.proofs.Common.{arith}
use Rattle.std.specs.String.{string_bytes}
use Rattle.nats_replay.proofs.Outcomes.{one_word, run_is}
use Rattle.nats_replay.proofs.top.are_run.Goals as goal

pub returns-in-len1 : goal.returns-in-len1
returns-in-len1 c =
    run_is _ (string_bytes c.word-item.result) c.eq.result (one_word string_bytes c.args.words.now c.word-item.result c.in-len1.len_at_least (omega arith) c.word-item.is) (rw c.as_str.ensures.value at c.eq.ensures)
