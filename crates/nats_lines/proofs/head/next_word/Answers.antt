-- What is taken off is the first word.
use Rattle.std.proofs.Common.{rules}
use Rattle.nats_lines.proofs.Words.{word_by_step}
use Rattle.nats_lines.proofs.head.next_word.Goals as goal

pub returns : goal.returns
returns c = word_by_step c.next.result c.args.words.now c.next.new.self (search rules) c.next.ensures.steps
