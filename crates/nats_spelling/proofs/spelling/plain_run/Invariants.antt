-- each byte so far is plain
use Rattle.memchr.specs.Find.{Nowhere, Passes}
use Rattle.nats_spelling.specs.Spelling.{is_odd}
use Rattle.nats_spelling.proofs.spelling.plain_run.Given as goal

abbrev pub invariant-loop-i : goal.invariant-loop-i
invariant-loop-i l = Nowhere (Passes is_odd l.fn.bytes) 0 l.i
