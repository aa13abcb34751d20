-- each byte so far is visible
use Rattle.memchr.specs.Find.{Nowhere, Passes}
use Rattle.nats_plain.specs.Plain.{is_odd}
use Rattle.nats_plain.proofs.plain.word_len.Given as goal

abbrev pub invariant-loop-i : goal.invariant-loop-i
invariant-loop-i l = Nowhere (Passes is_odd l.fn.text) 0 l.i
