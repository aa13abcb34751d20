-- no byte so far is a space
use Rattle.memchr.specs.Find.{Nowhere, Passes, is_byte}
use Rattle.nats_lines.proofs.head.first_space.Given as goal

abbrev pub invariant-loop-i : goal.invariant-loop-i
invariant-loop-i l = Nowhere (Passes (is_byte 32) l.fn.text) 0 l.i
