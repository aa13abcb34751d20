-- what is left goes on with the number of the digits so far, and the text has digits alone where the rest has
use Rattle.nats_lines.proofs.Numbers.{GoesOn}
use Rattle.nats_lines.proofs.head.short_number.Given as goal

abbrev pub invariant-loop-i : goal.invariant-loop-i
invariant-loop-i l = GoesOn l.fn.text l.i l.n
