-- Each digit goes on with the number of those before it.
use Rattle.std.proofs.Common.{length, ◌<◌, arith, tests}
use Rattle.nats_lines.proofs.Numbers.{number_at_end}
use Rattle.nats_lines.proofs.head.short_number.Goals as goal

pub returns : goal.returns
returns c =
    let text = c.args.text.now in
    let some : 0 < length text = grind (arith, tests, c.is_empty.ensures, c.if-is_empty.false) in
    number_at_end text c.loop-i.i c.loop-i.n some (omega (arith, c.loop-i-test.false)) (omega (arith, c.loop-i.auto.n-fits)) c.loop-i.invariant
