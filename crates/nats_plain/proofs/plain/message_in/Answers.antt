-- A message is no longer than the bytes.
use Rattle.std.proofs.Common.{arith}
use Rattle.nats_plain.proofs.PlainLines.{length_fits}
use Rattle.nats_plain.proofs.plain.message_in.Goals as goal

pub length_of-requires : goal.length_of-requires
length_of-requires c = omega (arith, length_fits c.args.text.now c.args.bytes.now c.requires.parts, c.requires.small)
