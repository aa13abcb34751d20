-- The reply stands behind the number.
use Rattle.std.proofs.Common.{◌+◌, length, arith, refl}
use Rattle.nats_plain.proofs.PlainLines.{reply_there, reply_within}
use Rattle.nats_plain.proofs.plain.reply_in.Goals as goal

pub overflow_add-at-in-Some : goal.overflow_add-at-in-Some
overflow_add-at-in-Some c =
    let t = c.args.text.now in
    let at = length t.line.subject.now + length t.line.sid.now + 6 in
    omega (arith, reply_within t c.in-Some.reply c.args.bytes.now at c.in-Some.is c.requires.parts refl, c.requires.small)

pub word_in-requires-clause-there : goal.word_in-requires-clause-there
word_in-requires-clause-there c =
    let t = c.args.text.now in
    let at = length t.line.subject.now + length t.line.sid.now + 6 in
    reply_there t c.in-Some.reply c.args.bytes.now at c.in-Some.is c.requires.parts refl
