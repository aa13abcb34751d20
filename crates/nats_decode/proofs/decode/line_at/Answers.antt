-- The text is cut where its first line ends.
use Rattle.std.proofs.Common.{◌+◌, arith, refl, length-take-le, length-drop}
use Rattle.std.proofs.lemmas.List.{take_rest}
use Rattle.nats_decode.proofs.decode.line_at.Goals as goal

pub returns : goal.returns
returns c =
    let end = c.args.end in
    let bytes = c.args.bytes.now in
    rw (take_rest bytes (end + 2)) (record { cut = refl; whole = omega (arith, length-take-le end bytes (omega (arith, c.requires)), length-drop (end + 2) bytes, c.requires) })
