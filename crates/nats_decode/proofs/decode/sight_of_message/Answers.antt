-- The length of a message fits, since subject and reply stand in the line.
use Rattle.std.proofs.Common.{◌≡◌, arith, sym, ◌∙◌, drop, length-drop, ap, Some}
use Rattle.std.proofs.lemmas.List.{take_rest}
use Rattle.nats_lines.specs.Heads.{head_view}
use Rattle.nats_lines.specs.Operations.{head_of}
use Rattle.nats_lines.proofs.Pieces.{head_short}
use Rattle.nats_decode.proofs.decode.sight_of_message.Goals as goal

pub message_text-message-requires : goal.message_text-message-requires
message_text-message-requires c =
    let line = c.args.line.now.text.now in
    let is : head_of (drop 4 line) ≡ Some (head_view c.in-Some.head) =
    ap head_of (sym (take_rest line 4)) ∙ sym c.in-Some.ensures in
    omega (arith, head_short (drop 4 line) (head_view c.in-Some.head) is, length-drop 4 line, c.requires.fits, c.in-Some-payload_of.ensures.fits)
