-- The length of a message fits, since subject and reply stand in the line.
use Rattle.std.proofs.Common.{◌≡◌, arith, sym, ◌∙◌, drop, length-drop, ap, Some}
use Rattle.std.proofs.lemmas.List.{take_rest}
use Rattle.nats_lines.specs.Heads.{header_head_view}
use Rattle.nats_lines.specs.Operations.{header_head_of}
use Rattle.nats_lines.proofs.Words.{header_short}
use Rattle.nats_decode.proofs.decode.sight_of_header_message.Goals as goal

pub message_text-message-requires : goal.message_text-message-requires
message_text-message-requires c =
    let line = c.args.line.now.text.now in
    let is : header_head_of (drop 5 line) ≡ Some (header_head_view c.in-Some.field-0) =
    ap header_head_of (sym (take_rest line 5)) ∙ sym c.in-Some.ensures.head in
    omega (arith, header_short (drop 5 line) (header_head_view c.in-Some.field-0) is, length-drop 5 line, c.requires.fits, c.in-Some-payload_of.ensures.fits)
