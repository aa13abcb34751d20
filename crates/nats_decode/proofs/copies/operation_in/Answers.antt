-- The payload of a message ends two bytes before its text.
use Rattle.std.proofs.Common.{ap, sym, refl, ◌∙◌}
use Rattle.nats_decode.specs.declared.decode.OpText as code
use Rattle.nats_lines.specs.Operations.{plain, message, headed, whole}
use Rattle.nats_decode.specs.Decoder.{op_text_view, message_view}
use Rattle.nats_decode.proofs.Ends.{payload_ends}
use Rattle.nats_decode.proofs.copies.operation_in.Goals as goal

pub message_in-requires : goal.message_in-requires
message_in-requires c =
    payload_ends c.args.bytes.now (plain (message c.in-Message.sid (message_view c.in-Message.text))) c.args.len c.in-Message.text.payload.now
    (sym (ap (λ (t : code.OpText). whole (op_text_view t) c.args.len) c.in-Message.is) ∙ c.requires) refl

pub header_message_in-requires : goal.header_message_in-requires
header_message_in-requires c =
    payload_ends c.args.bytes.now (headed c.in-HeaderMessage.sid (message_view c.in-HeaderMessage.text) c.in-HeaderMessage.block.now) c.args.len c.in-HeaderMessage.text.payload.now
    (sym (ap (λ (t : code.OpText). whole (op_text_view t) c.args.len) c.in-HeaderMessage.is) ∙ c.requires) refl
