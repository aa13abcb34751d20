-- The payload of a message ends two bytes before its text.
use Rattle.std.proofs.Common.{ap, sym, refl, ◌∙◌}
use Rattle.nats_decode.specs.declared.decode.OpText as code
use Rattle.nats_lines.specs.Operations.{plain, message, whole}
use Rattle.nats_decode.specs.Decoder.{op_text_view, message_view}
use Rattle.nats_decode.proofs.Ends.{payload_ends}
use Rattle.nats_decode.proofs.copies.peeked_kept.Goals as goal

pub message_boxed-requires : goal.message_boxed-requires
message_boxed-requires c =
    payload_ends c.args.buf.now (plain (message c.in-Message.sid (message_view c.in-Message.message))) c.args.len c.in-Message.message.payload.now
    (sym (ap (λ (t : code.OpText). whole (op_text_view t) c.args.len) c.in-Message.is) ∙ c.requires) refl
