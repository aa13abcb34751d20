-- A number's text has no CR and no LF.
use Rattle.nats_header.proofs.Texts.{signed_decimal-value}
use Rattle.nats_header.proofs.value.HeaderValue.from_i64.Goals as goal

pub value_of_text-requires : goal.value_of_text-requires
value_of_text-requires c = rw c.in_ok-to_string.ensures.ok (signed_decimal-value _)
