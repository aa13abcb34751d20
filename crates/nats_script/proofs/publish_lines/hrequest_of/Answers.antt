-- The fields in front, then the headers of the pairs behind them.
use Rattle.std.proofs.Common.{refl}
use Rattle.nats_script.proofs.publish_lines.hrequest_of.Goals as goal

pub returns : goal.returns
returns c =
    rw (
      c.in-Some.ensures,
      c.request_with.ensures,
      c.in_ok-field_text.ensures,
      c.in_ok-field_token.ensures,
      c.in_ok-bytes_field.ensures,
      c.some_headers.ensures,
      c.in_ok-headers.ensures,
    ) refl
