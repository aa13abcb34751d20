-- What `strip_prefix` leaves loses the same quotes, and a text without one stays.
use lib.Utf8.{encode}
use Rattle.std.proofs.Common.{sym, ◌∙◌}
use Rattle.nats_lines.proofs.Quotes.{no_quote_first}
use Rattle.nats_lines.proofs.error_line.without_first_quotes.Goals as goal

pub returns : goal.returns
unfolding encode
returns c =
    sym (no_quote_first c.loop-rest.left.now c.in_default.ensures.cases) ∙ c.loop-rest.invariant.1
