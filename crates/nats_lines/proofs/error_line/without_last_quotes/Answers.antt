-- What `strip_suffix` leaves loses the same quotes, and a text without one stays.
use lib.Utf8.{encode}
use Rattle.std.proofs.Common.{reverse, ap, sym, ◌∙◌}
use Rattle.nats_lines.proofs.Quotes.{no_quote_last}
use Rattle.nats_lines.proofs.error_line.without_last_quotes.Goals as goal

pub returns : goal.returns
unfolding encode
returns c =
    sym (no_quote_last c.loop-rest.left.now c.in_default.ensures.cases) ∙ ap reverse c.loop-rest.invariant.1
