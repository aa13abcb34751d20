-- A word of visible ASCII is text.
use Rattle.std.proofs.Common.{sym, subst, ◌∙◌}
use Rattle.std.specs.Str.{IsUtf8}
use Rattle.nats_plain.proofs.PlainLines.{word_utf8}
use Rattle.nats_plain.proofs.plain.word_in.Goals as goal

pub from_bytes_unchecked-requires : goal.from_bytes_unchecked-requires
from_bytes_unchecked-requires c =
    subst IsUtf8 (sym (c.in_ok-part.ensures.ok ∙ c.requires.there)) (word_utf8 c.args.word.now c.requires.word)
