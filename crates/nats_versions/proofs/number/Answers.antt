-- Digits are a text, and `parse` reads its number.
use Rattle.std.proofs.Common.{◌∙◌}
use Rattle.nats_versions.proofs.Digits.{digits_are_utf8, number_gives}
use Rattle.nats_versions.proofs.number.Goals as goal

pub unreachable-requires : goal.unreachable-requires
unreachable-requires c = c.in-Err.ensures.cases.0 (digits_are_utf8 c.args.digits.now c.requires)

pub returns : goal.returns
returns c =
    c.ok.ensures.value
    ∙ number_gives c.args.digits.now c.parse.result c.requires c.if-is_empty.ensures
    (rw c.in-Ok.ensures.cases.0 at c.parse.ensures.value.0)
