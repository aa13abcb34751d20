-- What stands before the first LF is the first line.
use Rattle.std.proofs.Common.{◌≡◌, None, take, rules, subst, lit<, sym, ◌∙◌}
use Rattle.std.specs.Str.{IsUtf8}
use Rattle.memchr.specs.Find.{IsFirstByte, is_byte}
use Rattle.nats_block.proofs.Cuts.{behind_byte, line_by_byte, line_whole, no_lf}
use Rattle.nats_block.proofs.lines.next_line.Goals as goal

pub range_from-requires : goal.range_from-requires
range_from-requires c =
    let text = c.args.text.now in
    λ _. behind_byte 10 text c.in-Some.at (lit< tt) (subst IsUtf8 c.as_bytes.ensures.value c.as_bytes.ensures.utf8) (rw c.as_bytes.ensures.value at c.in-Some.ensures)

pub returns-in-Some : goal.returns-in-Some
returns-in-Some c =
    let text = c.args.text.now in
    let front : c.range.result.now ≡ take c.in-Some.at text = search rules in
    line_by_byte text c.range.result.now c.range_from.result.now c.without_cr.result.now c.in-Some.at (rw c.as_bytes.ensures.value at c.in-Some.ensures)
    front c.range_from.ensures.value c.without_cr.ensures

pub returns-in-None-2 : goal.returns-in-None-2
returns-in-None-2 c =
    let text = c.args.text.now in
    let none : IsFirstByte (is_byte 10) text None = rw c.as_bytes.ensures.value at c.in-None.ensures in
    line_whole text (no_lf text none) (sym c.is_empty.ensures ∙ c.if-is_empty.false)
