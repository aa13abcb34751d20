-- A text is cut at the byte that is found.
use Rattle.std.proofs.Common.{◌≡◌, None, take, rules, subst}
use Rattle.std.specs.Str.{IsUtf8}
use Rattle.memchr.specs.Find.{IsFirstByte, is_byte}
use Rattle.nats_block.proofs.Cuts.{behind_byte, cut_by_byte, uncut_by_byte}
use Rattle.nats_block.proofs.lines.cut_at.Goals as goal

pub range_from-requires : goal.range_from-requires
range_from-requires c =
    let text = c.args.text.now in
    λ _. behind_byte c.args.mark text c.in-Some.at c.requires (subst IsUtf8 c.as_bytes.ensures.value c.as_bytes.ensures.utf8) (rw c.as_bytes.ensures.value at c.in-Some.ensures)

pub returns-in-Some : goal.returns-in-Some
returns-in-Some c =
    let text = c.args.text.now in
    let front : c.range.result.now ≡ take c.in-Some.at text = search rules in
    cut_by_byte c.args.mark text c.range.result.now c.range_from.result.now c.in-Some.at (rw c.as_bytes.ensures.value at c.in-Some.ensures) front c.range_from.ensures.value

pub returns-in-None : goal.returns-in-None
returns-in-None c =
    let text = c.args.text.now in
    let none : IsFirstByte (is_byte c.args.mark) text None = rw c.as_bytes.ensures.value at c.in-None.ensures in
    uncut_by_byte c.args.mark text none
