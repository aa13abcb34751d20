-- What stands before the first space is the first piece, unless it's empty.
use Rattle.std.proofs.Common.{◌≡◌, None, take, subst, sym, rules, ◌∙◌}
use Rattle.std.specs.Str.{IsUtf8}
use Rattle.memchr.specs.Find.{IsFirstByte, is_byte}
use Rattle.nats_lines.proofs.Pieces.{past_space, pieces_by_byte, pieces_whole, no_space}
use Rattle.nats_lines.proofs.head.next_piece.Goals as goal

pub range_from-rest-requires : goal.range_from-rest-requires
range_from-rest-requires c =
    let left = c.loop-at.left.now in
    λ _. past_space left c.in-Some.at (subst IsUtf8 c.as_bytes.ensures.value c.as_bytes.ensures.utf8) (rw c.as_bytes.ensures.value at c.in-Some.ensures)

pub returns-then-at-gt0 : goal.returns-then-at-gt0
returns-then-at-gt0 c =
    let left = c.loop-at.left.now in
    let front : c.range.result.now ≡ take c.in-Some.at left = search rules in
    pieces_by_byte left c.range.result.now c.range_from-rest.result.now c.in-Some.at (rw c.as_bytes.ensures.value at c.in-Some.ensures) front c.range_from-rest.ensures.value c.if-at-gt0.true
    ∙ c.loop-at.invariant.1

pub returns-else-is_empty : goal.returns-else-is_empty
returns-else-is_empty c =
    let left = c.loop-at.left.now in
    let none : IsFirstByte (is_byte 32) c.as_bytes.result.now None = c.in_default.ensures in
    pieces_whole left (no_space left (rw c.as_bytes.ensures.value at none)) (sym c.is_empty.ensures ∙ c.if-is_empty.false) ∙ c.loop-at.invariant.1
