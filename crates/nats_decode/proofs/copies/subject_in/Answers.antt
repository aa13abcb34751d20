-- The part that is shared is the text that was tested to stand there.
use Rattle.std.proofs.Common.{sym, refl, subst, length, ◌∙◌}
use Rattle.std.specs.Str.{IsUtf8}
use Rattle.nats_decode.proofs.Ends.{part_there}
use Rattle.nats_decode.proofs.copies.subject_in.Goals as goal

pub from_bytes_unchecked-requires : goal.from_bytes_unchecked-requires
from_bytes_unchecked-requires c =
    let same = part_there c.args.bytes.now c.args.text.now c.as_slice.result.now c.as_bytes.result.now c.in_ok-part.part c.args.at (length c.args.text.now)
    c.as_slice.ensures c.as_bytes.ensures.value refl (sym c.starts_with.ensures.value ∙ c.if-starts_with.true) c.in_ok-part.ensures.ok in
    subst IsUtf8 (c.as_bytes.ensures.value ∙ sym same) c.as_bytes.ensures.utf8

pub returns-then-starts_with : goal.returns-then-starts_with
returns-then-starts_with c =
    c.from_bytes_unchecked.ensures
    ∙ part_there c.args.bytes.now c.args.text.now c.as_slice.result.now c.as_bytes.result.now c.in_ok-part.part c.args.at (length c.args.text.now)
    c.as_slice.ensures c.as_bytes.ensures.value refl (sym c.starts_with.ensures.value ∙ c.if-starts_with.true) c.in_ok-part.ensures.ok
