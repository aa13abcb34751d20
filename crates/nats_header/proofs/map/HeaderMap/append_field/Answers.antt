-- The length that is kept is that of the longer block.
use Rattle.std.proofs.Common.{length, ap, arith}
use Rattle.nats_header.specs.Block.{block_text}
use Rattle.nats_header.proofs.Laws.{length-appended, are_fields-appended}
use Rattle.nats_header.proofs.map.HeaderMap.append_field.Goals as goal

pub invariant_of-self-2 : goal.invariant_of-self-2
invariant_of-self-2 c =
    let headers = c.self.inside.fields in
    let added = c.line_len-added.ensures in
    let len = ap (λ h. length (block_text h)) c.in_ok-put_last.ensures.ok in
    record {
      len = omega (arith, len, length-appended headers c.args.name c.args.value, c.self.invariant.len, added.len, c.if-added-self.false);
      fits = omega (arith, c.if-added-self.false, c.self.invariant.fits);
      fields = rw c.in_ok-put_last.ensures.ok (are_fields-appended headers c.args.name c.args.value added.name added.value c.self.invariant.fields);
    }
