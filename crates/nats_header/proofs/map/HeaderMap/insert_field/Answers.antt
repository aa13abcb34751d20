-- The length that is kept is that of the block with the new line in the place of the old ones.
use Rattle.std.proofs.Common.{length, ap, arith}
use Rattle.nats_header.specs.Block.{block_text, field_lines}
use Rattle.nats_header.proofs.Laws.{length-inserted, length-values_of, length-block_text, are_fields-inserted}
use Rattle.nats_header.proofs.map.HeaderMap.insert_field.Goals as goal

pub lines_len-gone-requires : goal.lines_len-gone-requires
lines_len-gone-requires c =
    let headers = c.self.inside.fields in
    rw c.values_at.ensures (omega (arith, length-values_of headers c.args.name, length-block_text headers, c.self.invariant.len, c.self.invariant.fits))

pub overflow_sub-rest : goal.overflow_sub-rest
overflow_sub-rest c =
    let headers = c.self.inside.fields in
    let gone = ap (λ values. length (field_lines (c.args.name, values))) c.values_at.ensures in
    omega (arith, gone, c.lines_len-gone.ensures, length-values_of headers c.args.name, length-block_text headers, c.self.invariant.len)

pub invariant_of-self-2 : goal.invariant_of-self-2
invariant_of-self-2 c =
    let headers = c.self.inside.fields in
    let added = c.line_len-added.ensures in
    let gone = ap (λ values. length (field_lines (c.args.name, values))) c.values_at.ensures in
    let len = ap (λ h. length (block_text h)) c.in_ok-put_alone.ensures.ok in
    let within = length-values_of headers c.args.name in
    record {
      len = omega (arith, len, gone, c.lines_len-gone.ensures, within, length-block_text headers, length-inserted headers c.args.name c.args.value, c.self.invariant.len, added.len, c.if-added-rest.false);
      fits = omega (arith, c.if-added-rest.false, c.self.invariant.fits);
      fields = rw c.in_ok-put_alone.ensures.ok (are_fields-inserted headers c.args.name c.args.value added.name added.value c.self.invariant.fields);
    }
