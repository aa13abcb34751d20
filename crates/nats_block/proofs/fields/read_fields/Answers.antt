-- A field's line and those that go on with it are read, and the others are left.
use Rattle.std.proofs.Common.{rules, ap, sym, ◌∙◌, length, arith, option_map}
use Rattle.std.specs.Str.Lines.{lines}
use Rattle.nats_block.specs.Fields.{fields_of, all_appended}
use Rattle.nats_block.proofs.Folds.{fields_read, length-past_joined}
use Rattle.nats_block.proofs.fields.read_fields.Goals as goal

pub loop-line-smaller : goal.loop-line-smaller
loop-line-smaller c =
    omega (arith, ap length c.in-Some.ensures, ap length c.in_ok-left.ensures.1, length-past_joined (lines c.in-Some.line.rest.now))

pub loop-line-preserved : goal.loop-line-preserved
loop-line-preserved c =
    let headers = c.loop-line.headers in
    let new = c.put_field.new.headers in
    let line = c.in-Some.line.text.now in
    let more = lines c.in-Some.line.rest.now in
    let read = fields_read headers new line more (sym c.is_empty.ensures ∙ c.if-is_empty.false) c.in_ok-left.ensures.0 in (
      search rules,
      ap (λ rest. option_map (all_appended new) (fields_of rest)) c.in_ok-left.ensures.1 ∙ sym read
          ∙ ap (λ lines. option_map (all_appended headers) (fields_of lines)) c.in-Some.ensures ∙ c.loop-line.invariant.1,
    )
