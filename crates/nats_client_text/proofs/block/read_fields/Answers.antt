-- A field's line is read, and the others are left; the empty line is the last.
use Rattle.std.proofs.Common.{ap, sym, ◌∙◌, option_map}
use Rattle.nats_block.specs.Fields.{all_appended}
use Rattle.nats_client_text.specs.Blocks.{lines_of, fields_of}
use Rattle.nats_client_text.proofs.Blocks.{fields_read, fields_past}
use Rattle.nats_client_text.proofs.block.read_fields.Goals as goal

pub returns-else-is_empty-2 : goal.returns-else-is_empty-2
returns-else-is_empty-2 c =
    let headers = c.loop-line.headers in
    let line = c.in-Some.line.line.now in
    let rest = c.in-Some.line.rest.now in
    let past = fields_past line rest (sym c.is_empty.ensures ∙ c.if-is_empty.true) (sym c.is_empty-then-is_empty.ensures ∙ c.if-is_empty-2.false) in
    sym c.loop-line.invariant
    ∙ ap (λ lines. option_map (all_appended headers) (fields_of lines)) (sym c.in-Some.ensures) ∙ ap (option_map (all_appended headers)) past

pub loop-line-preserved : goal.loop-line-preserved
loop-line-preserved c =
    let headers = c.loop-line.headers in
    let new = c.put_line.new.headers in
    let line = c.in-Some.line.line.now in
    let rest = c.in-Some.line.rest.now in
    let read = fields_read headers new line (lines_of rest) (sym c.is_empty.ensures ∙ c.if-is_empty.false) c.in_ok-put_line.ensures in
    sym read ∙ ap (λ lines. option_map (all_appended headers) (fields_of lines)) c.in-Some.ensures ∙ c.loop-line.invariant
