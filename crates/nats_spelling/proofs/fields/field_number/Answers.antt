-- A numeral is a text, and `parse` reads its number.
use Rattle.std.proofs.Common.{◌∙◌, sym}
use Rattle.nats_spelling.proofs.Spelled.{number_gives, numeral_is_utf8}
use Rattle.nats_spelling.proofs.fields.field_number.Goals as goal

pub returns-in-Ok : goal.returns-in-Ok
returns-in-Ok c =
    c.ok.ensures.value ∙ number_gives c.args.field.now c.parse.result (sym c.if-not-is_numeral.ensures) (rw c.in-Ok.ensures.cases.0 at c.parse.ensures.value.0)

pub returns-in-Err : goal.returns-in-Err
returns-in-Err c = absurd (c.in-Err.ensures.cases.0 (numeral_is_utf8 c.args.field.now (sym c.if-not-is_numeral.ensures)))
