-- `parse` reads the grammar's number.
use Rattle.std.proofs.Common.{sym, ◌∙◌, ap}
use Rattle.nats_client_text.specs.Pieces.{begins_number}
use Rattle.nats_client_text.proofs.Numbers.{number_read}
use Rattle.nats_client_text.proofs.pieces.number.Goals as goal

pub returns : goal.returns
returns c =
    let begins = ap begins_number (sym c.as_bytes.ensures.value) ∙ sym c.begins_number.ensures ∙ c.if-not-begins_number.false in
    c.ok.ensures.value ∙ number_read c.args.text.now c.parse.result begins c.parse.ensures.value.0
