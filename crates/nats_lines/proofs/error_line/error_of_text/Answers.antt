-- The error is read from a text without its quotes.
use Rattle.std.proofs.Common.{◌≡◌, Some, reverse, ap, sym, ◌∙◌}
use Rattle.nats_lines.specs.Operations.{without_first_quotes, error_by, without_quotes}
use Rattle.nats_lines.proofs.Quotes.{error_of_utf8, no_error}
use Rattle.nats_lines.proofs.error_line.error_of_text.Goals as goal

pub returns-in-Ok : goal.returns-in-Ok
returns-in-Ok c =
    let text = c.args.text.now in
    let same : c.in-Ok.text.now ≡ text = c.in-Ok.ensures.cases.0 in
    let bare : c.without_last_quotes.result.now ≡ without_quotes text =
    c.without_last_quotes.ensures ∙ ap (λ t. reverse (without_first_quotes (reverse t))) (c.without_first_quotes.ensures ∙ ap without_first_quotes same) in
    ap Some (c.error_by.ensures ∙ ap error_by bare) ∙ sym (error_of_utf8 text c.in-Ok.ensures.cases.1)

pub returns-in-Err : goal.returns-in-Err
returns-in-Err c = no_error c.args.text.now c.in-Err.ensures.cases.0
