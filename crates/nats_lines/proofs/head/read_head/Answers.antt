-- The head is read from the pieces of a text.
use Rattle.std.proofs.Common.{◌≡◌, ap, sym, ◌∙◌}
use Rattle.nats_lines.specs.Operations.{head_of_pieces, pieces_of}
use Rattle.nats_lines.proofs.Pieces.{head_of_text, no_head}
use Rattle.nats_lines.proofs.head.read_head.Goals as goal

pub returns-in-Ok : goal.returns-in-Ok
returns-in-Ok c =
    let text = c.args.text.now in
    let same : c.in-Ok.text.now ≡ text = c.in-Ok.ensures.cases.0 in
    c.head_of_text.ensures ∙ ap (λ text. head_of_pieces (pieces_of text)) same ∙ sym (head_of_text text c.in-Ok.ensures.cases.1)

pub returns-in-Err : goal.returns-in-Err
returns-in-Err c = no_head c.args.text.now c.in-Err.ensures.cases.0
