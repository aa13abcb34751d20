-- The head is read from the words of a text.
use Rattle.std.proofs.Common.{◌≡◌, ap, sym, ◌∙◌}
use Rattle.nats_lines.specs.Operations.{header_head_of_words, words_of}
use Rattle.nats_lines.proofs.Words.{header_head_of_text, no_header_head}
use Rattle.nats_lines.proofs.head.read_header_head.Goals as goal

pub returns-in-Ok-clause-head : goal.returns-in-Ok-clause-head
returns-in-Ok-clause-head c =
    let text = c.args.text.now in
    let same : c.in-Ok.text.now ≡ text = c.in-Ok.ensures.cases.0 in
    c.header_head_of_text.ensures.head ∙ ap (λ text. header_head_of_words (words_of text)) same ∙ sym (header_head_of_text text c.in-Ok.ensures.cases.1)

pub returns-in-Err-clause-head : goal.returns-in-Err-clause-head
returns-in-Err-clause-head c = no_header_head c.args.text.now c.in-Err.ensures.cases.0
