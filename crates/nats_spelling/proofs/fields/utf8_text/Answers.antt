-- Bytes are a text exactly where they are UTF-8.
use Rattle.std.proofs.Common.{ℕ, List, Some, ◌∙◌, ap, sym}
use Rattle.nats_spelling.proofs.Spelled.{utf8_is, utf8_is_none}
use Rattle.nats_spelling.proofs.fields.utf8_text.Goals as goal

pub returns-in_ok-from_text-in-Ok : goal.returns-in_ok-from_text-in-Ok
returns-in_ok-from_text-in-Ok c =
    let copied = c.in_ok-from_text-in-Ok.ensures in
    let read = c.in-Ok.ensures.cases in
    ap (λ (x : List ℕ). Some x) (copied ∙ read.0) ∙ sym (utf8_is c.args.bytes.now read.1)

pub returns-in-Err : goal.returns-in-Err
returns-in-Err c = utf8_is_none c.args.bytes.now c.in-Err.ensures.cases.0
