-- The parts make the text.
use Rattle.std.proofs.Common.{◌≡◌, length, ◌∙◌, rules}
use Rattle.std.specs.Fmt.{decimal}
use Rattle.std.proofs.lemmas.Result.{on_ok_weaker}
use Rattle.nats_routing.specs.Texts.{word_and_space}
use Rattle.nats_routing.proofs.Parts.{msg_parts}
use Rattle.nats_routing.proofs.texts.append_plain.Goals as goal

pub returns : goal.returns
returns c =
    let m = c.args.m.now in
    let subject : c.as_bytes.result.now ≡ m.subject = search rules in
    let number : c.as_bytes-number.result.now ≡ decimal c.args.sid = search rules in
    let count : c.as_bytes-count.result.now ≡ decimal (length m.payload) = search rules in
    let payload : c.as_slice-2.result.now ≡ m.payload = search rules in
    on_ok_weaker c.append_all.result
    (λ e. e ∙ msg_parts c.args.out.now.items (word_and_space m.respond) m.subject c.word_and_space.result.0.now c.word_and_space.result.1.now (decimal c.args.sid) (decimal (length m.payload)) m.payload
    c.as_bytes.result.now c.as_bytes-number.result.now c.as_bytes-count.result.now c.as_slice-2.result.now c.word_and_space.ensures subject number count payload)
    c.append_all.ensures
