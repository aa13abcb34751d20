-- The parts make the text.
use Rattle.std.proofs.Common.{◌≡◌, length, ◌∙◌, ◌+◌, rules, ap}
use Rattle.std.specs.Fmt.{decimal}
use Rattle.std.proofs.lemmas.Result.{on_ok_weaker}
use Rattle.nats_routing.specs.Texts.{word_and_space}
use Rattle.nats_routing.proofs.Parts.{hmsg_parts}
use Rattle.nats_routing.proofs.texts.append_headed.Goals as goal

pub returns : goal.returns
returns c =
    let m = c.args.m.now in
    let block = c.args.block.now in
    let subject : c.as_bytes.result.now ≡ m.subject = search rules in
    let number : c.as_bytes-number.result.now ≡ decimal c.args.sid = search rules in
    let h : c.as_bytes-header_len.result.now ≡ decimal (length block) = search rules in
    let total : c.as_bytes-total.result.now ≡ decimal (length block + length m.payload) = search rules in
    let payload : c.as_slice-payload.result.now ≡ m.payload = search rules in
    on_ok_weaker c.append_all.result
    (λ e. e ∙ hmsg_parts c.args.out.now.items (word_and_space m.respond) m.subject c.word_and_space.result.0.now c.word_and_space.result.1.now (decimal c.args.sid)
    (decimal (length block)) (decimal (length block + length m.payload)) block m.payload
    c.as_bytes.result.now c.as_bytes-number.result.now c.as_bytes-header_len.result.now c.as_bytes-total.result.now c.as_slice-payload.result.now c.word_and_space.ensures subject number h total payload)
    c.append_all.ensures
