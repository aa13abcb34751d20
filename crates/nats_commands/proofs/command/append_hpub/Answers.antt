-- The parts make the text.
use Rattle.std.proofs.Common.{◌≡◌, ◌+◌, length, ◌∙◌, rules}
use Rattle.std.specs.Fmt.{decimal}
use Rattle.nats_commands.specs.Commands.{word_and_space}
use Rattle.std.proofs.lemmas.Result.{on_ok_weaker}
use Rattle.nats_commands.proofs.Texts.{hpub_parts}
use Rattle.nats_commands.proofs.command.append_hpub.Goals as goal

pub returns-clause-ok : goal.returns-clause-ok
returns-clause-ok c =
    let subject : c.as_bytes.result.now ≡ c.args.subject.now = search rules in
    let h : c.as_bytes-header_len.result.now ≡ decimal (length c.args.block.now) = search rules in
    let total : c.as_bytes-total.result.now ≡ decimal (length c.args.block.now + length c.args.payload.now) = search rules in
    on_ok_weaker c.append_message.result
    (λ e. e ∙ hpub_parts c.args.out.now (word_and_space c.args.respond.now) c.args.subject.now c.word_and_space.result.0.now c.word_and_space.result.1.now c.args.block.now c.args.payload.now (decimal (length c.args.block.now)) (decimal (length c.args.block.now + length c.args.payload.now)) c.as_bytes.result.now c.as_bytes-header_len.result.now c.as_bytes-total.result.now c.word_and_space.ensures subject h total)
    c.append_message.ensures.ok
