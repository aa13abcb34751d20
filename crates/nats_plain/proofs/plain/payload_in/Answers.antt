-- The payload stands two bytes behind the line.
use Rattle.std.proofs.Common.{◌-◌, length, ap, ◌∙◌}
use Rattle.nats_plain.proofs.PlainLines.{payload_there}
use Rattle.nats_plain.proofs.plain.payload_in.Goals as goal

pub returns : goal.returns
returns c =
    let rest = c.args.text.now.line.rest.now in
    c.in_ok-slice.ensures.ok
    ∙ payload_there c.args.text.now c.args.bytes.now (c.len.result - length rest) c.requires (ap (λ n. n - length rest) c.len.ensures.value)
