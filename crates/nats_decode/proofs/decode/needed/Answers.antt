-- A line that announces bytes is less than an operation before they came.
use Rattle.std.proofs.Common.{sym, ap, arith, Some, ◌∙◌, length, length-take-le}
use Rattle.nats_lines.specs.Operations.{Cut}
use Rattle.nats_decode.specs.Decoder.{line_view}
use Rattle.nats_lines.proofs.Scans.{needs_line}
use Rattle.nats_decode.proofs.decode.needed.Goals as goal

pub returns-in-Some : goal.returns-in-Some
returns-in-Some c =
    let bytes = c.args.bytes.now in
    let long = ap (λ (cut : Cut). length cut.line) c.line_at.ensures.cut ∙ length-take-le c.args.end bytes (omega (arith, c.requires.fits)) in
    needs_line bytes (line_view c.line_at.result) c.in-Some.count c.saturating_add.result (c.requires.cut ∙ ap Some (sym c.line_at.ensures.cut)) c.in-Some.ensures
    (omega (arith, c.saturating_add.ensures, long))
