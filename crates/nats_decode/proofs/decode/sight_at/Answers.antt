-- What stands at the front follows from the line there.
use Rattle.std.proofs.Common.{sym, ap, Some, ◌∙◌}
use Rattle.nats_decode.specs.Decoder.{line_view}
use Rattle.nats_lines.proofs.Fronts.{sight_by_cut}
use Rattle.nats_decode.proofs.decode.sight_at.Goals as goal

pub returns : goal.returns
returns c =
    rw (sight_by_cut c.args.bytes.now (Some (line_view c.line_at.result)) (ap Some c.line_at.ensures.cut ∙ sym c.requires.cut)) c.sight_of_line.ensures
