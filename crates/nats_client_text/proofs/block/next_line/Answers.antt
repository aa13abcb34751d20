-- The lines follow from the cut.
use Rattle.std.proofs.Common.{◌∙◌, option_map}
use Rattle.nats_client_text.specs.Code.{cut_view}
use Rattle.nats_client_text.proofs.Blocks.{lines_by_cut, lines_seen}
use Rattle.nats_client_text.proofs.block.next_line.Goals as goal

pub returns : goal.returns
returns c =
    lines_seen c.cut.result c.args.text.now
    ∙ lines_by_cut c.args.text.now (option_map cut_view c.cut.result) c.cut.ensures.cut
