-- Less than an operation is seen where less stands there.
use Rattle.std.proofs.Common.{ap}
use Rattle.nats_lines.specs.Operations.{is_unfinished}
use Rattle.nats_lines.proofs.Seen.{less_seen}
use Rattle.nats_decode.proofs.Sights.{not_less}
use Rattle.nats_unread.proofs.unread.Unread.is_unfinished.Goals as goal

pub returns-in-Unfinished : goal.returns-in-Unfinished
returns-in-Unfinished c = ap is_unfinished (less_seen c.args.self.now.bytes c.in-Unfinished.ensures)

pub returns-in_default : goal.returns-in_default
returns-in_default c = not_less c.sight.result c.args.self.now.bytes c.sight.ensures c.in_default.not-Unfinished
