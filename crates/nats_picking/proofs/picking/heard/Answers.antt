-- Those that match, less the publisher's own.
use Rattle.std.proofs.Common.{rules}
use Rattle.nats_picking.proofs.Others.{without_own}
use Rattle.nats_picking.proofs.picking.heard.Goals as goal

pub returns : goal.returns
returns c = search (rules, without_own c.args.peer c.args.subject.now c.args.interests.now)
