-- The peer was fed behind all that was due, and what was due then was done.
use Rattle.std.proofs.Common.{rules}
use Rattle.nats_serve.proofs.held.feed.Goals as goal

pub returns : goal.returns
returns c = search rules
