-- What was played is what is printed.
use Rattle.std.proofs.Common.{refl, sym}
use Rattle.nats_replay.proofs.asked.rpc_printed.Goals as goal

pub returns : goal.returns
returns c = (c.in_ok-played.played, c.in_ok-played.ensures, sym c.rpc_ending.ensures, refl)
