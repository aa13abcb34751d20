-- What the bytes that were read come to is what the source's bytes come to.
use Rattle.nats_replay.specs.Words.{Prints}
use Rattle.nats_replay.proofs.Outcomes.{played}
use Rattle.nats_replay.proofs.top.play.Goals as goal

pub returns-in-Ok : goal.returns-in-Ok
returns-in-Ok g c = played Prints _ _ _ c.in-Ok.bytes.items c.play_script.result c.in-Ok.ensures (rw c.as_slice.ensures.value at c.play_script.ensures)
