-- what was read is what the source gave, and its counts have not fallen
use Rattle.std.proofs.Common.{suc, ◌≤◌, ◌-◌, length}
use Rattle.std.specs.Io.KnownBytes.{Consumes}
use Rattle.nats_replay.specs.Outside.{RoseBy}
use Rattle.nats_replay.proofs.whole.read_pieces.Given as goal
use Rattle.nats_replay.specs.declared.whole.TheConstants.{SCRIPT_LIMIT}

abbrev pub invariant-loop-count : goal.invariant-loop-count
invariant-loop-count g l = record {
  within : length l.bytes.items ≤ SCRIPT_LIMIT;
  bytes : Consumes (g.S.Source.left l.initial.source) (g.S.Source.left l.source) l.bytes.items;
  given : RoseBy (length l.bytes.items) (g.S.Source.given l.initial.source) (g.S.Source.given l.source);
  ends : g.S.Source.ends l.initial.source ≤ g.S.Source.ends l.source;
  faults : g.S.Source.faults l.initial.source ≤ g.S.Source.faults l.source;
}

abbrev pub decreases-loop-count : goal.decreases-loop-count
decreases-loop-count g l = suc SCRIPT_LIMIT - length l.bytes.items
