-- those that are left to end were noted, and all rows come to the same
use Rattle.std.proofs.Common.{◌≡◌, length, map}
use Rattle.nats_subs.specs.Draining.{Covers}
use Rattle.nats_subs.proofs.Noted.{link_ended}
use Rattle.nats_subs.proofs.subs.end_drained.Given as goal

abbrev pub invariant-drained : goal.invariant-drained
invariant-drained l = record {
  rows : map link_ended l.table ≡ map link_ended l.initial.table;
  covers : Covers l.drained l.table;
}

abbrev pub decreases-drained : goal.decreases-drained
decreases-drained l = length l.drained.noted.entries
