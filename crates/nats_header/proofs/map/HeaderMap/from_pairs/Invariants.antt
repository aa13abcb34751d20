use Rattle.std.proofs.Common.{◌≡◌, []}
use Rattle.std.specs.Vec.Iter.{into_iter_items}
use Rattle.nats_header.specs.Headers.{all_inserted}
use Rattle.nats_header.proofs.map.HeaderMap.from_pairs.Given as goal

abbrev pub invariant-loop-name : goal.invariant-loop-name
invariant-loop-name l = all_inserted l.map (into_iter_items l.name-iterator) ≡ all_inserted [] l.fn.pairs.items
