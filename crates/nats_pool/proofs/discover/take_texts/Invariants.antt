use Rattle.std.proofs.Common.{◌≡◌, ◌++◌, length}
use Rattle.nats_pool.specs.Discovery.{with_texts, skipped_of}
use Rattle.nats_pool.proofs.discover.take_texts.Given as goal

-- the texts that are left add to the servers and the skipped texts so far what all texts add to the first servers
abbrev pub invariant-texts : goal.invariant-texts
invariant-texts l = (with_texts l.all.items l.rest ≡ with_texts l.fn.servers l.fn.urls)
    × (l.skipped.items ++ skipped_of l.rest ≡ skipped_of l.fn.urls)

abbrev pub decreases-texts : goal.decreases-texts
decreases-texts l = length l.rest
