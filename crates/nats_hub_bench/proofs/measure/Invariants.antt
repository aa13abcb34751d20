-- the ledger of the client's hub is the blank one, and no journal is kept
use Rattle.std.proofs.Common.{false}
use Rattle.nats_hub_bench.proofs.measure.Given as goal

abbrev pub ghosts-publish-G-Tallies : goal.ghosts-publish-G-Tallies
ghosts-publish-G-Tallies g a = record { is_kept = false }

abbrev pub ghosts-publish-G-Ledger : goal.ghosts-publish-G-Ledger
ghosts-publish-G-Ledger g a = record { name = a.blank.name; parts = a.blank.parts }
