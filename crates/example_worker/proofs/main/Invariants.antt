-- the ledger of the client's hub is the blank one, and no journal is kept
use Rattle.std.proofs.Common.{false}
use Rattle.example_worker.proofs.main.Given as goal

abbrev pub ghosts-run-G-Tallies : goal.ghosts-run-G-Tallies
ghosts-run-G-Tallies g a = record { is_kept = false }

abbrev pub ghosts-run-G-Ledger : goal.ghosts-run-G-Ledger
ghosts-run-G-Ledger g a = record { name = a.blank.name; parts = a.blank.parts }
