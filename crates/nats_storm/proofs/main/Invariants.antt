-- the ledger of the client's hub is the blank one, and the journal is kept
use Rattle.std.proofs.Common.{true}
use Rattle.nats_storm.proofs.main.Given as goal

abbrev pub ghosts-play-G-Tallies : goal.ghosts-play-G-Tallies
ghosts-play-G-Tallies g a = record { is_kept = true }

abbrev pub ghosts-play-G-Ledger : goal.ghosts-play-G-Ledger
ghosts-play-G-Ledger g a = record { name = a.blank.name; parts = a.blank.parts }
