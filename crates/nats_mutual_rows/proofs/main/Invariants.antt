-- the ledger of each hub is the blank one, and its journal is kept
use Rattle.std.proofs.Common.{true}
use Rattle.nats_mutual_rows.proofs.main.Given as goal

abbrev pub ghosts-play_both-G-Tallies : goal.ghosts-play_both-G-Tallies
ghosts-play_both-G-Tallies g a = record { is_kept = true }

abbrev pub ghosts-play_both-G-Ledger : goal.ghosts-play_both-G-Ledger
ghosts-play_both-G-Ledger g a = record { name = a.first.name; parts = a.first.parts }

abbrev pub ghosts-play_both-H-Tallies : goal.ghosts-play_both-H-Tallies
ghosts-play_both-H-Tallies g a = record { is_kept = true }

abbrev pub ghosts-play_both-H-Ledger : goal.ghosts-play_both-H-Ledger
ghosts-play_both-H-Ledger g a = record { name = a.second.name; parts = a.second.parts }
