use Rattle.std.proofs.Common.{true}
use Rattle.nats_hub_rows.proofs.main.Given as goal

abbrev pub ghosts-play-G-Tallies : goal.ghosts-play-G-Tallies
ghosts-play-G-Tallies g a = record { is_kept = true }

abbrev pub ghosts-play-G-Ledger : goal.ghosts-play-G-Ledger
ghosts-play-G-Ledger g a = record { name = a.blank.name; parts = a.blank.parts }

abbrev pub ghosts-play_broken-G-Tallies : goal.ghosts-play_broken-G-Tallies
ghosts-play_broken-G-Tallies g a = record { is_kept = true }

abbrev pub ghosts-play_broken-G-Ledger : goal.ghosts-play_broken-G-Ledger
ghosts-play_broken-G-Ledger g a = record { name = a.blank.name; parts = a.blank.parts }
