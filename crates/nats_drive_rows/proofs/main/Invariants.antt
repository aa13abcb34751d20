-- the ledger of each client's hub is the blank one, and no journal is kept
use Rattle.std.proofs.Common.{false}
use Rattle.nats_drive_rows.proofs.main.Given as goal

abbrev pub ghosts-play-G-Tallies : goal.ghosts-play-G-Tallies
ghosts-play-G-Tallies g a = record { is_kept = false }

abbrev pub ghosts-play-G-Ledger : goal.ghosts-play-G-Ledger
ghosts-play-G-Ledger g a = record { name = a.blank.name; parts = a.blank.parts }

abbrev pub ghosts-follow-G-Tallies : goal.ghosts-follow-G-Tallies
ghosts-follow-G-Tallies g a = record { is_kept = false }

abbrev pub ghosts-follow-G-Ledger : goal.ghosts-follow-G-Ledger
ghosts-follow-G-Ledger g a = record { name = a.blank.name; parts = a.blank.parts }

abbrev pub ghosts-told-G-Tallies : goal.ghosts-told-G-Tallies
ghosts-told-G-Tallies g a = record { is_kept = false }

abbrev pub ghosts-told-G-Ledger : goal.ghosts-told-G-Ledger
ghosts-told-G-Ledger g a = record { name = a.blank.name; parts = a.blank.parts }
