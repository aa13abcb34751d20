use Rattle.std.proofs.Common.{true}
use Rattle.nats_journal_rows.proofs.main.Given as goal

abbrev pub ghosts-kept-G-Tallies : goal.ghosts-kept-G-Tallies
ghosts-kept-G-Tallies g a = record { is_kept = true }

abbrev pub ghosts-kept-G-Ledger : goal.ghosts-kept-G-Ledger
ghosts-kept-G-Ledger g a = record { name = a.blank.name; parts = a.blank.parts }

abbrev pub ghosts-wait-G-Tallies : goal.ghosts-wait-G-Tallies
ghosts-wait-G-Tallies g a = record { is_kept = true }

abbrev pub ghosts-wait-G-Ledger : goal.ghosts-wait-G-Ledger
ghosts-wait-G-Ledger g a = record { name = a.blank.name; parts = a.blank.parts }
