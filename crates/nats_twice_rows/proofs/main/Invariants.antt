use Rattle.std.proofs.Common.{true}
use Rattle.nats_twice_rows.proofs.main.Given as goal

abbrev pub ghosts-is_lost-G-Tallies : goal.ghosts-is_lost-G-Tallies
ghosts-is_lost-G-Tallies g a = record { is_kept = true }

abbrev pub ghosts-is_lost-G-Ledger : goal.ghosts-is_lost-G-Ledger
ghosts-is_lost-G-Ledger g a = record { name = a.blank.name; parts = a.blank.parts }
