-- the ledger of each hub is the blank one, and its journal is kept
use Rattle.std.proofs.Common.{true}
use Rattle.nats_request_rows.proofs.main.Given as goal

abbrev pub ghosts-play_asks-G-Tallies : goal.ghosts-play_asks-G-Tallies
ghosts-play_asks-G-Tallies g a = record { is_kept = true }

abbrev pub ghosts-play_asks-G-Ledger : goal.ghosts-play_asks-G-Ledger
ghosts-play_asks-G-Ledger g a = record { name = a.blank.name; parts = a.blank.parts }

abbrev pub ghosts-play_replies-G-Tallies : goal.ghosts-play_replies-G-Tallies
ghosts-play_replies-G-Tallies g a = record { is_kept = true }

abbrev pub ghosts-play_replies-G-Ledger : goal.ghosts-play_replies-G-Ledger
ghosts-play_replies-G-Ledger g a = record { name = a.blank.name; parts = a.blank.parts }

abbrev pub ghosts-play_refused-G-Tallies : goal.ghosts-play_refused-G-Tallies
ghosts-play_refused-G-Tallies g a = record { is_kept = true }

abbrev pub ghosts-play_refused-G-Ledger : goal.ghosts-play_refused-G-Ledger
ghosts-play_refused-G-Ledger g a = record { name = a.blank.name; parts = a.blank.parts }

abbrev pub ghosts-play_inboxes-G-Tallies : goal.ghosts-play_inboxes-G-Tallies
ghosts-play_inboxes-G-Tallies g a = record { is_kept = true }

abbrev pub ghosts-play_inboxes-G-Ledger : goal.ghosts-play_inboxes-G-Ledger
ghosts-play_inboxes-G-Ledger g a = record { name = a.blank.name; parts = a.blank.parts }

abbrev pub ghosts-play_through-G-Tallies : goal.ghosts-play_through-G-Tallies
ghosts-play_through-G-Tallies g a = record { is_kept = true }

abbrev pub ghosts-play_through-G-Ledger : goal.ghosts-play_through-G-Ledger
ghosts-play_through-G-Ledger g a = record { name = a.blank.name; parts = a.blank.parts }
