-- the hub keeps its journal, and its ledger is that of the blank
use Rattle.std.proofs.Common.{true}
use Rattle.nats_thread_text.proofs.output.threads_output.Given as goal

abbrev pub ghosts-audit_of_threads-G-Tallies : goal.ghosts-audit_of_threads-G-Tallies
ghosts-audit_of_threads-G-Tallies g a = record { is_kept = true }

abbrev pub ghosts-audit_of_threads-G-Ledger : goal.ghosts-audit_of_threads-G-Ledger
ghosts-audit_of_threads-G-Ledger g a = record { name = a.blank.name; parts = a.blank.parts }
