-- The turns of the journal that a finished hub has may each come where they stand.
use Rattle.std.proofs.Common.{◌≡◌, None}
use Rattle.nats_history.specs.Schedule.{out_of_turn}
use Rattle.nats_core.specs.Journal.{turns_of}
use Rattle.nats_hub.specs.declared.audit.Audit.{Audit}
use Rattle.nats_thread_text.specs.Report.{IsFinished}

pub all_come : (audit : Audit) → IsFinished audit → out_of_turn audit.config (turns_of audit.journal.items) ≡ None
all_come audit finished = finished.0.valid
