-- The audit is that of the hub, whose journal is right.
use Rattle.std.proofs.Common.{◌∙◌, ap}
use Rattle.nats_thread_text.proofs.Right.{all_come}
use Rattle.nats_thread_text.proofs.output.threads_output.Goals as goal

pub report-requires-clause-valid : goal.report-requires-clause-valid
report-requires-clause-valid g c = all_come c.in_ok-audit.audit c.in_ok-audit.ensures

pub returns : goal.returns
returns g c = (c.in_ok-audit.audit, c.in_ok-audit.ensures, ap (λ v. v.items) c.into_bytes.ensures.value ∙ c.in_ok-text.ensures)
