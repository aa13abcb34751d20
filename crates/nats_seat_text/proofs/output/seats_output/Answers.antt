-- The journal is that of the workers, and it is right under their settings.
use Rattle.std.proofs.Common.{◌*◌, ◌∙◌, ap, subst}
use Rattle.nats_desk.specs.Journal.{IsRightBySeat}
use Rattle.nats_worker_text.specs.Settings.{workers_config}
use Rattle.nats_seat_text.proofs.Right.{all_come}
use Rattle.nats_seat_text.proofs.Total.{all_accepted}
use Rattle.nats_seat_text.proofs.output.seats_output.Goals as goal

pub report-requires-clause-valid : goal.report-requires-clause-valid
report-requires-clause-valid g c =
    all_come (workers_config (c.args.workers * c.args.count)) c.in_ok-journal.journal.items
    (subst (λ k. IsRightBySeat k c.in_ok-journal.journal.items) c.in_ok-config.ensures c.in_ok-journal.ensures.right)

pub returns : goal.returns
returns g c =
    let journal = c.in_ok-journal.journal.items in
    let told = c.in_ok-journal.ensures in (
      journal,
      told.published,
      told.accepted,
      told.alone,
      all_accepted journal c.args.workers c.args.count told.published told.alone,
      subst (λ k. IsRightBySeat k journal) c.in_ok-config.ensures told.right,
      ap (λ v. v.items) c.into_bytes.ensures.value ∙ c.in_ok-text.ensures,
    )
