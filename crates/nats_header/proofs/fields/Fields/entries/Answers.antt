-- Where there is no table there is no name.
use Rattle.std.proofs.Common.{sym, ap, ◌∙◌}
use Rattle.nats_header.specs.Kept.{if_kept}
use Rattle.nats_header.proofs.Empty.{none-distinct}
use Rattle.nats_header.proofs.fields.Fields.entries.Goals as goal

pub returns-in-None-clause-distinct : goal.returns-in-None-clause-distinct
returns-in-None-clause-distinct c =
    none-distinct c.args.self.now (ap (if_kept (λ table. table.value.entries)) (sym c.in-None.is) ∙ c.self.view_is)
