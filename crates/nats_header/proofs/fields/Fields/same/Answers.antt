-- A map without a name is equal to those without a name.
use Rattle.std.proofs.Common.{sym, ap, ◌∙◌}
use Rattle.nats_header.specs.Kept.{if_kept}
use Rattle.nats_header.proofs.Empty.{same-empty-at, empty-same-at, both-empty}
use Rattle.nats_header.proofs.fields.Fields.same.Goals as goal

pub returns-in-None-None : goal.returns-in-None-None
returns-in-None-None c =
    both-empty c.args.self.now c.args.other.now (ap (if_kept (λ table. table.value.entries)) (sym c.in-None-None.is-0) ∙ c.self.view_is)
    (ap (if_kept (λ table. table.value.entries)) (sym c.in-None-None.is-1) ∙ c.other.view_is)

pub returns-in-Some-None : goal.returns-in-Some-None
returns-in-Some-None c =
    c.is_empty.ensures
    ∙ sym (same-empty-at c.args.self.now c.args.other.now (ap (if_kept (λ table. table.value.entries)) (sym c.in-Some-None.is-1) ∙ c.other.view_is))

pub returns-in-None-Some : goal.returns-in-None-Some
returns-in-None-Some c =
    c.is_empty-in-None-Some.ensures
    ∙ sym (empty-same-at c.args.self.now c.args.other.now (ap (if_kept (λ table. table.value.entries)) (sym c.in-None-Some.is-0) ∙ c.self.view_is))
