-- The index map's insertion of a list of one value.
use Rattle.std.proofs.Common.{◌∷◌, [], ◌++◌, ap, ◌∙◌}
use Rattle.nats_header.specs.Headers.{with_values}
use Rattle.nats_header.proofs.Entries.{insert_entry-with_values}
use Rattle.nats_header.proofs.fields.insert_alone.Goals as goal

pub returns-clause-ok : goal.returns-clause-ok
returns-clause-ok c =
    let fields = c.args.table.now.entries in
    c.in_ok-insert.ensures.entries
    ∙ insert_entry-with_values fields c.args.name c.push.new.self
    ∙ ap (with_values fields c.args.name) (c.in_ok-push.ensures.ok ∙ ap (λ values. values ++ c.args.value ∷ []) c.new-values.ensures)
