-- A value is put last through the loan of the name's values, or with a new name.
use Rattle.std.proofs.Common.{◌∷◌, [], ◌++◌, Some, ap, sym, ◌∙◌}
use Rattle.std.proofs.lemmas.Result.{on_ok_weaker, on_err_weaker}
use Rattle.std.proofs.lemmas.Map.Steps.{set_value_same}
use Rattle.std.specs.Str.{bytes_eq}
use Rattle.nats_header.specs.Headers.{with_values}
use Rattle.nats_header.proofs.Entries.{values_of-found, values_of-absent, set_value-with_values}
use Rattle.nats_header.proofs.fields.append.Goals as goal

pub returns-in-Some-clause-ok : goal.returns-in-Some-clause-ok
returns-in-Some-clause-ok c =
    let fields = c.args.table.now.entries in
    let found = values_of-found fields c.args.name _ c.in-Some.ensures.value in
    on_ok_weaker c.push.result (λ pushed.
    (c.get_mut.follows.holds c.push.new.self).0
    ∙ set_value-with_values fields c.args.name _ c.push.new.self c.in-Some.ensures.value
    ∙ ap (with_values fields c.args.name) (pushed ∙ ap (λ values. values ++ c.args.value ∷ []) found)) c.push.ensures.ok

pub returns-in-Some-clause-err : goal.returns-in-Some-clause-err
returns-in-Some-clause-err c =
    on_err_weaker c.push.result (λ same.
    (c.get_mut.follows.holds c.push.new.self).0
    ∙ set_value_same (bytes_eq c.args.name) c.args.table.now.entries c.push.new.self (sym c.in-Some.ensures.value ∙ ap Some (sym same))) c.push.ensures.err

pub returns-in-None-clause-ok : goal.returns-in-None-clause-ok
returns-in-None-clause-ok c =
    let fields = c.args.table.now.entries in
    let none = values_of-absent fields c.args.name c.in-None.ensures.value in
    on_ok_weaker c.insert_alone.result (λ alone.
    alone
    ∙ ap (λ m. with_values m.entries c.args.name (c.args.value ∷ [])) c.get_mut.follows.holds-at-none
    ∙ ap (λ values. with_values fields c.args.name (values ++ c.args.value ∷ [])) none) c.insert_alone.ensures.ok
