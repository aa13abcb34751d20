-- The first value is inserted, the others are appended.
use Rattle.std.proofs.Common.{subst, ap, sym, ◌∙◌, option_map}
use Rattle.serde_json.specs.View.{items_view}
use Rattle.nats_header.specs.Headers.{with_values, inserted}
use Rattle.nats_header.specs.Json.{Puts, onto_values, values_in, some_values_in, all_appended}
use Rattle.nats_header.proofs.JsonValues.{first_put}
use Rattle.nats_header.proofs.json.put_values.Goals as goal

pub returns : goal.returns
returns c =
    let headers = c.args.map.now in
    let name = c.args.name.now in
    let first = c.in_ok-first.first in
    let more = values_in (items_view c.in-Some.rest.now) in
    let put = c.in_ok-insert_field.ensures.ok ∙ ap (λ n. inserted headers n first) c.in_ok-copy.ensures in
    let said = ap (λ h. option_map (all_appended h name) more) put
    ∙ first_put headers name first more
    ∙ ap (λ value. option_map (with_values headers name) (onto_values value more)) (sym c.in_ok-first.ensures)
    ∙ ap (λ values. option_map (with_values headers name) (some_values_in (items_view values))) (sym c.in-Some.ensures.cases.0) in
    subst (λ said. Puts said c.append_values.result c.append_values.new.map) said c.append_values.ensures
