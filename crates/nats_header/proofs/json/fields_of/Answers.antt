-- The map so far is filled with the members that are left, or one of them is no field.
use Rattle.std.proofs.Common.{◌≡◌, sym, ap, subst, ◌∙◌, Some, Err}
use Rattle.serde_json.specs.View.{view, members_view}
use Rattle.nats_header.specs.Json.{Puts, field_in, fields_in, with_field}
use Rattle.nats_header.proofs.JsonFields.{filled, filled_fields, member_refused, names_ascend}
use Rattle.nats_header.proofs.json.fields_of.Goals as goal

pub returns-in-Err-clause-map : goal.returns-in-Err-clause-map
returns-in-Err-clause-map c =
    let es = c.args.members.now.entries in
    let map = c.loop-key.map in
    let value = c.in-Some.value.now in
    let filling = ap (λ left. filled map (members_view left)) (sym c.in-Some.ensures.steps) ∙ c.loop-key.invariant in
    let refused = subst (λ text. Puts (with_field map (field_in text (view value))) (Err c.in-Err.error) c.put_member.new.map) c.as_str.ensures.value c.in-Err.ensures in
    member_refused es c.next.new.self c.in-Some.key.now value map c.put_member.new.map c.in-Err.error c.iter-key-items.ensures.ordered filling refused

pub returns-clause-map : goal.returns-clause-map
returns-clause-map c =
    let es = c.args.members.now.entries in
    sym (filled_fields es c.iter-key-items.ensures.ordered) ∙ sym c.loop-key.invariant
    ∙ ap (λ left. filled c.loop-key.map (members_view left)) c.in-None.ensures.steps.0

pub returns-clause-order : goal.returns-clause-order
returns-clause-order c =
    let es = c.args.members.now.entries in
    let is : fields_in (members_view es) ≡ Some c.loop-key.map =
    sym (filled_fields es c.iter-key-items.ensures.ordered) ∙ sym c.loop-key.invariant
    ∙ ap (λ left. filled c.loop-key.map (members_view left)) c.in-None.ensures.steps.0 in
    names_ascend es c.loop-key.map c.iter-key-items.ensures.ordered is
