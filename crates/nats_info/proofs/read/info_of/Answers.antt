-- A refusal of the fields is one of the object.
use Rattle.std.proofs.Common.{sym, ◌∙◌}
use Rattle.serde_json.specs.View.{view}
use Rattle.nats_info.proofs.Reading.{object_refused}
use Rattle.nats_info.proofs.read.info_of.Goals as goal

pub returns-in-Err : goal.returns-in-Err
returns-in-Err c =
    object_refused (view c.args.value.now) c.in-Err.error c.default-info.result c.put_fields.new.info c.default-info.ensures (sym c.is_object.ensures ∙ c.if-not-is_object.false) c.in-Err.ensures
