-- the texts so far and those of the values that are left are the texts of all
use Rattle.std.proofs.Common.{◌≡◌, drop}
use Rattle.serde_json.specs.View.{items_view}
use Rattle.nats_info.specs.Fields.{texts_of}
use Rattle.nats_info.proofs.Texts.{behind_texts}
use Rattle.nats_info.proofs.fields.texts_of.Given as goal

abbrev pub invariant-loop-value : goal.invariant-loop-value
invariant-loop-value l = behind_texts l.texts (texts_of (items_view (drop l.value-index l.values))) ≡ texts_of (items_view l.values)
