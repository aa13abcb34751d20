-- the values that are left give the map so far what all of them give the map at the start
use Rattle.std.proofs.Common.{◌≡◌, drop, option_map}
use Rattle.serde_json.specs.View.{items_view}
use Rattle.nats_header.specs.Json.{values_in, all_appended}
use Rattle.nats_header.proofs.json.append_values.Given as goal

abbrev pub invariant-loop-value : goal.invariant-loop-value
invariant-loop-value l =
    option_map (all_appended l.map l.name) (values_in (items_view (drop l.value-index l.values))) ≡ option_map (all_appended l.fn.map l.name) (values_in (items_view l.values))
