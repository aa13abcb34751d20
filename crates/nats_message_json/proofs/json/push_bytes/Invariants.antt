-- the bytes that are left stand behind those so far as all of them behind those at the start
use Rattle.std.proofs.Common.{◌≡◌, drop, option_map}
use Rattle.serde_json.specs.View.{items_view}
use Rattle.nats_message_json.specs.Fields.{bytes_in, all_pushed}
use Rattle.nats_message_json.proofs.json.push_bytes.Given as goal

abbrev pub invariant-loop-item : goal.invariant-loop-item
invariant-loop-item l =
    option_map (all_pushed l.bytes.items) (bytes_in (items_view (drop l.item-index l.items))) ≡ option_map (all_pushed l.fn.bytes.items) (bytes_in (items_view l.items))
