-- the members that are left fill the map so far as all of them fill the empty one
use Rattle.std.proofs.Common.{◌≡◌, []}
use Rattle.serde_json.specs.View.{members_view}
use Rattle.nats_header.proofs.JsonFields.{filled}
use Rattle.nats_header.proofs.json.fields_of.Given as goal

abbrev pub invariant-loop-key : goal.invariant-loop-key
invariant-loop-key l = filled l.map (members_view l.key-iterator) ≡ filled [] (members_view l.members.entries)
