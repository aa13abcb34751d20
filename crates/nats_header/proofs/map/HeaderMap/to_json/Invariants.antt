-- the fields that are left make of the members so far what all of them make of none
use Rattle.std.proofs.Common.{◌≡◌, fold}
use Rattle.serde_json.specs.Data.{no_members}
use Rattle.serde_json.specs.View.{members_view}
use Rattle.nats_header.specs.Json.{put_field}
use Rattle.nats_header.proofs.map.HeaderMap.to_json.Given as goal

abbrev pub invariant-loop-name : goal.invariant-loop-name
invariant-loop-name l = fold put_field (members_view l.members.entries) l.name-iterator ≡ fold put_field no_members l.self
