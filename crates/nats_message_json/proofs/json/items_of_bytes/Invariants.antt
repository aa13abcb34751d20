-- the numbers so far are those of the bytes so far, and are read as these
use Rattle.std.proofs.Common.{◌≡◌, map, take, Some}
use Rattle.serde_json.specs.Data.{number, unsigned}
use Rattle.serde_json.specs.View.{view}
use Rattle.nats_message_json.specs.Fields.{byte_in}
use Rattle.nats_message_json.proofs.json.items_of_bytes.Given as goal

abbrev pub invariant-loop-byte : goal.invariant-loop-byte
invariant-loop-byte l =
    (map view l.items.items ≡ map (λ byte. number (unsigned byte)) (take l.byte-index l.bytes))
    × (map byte_in (map view l.items.items) ≡ map Some (take l.byte-index l.bytes))
