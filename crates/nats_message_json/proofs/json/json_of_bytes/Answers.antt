-- The bytes are read back one by one.
use Rattle.std.proofs.Common.{map, ap, ◌∙◌}
use Rattle.serde_json.specs.View.{view}
use Rattle.serde_json.proofs.Views.{view-Array}
use Rattle.nats_message_json.specs.Fields.{payload_in}
use Rattle.nats_message_json.proofs.BytesBack.{bytes_back}
use Rattle.nats_message_json.proofs.json.json_of_bytes.Goals as goal

pub returns-clause-reads_back : goal.returns-clause-reads_back
returns-clause-reads_back c =
    ap payload_in (view-Array c.in_ok-items.items) ∙ bytes_back (map view c.in_ok-items.items.items) c.args.bytes.now c.in_ok-items.ensures.reads_back
