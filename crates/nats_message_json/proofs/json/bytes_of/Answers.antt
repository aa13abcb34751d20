-- Bytes that are pushed onto none are those bytes.
use Rattle.std.proofs.Common.{ap, sym, ◌∙◌, option_map}
use Rattle.serde_json.specs.View.{items_view}
use Rattle.nats_message_json.specs.Fields.{bytes_in, all_pushed}
use Rattle.nats_message_json.proofs.BytesBack.{pushed_all}
use Rattle.nats_message_json.proofs.json.bytes_of.Goals as goal

pub returns-in-Ok : goal.returns-in-Ok
returns-in-Ok c =
    let bytes = bytes_in (items_view c.args.items.now) in
    sym (pushed_all bytes) ∙ ap (λ so_far. option_map (all_pushed so_far) bytes) (sym c.new-bytes.ensures.items) ∙ c.in-Ok.ensures
