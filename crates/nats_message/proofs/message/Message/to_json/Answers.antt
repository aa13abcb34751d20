-- The message is read back from its JSON.
use Rattle.std.proofs.Common.{◌≡◌, rules, subst, sym, Some, ◌∙◌}
use Rattle.serde_json.specs.View.{members_view}
use Rattle.serde_json.specs.Data.{object}
use Rattle.serde_json.proofs.Views.{view-Object}
use Rattle.nats_header.specs.Json.{headers_in}
use Rattle.nats_message_json.specs.Fields.{or_null, status_in, payload_in, bytes_json}
use Rattle.nats_message.specs.Json.{message_in, message_json, HeadersReadAs, ReadsAs}
use Rattle.nats_message.proofs.JsonBack.{message_back}
use Rattle.nats_message.proofs.message.Message.to_json.Goals as goal

pub returns-clause-reads_back : goal.returns-clause-reads_back
returns-clause-reads_back c =
    let m = c.args.self.now in
    let fields : object (members_view c.put-7.new.map.entries) ≡ message_json m = search rules in
    let json = view-Object c.put-7.new.map ∙ fields in
    let headers = subst (λ json. HeadersReadAs (or_null headers_in json) m.headers) c.in_ok-headers.ensures.json c.in_ok-headers.ensures.reads_back in
    let status = subst (λ json. or_null status_in json ≡ Some m.status) c.json_of_status.ensures.json c.json_of_status.ensures.reads_back in
    let read = subst (λ json. payload_in json ≡ Some c.as_slice.result.now) c.in_ok-payload.ensures.json c.in_ok-payload.ensures.reads_back in
    let payload = subst (λ bytes. payload_in (bytes_json bytes) ≡ Some bytes) c.as_slice.ensures read in
    subst (λ json. ReadsAs (message_in json) m) (sym json) (message_back m headers status payload)
