-- A message is read back from its JSON.
use Rattle.std.proofs.Common.{◌≡◌, ℕ, List, Option, Some, None, refl, sym, subst}
use Rattle.std.specs.Prelude.{option_and_then}
use Rattle.serde_json.specs.Data.{number, unsigned, string}
use Rattle.nats_header.specs.Headers.{Headers}
use Rattle.nats_header.specs.Json.{headers_in, headers_json}
use Rattle.nats_info.specs.Fields.{text_or_null}
use Rattle.nats_message_json.specs.Fields.{payload_in, or_null, status_in, bytes_json, json_or_null}
use Rattle.nats_message.specs.Json.{message_in, message_json, HeadersReadAs, ReadsAs}
use Rattle.nats_message.specs.declared.message.Message.{Message}

text_back : (text : Option (List ℕ)) → text_or_null (json_or_null string text) ≡ Some text
text_back None = refl
text_back (Some text) = refl

headers_back : (o : Option (Option Headers)) (m : Message) → HeadersReadAs o m.headers → ReadsAs (option_and_then (λ headers. Some (record m { headers = headers })) o) m
headers_back None m read = absurd read
headers_back (Some headers) m read = (read, refl)

pub message_back : (m : Message) → HeadersReadAs (or_null headers_in (json_or_null headers_json m.headers)) m.headers
    → or_null status_in (json_or_null (λ n. number (unsigned n)) m.status) ≡ Some m.status → payload_in (bytes_json m.payload) ≡ Some m.payload
    → ReadsAs (message_in (message_json m)) m
message_back m headers status payload =
    let fields : message_in (message_json m) ≡ option_and_then (λ headers. Some (record m { headers = headers })) (or_null headers_in (json_or_null headers_json m.headers)) =
    rw (text_back m.reply, text_back m.description, status, payload) refl in
    subst (λ o. ReadsAs o m) (sym fields) (headers_back (or_null headers_in (json_or_null headers_json m.headers)) m headers)
