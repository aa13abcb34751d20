-- What JSON says of a message, and the JSON of a message.
use Rattle.std.specs.Prelude.{◌≡◌, [], Option, Some, None, option_and_then, IsTrue, codes}
use Rattle.serde_json.specs.Data.{unsigned, Data, number, string, object, no_members, member}
use Rattle.serde_json.specs.Find.{get, as_str}
use Rattle.nats_header.specs.Headers.{Headers, same_headers}
use Rattle.nats_header.specs.Json.{headers_in, headers_json}
use Rattle.nats_info.specs.Fields.{field, whole, text_or_null}
use Rattle.nats_message_json.specs.Fields.{payload_in, or_null, status_in, needed, bytes_json, json_or_null}
use Rattle.nats_message.specs.declared.message.Message.{Message}

-- ---- the fields of a message

infixl 10 ◌>>=◌
abbrev ◌>>=◌ : {A B : Type 0} → Option A → (A → Option B) → Option B
o >>= f = option_and_then f o

abbrev pub with_texts : Data → Message → Option Message
with_texts json m = do
  subject ← needed as_str (get (codes "subject") json)
  reply ← field text_or_null None (get (codes "reply") json)
  description ← field text_or_null None (get (codes "description") json)
  Some (record m { subject = subject; reply = reply; description = description })

abbrev pub with_numbers : Data → Message → Option Message
with_numbers json m = do
  length ← needed whole (get (codes "length") json)
  status ← field (or_null status_in) None (get (codes "status") json)
  payload ← needed payload_in (get (codes "payload") json)
  Some (record m { length = length; status = status; payload = payload })

abbrev pub with_headers : Data → Message → Option Message
with_headers json m = do
  headers ← field (or_null headers_in) None (get (codes "headers") json)
  Some (record m { headers = headers })

abbrev pub with_fields : Data → Message → Option Message
with_fields json m = do
  told ← with_texts json m
  counted ← with_numbers json told
  with_headers json counted

-- a message of which nothing was read
abbrev pub blank_message : Message
blank_message = record {
  subject = [];
  reply = None;
  payload = [];
  headers = None;
  status = None;
  description = None;
  length = 0;
}

-- the message that a JSON value is: an object with a subject, a payload and a length, and what else a message has
abbrev pub message_in : Data → Option Message
message_in json = with_fields json blank_message

-- ---- the JSON of a message

-- an object with each field, in the order of their bytes
abbrev pub message_json : Message → Data
message_json m = object
    (member (codes "description") (json_or_null string m.description)
    (member (codes "headers") (json_or_null headers_json m.headers)
    (member (codes "length") (number (unsigned m.length))
    (member (codes "payload") (bytes_json m.payload)
    (member (codes "reply") (json_or_null string m.reply)
    (member (codes "status") (json_or_null (λ n. number (unsigned n)) m.status)
    (member (codes "subject") (string m.subject) no_members)))))))

-- ---- a message is read that is equal to this one

abbrev pub SameHeaders : Option Headers → Option Headers → Type 0
SameHeaders None None = Unit {0}
SameHeaders (Some one) (Some other) = IsTrue (same_headers one other)
SameHeaders None (Some other) = ⊥
SameHeaders (Some one) None = ⊥

-- headers are read that are equal to these
abbrev pub HeadersReadAs : Option (Option Headers) → Option Headers → Type 0
HeadersReadAs (Some other) headers = SameHeaders other headers
HeadersReadAs None headers = ⊥

-- its headers are equal, and its other fields the same
abbrev pub ReadsAs : Option Message → Message → Type 0
ReadsAs (Some other) m = SameHeaders other.headers m.headers × (other ≡ record m { headers = other.headers })
ReadsAs None m = ⊥
