-- What a peer is told, its text, and what is read of it.
use Rattle.std.specs.Prelude.{ℕ, pos, true, ◌+◌, List, [], ◌∷◌, ◌++◌, length, map, Option, Some, None, codes}
use Rattle.std.specs.Option.{option_map}
use Rattle.std.specs.Str.{trim}
use Rattle.nats_names.specs.declared.server_error.ServerError.TheVariants.{Other}
use Rattle.nats_header.specs.Headers.{Field, Headers}
use Rattle.nats_commands.specs.Commands.{sent_block}
use Rattle.nats_message.specs.declared.message.Message.{Message}
use Rattle.nats_message.specs.Content.{Operation, message, info_op, error_op, pong_op}
use Rattle.nats_lines.specs.Operations.{length_or_0}
use Rattle.nats_routing.specs.Texts.{crlf, message_text, no_responders}
use Rattle.nats_info.specs.Info.{default_info}
use Rattle.nats_info.specs.declared.info.ServerInfo.{ServerInfo}
use Rattle.nats_broker.specs.Info.{info_text}

-- why a peer is refused
pub data Refusal : Type 0 where
  invalid_subject unknown_operation payload_violation : Refusal

abbrev pub refusal_text : Refusal → List ℕ
refusal_text invalid_subject = codes "Invalid Subject"
refusal_text unknown_operation = codes "Unknown Protocol Operation"
refusal_text payload_violation = codes "Maximum Payload Violation"

-- what a peer is told
pub data Said : Type 0 where
  -- what the broker is: its name, and the most bytes of a publish
  hello : List ℕ → ℕ → Said
  -- a message for the interest with the number: its subject, its reply, its headers and its payload
  told : ℕ → List ℕ → Option (List ℕ) → Option Headers → List ℕ → Said
  -- nobody answers at a reply
  unanswered : ℕ → List ℕ → Said
  refused : Refusal → Said
  pong : Said

-- its text; an empty header map is not told
abbrev pub said_text : Said → List ℕ
said_text (hello server_id max_payload) = info_text server_id max_payload
said_text (told sid subject respond headers payload) = message_text sid subject respond (sent_block headers) payload
said_text (unanswered sid subject) = message_text sid subject None (Some no_responders) []
said_text (refused why) = codes "-ERR '" ++ refusal_text why ++ codes "'" ++ crlf
said_text pong = codes "PONG" ++ crlf

-- the texts, one after another
abbrev pub said_texts : List Said → List ℕ
said_texts [] = []
said_texts (said ∷ more) = said_text said ++ said_texts more

-- ---- what is read

-- values without the white space at their ends
abbrev pub trimmed_field : Field → Field
trimmed_field field = (field.0, map trim field.1)

abbrev pub trimmed : Headers → Headers
trimmed headers = map trimmed_field headers

abbrev pub read_headers : Option Headers → Option Headers
read_headers None = None
read_headers (Some []) = None
read_headers (Some (field ∷ fields)) = Some (trimmed (field ∷ fields))

-- the bytes of a block, where there is one, and of a payload
abbrev pub counted : Option (List ℕ) → List ℕ → ℕ
counted None payload = length payload
counted (Some block) payload = length block + length payload

-- the message; its length counts the block, the payload, the reply and the subject
abbrev pub read_message : List ℕ → Option (List ℕ) → Option Headers → List ℕ → Message
read_message subject respond headers payload = record {
  subject = subject;
  reply = respond;
  payload = payload;
  headers = read_headers headers;
  status = None;
  description = None;
  length = counted (sent_block headers) payload + length_or_0 respond + length subject;
}

-- a message with the status 503 and no header
abbrev pub read_unanswered : List ℕ → Message
read_unanswered subject = record {
  subject = subject;
  reply = None;
  payload = [];
  headers = Some [];
  status = Some 503;
  description = None;
  length = length no_responders + length subject;
}

-- the INFO of a broker: its name, its version, the version of the protocol, that it takes headers, and the most bytes
abbrev pub read_hello : List ℕ → ℕ → ServerInfo
read_hello server_id max_payload = record default_info {
  server_id = server_id;
  version = codes "2.10.0";
  proto = pos 1;
  headers = true;
  max_payload = max_payload;
}

abbrev pub as_read : Said → Operation
as_read (hello server_id max_payload) = info_op (read_hello server_id max_payload)
as_read (told sid subject respond headers payload) = message sid (read_message subject respond headers payload)
as_read (unanswered sid subject) = message sid (read_unanswered subject)
as_read (refused why) = error_op (Other (refusal_text why))
as_read pong = pong_op
