-- What is written is what is read.
use Rattle.std.specs.Prelude.{◌≡◌, ℕ, ◌+◌, ◌^◌, ◌<◌, true, List, [], ◌∷◌, length, map, Option, Some, None}
use Rattle.std.specs.Str.{is_utf8}
use Rattle.nats_names.specs.Names.{is_publishable}
use Rattle.nats_header.specs.Headers.{Headers, are_fields, AreDistinct}
use Rattle.nats_commands.specs.Commands.{command_texts, sent_block}
use Rattle.nats_message.specs.declared.op.ClientOp.{ClientOp}
use Rattle.nats_message.specs.declared.op.ClientOp.TheVariants.{Subscribe, Unsubscribe, Publish, Ping, Pong, Connect}
use Rattle.nats_client_text.specs.Grammar.{read_of}
use Rattle.nats_client_text.specs.declared.read.ClientEnd.TheVariants as end

-- a text that may be published to
abbrev pub IsName : List ℕ → Type 0
IsName text = (is_utf8 text ≡ true) × (is_publishable text ≡ true)

abbrev pub IsNameOrNone : Option (List ℕ) → Type 0
IsNameOrNone None = Unit {0}
IsNameOrNone (Some text) = IsName text

abbrev pub IsBelow : Option ℕ → Type 0
IsBelow None = Unit {0}
IsBelow (Some n) = n < 2 ^ 64

-- the lengths that a publish tells are numbers of the protocol
abbrev pub IsCounted : Option (List ℕ) → List ℕ → Type 0
IsCounted None payload = length payload < 2 ^ 64
IsCounted (Some block) payload = length block + length payload < 2 ^ 64

-- the headers of a command as they are read: an empty map isn't sent
abbrev pub sent_headers : Option Headers → Option Headers
sent_headers None = None
sent_headers (Some []) = None
sent_headers (Some (field ∷ fields)) = Some (field ∷ fields)

-- texts that are UTF-8
abbrev pub AreTexts : List (List ℕ) → Type 0
AreTexts [] = Unit {0}
AreTexts (text ∷ texts) = (is_utf8 text ≡ true) × AreTexts texts

abbrev pub HaveTexts : Headers → Type 0
HaveTexts [] = Unit {0}
HaveTexts (field ∷ fields) = AreTexts field.1 × HaveTexts fields

-- headers as a map has them: distinct names of the protocol, each with one or more values, which are UTF-8
abbrev pub AreHeaders : Headers → Type 0
AreHeaders headers = AreDistinct headers × (are_fields headers ≡ true) × HaveTexts headers

abbrev pub AreHeadersOrNone : Option Headers → Type 0
AreHeadersOrNone None = Unit {0}
AreHeadersOrNone (Some headers) = AreHeaders headers

-- a command whose names may be published to, whose headers are names and values, and whose numbers fit; `CONNECT`,
-- which is written in the handshake, is none of these
abbrev pub IsSendable : ClientOp → Type 0
IsSendable (Subscribe sid subject queue_group) = (sid < 2 ^ 64) × IsName subject × IsNameOrNone queue_group
IsSendable (Unsubscribe sid max) = (sid < 2 ^ 64) × IsBelow max
IsSendable (Publish subject payload respond headers) =
    IsName subject × IsNameOrNone respond × AreHeadersOrNone headers × IsCounted (sent_block headers) payload
IsSendable Ping = Unit {0}
IsSendable Pong = Unit {0}
IsSendable (Connect info) = ⊥

abbrev pub AreSendable : List ClientOp → Type 0
AreSendable [] = Unit {0}
AreSendable (op ∷ ops) = IsSendable op × AreSendable ops

-- a command as it is read
abbrev pub as_read : ClientOp → ClientOp
as_read (Subscribe sid subject queue_group) = Subscribe sid subject queue_group
as_read (Unsubscribe sid max) = Unsubscribe sid max
as_read (Publish subject payload respond headers) = Publish subject payload respond (sent_headers headers)
as_read Ping = Ping
as_read Pong = Pong
as_read (Connect info) = Connect info

-- the texts of such commands are read to their end as exactly these commands
abbrev pub ReadBack : Type 0
ReadBack = (ops : List ClientOp) → AreSendable ops
    → read_of (command_texts ops) ≡ record { ops = map as_read ops; «end» = end.Whole }
