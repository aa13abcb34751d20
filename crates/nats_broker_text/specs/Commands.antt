-- What the bytes of a peer say: the grammar of client commands, with one line more.
use Rattle.std.specs.Prelude.{ℕ, ◌+◌, ◌<◌, ◌≤◌, Bool, true, false, not, ◌||◌, nat_eq, List, length, drop, Option, Some, None, option_map, if◌then◌else◌, codes}
use Rattle.std.specs.Char.{is_whitespace}
use Rattle.std.specs.List.{starts_with, list_any}
use Rattle.std.specs.Str.{chars}
use Rattle.nats_header.specs.Headers.{Headers}
use Rattle.nats_header.specs.Block.{block_text}
use Rattle.nats_lines.specs.Operations.{Cut, cut_line}
use Rattle.nats_commands.specs.Commands.{sent_block}
use Rattle.nats_message.specs.declared.op.ClientOp.{ClientOp}
use Rattle.nats_message.specs.declared.op.ClientOp.TheVariants as op
use Rattle.nats_client_text.specs.Grammar.{front}
use Rattle.nats_client_text.specs.declared.read.ClientFront.{ClientFront}
use Rattle.nats_client_text.specs.declared.read.ClientFront.TheVariants as client
use Rattle.nats_broker_text.specs.Connect.{wishes_at}
use Rattle.nats_broker_text.specs.declared.connect.Wishes.{Wishes}
use Rattle.nats_broker_text.specs.declared.command.Command.{Command}
use Rattle.nats_broker_text.specs.declared.command.Command.TheVariants.{Subscribe, Unsubscribe, Publish, Ping, Pong, Connect}
use Rattle.nats_broker_text.specs.declared.command.PeerFront.{PeerFront}
use Rattle.nats_broker_text.specs.declared.command.PeerFront.TheVariants.{Unfinished, Bad, Got}

-- a text that holds white space by Unicode
abbrev pub holds_white : List ℕ → Bool
holds_white text = list_any is_whitespace (chars text)

abbrev pub may_hold_white : Option (List ℕ) → Bool
may_hold_white None = false
may_hold_white (Some text) = holds_white text

-- the length of the block; that of a map without a field is the version's line and an empty line
abbrev pub block_len : Option Headers → ℕ
block_len None = 0
block_len (Some headers) = length (block_text headers)

abbrev pub publish_of : List ℕ → List ℕ → Option (List ℕ) → Option Headers → Command
publish_of subject payload respond headers = Publish
    (record { subject = subject; respond = respond; block = sent_block headers; payload = payload })
    (block_len headers + length payload)

-- the command of an operation; a publish whose subject or reply holds white space is none, since the line of an `HMSG`
-- would be read apart there
abbrev pub command_of : ClientOp → Option Command
command_of (op.Subscribe sid subject queue_group) = Some (Subscribe sid subject queue_group)
command_of (op.Unsubscribe sid max) = Some (Unsubscribe sid max)
command_of (op.Publish subject payload respond headers) =
    if holds_white subject || may_hold_white respond then None else Some (publish_of subject payload respond headers)
command_of op.Ping = Some Ping
command_of op.Pong = Some Pong
command_of (op.Connect info) = None

abbrev pub got_or_bad : ℕ → Option Command → PeerFront
got_or_bad n None = Bad
got_or_bad n (Some command) = Got command n

abbrev pub of_client : ClientFront → PeerFront
of_client (client.Got op n) = got_or_bad n (command_of op)
of_client client.Unfinished = Unfinished
of_client client.Bad = Bad

abbrev pub connect_word : List ℕ
connect_word = codes "CONNECT "

-- what stands behind the word
abbrev pub behind_word : List ℕ → Option (List ℕ)
behind_word line =
    if starts_with nat_eq line connect_word then Some (drop (length connect_word) line) else None

-- what stands behind the word in the first line, where that is there whole and begins with the word
abbrev pub connect_text : Option Cut → Option (List ℕ)
connect_text None = None
connect_text (Some cut) = behind_word cut.line

-- a JSON object behind the word, and CR LF behind that
abbrev pub connect_front : List ℕ → PeerFront
connect_front behind = got_or_bad (length connect_word + length behind + 2) (option_map Connect (wishes_at behind))

abbrev pub front_by : Option (List ℕ) → List ℕ → PeerFront
front_by (Some behind) text = connect_front behind
front_by None text = of_client (front text)

-- what stands at the front of a peer's bytes
unfoldable pub peer_front : List ℕ → PeerFront
peer_front text = front_by (connect_text (cut_line text)) text

abbrev pub is_unfinished : PeerFront → Bool
is_unfinished Unfinished = true
is_unfinished Bad = false
is_unfinished (Got command n) = false

-- a command stands there whole, or what is none: there is something to do
unfoldable pub is_ready : List ℕ → Bool
is_ready text = not (is_unfinished (peer_front text))

-- how many bytes it takes
abbrev pub Takes : PeerFront → ℕ → Type 0
Takes (Got command n) most = (0 < n) × (n ≤ most)
Takes Unfinished most = Unit {0}
Takes Bad most = Unit {0}
