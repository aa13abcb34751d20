-- What waits for a peer is what was said to it.
use Rattle.std.specs.Prelude.{◌≡◌, ℕ, ◌^◌, ◌<◌, ◌≤◌, ◌==◌, Bool, true, List, [], ◌∷◌, ◌++◌, Option}
use Rattle.std.specs.List.{list_any}
use Rattle.nats_names.specs.Names.{is_token}
use Rattle.nats_header.specs.Headers.{Headers}
use Rattle.nats_commands.specs.Commands.{sent_block}
use Rattle.nats_client_text.specs.Law.{AreHeadersOrNone}
use Rattle.nats_routing.specs.declared.publication.Publication.{Publication}
use Rattle.nats_broker_text.specs.declared.command.Command.{Command}
use Rattle.nats_broker_text.specs.declared.command.Command.TheVariants.{Subscribe, Unsubscribe, Publish, Ping, Pong, Connect}
use Rattle.nats_broker_text.specs.declared.command.PeerFront.TheVariants.{Got}
use Rattle.nats_broker_text.specs.Commands.{peer_front}
use Rattle.nats_broker.specs.declared.info.BrokerInfo.{BrokerInfo}
use Rattle.nats_broker.specs.declared.turn.BrokerTurn.{BrokerTurn}
use Rattle.nats_broker.specs.Playing.{BrokerSeen, new_broker, played}
use Rattle.nats_broker.specs.Routes.{text_of}
use Rattle.nats_server_text.specs.Law.{IsWord, IsWordOrNone, AreTellable}
use Rattle.nats_broker_laws.specs.Order.{done_for}
use Rattle.nats_server_text.specs.Said.{Said, told, unanswered, said_texts, counted}

-- a text is that of some greetings, messages and answers that can be told
abbrev pub IsSaid : List ℕ → Type 0
IsSaid text = (all : List Said) × AreTellable all × (text ≡ said_texts all)

-- a message that can be told: its subject and its reply are words, its block is that of headers, and its block and its
-- payload have no more bytes than the command says
abbrev pub IsMessage : Publication → ℕ → Type 0
IsMessage m size = (headers : Option Headers) × (m.block ≡ sent_block headers) × IsWord m.subject
    × IsWordOrNone m.respond × AreHeadersOrNone headers × (counted m.block m.payload ≤ size)

-- what a command has that is told to peers can be told
abbrev pub IsFit : Command → Type 0
IsFit (Subscribe sid pattern group) = sid < 2 ^ 64
IsFit (Publish m size) = IsMessage m size
IsFit (Unsubscribe sid most) = Unit {0}
IsFit Ping = Unit {0}
IsFit Pong = Unit {0}
IsFit (Connect wishes) = Unit {0}

-- each command that is read is so
abbrev pub ReadsFit : Type 0
ReadsFit = (text : List ℕ) (command : Command) (n : ℕ) → peer_front text ≡ Got command n → IsFit command

-- whatever turns a broker plays, what waits for a peer is the text of what was said to it
abbrev pub WaitsAsSaid : Type 0
WaitsAsSaid = (info : BrokerInfo) (turns : List BrokerTurn) (p : ℕ) → is_token info.server_id ≡ true
    → info.max_payload < 2 ^ 64 → IsSaid (text_of p (played turns (new_broker info)))

-- ---- under which numbers

abbrev pub is_among : ℕ → List ℕ → Bool
is_among n numbers = list_any (λ other. other == n) numbers

abbrev pub asked_number : Command → List ℕ
asked_number (Subscribe sid pattern group) = sid ∷ []
asked_number command = []

-- the numbers under which commands ask for messages
abbrev pub asked_numbers : List Command → List ℕ
asked_numbers [] = []
asked_numbers (command ∷ commands) = asked_number command ++ asked_numbers commands

-- a message is told under one of these
abbrev pub IsAsked : List ℕ → Said → Type 0
IsAsked numbers (told sid subject respond headers payload) = is_among sid numbers ≡ true
IsAsked numbers (unanswered sid subject) = is_among sid numbers ≡ true
IsAsked numbers said = Unit {0}

abbrev pub AreAsked : List ℕ → List Said → Type 0
AreAsked numbers [] = Unit {0}
AreAsked numbers (said ∷ more) = IsAsked numbers said × AreAsked numbers more

-- whatever turns a broker plays, what waits for a peer is the text of what was said to it, each message under a number
-- that one of the commands that were done for the peer asks for
abbrev pub ToldAsAsked : Type 0
ToldAsAsked = (info : BrokerInfo) (turns : List BrokerTurn) (p : ℕ) → is_token info.server_id ≡ true
    → info.max_payload < 2 ^ 64
    → (all : List Said) × AreTellable all × AreAsked (asked_numbers (done_for p turns (new_broker info))) all
    × (text_of p (played turns (new_broker info)) ≡ said_texts all)

-- ---- as turns go on

-- what waits for a peer is only added to, whatever turns come
abbrev pub TextsGrow : Type 0
TextsGrow = (b : BrokerSeen) (turns : List BrokerTurn) (p : ℕ)
    → (more : List ℕ) × (text_of p (played turns b) ≡ text_of p b ++ more)
