-- The commands that are done for a peer are the first of all its joined bytes.
use Rattle.std.specs.Prelude.{◌≡◌, ℕ, zero, suc, Bool, false, ◌&&◌, ◌==◌, nat_lt, length, List, [], ◌∷◌, ◌++◌, drop, Option, Some, None, if◌then◌else◌}
use Rattle.nats_outboxes.specs.Outboxes.{item_of}
use Rattle.nats_broker_text.specs.declared.command.Command.{Command}
use Rattle.nats_broker_text.specs.declared.command.PeerFront.{PeerFront}
use Rattle.nats_broker_text.specs.declared.command.PeerFront.TheVariants.{Unfinished, Bad, Got}
use Rattle.nats_broker_text.specs.Commands.{peer_front}
use Rattle.nats_broker.specs.declared.info.BrokerInfo.{BrokerInfo}
use Rattle.nats_broker.specs.declared.peer.Peer.{Peer}
use Rattle.nats_broker.specs.declared.turn.BrokerTurn.{BrokerTurn}
use Rattle.nats_broker.specs.declared.turn.BrokerTurn.TheVariants.{Join, Feed, Leave}
use Rattle.nats_broker.specs.Peers.{up_peer}
use Rattle.nats_broker.specs.Playing.{BrokerSeen, due, fed_peer, unread_len, new_broker, own, after_turn, played, out_of_turn_from}

-- ---- all the commands of a text

-- the whole commands at the front of some bytes, and the bytes behind them
pub record Reading : Type 0 where
  pub commands : List Command
  pub left : List ℕ

-- nothing is taken
abbrev pub untaken : List ℕ → Reading
untaken text = record { commands = []; left = text }

-- some commands, and then those of the bytes behind them
abbrev pub behind : List Command → Reading → Reading
behind commands reading = record { commands = commands ++ reading.commands; left = reading.left }

-- one command after another is taken from the front, so many at the most, as long as one is there whole
abbrev pub read_by : ℕ → List ℕ → PeerFront → Reading
read_by most text Unfinished = untaken text
read_by most text Bad = untaken text
read_by zero text (Got command n) = untaken text
read_by (suc most) text (Got command n) = behind (command ∷ []) (read_by most (drop n text) (peer_front (drop n text)))

-- each command takes a byte at least
abbrev pub read_all : List ℕ → Reading
read_all text = read_by (length text) text (peer_front text)

abbrev pub commands_of : List ℕ → List Command
commands_of text = (read_all text).commands

abbrev pub left_over : List ℕ → List ℕ
left_over text = (read_all text).left

-- ---- the bytes of a peer

-- whether a peer of that number is among the first so many: they count from 1
abbrev pub is_among : ℕ → ℕ → Bool
is_among zero joined = false
is_among (suc i) joined = nat_lt i joined

-- what a turn feeds to a peer, where so many joined before; one that is not there yet gets nothing
abbrev pub fed_in : ℕ → ℕ → BrokerTurn → List ℕ
fed_in p joined Join = []
fed_in p joined (Feed q bytes) = if q == p && is_among p joined then bytes else []
fed_in p joined (Leave q) = []

abbrev pub joined_by : BrokerTurn → ℕ → ℕ
joined_by Join joined = suc joined
joined_by (Feed q bytes) joined = joined
joined_by (Leave q) joined = joined

-- all the bytes that turns feed to a peer, one after another
abbrev pub bytes_of : ℕ → ℕ → List BrokerTurn → List ℕ
bytes_of p joined [] = []
bytes_of p joined (turn ∷ turns) = fed_in p joined turn ++ bytes_of p (joined_by turn joined) turns

-- ---- the commands that are done for a peer

abbrev pub front_command : PeerFront → List Command
front_command Unfinished = []
front_command Bad = []
front_command (Got command n) = command ∷ []

abbrev pub command_at : Option Peer → List Command
command_at None = []
command_at (Some peer) = front_command (peer_front peer.unread)

-- the command that is done next, where it is this peer's: that of the peer that was fed last
abbrev pub next_for : ℕ → BrokerSeen → List Command
next_for p b = if b.fed == p then command_at (fed_peer b) else []

-- those of all that is due, step by step as `settled_by` goes
abbrev pub done_by : ℕ → ℕ → Option BrokerSeen → BrokerSeen → List Command
done_by p most None b = []
done_by p zero (Some next) b = []
done_by p (suc most) (Some next) b = next_for p b ++ done_by p most (due next) next

abbrev pub done_in : ℕ → BrokerSeen → List Command
done_in p b = done_by p (unread_len (fed_peer b)) (due b) b

-- those of some turns
abbrev pub done_for : ℕ → List BrokerTurn → BrokerSeen → List Command
done_for p [] b = []
done_for p (turn ∷ turns) b = done_in p (own turn b) ++ done_for p turns (after_turn turn b)

-- ---- the law

-- the commands that were done are the first of the bytes; where the peer is up they are all, and its unread bytes are
-- what is left
abbrev pub Follows : List Command → List ℕ → Option Peer → Type 0
Follows done bytes None = (later : List Command) × (done ++ later ≡ commands_of bytes)
Follows done bytes (Some peer) = (done ≡ commands_of bytes) × (peer.unread ≡ left_over bytes)

-- whatever turns a broker plays, the commands that were done for a peer follow its bytes alone
abbrev pub InOrder : Type 0
InOrder = (info : BrokerInfo) (turns : List BrokerTurn) (p : ℕ)
    → Follows (done_for p turns (new_broker info)) (bytes_of p 0 turns)
    (up_peer (item_of p (played turns (new_broker info)).peers))

-- what a turn says that it feeds to a peer
abbrev pub said_in : ℕ → BrokerTurn → List ℕ
said_in p Join = []
said_in p (Feed q bytes) = if q == p then bytes else []
said_in p (Leave q) = []

abbrev pub said_for : ℕ → List BrokerTurn → List ℕ
said_for p [] = []
said_for p (turn ∷ turns) = said_in p turn ++ said_for p turns

-- where each turn may come where it stands, the bytes of a peer are those of all the turns that feed it
abbrev pub AllAreFed : Type 0
AllAreFed = (info : BrokerInfo) (turns : List BrokerTurn) (p : ℕ) → out_of_turn_from 1 turns (new_broker info) ≡ None
    → bytes_of p 0 turns ≡ said_for p turns
