-- What a broker does: the commands of its peers, one after another, and turns.
use Rattle.std.specs.Prelude.{◌≡◌, ℕ, ◌^◌, ◌-◌, zero, suc, Bool, true, false, not, ◌&&◌, nat_lt, length, is_some, List, [], ◌∷◌, ◌++◌, Option, Some, None, if◌then◌else◌, codes}
use Rattle.nats_names.specs.Names.{is_valid}
use Rattle.nats_interests.specs.Interests.{subscribed, unsubscribed}
use Rattle.nats_outboxes.specs.Outboxes.{item_of, at_number}
use Rattle.nats_routing.specs.declared.publication.Publication.{Publication}
use Rattle.nats_routing.specs.Router.{RouterSeen, published, said_to, closed_by}
use Rattle.nats_routing.specs.Texts.{crlf}
use Rattle.nats_broker_text.specs.declared.command.Command.{Command}
use Rattle.nats_broker_text.specs.declared.command.Command.TheVariants.{Subscribe, Unsubscribe, Publish, Ping, Pong, Connect}
use Rattle.nats_broker_text.specs.declared.command.PeerFront.{PeerFront}
use Rattle.nats_broker_text.specs.declared.command.PeerFront.TheVariants.{Unfinished, Bad, Got}
use Rattle.nats_broker_text.specs.Commands.{peer_front, is_ready}
use Rattle.nats_broker.specs.Info.{info_text}
use Rattle.nats_broker.specs.Peers.{ended, with_wish, past, fed_by, end_text, up_peer}
use Rattle.nats_broker.specs.declared.info.BrokerInfo.{BrokerInfo}
use Rattle.nats_broker.specs.declared.peer.PeerWord.{PeerWord}
use Rattle.nats_broker.specs.declared.peer.PeerWord.TheVariants as word
use Rattle.nats_broker.specs.declared.peer.Peer.{Peer}
use Rattle.nats_broker.specs.declared.turn.BrokerTurn.{BrokerTurn}
use Rattle.nats_broker.specs.declared.turn.BrokerTurn.TheVariants.{Join, Feed, Leave}

pub record BrokerSeen : Type 0 where
  -- the line that a peer gets first
  pub info : List ℕ
  pub max_payload : ℕ
  -- by number, from 1
  pub peers : List Peer
  pub router : RouterSeen
  -- the peer that was fed last, 0 for none: no other has a command that is due
  pub fed : ℕ

-- ---- one command

-- a peer ends: it is told so, its bytes go, and its interests close
abbrev pub peer_ended : ℕ → PeerWord → BrokerSeen → BrokerSeen
peer_ended p w b = record b {
  peers = at_number p (ended w) b.peers;
  router = closed_by p (said_to p (end_text w) b.router);
}

-- a peer is told a line
abbrev pub told : ℕ → List ℕ → BrokerSeen → BrokerSeen
told p line b = record b { router = said_to p (line ++ crlf) b.router }

-- an interest is made, where the subject may be subscribed to
abbrev pub subscribed_by : ℕ → ℕ → List ℕ → Option (List ℕ) → BrokerSeen → BrokerSeen
subscribed_by p sid pattern group b =
    if is_valid pattern
    then record b { router = record b.router { interests = subscribed p sid pattern group b.router.interests } }
    else told p (codes "-ERR 'Invalid Subject'") b

abbrev pub publish_by : ℕ → Option Peer → Publication → BrokerSeen → BrokerSeen
publish_by p None m b = b
publish_by p (Some peer) m b = record b { router = published p peer.echo peer.no_responders m b.router }

-- a message of more bytes than are allowed ends the peer
abbrev pub publish_of : ℕ → Publication → ℕ → BrokerSeen → BrokerSeen
publish_of p m size b =
    if nat_lt b.max_payload size then peer_ended p word.Size b else publish_by p (item_of p b.peers) m b

abbrev pub command_done : ℕ → Command → BrokerSeen → BrokerSeen
command_done p (Subscribe sid pattern group) b = subscribed_by p sid pattern group b
command_done p (Unsubscribe sid most) b =
    record b { router = record b.router { interests = unsubscribed p sid most b.router.interests } }
command_done p (Publish m size) b = publish_of p m size b
command_done p Ping b = told p (codes "PONG") b
command_done p Pong b = b
command_done p (Connect wishes) b = record b { peers = at_number p (with_wish wishes) b.peers }

-- ---- the command that is due

abbrev pub taken_from : ℕ → ℕ → BrokerSeen → BrokerSeen
taken_from p n b = record b { peers = at_number p (past n) b.peers }

-- a command is done, and its bytes are taken; what is none ends the peer
abbrev pub due_front : ℕ → PeerFront → BrokerSeen → Option BrokerSeen
due_front p Unfinished b = None
due_front p Bad b = Some (peer_ended p word.Bad b)
due_front p (Got command n) b = Some (taken_from p n (command_done p command b))

abbrev pub due_of : ℕ → Option Peer → BrokerSeen → Option BrokerSeen
due_of p None b = None
due_of p (Some peer) b = due_front p (peer_front peer.unread) b

-- the peer that was fed last, where it is up
abbrev pub fed_peer : BrokerSeen → Option Peer
fed_peer b = up_peer (item_of b.fed b.peers)

-- what the command that is due leaves, where one is
abbrev pub due : BrokerSeen → Option BrokerSeen
due b = due_of b.fed (fed_peer b) b

abbrev pub has_due : Option Peer → Bool
has_due None = false
has_due (Some peer) = is_ready peer.unread

-- whether one is
abbrev pub is_due : BrokerSeen → Bool
is_due b = has_due (fed_peer b)

abbrev pub Advances : Option BrokerSeen → Bool → BrokerSeen → BrokerSeen → Type 0
Advances None advanced old new = (advanced ≡ false) × (new ≡ old)
Advances (Some next) advanced old new = (advanced ≡ true) × (new ≡ next)

abbrev pub unread_len : Option Peer → ℕ
unread_len None = 0
unread_len (Some peer) = length peer.unread

-- all that is due: each command takes a byte at least, and what is none ends its peer
abbrev pub settled_by : ℕ → Option BrokerSeen → BrokerSeen → BrokerSeen
settled_by most None b = b
settled_by zero (Some next) b = b
settled_by (suc most) (Some next) b = settled_by most (due next) next

abbrev pub settled : BrokerSeen → BrokerSeen
settled b = settled_by (unread_len (fed_peer b)) (due b) b

-- ---- turns

abbrev pub new_broker : BrokerInfo → BrokerSeen
new_broker info = record {
  info = info_text info.server_id info.max_payload;
  max_payload = info.max_payload;
  peers = [];
  router = record { interests = []; outs = [] };
  fed = 0;
}

abbrev pub new_peer : Peer
new_peer = record { word = word.Up; unread = []; echo = true; no_responders = false }

abbrev pub joined : BrokerSeen → BrokerSeen
joined b = record b {
  peers = b.peers ++ new_peer ∷ [];
  router = record b.router { outs = b.router.outs ++ b.info ∷ [] };
}

abbrev pub fed_to : ℕ → List ℕ → BrokerSeen → BrokerSeen
fed_to p bytes b = record b { peers = at_number p (fed_by bytes) b.peers; fed = p }

abbrev pub peer_left : ℕ → BrokerSeen → BrokerSeen
peer_left p b = record b { peers = at_number p (ended word.Left) b.peers; router = closed_by p b.router }

-- the last peer has the last number; one that is fed, or leaves, is up
abbrev pub may_come : BrokerTurn → BrokerSeen → Bool
may_come Join b = nat_lt (length b.peers) (2 ^ 64 - 1)
may_come (Feed p bytes) b = is_some (up_peer (item_of p b.peers))
may_come (Leave p) b = is_some (up_peer (item_of p b.peers))

-- no turn comes while a command is due
abbrev pub is_valid_turn : BrokerTurn → BrokerSeen → Bool
is_valid_turn turn b = not (is_due b) && may_come turn b

abbrev pub own : BrokerTurn → BrokerSeen → BrokerSeen
own Join b = joined b
own (Feed p bytes) b = fed_to p bytes b
own (Leave p) b = peer_left p b

-- a turn, and then all that is due
abbrev pub after_turn : BrokerTurn → BrokerSeen → BrokerSeen
after_turn turn b = settled (own turn b)

abbrev pub played : List BrokerTurn → BrokerSeen → BrokerSeen
played [] b = b
played (turn ∷ turns) b = played turns (after_turn turn b)

-- the place of the first turn that may not come, counted from `place`
abbrev pub out_of_turn_from : ℕ → List BrokerTurn → BrokerSeen → Option ℕ
out_of_turn_from place [] b = None
out_of_turn_from place (turn ∷ turns) b =
    if is_valid_turn turn b then out_of_turn_from (suc place) turns (after_turn turn b) else Some place
