-- What a list of turns gives each peer.
use Rattle.std.specs.Prelude.{◌≡◌, ℕ, suc, List, [], ◌∷◌, length, drop, Option, Some, None, Result, Ok, Err}
use Rattle.std.specs.Option.{unwrap_or}
use Rattle.nats_outboxes.specs.Outboxes.{item_of}
use Rattle.nats_broker.specs.declared.info.BrokerInfo.{BrokerInfo}
use Rattle.nats_broker.specs.declared.peer.Peer.{Peer}
use Rattle.nats_broker.specs.declared.turn.BrokerTurn.{BrokerTurn}
use Rattle.nats_broker.specs.declared.turn.RouteError.{RouteError}
use Rattle.nats_broker.specs.declared.turn.RouteError.TheVariants as refused
use Rattle.nats_broker.specs.declared.rows.PeerRow.{PeerRow}
use Rattle.nats_broker.specs.Playing.{BrokerSeen, new_broker, played, out_of_turn_from}

-- the texts that wait for a peer, none where no peer has that number
abbrev pub text_of : ℕ → BrokerSeen → List ℕ
text_of p b = unwrap_or (item_of p b.router.outs) []

-- how a peer stands, and its text behind the line that it got first
abbrev pub row_of : ℕ → Peer → BrokerSeen → PeerRow
row_of p peer b = record { word = peer.word; text = drop (length b.info) (text_of p b) }

abbrev pub rows_from : ℕ → List Peer → BrokerSeen → List PeerRow
rows_from p [] b = []
rows_from p (peer ∷ peers) b = row_of p peer b ∷ rows_from (suc p) peers b

abbrev pub rows_of : BrokerSeen → List PeerRow
rows_of b = rows_from 1 b.peers b

-- some turns are played, or the first that may not come is named; memory may be wanting
abbrev pub Plays : List BrokerTurn → BrokerSeen → Result (Unit {0}) RouteError → BrokerSeen → Type 0
Plays turns old (Ok done) new = (out_of_turn_from 1 turns old ≡ None) × (new ≡ played turns old)
Plays turns old (Err (refused.OutOfTurn place)) new = out_of_turn_from 1 turns old ≡ Some place
Plays turns old (Err refused.NoMemory) new = Unit {0}

-- the rows are those of the turns, or the first turn that may not come is named; memory may be wanting
abbrev pub Routes : BrokerInfo → List BrokerTurn → Result (List PeerRow) RouteError → Type 0
Routes info turns (Ok rows) =
    (out_of_turn_from 1 turns (new_broker info) ≡ None) × (rows ≡ rows_of (played turns (new_broker info)))
Routes info turns (Err (refused.OutOfTurn place)) = out_of_turn_from 1 turns (new_broker info) ≡ Some place
Routes info turns (Err refused.NoMemory) = Unit {0}
