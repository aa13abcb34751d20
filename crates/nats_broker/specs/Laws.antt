-- What holds of brokers, whatever their peers write.
use Rattle.std.specs.Prelude.{◌≡◌, ℕ, true, false, is_some, List, ◌++◌}
use Rattle.nats_outboxes.specs.Outboxes.{item_of}
use Rattle.nats_broker.specs.Peers.{up_peer}
use Rattle.nats_broker.specs.declared.info.BrokerInfo.{BrokerInfo}
use Rattle.nats_broker.specs.declared.turn.BrokerTurn.{BrokerTurn}
use Rattle.nats_broker.specs.declared.turn.BrokerTurn.TheVariants.{Feed}
use Rattle.nats_broker.specs.Playing.{BrokerSeen, due, is_due, has_due, settled, new_broker, after_turn, played}

-- a command is due exactly where there is what it leaves
abbrev pub DueIsDone : Type 0
DueIsDone = (b : BrokerSeen) → is_due b ≡ is_some (due b)

-- once all that is due is done, nothing is due
abbrev pub NoneLeft : Type 0
NoneLeft = (b : BrokerSeen) → is_due (settled b) ≡ false

-- no peer has a command that is due
abbrev pub IsQuiet : BrokerSeen → Type 0
IsQuiet b = (p : ℕ) → has_due (up_peer (item_of p b.peers)) ≡ false

-- behind any turns no command of any peer is left undone
abbrev pub AllDone : Type 0
AllDone = (info : BrokerInfo) (turns : List BrokerTurn) → IsQuiet (played turns (new_broker info))

-- a peer's bytes may come in any pieces: two one after another leave what both leave at once, where the peer is up in
-- between
abbrev pub PiecesJoin : Type 0
PiecesJoin = (b : BrokerSeen) (p : ℕ) (some more : List ℕ)
    → is_some (up_peer (item_of p (after_turn (Feed p some) b).peers)) ≡ true
    → after_turn (Feed p more) (after_turn (Feed p some) b) ≡ after_turn (Feed p (some ++ more)) b
