-- What is done to a broker at one hold of its lock, and what one read of a peer's link comes to.
use Rattle.std.specs.Prelude.{◌≡◌, ◌⊎◌, ℕ, ◌<◌, ◌≤◌, ◌-◌, ◌^◌, Bool, true, false, is_some, List, [], length, take, Option, Some, None, Ok}
use Rattle.nats_outside.specs.Told.{ReadTold, WriteTold, read_of, write_of}
use Rattle.nats_names.specs.declared.failed.Failed.{Failed}
use Rattle.nats_outside.specs.Counts.{Rose, RoseBy}
use Rattle.nats_outboxes.specs.Outboxes.{item_of}
use Rattle.nats_broker.specs.Peers.{up_peer}
use Rattle.nats_broker.specs.Playing.{BrokerSeen, settled, joined, after_turn, peer_left}
use Rattle.nats_broker.specs.Routes.{text_of}
use Rattle.nats_broker.specs.declared.turn.BrokerTurn.TheVariants as turn
use Rattle.nats_serve.specs.declared.held.Fed.{Fed}
use Rattle.nats_serve.specs.declared.held.Fed.TheVariants as fed
use Rattle.nats_serve.specs.declared.held.Waiting.{Waiting}
use Rattle.nats_serve.specs.declared.held.Waiting.TheVariants as waits
use Rattle.nats_serve.specs.declared.read.ReadOnce.{ReadOnce}
use Rattle.nats_serve.specs.declared.read.ReadOnce.TheVariants as reads

-- a peer of this number joined, and did not end
abbrev pub is_up : ℕ → BrokerSeen → Bool
is_up p b = is_some (up_peer (item_of p b.peers))

-- all that is due is done, and then a peer joins; none does where the last number was given
abbrev pub Joins : BrokerSeen → Option ℕ → BrokerSeen → Type 0
Joins old (Some p) new = (new ≡ joined (settled old)) × (p ≡ length new.peers)
Joins old None new = (new ≡ settled old) × (2 ^ 64 - 1 ≤ length new.peers)

-- all that is due is done, the peer is fed these bytes, and all that is due then is done; or it is not up
abbrev pub Feeds : ℕ → List ℕ → BrokerSeen → Fed → BrokerSeen → Type 0
Feeds p bytes old (fed.Bytes n) new =
    (n ≡ length bytes) × (is_up p (settled old) ≡ true) × (new ≡ after_turn (turn.Feed p bytes) (settled old))
Feeds p bytes old fed.Ended new = (new ≡ settled old) × (is_up p new ≡ false)

-- all that is due is done, and the peer leaves; or it is not up
abbrev pub Leaves : ℕ → BrokerSeen → Bool → BrokerSeen → Type 0
Leaves p old true new = (is_up p (settled old) ≡ true) × (new ≡ peer_left p (settled old))
Leaves p old false new = (new ≡ settled old) × (is_up p new ≡ false)

-- the first bytes that wait for a peer, at least one; or none waits, and it is up, or it ended or never joined
abbrev pub Sees : ℕ → ℕ → BrokerSeen → Waiting → Type 0
Sees most p b (waits.Text bytes) = (0 < length bytes) × (bytes ≡ take most (text_of p b))
Sees most p b waits.Nothing = (text_of p b ≡ []) × (is_up p b ≡ true)
Sees most p b waits.Over = (text_of p b ≡ []) × (is_up p b ≡ false)

-- so many bytes were fed, where the peer was up
abbrev pub IsFed : ℕ → Fed → Type 0
IsFed len (fed.Bytes n) = n ≡ len
IsFed len fed.Ended = Unit {0}

-- ---- one read

-- a read gave the first n bytes of a buffer; none, where the link failed or met its end
abbrev pub Gives : ℕ → List ℕ → ReadTold → ReadTold → Type 0
Gives n buf before after =
    (n ≤ length buf) × (0 < n → after ≡ read_of {E = Failed} (Ok n) buf after.left before)
    × (n ≡ 0 → Rose before.faults after.faults ⊎ Rose before.ends after.ends)
    × RoseBy 0 before.faults after.faults × RoseBy 0 before.ends after.ends

-- what the link gave was fed whole; or it gave none, and failed or met its end; or the peer was not up
abbrev pub FedOnce : ReadOnce → List ℕ → ReadTold → ReadTold → Type 0
FedOnce (reads.Fed n) buf before after =
    (0 < n) × (n ≤ length buf) × (after ≡ read_of {E = Failed} (Ok n) buf after.left before)
FedOnce reads.Lost buf before after = Rose before.faults after.faults ⊎ Rose before.ends after.ends
FedOnce reads.Ended buf before after = Unit {0}

abbrev pub IsNoFed : ReadOnce → Type 0
IsNoFed (reads.Fed n) = ⊥
IsNoFed reads.Lost = Unit {0}
IsNoFed reads.Ended = Unit {0}

-- ---- one write

-- a link took the first n of some bytes, at least one; or it failed
abbrev pub Takes : Option ℕ → List ℕ → WriteTold → WriteTold → Type 0
Takes (Some n) bytes before after =
    (0 < n) × (n ≤ length bytes) × (after ≡ write_of {E = Failed} (Ok n) bytes before)
Takes None bytes before after = Rose before.faults after.faults
