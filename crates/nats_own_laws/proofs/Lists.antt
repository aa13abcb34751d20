-- Numbered items, turns one behind another, and what the broker's line is.
use Rattle.std.proofs.Common.{◌≡◌, ℕ, zero, suc, ◌+◌, Bool, true, false, List, [], ◌∷◌, ◌++◌, length, Option, Some, None, refl, sym, ◌∙◌, ap, append_assoc, arith}
use Rattle.std.specs.Prelude.{slice_get, option_map, nat_lt, if◌then◌else◌}
use Rattle.nats_names.specs.Names.{is_valid}
use Rattle.nats_history.specs.declared.config.Config.{Config}
use Rattle.nats_history.specs.declared.turn.Turn.{Turn}
use Rattle.nats_history.specs.declared.turn.Turn.TheVariants.{Up}
use Rattle.nats_history.specs.History.{History}
use Rattle.nats_history.specs.Schedule.{after_turn as client_turn, steps_from, steps}
use Rattle.nats_heard.specs.Heard.{NoneUp}
use Rattle.nats_link_text.specs.Typed.{IsTypedTurn, AreTypedTurns}
use Rattle.nats_outboxes.specs.Outboxes.{item_of, at_index, at_number}
use Rattle.nats_routing.specs.declared.publication.Publication.{Publication}
use Rattle.nats_broker_text.specs.declared.command.Command.{Command}
use Rattle.nats_broker_text.specs.declared.command.Command.TheVariants.{Subscribe, Unsubscribe, Publish, Ping, Pong, Connect}
use Rattle.nats_broker_text.specs.declared.command.PeerFront.{PeerFront}
use Rattle.nats_broker_text.specs.declared.command.PeerFront.TheVariants.{Unfinished, Bad, Got}
use Rattle.nats_broker_text.specs.Commands.{peer_front}
use Rattle.nats_broker.specs.declared.peer.Peer.{Peer}
use Rattle.nats_broker.specs.declared.peer.PeerWord.TheVariants as word
use Rattle.nats_broker.specs.declared.turn.BrokerTurn.{BrokerTurn}
use Rattle.nats_broker.specs.declared.turn.BrokerTurn.TheVariants.{Join, Feed, Leave}
use Rattle.nats_broker.specs.Playing.{BrokerSeen, peer_ended, publish_by, command_done, taken_from, due_front, due_of, due, fed_peer, unread_len, settled_by, own, after_turn, played}
use Rattle.nats_broker_laws.specs.Order.{fed_in, joined_by, bytes_of}

-- ---- numbered items

index_at : {A : Type 0} (f : A → A) (xs : List A) (i : ℕ) → slice_get (at_index i f xs) i ≡ option_map f (slice_get xs i)
index_at f [] i = refl
index_at f (x ∷ xs) zero = refl
index_at f (x ∷ xs) (suc i) = index_at f xs i

index_other : {A : Type 0} (f : A → A) (xs : List A) (i j : ℕ) → (i ≡ j → ⊥) → slice_get (at_index i f xs) j ≡ slice_get xs j
index_other f [] i j other = refl
index_other f (x ∷ xs) zero zero other = absurd (other refl)
index_other f (x ∷ xs) zero (suc j) other = refl
index_other f (x ∷ xs) (suc i) zero other = refl
index_other f (x ∷ xs) (suc i) (suc j) other = index_other f xs i j (λ same. other (ap suc same))

-- the item of a number that was changed
pub item_at : {A : Type 0} (p : ℕ) (f : A → A) (xs : List A) → item_of p (at_number p f xs) ≡ option_map f (item_of p xs)
item_at zero f xs = refl
item_at (suc i) f xs = index_at f xs i

-- another number's item
pub item_other : {A : Type 0} (p q : ℕ) (f : A → A) (xs : List A) → (p ≡ q → ⊥) → item_of q (at_number p f xs) ≡ item_of q xs
item_other zero q f xs other = refl
item_other (suc i) zero f xs other = refl
item_other (suc i) (suc j) f xs other = index_other f xs i j (λ same. other (ap suc same))

-- ---- a client's turns

steps_more : (c : Config) (place : ℕ) (turns : List Turn) (turn : Turn) (h : History)
    → steps_from c place (turns ++ turn ∷ []) h ≡ client_turn c (place + length turns) turn (steps_from c place turns h)
steps_more c place [] turn h = let same : place + 0 ≡ place = omega arith in ap (λ k. client_turn c k turn h) (sym same)
steps_more c place (first ∷ turns) turn h =
    let same : suc place + length turns ≡ place + suc (length turns) = omega arith in
    steps_more c (suc place) turns turn (client_turn c place first h)
    ∙ ap (λ k. client_turn c k turn (steps_from c (suc place) turns (client_turn c place first h))) same

-- one turn more
pub one_more : (c : Config) (turns : List Turn) (turn : Turn) → steps c (turns ++ turn ∷ []) ≡ client_turn c (1 + length turns) turn (steps c turns)
one_more c turns turn = steps_more c 1 turns turn []

pub none_more : (turns : List Turn) (turn : Turn) → NoneUp turns → NoneUp (turn ∷ []) → NoneUp (turns ++ turn ∷ [])
none_more [] turn none one = one
none_more (Up info ∷ turns) turn none one = absurd none
none_more (first ∷ turns) turn none one = none_more turns turn none one

pub typed_more : (turns : List Turn) (turn : Turn) → AreTypedTurns turns → IsTypedTurn turn → AreTypedTurns (turns ++ turn ∷ [])
typed_more [] turn typed one = (one, tt)
typed_more (first ∷ turns) turn typed one = (typed.0, typed_more turns turn typed.1 one)

-- ---- a broker's turns

pub played_behind : (turns more : List BrokerTurn) (b : BrokerSeen) → played (turns ++ more) b ≡ played more (played turns b)
played_behind [] more b = refl
played_behind (turn ∷ turns) more b = played_behind turns more (after_turn turn b)

-- how many joined
abbrev pub joined_all : List BrokerTurn → ℕ → ℕ
joined_all [] k = k
joined_all (turn ∷ turns) k = joined_all turns (joined_by turn k)

pub joined_both : (turns more : List BrokerTurn) (k : ℕ) → joined_all (turns ++ more) k ≡ joined_all more (joined_all turns k)
joined_both [] more k = refl
joined_both (turn ∷ turns) more k = joined_both turns more (joined_by turn k)

pub bytes_both : (p : ℕ) (turns more : List BrokerTurn) (k : ℕ)
    → bytes_of p k (turns ++ more) ≡ bytes_of p k turns ++ bytes_of p (joined_all turns k) more
bytes_both p [] more k = refl
bytes_both p (turn ∷ turns) more k =
    ap (λ text. fed_in p k turn ++ text) (bytes_both p turns more (joined_by turn k))
    ∙ sym (append_assoc (fed_in p k turn) (bytes_of p (joined_by turn k) turns) (bytes_of p (joined_all turns (joined_by turn k)) more))

-- ---- the broker's line

publish_line : (p : ℕ) (peer : Option Peer) (m : Publication) (b : BrokerSeen) → (publish_by p peer m b).info ≡ b.info
publish_line p None m b = refl
publish_line p (Some peer) m b = refl

either_line : (test : Bool) (one other b : BrokerSeen) → one.info ≡ b.info → other.info ≡ b.info → (if test then one else other).info ≡ b.info
either_line true one other b first second = first
either_line false one other b first second = second

command_line : (p : ℕ) (command : Command) (b : BrokerSeen) → (command_done p command b).info ≡ b.info
command_line p (Subscribe sid pattern group) b = either_line (is_valid pattern) _ _ b refl refl
command_line p (Unsubscribe sid most) b = refl
command_line p (Publish m size) b =
    either_line (nat_lt b.max_payload size) (peer_ended p word.Size b) (publish_by p (item_of p b.peers) m b) b refl (publish_line p (item_of p b.peers) m b)
command_line p Ping b = refl
command_line p Pong b = refl
command_line p (Connect wishes) b = refl

front_line : (p : ℕ) (found : PeerFront) (b next : BrokerSeen) → due_front p found b ≡ Some next → next.info ≡ b.info
front_line p Unfinished b next is = cc
front_line p Bad b next is = let same : peer_ended p word.Bad b ≡ next = cc in ap (λ (x : BrokerSeen). x.info) (sym same)
front_line p (Got command n) b next is =
    let same : taken_from p n (command_done p command b) ≡ next = cc in ap (λ (x : BrokerSeen). x.info) (sym same) ∙ command_line p command b

peer_line : (p : ℕ) (peer : Option Peer) (b next : BrokerSeen) → due_of p peer b ≡ Some next → next.info ≡ b.info
peer_line p None b next is = cc
peer_line p (Some peer) b next is = front_line p (peer_front peer.unread) b next is

settled_line : (most : ℕ) (found : Option BrokerSeen) (b : BrokerSeen) → due b ≡ found → (settled_by most found b).info ≡ b.info
settled_line zero None b at = refl
settled_line (suc most) None b at = refl
settled_line zero (Some next) b at = refl
settled_line (suc most) (Some next) b at = settled_line most (due next) next refl ∙ peer_line b.fed (fed_peer b) b next at

own_line : (turn : BrokerTurn) (b : BrokerSeen) → (own turn b).info ≡ b.info
own_line Join b = refl
own_line (Feed p bytes) b = refl
own_line (Leave p) b = refl

-- it stays, whatever turns come
pub line_stays : (turns : List BrokerTurn) (b : BrokerSeen) → (played turns b).info ≡ b.info
line_stays [] b = refl
line_stays (turn ∷ turns) b =
    line_stays turns (after_turn turn b) ∙ settled_line (unread_len (fed_peer (own turn b))) (due (own turn b)) (own turn b) refl ∙ own_line turn b
