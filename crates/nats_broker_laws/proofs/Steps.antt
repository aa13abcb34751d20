-- What a turn, and each command that is due, does to one peer.
use Rattle.std.proofs.Common.{◌≡◌, ℕ, zero, suc, Bool, true, false, List, [], ◌∷◌, length, Option, Some, None, refl, ap, sym, ◌∙◌}
use Rattle.std.specs.Prelude.{option_map, nat_lt, slice_get, codes, if◌then◌else◌}
use Rattle.nats_names.specs.Names.{is_valid}
use Rattle.nats_interests.specs.Interests.{subscribed}
use Rattle.nats_outboxes.specs.Outboxes.{item_of, at_index, at_number}
use Rattle.nats_routing.specs.declared.publication.Publication.{Publication}
use Rattle.nats_broker_text.specs.declared.connect.Wishes.{Wishes}
use Rattle.nats_broker_text.specs.declared.command.Command.{Command}
use Rattle.nats_broker_text.specs.declared.command.Command.TheVariants.{Subscribe, Unsubscribe, Publish, Ping, Pong, Connect}
use Rattle.nats_broker.specs.declared.peer.PeerWord.TheVariants as word
use Rattle.nats_broker.specs.declared.peer.Peer.{Peer}
use Rattle.nats_broker.specs.Peers.{ended, with_wish}
use Rattle.nats_broker.specs.Playing.{BrokerSeen, command_done, publish_by, told, peer_ended}

-- ---- one item of a list is changed, and another is looked at

index_at : {A : Type 0} (f : A → A) (xs : List A) (i : ℕ)
    → slice_get (at_index i f xs) i ≡ option_map f (slice_get xs i)
index_at f [] i = refl
index_at f (x ∷ xs) zero = refl
index_at f (x ∷ xs) (suc i) = index_at f xs i

index_other : {A : Type 0} (f : A → A) (xs : List A) (i j : ℕ) → (i ≡ j → ⊥)
    → slice_get (at_index i f xs) j ≡ slice_get xs j
index_other f [] i j other = refl
index_other f (x ∷ xs) zero zero other = absurd (other refl)
index_other f (x ∷ xs) zero (suc j) other = refl
index_other f (x ∷ xs) (suc i) zero other = refl
index_other f (x ∷ xs) (suc i) (suc j) other = index_other f xs i j (λ same. other (ap suc same))

-- the item of a number that was changed
pub item_at : {A : Type 0} (p : ℕ) (f : A → A) (xs : List A)
    → item_of p (at_number p f xs) ≡ option_map f (item_of p xs)
item_at zero f xs = refl
item_at (suc i) f xs = index_at f xs i

-- another number's item
pub item_other : {A : Type 0} (p q : ℕ) (f : A → A) (xs : List A) → (p ≡ q → ⊥)
    → item_of q (at_number p f xs) ≡ item_of q xs
item_other zero q f xs other = refl
item_other (suc i) zero f xs other = refl
item_other (suc i) (suc j) f xs other = index_other f xs i j (λ same. other (ap suc same))

index_same : (xs : List Peer) (i : ℕ) → at_index i (λ peer. peer) xs ≡ xs
index_same [] i = refl
index_same (x ∷ xs) zero = refl
index_same (x ∷ xs) (suc i) = ap (λ ys. x ∷ ys) (index_same xs i)

number_same : (p : ℕ) (xs : List Peer) → at_number p (λ peer. peer) xs ≡ xs
number_same zero xs = refl
number_same (suc i) xs = index_same xs i

index_length : (f : Peer → Peer) (xs : List Peer) (i : ℕ) → length (at_index i f xs) ≡ length xs
index_length f [] i = refl
index_length f (x ∷ xs) zero = refl
index_length f (x ∷ xs) (suc i) = ap suc (index_length f xs i)

-- there are as many as before
pub number_length : (p : ℕ) (f : Peer → Peer) (xs : List Peer) → length (at_number p f xs) ≡ length xs
number_length zero f xs = refl
number_length (suc i) f xs = index_length f xs i

-- ---- what a command does to its own peer: nothing, an end, or what it says of itself

pub data Deed : Type 0 where
  keeps : Deed
  ends : Deed
  wants : Wishes → Deed

abbrev pub deed_on : Deed → Peer → Peer
deed_on keeps peer = peer
deed_on ends peer = ended word.Size peer
deed_on (wants wishes) peer = with_wish wishes peer

-- it is done to one peer alone, and the peer that was fed last stays so
pub record Does (p : ℕ) (b next : BrokerSeen) (deed : Deed) : Type 0 where
  pub same_peers : next.peers ≡ at_number p (deed_on deed) b.peers
  pub same_fed : next.fed ≡ b.fed

keeps_all : (p : ℕ) (b next : BrokerSeen) → next.peers ≡ b.peers → next.fed ≡ b.fed → Does p b next keeps
keeps_all p b next peers fed = record { same_peers = peers ∙ sym (number_same p b.peers); same_fed = fed }

-- an interest of a peer
abbrev made_by : ℕ → ℕ → List ℕ → Option (List ℕ) → BrokerSeen → BrokerSeen
made_by p sid pattern group b =
    record b { router = record b.router { interests = subscribed p sid pattern group b.router.interests } }

subscribe_does : (test : Bool) (p sid : ℕ) (pattern : List ℕ) (group : Option (List ℕ)) (b : BrokerSeen)
    → Does p b (if test then made_by p sid pattern group b else told p (codes "-ERR 'Invalid Subject'") b) keeps
subscribe_does true p sid pattern group b = keeps_all p b (made_by p sid pattern group b) refl refl
subscribe_does false p sid pattern group b = keeps_all p b (told p (codes "-ERR 'Invalid Subject'") b) refl refl

publish_keeps : (p : ℕ) (peer : Option Peer) (m : Publication) (b : BrokerSeen) → Does p b (publish_by p peer m b) keeps
publish_keeps p None m b = keeps_all p b b refl refl
publish_keeps p (Some peer) m b = keeps_all p b (publish_by p (Some peer) m b) refl refl

size_does : (p : ℕ) (b : BrokerSeen) → Does p b (peer_ended p word.Size b) ends
size_does p b = record { same_peers = refl; same_fed = refl }

wants_does : (p : ℕ) (wishes : Wishes) (b : BrokerSeen) → Does p b (command_done p (Connect wishes) b) (wants wishes)
wants_does p wishes b = record { same_peers = refl; same_fed = refl }

publish_does : (test : Bool) (p : ℕ) (m : Publication) (b : BrokerSeen)
    → (deed : Deed) × Does p b (if test then peer_ended p word.Size b else publish_by p (item_of p b.peers) m b) deed
publish_does true p m b = (ends, size_does p b)
publish_does false p m b = (keeps, publish_keeps p (item_of p b.peers) m b)

pub command_does : (p : ℕ) (command : Command) (b : BrokerSeen)
    → (deed : Deed) × Does p b (command_done p command b) deed
command_does p (Subscribe sid pattern group) b = (keeps, subscribe_does (is_valid pattern) p sid pattern group b)
command_does p (Unsubscribe sid most) b = (keeps, keeps_all p b (command_done p (Unsubscribe sid most) b) refl refl)
command_does p (Publish m size) b = publish_does (nat_lt b.max_payload size) p m b
command_does p Ping b = (keeps, keeps_all p b (command_done p Ping b) refl refl)
command_does p Pong b = (keeps, keeps_all p b b refl refl)
command_does p (Connect wishes) b = (wants wishes, wants_does p wishes b)
