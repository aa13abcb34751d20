-- What is due is done to the end: each command takes a byte at least, or ends its peer.
use Rattle.std.proofs.Common.{◌≡◌, ℕ, zero, suc, ◌+◌, ◌<◌, ◌≤◌, Bool, true, false, not, List, [], ◌∷◌, length, drop, Option, Some, None, refl, ap, sym, ◌∙◌, arith, length-drop}
use Rattle.std.specs.Prelude.{is_some, option_map, nat_lt, codes, if◌then◌else◌}
use Rattle.std.proofs.lemmas.Bool.{false≢true}
use Rattle.nats_names.specs.Names.{is_valid}
use Rattle.nats_interests.specs.Interests.{subscribed}
use Rattle.nats_outboxes.specs.Outboxes.{item_of, at_number}
use Rattle.nats_routing.specs.declared.publication.Publication.{Publication}
use Rattle.nats_broker_text.specs.declared.connect.Wishes.{Wishes}
use Rattle.nats_broker_text.specs.declared.command.Command.{Command}
use Rattle.nats_broker_text.specs.declared.command.Command.TheVariants.{Subscribe, Unsubscribe, Publish, Ping, Pong, Connect}
use Rattle.nats_broker_text.specs.declared.command.PeerFront.{PeerFront}
use Rattle.nats_broker_text.specs.declared.command.PeerFront.TheVariants.{Unfinished, Bad, Got}
use Rattle.nats_broker_text.specs.Commands.{peer_front, is_unfinished, is_ready}
use Rattle.nats_broker_text.proofs.Takes.{takes_within, ready_some}
use Rattle.nats_broker.specs.declared.peer.PeerWord.{PeerWord}
use Rattle.nats_broker.specs.declared.peer.PeerWord.TheVariants as word
use Rattle.nats_broker.specs.declared.peer.Peer.{Peer}
use Rattle.nats_broker.specs.Peers.{ended, with_wish, past, up_by, up_peer}
use Rattle.nats_broker.specs.Playing.{BrokerSeen, command_done, publish_of, publish_by, subscribed_by, told, taken_from, peer_ended, due_front, due_of, due, fed_peer, has_due, is_due, Advances, unread_len, settled_by, settled}
use Rattle.nats_broker.specs.Laws.{DueIsDone, NoneLeft}
use Rattle.nats_broker.proofs.Items.{item_at, number_same}

by_front : (p : ℕ) (found : PeerFront) (b : BrokerSeen) → not (is_unfinished found) ≡ is_some (due_front p found b)
by_front p Unfinished b = refl
by_front p Bad b = refl
by_front p (Got command n) b = refl

by_peer : (p : ℕ) (peer : Option Peer) (b : BrokerSeen) → has_due peer ≡ is_some (due_of p peer b)
unfolding is_ready
by_peer p None b = refl
by_peer p (Some peer) b = by_front p (peer_front peer.unread) b

pub due_is_done : DueIsDone
due_is_done b = by_peer b.fed (fed_peer b) b

advances_none : (found : Option BrokerSeen) (b : BrokerSeen) → is_some found ≡ false → Advances found false b b
advances_none None b is = (refl, refl)
advances_none (Some next) b is = absurd (false≢true (sym is))

-- where none is due nothing is done
pub idle : (b : BrokerSeen) → is_due b ≡ false → Advances (due b) false b b
idle b is = advances_none (due b) b (sym (due_is_done b) ∙ is)

-- ---- what a command does to its own peer: nothing, an end, or what it says of itself

pub data Deed : Type 0 where
  keeps : Deed
  ends : Deed
  wants : Wishes → Deed

abbrev pub deed_on : Deed → Peer → Peer
deed_on keeps peer = peer
deed_on ends peer = ended word.Size peer
deed_on (wants wishes) peer = with_wish wishes peer

-- it is done to one peer alone, and the peer that was fed last stays so
pub record Does (p : ℕ) (b next : BrokerSeen) (deed : Deed) : Type 0 where
  pub same_peers : next.peers ≡ at_number p (deed_on deed) b.peers
  pub same_fed : next.fed ≡ b.fed

kept_peers : (p : ℕ) (b : BrokerSeen) → b.peers ≡ at_number p (deed_on keeps) b.peers
kept_peers p b = sym (number_same (deed_on keeps) (λ peer. refl) p b.peers)

keeps_all : (p : ℕ) (b next : BrokerSeen) → next.peers ≡ b.peers → next.fed ≡ b.fed → Does p b next keeps
keeps_all p b next peers fed = record { same_peers = peers ∙ kept_peers p b; same_fed = fed }

-- an interest of a peer
abbrev pub made_by : ℕ → ℕ → List ℕ → Option (List ℕ) → BrokerSeen → BrokerSeen
made_by p sid pattern group b = record b { router = record b.router { interests = subscribed p sid pattern group b.router.interests } }

subscribe_does : (test : Bool) (p sid : ℕ) (pattern : List ℕ) (group : Option (List ℕ)) (b : BrokerSeen)
    → Does p b (if test then made_by p sid pattern group b else told p (codes "-ERR 'Invalid Subject'") b) keeps
subscribe_does true p sid pattern group b = keeps_all p b (made_by p sid pattern group b) refl refl
subscribe_does false p sid pattern group b = keeps_all p b (told p (codes "-ERR 'Invalid Subject'") b) refl refl

publish_keeps : (p : ℕ) (peer : Option Peer) (m : Publication) (b : BrokerSeen) → Does p b (publish_by p peer m b) keeps
publish_keeps p None m b = keeps_all p b b refl refl
publish_keeps p (Some peer) m b = keeps_all p b (publish_by p (Some peer) m b) refl refl

size_does : (p : ℕ) (b : BrokerSeen) → Does p b (peer_ended p word.Size b) ends
size_does p b = record { same_peers = refl; same_fed = refl }

wants_does : (p : ℕ) (wishes : Wishes) (b : BrokerSeen) → Does p b (command_done p (Connect wishes) b) (wants wishes)
wants_does p wishes b = record { same_peers = refl; same_fed = refl }

publish_does : (test : Bool) (p : ℕ) (m : Publication) (b : BrokerSeen)
    → (deed : Deed) × Does p b (if test then peer_ended p word.Size b else publish_by p (item_of p b.peers) m b) deed
publish_does true p m b = (ends, size_does p b)
publish_does false p m b = (keeps, publish_keeps p (item_of p b.peers) m b)

pub command_does : (p : ℕ) (command : Command) (b : BrokerSeen) → (deed : Deed) × Does p b (command_done p command b) deed
command_does p (Subscribe sid pattern group) b = (keeps, subscribe_does (is_valid pattern) p sid pattern group b)
command_does p (Unsubscribe sid most) b = (keeps, keeps_all p b (command_done p (Unsubscribe sid most) b) refl refl)
command_does p (Publish m size) b = publish_does (nat_lt b.max_payload size) p m b
command_does p Ping b = (keeps, keeps_all p b (command_done p Ping b) refl refl)
command_does p Pong b = (keeps, keeps_all p b b refl refl)
command_does p (Connect wishes) b = (wants wishes, wants_does p wishes b)

-- ---- the bytes of the peer get fewer

less_up : (w : PeerWord) (old new : Peer) (n : ℕ) → 0 < n → new.unread ≡ drop n old.unread → 0 < unread_len (up_by w old)
    → unread_len (up_by w new) + 1 ≤ unread_len (up_by w old)
less_up word.Up old new n some is there =
    let some_bytes : 0 < length old.unread = there in
    let same : length new.unread ≡ length (drop n old.unread) = ap length is in
    let fewer : length new.unread + 1 ≤ length old.unread = omega (arith, same, length-drop n old.unread, some, some_bytes) in
    fewer
less_up word.Left old new n some is there = let none : 0 < 0 = there in absurd (omega (arith, none))
less_up word.Bad old new n some is there = let none : 0 < 0 = there in absurd (omega (arith, none))
less_up word.Size old new n some is there = let none : 0 < 0 = there in absurd (omega (arith, none))

-- a peer whose first bytes are taken, behind what was done to it
less_behind : (deed : Deed) (peer : Peer) (n : ℕ) → 0 < n → 0 < unread_len (up_peer (Some peer))
    → unread_len (up_peer (Some (past n (deed_on deed peer)))) + 1 ≤ unread_len (up_peer (Some peer))
less_behind keeps peer n some there = less_up peer.word peer (past n peer) n some refl there
less_behind ends peer n some there = let one : 1 ≤ unread_len (up_by peer.word peer) = omega (arith, there) in one
less_behind (wants wishes) peer n some there = less_up peer.word peer (past n (with_wish wishes peer)) n some refl there

item_less : (found : Option Peer) (deed : Deed) (n : ℕ) → 0 < n → 0 < unread_len (up_peer found)
    → unread_len (up_peer (option_map (past n) (option_map (deed_on deed) found))) + 1 ≤ unread_len (up_peer found)
item_less None deed n some there = let none : 0 < 0 = there in absurd (omega (arith, none))
item_less (Some peer) deed n some there = less_behind deed peer n some there

abbrev pub left_of : BrokerSeen → ℕ
left_of b = unread_len (fed_peer b)

item_next : (p n : ℕ) (b next : BrokerSeen) (deed : Deed) → Does p b next deed
    → item_of p (at_number p (past n) next.peers) ≡ option_map (past n) (option_map (deed_on deed) (item_of p b.peers))
item_next p n b next deed does =
    item_at p (past n) next.peers
    ∙ ap (λ peers. option_map (past n) (item_of p peers)) does.same_peers
    ∙ ap (option_map (past n)) (item_at p (deed_on deed) b.peers)

got_less : (b next : BrokerSeen) (deed : Deed) (n : ℕ) → Does b.fed b next deed → 0 < n → 0 < left_of b
    → left_of (taken_from b.fed n next) + 1 ≤ left_of b
got_less b next deed n does some there =
    let fed : left_of (taken_from b.fed n next) ≡ unread_len (up_peer (item_of b.fed (at_number b.fed (past n) next.peers)))
    = ap (λ p. unread_len (up_peer (item_of p (at_number b.fed (past n) next.peers)))) does.same_fed in
    let same = ap (λ peer. unread_len (up_peer peer)) (item_next b.fed n b next deed does) in
    omega (arith, fed, same, item_less (item_of b.fed b.peers) deed n some there)

ended_none : (found : Option Peer) (w : PeerWord) → unread_len (up_peer (option_map (ended w) found)) ≡ 0
ended_none None w = refl
ended_none (Some peer) word.Up = refl
ended_none (Some peer) word.Left = refl
ended_none (Some peer) word.Bad = refl
ended_none (Some peer) word.Size = refl

bad_less : (b : BrokerSeen) → 0 < left_of b → left_of (peer_ended b.fed word.Bad b) + 1 ≤ left_of b
bad_less b there =
    let same = ap (λ peer. unread_len (up_peer peer)) (item_at b.fed (ended word.Bad) b.peers) in
    omega (arith, same, ended_none (item_of b.fed b.peers) word.Bad, there)

-- the peer that was fed last stays so, and has fewer bytes
pub record IsLess (b next : BrokerSeen) : Type 0 where
  pub fewer : left_of next + 1 ≤ left_of b
  pub stays_fed : next.fed ≡ b.fed

is_less : (b next : BrokerSeen) → left_of next + 1 ≤ left_of b → next.fed ≡ b.fed → IsLess b next
is_less b next less fed = record { fewer = less; stays_fed = fed }

front_less : (b next : BrokerSeen) (text : List ℕ) (found : PeerFront) → peer_front text ≡ found → 0 < left_of b
    → due_front b.fed found b ≡ Some next → IsLess b next
front_less b next text Unfinished at there is = cc
front_less b next text Bad at there is =
    let e : peer_ended b.fed word.Bad b ≡ next = cc in
    rw (← e) (is_less b (peer_ended b.fed word.Bad b) (bad_less b there) refl)
front_less b next text (Got command n) at there is =
    let e : taken_from b.fed n (command_done b.fed command b) ≡ next = cc in
    let does = command_does b.fed command b in
    rw (← e) (is_less b (taken_from b.fed n (command_done b.fed command b)) (got_less b (command_done b.fed command b) does.0 n does.1 (takes_within text command n at).0 there) does.1.same_fed)

peer_less : (b next : BrokerSeen) (found : Option Peer) → fed_peer b ≡ found → due_of b.fed found b ≡ Some next → IsLess b next
unfolding is_ready
peer_less b next None at is = cc
peer_less b next (Some peer) at is =
    let ready : is_ready peer.unread ≡ true = by_peer b.fed (Some peer) b ∙ ap is_some is in
    let some : 0 < length peer.unread = ready_some peer.unread ready in
    let there : 0 < left_of b = omega (arith, ap unread_len at, some) in
    front_less b next peer.unread (peer_front peer.unread) refl there is

pub due_less : (b next : BrokerSeen) → due b ≡ Some next → IsLess b next
due_less b next is = peer_less b next (fed_peer b) refl is

none_by : (most : ℕ) (b : BrokerSeen) (found : Option BrokerSeen) → due b ≡ found → left_of b ≤ most → is_due (settled_by most found b) ≡ false
none_by zero b None at fits = due_is_done b ∙ ap is_some at
none_by (suc most) b None at fits = due_is_done b ∙ ap is_some at
none_by zero b (Some next) at fits = absurd (omega (arith, (due_less b next at).fewer, fits))
none_by (suc most) b (Some next) at fits =
    none_by most next (due next) refl (omega (arith, (due_less b next at).fewer, fits))

-- nothing is left
pub none_left : NoneLeft
none_left b = none_by (unread_len (fed_peer b)) b (due b) refl (omega arith)
