-- The bytes of a peer may come in any pieces.
use Rattle.std.proofs.Common.{◌≡◌, ℕ, zero, suc, ◌+◌, ◌<◌, ◌≤◌, Bool, true, false, List, [], ◌∷◌, ◌++◌, length, drop, Option, Some, None, refl, ap, sym, ◌∙◌, arith, append_assoc}
use Rattle.std.specs.Prelude.{is_some, option_map, nat_lt, slice_get, codes, if◌then◌else◌}
use Rattle.std.proofs.lemmas.Bool.{false≢true}
use Rattle.nats_names.specs.Names.{is_valid}
use Rattle.nats_outboxes.specs.Outboxes.{item_of, at_index, at_number}
use Rattle.nats_routing.specs.declared.publication.Publication.{Publication}
use Rattle.nats_broker_text.specs.declared.connect.Wishes.{Wishes}
use Rattle.nats_broker_text.specs.declared.command.Command.{Command}
use Rattle.nats_broker_text.specs.declared.command.Command.TheVariants.{Subscribe, Unsubscribe, Publish, Ping, Pong, Connect}
use Rattle.nats_broker_text.specs.declared.command.PeerFront.{PeerFront}
use Rattle.nats_broker_text.specs.declared.command.PeerFront.TheVariants.{Unfinished, Bad, Got}
use Rattle.nats_broker_text.specs.Commands.{peer_front, is_unfinished}
use Rattle.nats_broker_text.proofs.Takes.{takes_within}
use Rattle.nats_broker_text.proofs.Growing.{drop_more, peer_stays}
use Rattle.nats_broker.specs.declared.peer.PeerWord.{PeerWord}
use Rattle.nats_broker.specs.declared.peer.PeerWord.TheVariants as word
use Rattle.nats_broker.specs.declared.peer.Peer.{Peer}
use Rattle.nats_broker.specs.declared.turn.BrokerTurn.TheVariants.{Feed}
use Rattle.nats_broker.specs.Peers.{ended, with_wish, past, fed_by, up_by, up_peer}
use Rattle.nats_broker.specs.Playing.{BrokerSeen, command_done, publish_of, publish_by, told, subscribed_by, taken_from, peer_ended, due_front, due_of, due, fed_peer, fed_to, unread_len, settled_by, settled, after_turn}
use Rattle.nats_broker.specs.Laws.{PiecesJoin}
use Rattle.nats_broker.proofs.Items.{item_at}
use Rattle.nats_broker.proofs.Settling.{Deed, keeps, ends, wants, deed_on, Does, made_by, command_does, left_of, due_less}

-- ---- one item of a list, changed twice

index_twice : (f g : Peer → Peer) (xs : List Peer) (i : ℕ) → at_index i g (at_index i f xs) ≡ at_index i (λ x. g (f x)) xs
index_twice f g [] i = refl
index_twice f g (x ∷ xs) zero = refl
index_twice f g (x ∷ xs) (suc i) = ap (λ ys. x ∷ ys) (index_twice f g xs i)

number_twice : (p : ℕ) (f g : Peer → Peer) (xs : List Peer) → at_number p g (at_number p f xs) ≡ at_number p (λ x. g (f x)) xs
number_twice zero f g xs = refl
number_twice (suc i) f g xs = index_twice f g xs i

index_equal : (f g : Peer → Peer) (xs : List Peer) (i : ℕ) → ((x : Peer) → slice_get xs i ≡ Some x → f x ≡ g x) → at_index i f xs ≡ at_index i g xs
index_equal f g [] i same = refl
index_equal f g (x ∷ xs) zero same = ap (λ y. y ∷ xs) (same x refl)
index_equal f g (x ∷ xs) (suc i) same = ap (λ ys. x ∷ ys) (index_equal f g xs i same)

-- changes that do the same to the item there
number_equal : (p : ℕ) (f g : Peer → Peer) (xs : List Peer) → ((x : Peer) → item_of p xs ≡ Some x → f x ≡ g x) → at_number p f xs ≡ at_number p g xs
number_equal zero f g xs same = refl
number_equal (suc i) f g xs same = index_equal f g xs i same

-- changes that may be made in either order
number_swaps : (p : ℕ) (f g : Peer → Peer) (xs : List Peer) → ((x : Peer) → item_of p xs ≡ Some x → g (f x) ≡ f (g x))
    → at_number p g (at_number p f xs) ≡ at_number p f (at_number p g xs)
number_swaps p f g xs swap =
    number_twice p f g xs ∙ number_equal p (λ x. g (f x)) (λ x. f (g x)) xs swap ∙ sym (number_twice p g f xs)

abbrev with_peers : BrokerSeen → ℕ → List Peer → BrokerSeen
with_peers b p peers = record b { peers = peers; fed = p }

fed_twice : (p : ℕ) (some more : List ℕ) (b : BrokerSeen) → fed_to p more (fed_to p some b) ≡ fed_to p (some ++ more) b
fed_twice p some more b = ap (with_peers b p) (
    number_twice p (fed_by some) (fed_by more) b.peers
    ∙ number_equal p (λ x. fed_by more (fed_by some x)) (fed_by (some ++ more)) b.peers
    (λ x at. ap (λ (text : List ℕ). record x { unread = text }) (append_assoc x.unread some more)))

-- ---- more bytes of the peer that was fed last

abbrev onto : List ℕ → BrokerSeen → BrokerSeen
onto more b = fed_to b.fed more b

abbrev is_up : ℕ → BrokerSeen → Bool
is_up p b = is_some (up_peer (item_of p b.peers))

up_step : (w : PeerWord) (peer : Peer) (more : List ℕ) → up_by w (fed_by more peer) ≡ option_map (fed_by more) (up_by w peer)
up_step word.Up peer more = refl
up_step word.Left peer more = refl
up_step word.Bad peer more = refl
up_step word.Size peer more = refl

up_fed : (found : Option Peer) (more : List ℕ) → up_peer (option_map (fed_by more) found) ≡ option_map (fed_by more) (up_peer found)
up_fed None more = refl
up_fed (Some peer) more = up_step peer.word peer more

past_step : (w : PeerWord) (one other : Peer) → is_some (up_by w one) ≡ true → is_some (up_by w other) ≡ true
past_step word.Up one other is = refl
past_step word.Left one other is = is
past_step word.Bad one other is = is
past_step word.Size one other is = is

past_up : (found : Option Peer) (n : ℕ) → is_some (up_peer (option_map (past n) found)) ≡ true → is_some (up_peer found) ≡ true
past_up None n is = is
past_up (Some peer) n is = past_step peer.word (past n peer) peer is

-- a peer that is taken from was up
taken_up : (p n : ℕ) (b : BrokerSeen) → is_up p (taken_from p n b) ≡ true → is_up p b ≡ true
taken_up p n b is =
    past_up (item_of p b.peers) n (ap (λ found. is_some (up_peer found)) (sym (item_at p (past n) b.peers)) ∙ is)

-- a peer that ended isn't up
bad_down : (found : Option Peer) → is_some (up_peer (option_map (ended word.Bad) found)) ≡ false
bad_down None = refl
bad_down (Some peer) = refl

size_down : (found : Option Peer) → is_some (up_peer (option_map (ended word.Size) found)) ≡ false
size_down None = refl
size_down (Some peer) = refl

bad_ends : (p : ℕ) (b : BrokerSeen) → is_up p (peer_ended p word.Bad b) ≡ false
bad_ends p b = ap (λ found. is_some (up_peer found)) (item_at p (ended word.Bad) b.peers) ∙ bad_down (item_of p b.peers)

size_ends : (p : ℕ) (b : BrokerSeen) → is_up p (peer_ended p word.Size b) ≡ false
size_ends p b = ap (λ found. is_some (up_peer found)) (item_at p (ended word.Size) b.peers) ∙ size_down (item_of p b.peers)

-- ---- a command, with more bytes behind it

subscribe_onto : (test : Bool) (p : ℕ) (more : List ℕ) (one other : BrokerSeen → BrokerSeen) (b : BrokerSeen)
    → one (fed_to p more b) ≡ fed_to p more (one b) → other (fed_to p more b) ≡ fed_to p more (other b)
    → (if test then one (fed_to p more b) else other (fed_to p more b)) ≡ fed_to p more (if test then one b else other b)
subscribe_onto true p more one other b is not_so = is
subscribe_onto false p more one other b is not_so = not_so

publish_step : (p : ℕ) (more : List ℕ) (found : Option Peer) (m : Publication) (b : BrokerSeen)
    → publish_by p (option_map (fed_by more) found) m (fed_to p more b) ≡ fed_to p more (publish_by p found m b)
publish_step p more None m b = refl
publish_step p more (Some peer) m b = refl

publish_onto : (test : Bool) (p : ℕ) (more : List ℕ) (m : Publication) (b : BrokerSeen)
    → is_up p (if test then peer_ended p word.Size b else publish_by p (item_of p b.peers) m b) ≡ true
    → (if test then peer_ended p word.Size (fed_to p more b) else publish_by p (item_of p (at_number p (fed_by more) b.peers)) m (fed_to p more b))
    ≡ fed_to p more (if test then peer_ended p word.Size b else publish_by p (item_of p b.peers) m b)
publish_onto true p more m b is = absurd (false≢true (sym (size_ends p b) ∙ is))
publish_onto false p more m b is =
    ap (λ found. publish_by p found m (fed_to p more b)) (item_at p (fed_by more) b.peers) ∙ publish_step p more (item_of p b.peers) m b

connect_onto : (p : ℕ) (more : List ℕ) (wishes : Wishes) (b : BrokerSeen)
    → command_done p (Connect wishes) (fed_to p more b) ≡ fed_to p more (command_done p (Connect wishes) b)
connect_onto p more wishes b = ap (with_peers b p) (number_swaps p (fed_by more) (with_wish wishes) b.peers (λ x at. refl))

command_onto : (p : ℕ) (more : List ℕ) (command : Command) (b : BrokerSeen) → is_up p (command_done p command b) ≡ true
    → command_done p command (fed_to p more b) ≡ fed_to p more (command_done p command b)
command_onto p more (Subscribe sid pattern group) b is =
    subscribe_onto (is_valid pattern) p more (made_by p sid pattern group) (told p (codes "-ERR 'Invalid Subject'")) b refl refl
command_onto p more (Unsubscribe sid most) b is = refl
command_onto p more (Publish m size) b is = publish_onto (nat_lt b.max_payload size) p more m b is
command_onto p more Ping b is = refl
command_onto p more Pong b is = refl
command_onto p more (Connect wishes) b is = connect_onto p more wishes b

-- ---- the bytes that a command takes lie before those that come

deed_unread : (deed : Deed) (found : Option Peer) (x : Peer) (n : ℕ) → is_some (up_peer (option_map (deed_on deed) found)) ≡ true
    → option_map (deed_on deed) found ≡ Some x → ((peer : Peer) → found ≡ Some peer → n ≤ length peer.unread) → n ≤ length x.unread
deed_unread deed None x n up is within = cc
deed_unread keeps (Some peer) x n up is within = let e : peer ≡ x = cc in rw (← e) (within peer refl)
deed_unread ends (Some peer) x n up is within = absurd (false≢true up)
deed_unread (wants wishes) (Some peer) x n up is within =
    let e : with_wish wishes peer ≡ x = cc in
    rw (← e) (within peer refl)

taken_onto : (p n : ℕ) (more : List ℕ) (b next : BrokerSeen) (deed : Deed) → Does p b next deed → is_up p next ≡ true
    → ((peer : Peer) → item_of p b.peers ≡ Some peer → n ≤ length peer.unread)
    → taken_from p n (fed_to p more next) ≡ fed_to p more (taken_from p n next)
taken_onto p n more b next deed does up within = ap (with_peers next p) (number_swaps p (fed_by more) (past n) next.peers (λ x at.
    let same : item_of p next.peers ≡ option_map (deed_on deed) (item_of p b.peers)
    = ap (item_of p) does.same_peers ∙ item_at p (deed_on deed) b.peers in
    let fits : n ≤ length x.unread
    = deed_unread deed (item_of p b.peers) x n (ap (λ found. is_some (up_peer found)) (sym same) ∙ up) (sym same ∙ at) within in
    ap (λ (text : List ℕ). record x { unread = text }) (drop_more n x.unread more fits)))

-- ---- one command, and then all

up_word : (w : PeerWord) (other peer : Peer) → up_by w other ≡ Some peer → other ≡ peer
up_word word.Up other peer is = cc
up_word word.Left other peer is = cc
up_word word.Bad other peer is = cc
up_word word.Size other peer is = cc

up_is : (found : Option Peer) (peer other : Peer) → up_peer found ≡ Some peer → found ≡ Some other → other ≡ peer
up_is found peer other up at = up_word other.word other peer (sym (ap up_peer at) ∙ up)

front_onto : (b next : BrokerSeen) (peer : Peer) (more : List ℕ) (found : PeerFront) → fed_peer b ≡ Some peer → peer_front peer.unread ≡ found
    → due_front b.fed found b ≡ Some next → is_up b.fed next ≡ true → due_front b.fed found (onto more b) ≡ Some (fed_to b.fed more next)
front_onto b next peer more Unfinished at stands is up = cc
front_onto b next peer more Bad at stands is up =
    let e : peer_ended b.fed word.Bad b ≡ next = cc in
    absurd (false≢true (sym (bad_ends b.fed b) ∙ ap (is_up b.fed) e ∙ up))
front_onto b next peer more (Got command n) at stands is up =
    let e : taken_from b.fed n (command_done b.fed command b) ≡ next = cc in
    let does = command_does b.fed command b in
    let stays : is_up b.fed (command_done b.fed command b) ≡ true
    = taken_up b.fed n (command_done b.fed command b) (ap (is_up b.fed) e ∙ up) in
    let fits = (takes_within peer.unread command n stands).1 in
    ap Some (
    ap (taken_from b.fed n) (command_onto b.fed more command b stays)
    ∙ taken_onto b.fed n more b (command_done b.fed command b) does.0 does.1 stays
    (λ other there. rw (up_is (item_of b.fed b.peers) peer other at there) fits)
    ∙ ap (fed_to b.fed more) e)

there : (p : ℕ) (found : PeerFront) (b next : BrokerSeen) → due_front p found b ≡ Some next → is_unfinished found ≡ false
there p Unfinished b next is = cc
there p Bad b next is = refl
there p (Got command n) b next is = refl

peer_onto : (b next : BrokerSeen) (more : List ℕ) (found : Option Peer) → fed_peer b ≡ found → due_of b.fed found b ≡ Some next
    → is_up b.fed next ≡ true → due_of b.fed (option_map (fed_by more) found) (onto more b) ≡ Some (fed_to b.fed more next)
peer_onto b next more None at is up = cc
peer_onto b next more (Some peer) at is up =
    ap (λ found. due_front b.fed found (onto more b)) (peer_stays peer.unread more (there b.fed (peer_front peer.unread) b next is))
    ∙ front_onto b next peer more (peer_front peer.unread) at refl is up

-- a command that is due stays due as more bytes come, and leaves the same with these behind
due_onto : (b next : BrokerSeen) (more : List ℕ) → due b ≡ Some next → is_up b.fed next ≡ true
    → due (onto more b) ≡ Some (fed_to b.fed more next)
due_onto b next more is up =
    ap (λ found. due_of b.fed found (onto more b))
    (ap up_peer (item_at b.fed (fed_by more) b.peers) ∙ up_fed (item_of b.fed b.peers) more)
    ∙ peer_onto b next more (fed_peer b) refl is up

-- as many steps as the peer has bytes are enough
enough : (most other : ℕ) (b : BrokerSeen) (found : Option BrokerSeen) → due b ≡ found → left_of b ≤ most → left_of b ≤ other
    → settled_by most found b ≡ settled_by other found b
enough zero zero b None at low high = refl
enough zero (suc other) b None at low high = refl
enough (suc most) zero b None at low high = refl
enough (suc most) (suc other) b None at low high = refl
enough zero other b (Some next) at low high = absurd (omega (arith, (due_less b next at).fewer, low))
enough (suc most) zero b (Some next) at low high = absurd (omega (arith, (due_less b next at).fewer, high))
enough (suc most) (suc other) b (Some next) at low high =
    enough most other next (due next) refl (omega (arith, (due_less b next at).fewer, low)) (omega (arith, (due_less b next at).fewer, high))

next_step : (left : ℕ) (b next : BrokerSeen) → due b ≡ Some next → left_of b ≡ left → settled_by left (Some next) b ≡ settled next
next_step zero b next is at = absurd (omega (arith, (due_less b next is).fewer, at))
next_step (suc left) b next is at =
    enough left (left_of next) next (due next) refl (omega (arith, (due_less b next is).fewer, at)) (omega arith)

settled_next : (b next : BrokerSeen) → due b ≡ Some next → settled b ≡ settled next
settled_next b next is = ap (λ found. settled_by (left_of b) found b) is ∙ next_step (left_of b) b next is refl

settled_fed : (most : ℕ) (b : BrokerSeen) (found : Option BrokerSeen) → due b ≡ found → (settled_by most found b).fed ≡ b.fed
settled_fed zero b None at = refl
settled_fed (suc most) b None at = refl
settled_fed zero b (Some next) at = refl
settled_fed (suc most) b (Some next) at = settled_fed most next (due next) refl ∙ (due_less b next at).stays_fed

down_stays : (most : ℕ) (b : BrokerSeen) (found : Option Peer) → fed_peer b ≡ found → is_some (fed_peer (settled_by most (due_of b.fed found b) b)) ≡ true
    → is_some found ≡ true
down_stays most b (Some peer) at up = refl
down_stays zero b None at up = ap is_some (sym at) ∙ up
down_stays (suc most) b None at up = ap is_some (sym at) ∙ up

join_by : (most : ℕ) (b : BrokerSeen) (more : List ℕ) (found : Option BrokerSeen) → due b ≡ found → left_of b ≤ most
    → is_some (fed_peer (settled_by most found b)) ≡ true → settled (onto more (settled_by most found b)) ≡ settled (onto more b)
join_by zero b more None at fits up = refl
join_by (suc most) b more None at fits up = refl
join_by zero b more (Some next) at fits up = absurd (omega (arith, (due_less b next at).fewer, fits))
join_by (suc most) b more (Some next) at fits up =
    let less = due_less b next at in
    let stays : is_some (fed_peer next) ≡ true = down_stays most next (fed_peer next) refl up in
    let same : is_up b.fed next ≡ true = ap (λ p. is_up p next) (sym less.stays_fed) ∙ stays in
    join_by most next more (due next) refl (omega (arith, less.fewer, fits)) up
    ∙ ap (λ p. settled (fed_to p more next)) less.stays_fed
    ∙ sym (settled_next (onto more b) (fed_to b.fed more next) (due_onto b next more at same))

-- two pieces leave what both leave at once, where the peer is up in between
pub pieces_join : PiecesJoin
pieces_join b p some more up =
    let one = fed_to p some b in
    let fed : (settled one).fed ≡ p = settled_fed (left_of one) one (due one) refl in
    let stays : is_some (fed_peer (settled one)) ≡ true = ap (λ q. is_up q (settled one)) fed ∙ up in
    ap (λ q. settled (fed_to q more (settled one))) (sym fed)
    ∙ join_by (left_of one) one more (due one) refl (omega arith) stays
    ∙ ap settled (fed_twice p some more b)
