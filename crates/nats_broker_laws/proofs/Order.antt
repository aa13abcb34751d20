-- The commands of a peer are followed turn by turn.
use Rattle.std.proofs.Common.{◌≡◌, ℕ, zero, suc, Bool, true, false, not, nat_lt, ◌==◌, ◌&&◌, List, [], ◌∷◌, ◌++◌, length, drop, Option, Some, None, refl, ap, sym, ◌∙◌, subst, arith, append_assoc, append-nil}
use Rattle.std.specs.Prelude.{is_some, option_map, slice_get, if◌then◌else◌}
use lib.Dec.{leb-suc-suc}
use Rattle.std.proofs.lemmas.Bool.{false≢true, eqb-true, eq-eqb, le-ltb, lt-ltb}
use Rattle.nats_outboxes.specs.Outboxes.{item_of, at_number}
use Rattle.nats_broker_text.specs.declared.command.Command.{Command}
use Rattle.nats_broker_text.specs.declared.command.PeerFront.{PeerFront}
use Rattle.nats_broker_text.specs.declared.command.PeerFront.TheVariants.{Unfinished, Bad, Got}
use Rattle.nats_broker_text.specs.Commands.{peer_front, is_unfinished, is_ready}
use Rattle.nats_broker.specs.declared.info.BrokerInfo.{BrokerInfo}
use Rattle.nats_broker.specs.declared.peer.PeerWord.{PeerWord}
use Rattle.nats_broker.specs.declared.peer.PeerWord.TheVariants as word
use Rattle.nats_broker.specs.declared.peer.Peer.{Peer}
use Rattle.nats_broker.specs.declared.turn.BrokerTurn.{BrokerTurn}
use Rattle.nats_broker.specs.declared.turn.BrokerTurn.TheVariants.{Join, Feed, Leave}
use Rattle.nats_broker.specs.Peers.{ended, with_wish, past, fed_by, up_by, up_peer}
use Rattle.nats_broker.specs.Playing.{BrokerSeen, command_done, taken_from, peer_ended, due_front, due_of, due, fed_peer, has_due, unread_len, settled_by, new_broker, new_peer, joined, fed_to, peer_left, own, after_turn, played}
use Rattle.nats_broker.specs.Laws.{AllDone}
use Rattle.nats_broker_laws.specs.Order.{Reading, commands_of, left_over, is_among, fed_in, joined_by, bytes_of, front_command, command_at, next_for, done_by, done_in, done_for, Follows, InOrder}
use Rattle.nats_broker_laws.proofs.Reading.{read_got, read_none, commands_more, left_more}
use Rattle.nats_broker_laws.proofs.Steps.{item_at, item_other, number_length, Deed, keeps, ends, wants, deed_on, Does, command_does}

-- ---- where a peer is between two commands

-- what was done, and then what can be done yet, are the commands of its bytes; once it ended, some are not done
abbrev Holds : List Command → List ℕ → Option Peer → Type 0
Holds done bytes None = (later : List Command) × (done ++ later ≡ commands_of bytes)
Holds done bytes (Some peer) =
    (done ++ commands_of peer.unread ≡ commands_of bytes) × (left_over peer.unread ≡ left_over bytes)

-- before it joins there is nothing
abbrev Stands : List Command → List ℕ → Option Peer → Type 0
Stands done bytes None = (done ≡ []) × (bytes ≡ [])
Stands done bytes (Some peer) = Holds done bytes (up_by peer.word peer)

abbrev StandsAt : ℕ → List Command → List ℕ → BrokerSeen → Type 0
StandsAt p done bytes b = Stands done bytes (item_of p b.peers)

stands_none : (done : List Command) (bytes : List ℕ) (found : Option Peer) → Stands done bytes found
    → Stands (done ++ []) bytes found
stands_none done bytes found stands = subst (λ all. Stands all bytes found) (sym (append-nil done)) stands

stands_no_more : (done : List Command) (bytes : List ℕ) (found : Option Peer) → Stands done bytes found
    → Stands done (bytes ++ []) found
stands_no_more done bytes found stands = subst (λ all. Stands done all found) (sym (append-nil bytes)) stands

-- ---- one command

got_commands : (done : List Command) (unread bytes : List ℕ) (command : Command) (n : ℕ)
    → peer_front unread ≡ Got command n
    → done ++ commands_of unread ≡ commands_of bytes
    → (done ++ command ∷ []) ++ commands_of (drop n unread) ≡ commands_of bytes
got_commands done unread bytes command n at is =
    append_assoc done (command ∷ []) (commands_of (drop n unread))
    ∙ ap (λ (r : Reading). done ++ r.commands) (sym (read_got unread command n at))
    ∙ is

got_left : (unread bytes : List ℕ) (command : Command) (n : ℕ) → peer_front unread ≡ Got command n
    → left_over unread ≡ left_over bytes → left_over (drop n unread) ≡ left_over bytes
got_left unread bytes command n at is = ap (λ (r : Reading). r.left) (sym (read_got unread command n at)) ∙ is

-- a peer that stays up, whose first bytes are taken
got_up : (w : PeerWord) (peer other : Peer) (done : List Command) (bytes : List ℕ) (command : Command) (n : ℕ)
    → peer_front peer.unread ≡ Got command n → other.unread ≡ drop n peer.unread → is_some (up_by w peer) ≡ true
    → Holds done bytes (up_by w peer) → Holds (done ++ command ∷ []) bytes (up_by w other)
got_up word.Up peer other done bytes command n at rest up holds = (
  ap (λ text. (done ++ command ∷ []) ++ commands_of text) rest
      ∙ got_commands done peer.unread bytes command n at holds.0,
  ap left_over rest ∙ got_left peer.unread bytes command n at holds.1,
)
got_up word.Left peer other done bytes command n at rest up holds = absurd (false≢true up)
got_up word.Bad peer other done bytes command n at rest up holds = absurd (false≢true up)
got_up word.Size peer other done bytes command n at rest up holds = absurd (false≢true up)

-- a command that ends its peer is done too
got_end : (w : PeerWord) (peer : Peer) (done : List Command) (bytes : List ℕ) (command : Command) (n : ℕ)
    → peer_front peer.unread ≡ Got command n → is_some (up_by w peer) ≡ true
    → Holds done bytes (up_by w peer) → Holds (done ++ command ∷ []) bytes None
got_end word.Up peer done bytes command n at up holds =
    (commands_of (drop n peer.unread), got_commands done peer.unread bytes command n at holds.0)
got_end word.Left peer done bytes command n at up holds = absurd (false≢true up)
got_end word.Bad peer done bytes command n at up holds = absurd (false≢true up)
got_end word.Size peer done bytes command n at up holds = absurd (false≢true up)

got_deed : (deed : Deed) (peer : Peer) (done : List Command) (bytes : List ℕ) (command : Command) (n : ℕ)
    → peer_front peer.unread ≡ Got command n → is_some (up_by peer.word peer) ≡ true
    → Stands done bytes (Some peer) → Stands (done ++ command ∷ []) bytes (Some (past n (deed_on deed peer)))
got_deed keeps peer done bytes command n at up stands =
    got_up peer.word peer (past n peer) done bytes command n at refl up stands
got_deed ends peer done bytes command n at up stands = got_end peer.word peer done bytes command n at up stands
got_deed (wants wishes) peer done bytes command n at up stands =
    got_up peer.word peer (past n (with_wish wishes peer)) done bytes command n at refl up stands

-- a peer that ends, however it stood
end_holds : (done : List Command) (bytes : List ℕ) (up : Option Peer) → Holds done bytes up → Holds done bytes None
end_holds done bytes None holds = holds
end_holds done bytes (Some peer) holds = (commands_of peer.unread, holds.0)

left_stands : (done : List Command) (bytes : List ℕ) (found : Option Peer) → Stands done bytes found
    → Stands done bytes (option_map (ended word.Left) found)
left_stands done bytes None stands = stands
left_stands done bytes (Some peer) stands = end_holds done bytes (up_by peer.word peer) stands

bad_stands : (done : List Command) (bytes : List ℕ) (found : Option Peer) → Stands done bytes found
    → Stands done bytes (option_map (ended word.Bad) found)
bad_stands done bytes None stands = stands
bad_stands done bytes (Some peer) stands = end_holds done bytes (up_by peer.word peer) stands

-- ---- the peer that was fed last

up_word : (w : PeerWord) (other peer : Peer) → up_by w other ≡ Some peer → other ≡ peer
up_word word.Up other peer is = cc
up_word word.Left other peer is = cc
up_word word.Bad other peer is = cc
up_word word.Size other peer is = cc

-- the item of a peer that is up is that peer
up_found : (found : Option Peer) (peer : Peer) → up_peer found ≡ Some peer → found ≡ Some peer
up_found None peer is = cc
up_found (Some other) peer is = ap Some (up_word other.word other peer is)

got_item : (found : Option Peer) (deed : Deed) (peer : Peer) (done : List Command) (bytes : List ℕ)
    (command : Command) (n : ℕ)
    → found ≡ Some peer → up_peer found ≡ Some peer → peer_front peer.unread ≡ Got command n
    → Stands done bytes found
    → Stands (done ++ command ∷ []) bytes (option_map (past n) (option_map (deed_on deed) found))
got_item found deed peer done bytes command n there up at stands =
    let now : Stands done bytes (Some peer) = subst (Stands done bytes) there stands in
    let is_up : is_some (up_by peer.word peer) ≡ true = ap (λ f. is_some (up_peer f)) (sym there) ∙ ap is_some up in
    subst (λ f. Stands (done ++ command ∷ []) bytes (option_map (past n) (option_map (deed_on deed) f))) (sym there)
    (got_deed deed peer done bytes command n at is_up now)

item_next : (p q n : ℕ) (b next : BrokerSeen) (deed : Deed) → Does p b next deed
    → item_of p (at_number p (past n) next.peers) ≡ option_map (past n) (option_map (deed_on deed) (item_of p b.peers))
item_next p q n b next deed does =
    item_at p (past n) next.peers
    ∙ ap (λ peers. option_map (past n) (item_of p peers)) does.same_peers
    ∙ ap (option_map (past n)) (item_at p (deed_on deed) b.peers)

other_next : (p q n : ℕ) (b next : BrokerSeen) (deed : Deed) → (p ≡ q → ⊥) → Does p b next deed
    → item_of q (at_number p (past n) next.peers) ≡ item_of q b.peers
other_next p q n b next deed other does =
    item_other p q (past n) next.peers other
    ∙ ap (item_of q) does.same_peers
    ∙ item_other p q (deed_on deed) b.peers other

-- what one command that is due does: to its own peer, to another, and to how many there are
record Steps (b next : BrokerSeen) (peer : Peer) : Type 0 where
  fed_stays : next.fed ≡ b.fed
  others : (q : ℕ) → (b.fed ≡ q → ⊥) → item_of q next.peers ≡ item_of q b.peers
  its : (done : List Command) (bytes : List ℕ) → StandsAt b.fed done bytes b
      → StandsAt b.fed (done ++ front_command (peer_front peer.unread)) bytes next
  as_many : length next.peers ≡ length b.peers

bad_steps : (b : BrokerSeen) (peer : Peer) → peer_front peer.unread ≡ Bad → Steps b (peer_ended b.fed word.Bad b) peer
bad_steps b peer at = record {
  fed_stays = refl;
  others = λ q other. item_other b.fed q (ended word.Bad) b.peers other;
  its = λ done bytes stands.
      let now : Stands done bytes (item_of b.fed (at_number b.fed (ended word.Bad) b.peers))
      = subst (Stands done bytes) (sym (item_at b.fed (ended word.Bad) b.peers))
      (bad_stands done bytes (item_of b.fed b.peers) stands) in
      subst (λ found. Stands (done ++ front_command found) bytes
      (item_of b.fed (at_number b.fed (ended word.Bad) b.peers))) (sym at)
      (stands_none done bytes (item_of b.fed (at_number b.fed (ended word.Bad) b.peers)) now);
  as_many = number_length b.fed (ended word.Bad) b.peers;
}

got_steps : (b : BrokerSeen) (peer : Peer) (command : Command) (n : ℕ) → fed_peer b ≡ Some peer
    → peer_front peer.unread ≡ Got command n
    → Steps b (taken_from b.fed n (command_done b.fed command b)) peer
got_steps b peer command n up at =
    let next = command_done b.fed command b in
    let does = command_does b.fed command b in
    record {
      fed_stays = does.1.same_fed;
      others = λ q other. other_next b.fed q n b next does.0 other does.1;
      its = λ done bytes stands.
          subst (λ found. Stands (done ++ front_command found) bytes
          (item_of b.fed (at_number b.fed (past n) next.peers))) (sym at)
          (subst (Stands (done ++ command ∷ []) bytes) (sym (item_next b.fed b.fed n b next does.0 does.1))
          (got_item (item_of b.fed b.peers) does.0 peer done bytes command n
          (up_found (item_of b.fed b.peers) peer up) up at stands));
      as_many = number_length b.fed (past n) next.peers ∙ ap length does.1.same_peers
          ∙ number_length b.fed (deed_on does.0) b.peers;
    }

front_steps : (b next : BrokerSeen) (peer : Peer) (found : PeerFront) → fed_peer b ≡ Some peer
    → peer_front peer.unread ≡ found
    → due_front b.fed found b ≡ Some next → Steps b next peer
front_steps b next peer Unfinished up at is = cc
front_steps b next peer Bad up at is =
    let same : peer_ended b.fed word.Bad b ≡ next = cc in
    subst (λ now. Steps b now peer) same (bad_steps b peer at)
front_steps b next peer (Got command n) up at is =
    let same : taken_from b.fed n (command_done b.fed command b) ≡ next = cc in
    subst (λ now. Steps b now peer) same (got_steps b peer command n up at)

peer_steps : (b next : BrokerSeen) (found : Option Peer) → fed_peer b ≡ found → due_of b.fed found b ≡ Some next
    → (peer : Peer) × (fed_peer b ≡ Some peer) × Steps b next peer
peer_steps b next None up is = cc
peer_steps b next (Some peer) up is = (peer, up, front_steps b next peer (peer_front peer.unread) up refl is)

due_steps : (b next : BrokerSeen) → due b ≡ Some next → (peer : Peer) × (fed_peer b ≡ Some peer) × Steps b next peer
due_steps b next is = peer_steps b next (fed_peer b) refl is

-- one peer, whichever was fed last
step_by : (p : ℕ) (test : Bool) (b next : BrokerSeen) (peer : Peer) (done : List Command) (bytes : List ℕ)
    → (b.fed == p) ≡ test
    → Steps b next peer → StandsAt p done bytes b
    → StandsAt p (done ++ (if test then front_command (peer_front peer.unread) else [])) bytes next
step_by p true b next peer done bytes at steps stands =
    let same : b.fed ≡ p = eqb-true b.fed p at in
    subst (λ q. StandsAt q (done ++ front_command (peer_front peer.unread)) bytes next) same
    (steps.its done bytes (subst (λ q. StandsAt q done bytes b) (sym same) stands))
step_by p false b next peer done bytes at steps stands =
    let other : b.fed ≡ p → ⊥ = λ same. false≢true (sym at ∙ eq-eqb b.fed p same) in
    stands_none done bytes (item_of p next.peers) (subst (Stands done bytes) (sym (steps.others p other)) stands)

step_stands : (p : ℕ) (b next : BrokerSeen) (done : List Command) (bytes : List ℕ) → due b ≡ Some next
    → StandsAt p done bytes b → StandsAt p (done ++ next_for p b) bytes next
step_stands p b next done bytes is stands =
    let found = due_steps b next is in
    subst (λ up. StandsAt p (done ++ (if b.fed == p then command_at up else [])) bytes next) (sym found.1)
    (step_by p (b.fed == p) b next found.0 done bytes refl found.2 stands)

settled_stands : (p most : ℕ) (b : BrokerSeen) (found : Option BrokerSeen) (done : List Command) (bytes : List ℕ)
    → due b ≡ found
    → StandsAt p done bytes b → StandsAt p (done ++ done_by p most found b) bytes (settled_by most found b)
settled_stands p zero b None done bytes at stands = stands_none done bytes (item_of p b.peers) stands
settled_stands p (suc most) b None done bytes at stands = stands_none done bytes (item_of p b.peers) stands
settled_stands p zero b (Some next) done bytes at stands = stands_none done bytes (item_of p b.peers) stands
settled_stands p (suc most) b (Some next) done bytes at stands =
    let last = settled_by most (due next) next in
    subst (λ all. StandsAt p all bytes last) (append_assoc done (next_for p b) (done_by p most (due next) next))
    (settled_stands p most next (due next) (done ++ next_for p b) bytes refl
    (step_stands p b next done bytes at stands))

settled_many : (most : ℕ) (b : BrokerSeen) (found : Option BrokerSeen) → due b ≡ found
    → length (settled_by most found b).peers ≡ length b.peers
settled_many zero b None at = refl
settled_many (suc most) b None at = refl
settled_many zero b (Some next) at = refl
settled_many (suc most) b (Some next) at = settled_many most next (due next) refl ∙ (due_steps b next at).2.as_many

-- ---- one turn

-- a peer that ended: what was not done is more
more_later : (done : List Command) (bytes more : List ℕ) → Holds done bytes None → Holds done (bytes ++ more) None
more_later done bytes more holds = (
  holds.0 ++ commands_of (left_over bytes ++ more),
  sym (append_assoc done holds.0 (commands_of (left_over bytes ++ more)))
      ∙ ap (λ (all : List Command). all ++ commands_of (left_over bytes ++ more)) holds.1
      ∙ sym (commands_more bytes more),
)

more_holds : (done : List Command) (bytes more : List ℕ) (w : PeerWord) (peer : Peer) → Holds done bytes (up_by w peer)
    → Holds done (bytes ++ more) (up_by w (fed_by more peer))
more_holds done bytes more word.Up peer holds = (
  ap (λ (all : List Command). done ++ all) (commands_more peer.unread more)
      ∙ sym (append_assoc done (commands_of peer.unread) (commands_of (left_over peer.unread ++ more)))
      ∙ ap (λ (all : List Command). all ++ commands_of (left_over peer.unread ++ more)) holds.0
      ∙ ap (λ text. commands_of bytes ++ commands_of (text ++ more)) holds.1
      ∙ sym (commands_more bytes more),
  left_more peer.unread more ∙ ap (λ text. left_over (text ++ more)) holds.1 ∙ sym (left_more bytes more),
)
more_holds done bytes more word.Left peer holds = more_later done bytes more holds
more_holds done bytes more word.Bad peer holds = more_later done bytes more holds
more_holds done bytes more word.Size peer holds = more_later done bytes more holds

index_among : (peers : List Peer) (i : ℕ) → nat_lt i (length peers) ≡ is_some (slice_get peers i)
index_among [] zero = refl
index_among [] (suc i) = le-ltb (suc i) 0 (omega arith)
index_among (peer ∷ peers) zero = lt-ltb 0 (suc (length peers)) (omega arith)
index_among (peer ∷ peers) (suc i) = leb-suc-suc (suc i) (length peers) ∙ index_among peers i

-- a number of a peer that is there
pub among : (p : ℕ) (peers : List Peer) → is_among p (length peers) ≡ is_some (item_of p peers)
among zero peers = refl
among (suc i) peers = index_among peers i

more_stands : (done : List Command) (bytes more : List ℕ) (found : Option Peer) → Stands done bytes found
    → Stands done (bytes ++ (if is_some found then more else [])) (option_map (fed_by more) found)
more_stands done bytes more None stands = (stands.0, append-nil bytes ∙ stands.1)
more_stands done bytes more (Some peer) stands = more_holds done bytes more peer.word peer stands

fed_stands : (p q : ℕ) (test : Bool) (bytes more : List ℕ) (done : List Command) (b : BrokerSeen) → (q == p) ≡ test
    → StandsAt p done bytes b
    → StandsAt p done (bytes ++ (if test && is_among p (length b.peers) then more else [])) (fed_to q more b)
fed_stands p q true bytes more done b at stands =
    let same : q ≡ p = eqb-true q p at in
    let now : Stands done (bytes ++ (if is_some (item_of p b.peers) then more else []))
    (item_of p (at_number p (fed_by more) b.peers))
    = subst (Stands done (bytes ++ (if is_some (item_of p b.peers) then more else [])))
    (sym (item_at p (fed_by more) b.peers))
    (more_stands done bytes more (item_of p b.peers) stands) in
    subst (λ (r : ℕ). StandsAt p done (bytes ++ (if is_among p (length b.peers) then more else [])) (fed_to r more b))
    (sym same)
    (subst (λ there. Stands done (bytes ++ (if there then more else []))
    (item_of p (at_number p (fed_by more) b.peers))) (sym (among p b.peers)) now)
fed_stands p q false bytes more done b at stands =
    let other : q ≡ p → ⊥ = λ same. false≢true (sym at ∙ eq-eqb q p same) in
    stands_no_more done bytes (item_of p (at_number q (fed_by more) b.peers))
    (subst (Stands done bytes) (sym (item_other q p (fed_by more) b.peers other)) stands)

new_stands : (done : List Command) (bytes : List ℕ) → (done ≡ []) × (bytes ≡ []) → Stands done bytes (Some new_peer)
new_stands done bytes none = (
  ap (λ (all : List Command). all ++ commands_of []) none.0 ∙ ap commands_of (sym none.1),
  ap left_over (sym none.1),
)

index_joined : (done : List Command) (bytes : List ℕ) (peers : List Peer) (i : ℕ)
    → Stands done bytes (slice_get peers i)
    → Stands done bytes (slice_get (peers ++ new_peer ∷ []) i)
index_joined done bytes [] zero stands = new_stands done bytes stands
index_joined done bytes [] (suc i) stands = stands
index_joined done bytes (peer ∷ peers) zero stands = stands
index_joined done bytes (peer ∷ peers) (suc i) stands = index_joined done bytes peers i stands

joined_stands : (p : ℕ) (done : List Command) (bytes : List ℕ) (b : BrokerSeen) → StandsAt p done bytes b
    → StandsAt p done bytes (joined b)
joined_stands zero done bytes b stands = stands
joined_stands (suc i) done bytes b stands = index_joined done bytes b.peers i stands

leave_by : (p q : ℕ) (test : Bool) (done : List Command) (bytes : List ℕ) (b : BrokerSeen) → (q == p) ≡ test
    → StandsAt p done bytes b
    → StandsAt p done bytes (peer_left q b)
leave_by p q true done bytes b at stands =
    let same : q ≡ p = eqb-true q p at in
    subst (λ (r : ℕ). Stands done bytes (item_of p (at_number r (ended word.Left) b.peers))) (sym same)
    (subst (Stands done bytes) (sym (item_at p (ended word.Left) b.peers))
    (left_stands done bytes (item_of p b.peers) stands))
leave_by p q false done bytes b at stands =
    let other : q ≡ p → ⊥ = λ same. false≢true (sym at ∙ eq-eqb q p same) in
    subst (Stands done bytes) (sym (item_other q p (ended word.Left) b.peers other)) stands

own_stands : (p : ℕ) (turn : BrokerTurn) (done : List Command) (bytes : List ℕ) (b : BrokerSeen)
    → StandsAt p done bytes b
    → StandsAt p done (bytes ++ fed_in p (length b.peers) turn) (own turn b)
own_stands p Join done bytes b stands =
    stands_no_more done bytes (item_of p (joined b).peers) (joined_stands p done bytes b stands)
own_stands p (Feed q more) done bytes b stands = fed_stands p q (q == p) bytes more done b refl stands
own_stands p (Leave q) done bytes b stands =
    stands_no_more done bytes (item_of p (peer_left q b).peers) (leave_by p q (q == p) done bytes b refl stands)

one_more : (peers : List Peer) → length (peers ++ new_peer ∷ []) ≡ suc (length peers)
one_more [] = refl
one_more (peer ∷ peers) = ap suc (one_more peers)

own_many : (turn : BrokerTurn) (b : BrokerSeen) → length (own turn b).peers ≡ joined_by turn (length b.peers)
own_many Join b = one_more b.peers
own_many (Feed q bytes) b = number_length q (fed_by bytes) b.peers
own_many (Leave q) b = number_length q (ended word.Left) b.peers

-- ---- all turns

pub after_many : (turn : BrokerTurn) (b : BrokerSeen)
    → length (after_turn turn b).peers ≡ joined_by turn (length b.peers)
after_many turn b =
    settled_many (unread_len (fed_peer (own turn b))) (own turn b) (due (own turn b)) refl ∙ own_many turn b

after_stands : (p : ℕ) (turn : BrokerTurn) (done : List Command) (bytes : List ℕ) (b : BrokerSeen)
    → StandsAt p done bytes b
    → StandsAt p (done ++ done_in p (own turn b)) (bytes ++ fed_in p (length b.peers) turn) (after_turn turn b)
after_stands p turn done bytes b stands =
    settled_stands p (unread_len (fed_peer (own turn b))) (own turn b) (due (own turn b)) done
    (bytes ++ fed_in p (length b.peers) turn) refl
    (own_stands p turn done bytes b stands)

played_stands : (p : ℕ) (turns : List BrokerTurn) (done : List Command) (bytes : List ℕ) (b : BrokerSeen)
    → StandsAt p done bytes b
    → StandsAt p (done ++ done_for p turns b) (bytes ++ bytes_of p (length b.peers) turns) (played turns b)
played_stands p [] done bytes b stands =
    stands_no_more (done ++ []) bytes (item_of p b.peers) (stands_none done bytes (item_of p b.peers) stands)
played_stands p (turn ∷ turns) done bytes b stands =
    let now = after_turn turn b in
    let last = played turns now in
    let first = done_in p (own turn b) in
    let fed = fed_in p (length b.peers) turn in
    let all : StandsAt p ((done ++ first) ++ done_for p turns now)
    ((bytes ++ fed) ++ bytes_of p (length now.peers) turns) last
    = played_stands p turns (done ++ first) (bytes ++ fed) now (after_stands p turn done bytes b stands) in
    subst (λ (commands : List Command). StandsAt p commands
    (bytes ++ (fed ++ bytes_of p (joined_by turn (length b.peers)) turns)) last)
    (append_assoc done first (done_for p turns now))
    (subst (λ (text : List ℕ). StandsAt p ((done ++ first) ++ done_for p turns now) text last)
    (ap (λ (k : ℕ). (bytes ++ fed) ++ bytes_of p k turns) (after_many turn b)
    ∙ append_assoc bytes fed (bytes_of p (joined_by turn (length b.peers)) turns)) all)

first_stands : (p : ℕ) (info : BrokerInfo) → StandsAt p [] [] (new_broker info)
first_stands zero info = (refl, refl)
first_stands (suc i) info = (refl, refl)

-- ---- where nothing is due

not_ready : (found : PeerFront) → not (is_unfinished found) ≡ false → is_unfinished found ≡ true
not_ready Unfinished is = refl
not_ready Bad is = sym is
not_ready (Got command n) is = sym is

up_follows : (done : List Command) (bytes : List ℕ) (up : Option Peer) → has_due up ≡ false → Holds done bytes up
    → Follows done bytes up
unfolding is_ready
up_follows done bytes None quiet holds = holds
up_follows done bytes (Some peer) quiet holds =
    let none = read_none peer.unread (not_ready (peer_front peer.unread) quiet) in (
      sym (ap (λ (r : Reading). done ++ r.commands) none ∙ append-nil done)
          ∙ holds.0,
      sym (ap (λ (r : Reading). r.left) none) ∙ holds.1,
    )

follows : (done : List Command) (bytes : List ℕ) (found : Option Peer) → has_due (up_peer found) ≡ false
    → Stands done bytes found
    → Follows done bytes (up_peer found)
follows done bytes None quiet stands =
    (commands_of bytes, ap (λ (all : List Command). all ++ commands_of bytes) stands.0)
follows done bytes (Some peer) quiet stands = up_follows done bytes (up_by peer.word peer) quiet stands

pub in_order : AllDone → InOrder
in_order all_done info turns p =
    follows (done_for p turns (new_broker info)) (bytes_of p 0 turns) (item_of p (played turns (new_broker info)).peers)
    (all_done info turns p) (played_stands p turns [] [] (new_broker info) (first_stands p info))
