-- Nothing of any peer is left undone.
use Rattle.std.proofs.Common.{◌≡◌, ℕ, zero, suc, ◌+◌, ◌<◌, ◌≤◌, Bool, true, false, not, List, [], ◌∷◌, ◌++◌, length, drop, Option, Some, None, refl, ap, sym, ◌∙◌, arith, inl, inr, ⊎_elim}
use Rattle.std.specs.Prelude.{is_some, option_map, slice_get, ◌⊎◌}
use Rattle.nats_outboxes.specs.Outboxes.{item_of, at_number}
use Rattle.nats_broker_text.specs.declared.command.Command.{Command}
use Rattle.nats_broker_text.specs.declared.command.PeerFront.{PeerFront}
use Rattle.nats_broker_text.specs.declared.command.PeerFront.TheVariants.{Unfinished, Bad, Got}
use Rattle.nats_broker_text.specs.Commands.{peer_front, is_ready}
use Rattle.nats_broker_text.proofs.Fronts.{nothing_ready}
use Rattle.nats_broker.specs.declared.info.BrokerInfo.{BrokerInfo}
use Rattle.nats_broker.specs.declared.peer.PeerWord.{PeerWord}
use Rattle.nats_broker.specs.declared.peer.PeerWord.TheVariants as word
use Rattle.nats_broker.specs.declared.peer.Peer.{Peer}
use Rattle.nats_broker.specs.declared.turn.BrokerTurn.{BrokerTurn}
use Rattle.nats_broker.specs.declared.turn.BrokerTurn.TheVariants.{Join, Feed, Leave}
use Rattle.nats_broker.specs.Peers.{ended, past, fed_by, up_by, up_peer}
use Rattle.nats_broker.specs.Playing.{BrokerSeen, command_done, taken_from, peer_ended, due_front, due_of, due, fed_peer, has_due, is_due, unread_len, settled_by, settled, new_broker, new_peer, joined, fed_to, peer_left, own, after_turn, played}
use Rattle.nats_broker.specs.Laws.{IsQuiet, AllDone}
use Rattle.nats_broker.proofs.Items.{item_at, item_other}
use Rattle.nats_broker.proofs.Settling.{Deed, deed_on, Does, command_does, none_left}

-- no other peer than one has a command that is due
abbrev OthersQuiet : ℕ → BrokerSeen → Type 0
OthersQuiet p b = (q : ℕ) → (p ≡ q → ⊥) → has_due (up_peer (item_of q b.peers)) ≡ false

-- what is done to one peer leaves the others
other_same : (p q : ℕ) (f : Peer → Peer) (peers : List Peer) → (p ≡ q → ⊥)
    → has_due (up_peer (item_of q (at_number p f peers))) ≡ has_due (up_peer (item_of q peers))
other_same p q f peers other = ap (λ peer. has_due (up_peer peer)) (item_other p q f peers other)

got_others : (p n : ℕ) (b next : BrokerSeen) (deed : Deed) → Does p b next deed → OthersQuiet p b → OthersQuiet p (taken_from p n next)
got_others p n b next deed does quiet q other =
    other_same p q (past n) next.peers other
    ∙ ap (λ peers. has_due (up_peer (item_of q peers))) does.same_peers
    ∙ other_same p q (deed_on deed) b.peers other
    ∙ quiet q other

-- the peer that was fed last by another name
ap_fed : (p q : ℕ) (b : BrokerSeen) → q ≡ p → OthersQuiet p b → OthersQuiet q b
ap_fed p q b same quiet r other = quiet r (λ is. other (same ∙ is))

front_others : (b next : BrokerSeen) (found : PeerFront) → due_front b.fed found b ≡ Some next → OthersQuiet b.fed b
    → OthersQuiet next.fed next
front_others b next Unfinished is quiet = cc
front_others b next Bad is quiet =
    let e : peer_ended b.fed word.Bad b ≡ next = cc in
    rw (← e) (λ q other. other_same b.fed q (ended word.Bad) b.peers other ∙ quiet q other)
front_others b next (Got command n) is quiet =
    let e : taken_from b.fed n (command_done b.fed command b) ≡ next = cc in
    let does = command_does b.fed command b in
    let others : OthersQuiet b.fed (taken_from b.fed n (command_done b.fed command b))
    = got_others b.fed n b (command_done b.fed command b) does.0 does.1 quiet in
    rw (← e) (ap_fed b.fed (command_done b.fed command b).fed (taken_from b.fed n (command_done b.fed command b)) does.1.same_fed others)

peer_others : (b next : BrokerSeen) (found : Option Peer) → due_of b.fed found b ≡ Some next → OthersQuiet b.fed b → OthersQuiet next.fed next
peer_others b next None is quiet = cc
peer_others b next (Some peer) is quiet = front_others b next (peer_front peer.unread) is quiet

settled_others : (most : ℕ) (b : BrokerSeen) (found : Option BrokerSeen) → due b ≡ found → OthersQuiet b.fed b
    → OthersQuiet (settled_by most found b).fed (settled_by most found b)
settled_others zero b None at quiet = quiet
settled_others (suc most) b None at quiet = quiet
settled_others zero b (Some next) at quiet = quiet
settled_others (suc most) b (Some next) at quiet =
    settled_others most next (due next) refl (peer_others b next (fed_peer b) at quiet)

by_number : (p q : ℕ) → (p ≡ q) ⊎ (p ≡ q → ⊥)
by_number zero zero = inl refl
by_number zero (suc q) = inr (λ same. omega (arith, same))
by_number (suc p) zero = inr (λ same. omega (arith, same))
by_number (suc p) (suc q) = ⊎_elim (λ same. inl (ap suc same)) (λ other. inr (λ same. other (omega (arith, same)))) (by_number p q)

-- the last one too, once nothing of it is left
all_quiet : (b : BrokerSeen) → OthersQuiet b.fed b → is_due b ≡ false → IsQuiet b
all_quiet b quiet none q =
    ⊎_elim (λ (same : b.fed ≡ q). ap (λ p. has_due (up_peer (item_of p b.peers))) (sym same) ∙ none) (quiet q) (by_number b.fed q)

-- ---- turns

new_quiet : (peers : List Peer) (i : ℕ) → ((j : ℕ) → has_due (up_peer (slice_get peers j)) ≡ false)
    → has_due (up_peer (slice_get (peers ++ new_peer ∷ []) i)) ≡ false
new_quiet [] zero quiet = nothing_ready [] refl
new_quiet [] (suc i) quiet = refl
new_quiet (peer ∷ peers) zero quiet = quiet 0
new_quiet (peer ∷ peers) (suc i) quiet = new_quiet peers i (λ j. quiet (suc j))

joined_quiet : (b : BrokerSeen) → IsQuiet b → (q : ℕ) → has_due (up_peer (item_of q (joined b).peers)) ≡ false
joined_quiet b quiet zero = refl
joined_quiet b quiet (suc i) = new_quiet b.peers i (λ j. quiet (suc j))

ended_quiet : (found : Option Peer) → has_due (up_peer (option_map (ended word.Left) found)) ≡ false
ended_quiet None = refl
ended_quiet (Some peer) = refl

left_quiet : (p : ℕ) (b : BrokerSeen) → IsQuiet b → (q : ℕ) → has_due (up_peer (item_of q (peer_left p b).peers)) ≡ false
left_quiet p b quiet q = ⊎_elim
    (λ (same : p ≡ q). rw (← same) (ap (λ peer. has_due (up_peer peer)) (item_at p (ended word.Left) b.peers) ∙ ended_quiet (item_of p b.peers)))
    (λ (other : p ≡ q → ⊥). other_same p q (ended word.Left) b.peers other ∙ quiet q)
    (by_number p q)

own_others : (turn : BrokerTurn) (b : BrokerSeen) → IsQuiet b → OthersQuiet (own turn b).fed (own turn b)
own_others Join b quiet = λ q other. joined_quiet b quiet q
own_others (Feed p bytes) b quiet = λ q other. other_same p q (fed_by bytes) b.peers other ∙ quiet q
own_others (Leave p) b quiet = λ q other. left_quiet p b quiet q

after_quiet : (turn : BrokerTurn) (b : BrokerSeen) → IsQuiet b → IsQuiet (after_turn turn b)
after_quiet turn b quiet =
    let now = own turn b in
    all_quiet (settled now) (settled_others (unread_len (fed_peer now)) now (due now) refl (own_others turn b quiet)) (none_left now)

played_quiet : (turns : List BrokerTurn) (b : BrokerSeen) → IsQuiet b → IsQuiet (played turns b)
played_quiet [] b quiet = quiet
played_quiet (turn ∷ turns) b quiet = played_quiet turns (after_turn turn b) (after_quiet turn b quiet)

first_quiet : (info : BrokerInfo) → IsQuiet (new_broker info)
first_quiet info zero = refl
first_quiet info (suc i) = refl

pub all_done : AllDone
all_done info turns = played_quiet turns (new_broker info) (first_quiet info)
