-- What waits for peers is only added to.
use Rattle.std.proofs.Common.{◌≡◌, ℕ, zero, suc, Bool, true, false, List, [], ◌∷◌, ◌++◌, Option, Some, None, refl, ap, sym, ◌∙◌, subst, append_assoc, append-nil}
use Rattle.std.specs.Prelude.{nat_lt, option_map, slice_get, codes, if◌then◌else◌}
use Rattle.std.specs.Option.{unwrap_or}
use Rattle.std.specs.List.{find}
use Rattle.nats_names.specs.Names.{is_valid}
use Rattle.nats_picking.specs.declared.picking.Target.{Target}
use Rattle.nats_picking.specs.Hearing.{heard, answers}
use Rattle.nats_picking.specs.Picking.{target_of, targets_by}
use Rattle.nats_outboxes.specs.declared.outboxes.Letter.{Letter}
use Rattle.nats_outboxes.specs.Outboxes.{item_of, at_index, at_number, grown, said, all_said}
use Rattle.nats_routing.specs.declared.publication.Publication.{Publication}
use Rattle.nats_routing.specs.Router.{RouterSeen, letters_of, sent_to, no_answer, told_unheard, unheard, published_to, published}
use Rattle.nats_broker_text.specs.declared.command.Command.{Command}
use Rattle.nats_broker_text.specs.declared.command.Command.TheVariants.{Subscribe, Unsubscribe, Publish, Ping, Pong, Connect}
use Rattle.nats_broker_text.specs.declared.command.PeerFront.{PeerFront}
use Rattle.nats_broker_text.specs.declared.command.PeerFront.TheVariants.{Unfinished, Bad, Got}
use Rattle.nats_broker_text.specs.Commands.{peer_front}
use Rattle.nats_broker.specs.declared.turn.BrokerTurn.{BrokerTurn}
use Rattle.nats_broker.specs.declared.turn.BrokerTurn.TheVariants.{Join, Feed, Leave}
use Rattle.nats_broker.specs.declared.peer.Peer.{Peer}
use Rattle.nats_broker.specs.declared.peer.PeerWord.{PeerWord}
use Rattle.nats_broker.specs.declared.peer.PeerWord.TheVariants as word
use Rattle.nats_broker.specs.Peers.{end_text}
use Rattle.nats_broker.specs.Playing.{BrokerSeen, peer_ended, told as told_line, publish_by, command_done, taken_from, due_front, due_of, due, fed_peer, unread_len, settled_by, own, after_turn, played}
use Rattle.nats_server_laws.specs.Waiting.{TextsGrow}

-- each text begins with what it was
abbrev Extends : List (List ℕ) → List (List ℕ) → Type 0
Extends [] later = Unit {0}
Extends (out ∷ outs) [] = ⊥
Extends (out ∷ outs) (now ∷ later) = ((more : List ℕ) × (now ≡ out ++ more)) × Extends outs later

same_outs : (outs : List (List ℕ)) → Extends outs outs
same_outs [] = tt
same_outs (out ∷ outs) = (([], sym (append-nil out)), same_outs outs)

extends_on : (outs mid later : List (List ℕ)) → Extends outs mid → Extends mid later → Extends outs later
extends_on [] mid later some more = tt
extends_on (out ∷ outs) [] later some more = absurd some
extends_on (out ∷ outs) (now ∷ mid) [] some more = absurd more
extends_on (out ∷ outs) (now ∷ mid) (last ∷ later) some more = (
  (some.0.0 ++ more.0.0, more.0.1 ∙ ap (λ text. text ++ more.0.0) some.0.1 ∙ append_assoc out some.0.0 more.0.0),
  extends_on outs mid later some.1 more.1,
)

index_grows : (k : ℕ) (text : List ℕ) (outs : List (List ℕ)) → Extends outs (at_index k (grown text) outs)
index_grows k text [] = tt
index_grows zero text (out ∷ outs) = ((text, refl), same_outs outs)
index_grows (suc k) text (out ∷ outs) = (([], sym (append-nil out)), index_grows k text outs)

number_grows : (p : ℕ) (text : List ℕ) (outs : List (List ℕ)) → Extends outs (at_number p (grown text) outs)
number_grows zero text outs = same_outs outs
number_grows (suc k) text outs = index_grows k text outs

one_more : (outs : List (List ℕ)) (text : List ℕ) → Extends outs (outs ++ text ∷ [])
one_more [] text = tt
one_more (out ∷ outs) text = (([], sym (append-nil out)), one_more outs text)

letters_grow : (letters : List Letter) (outs : List (List ℕ)) → Extends outs (all_said letters outs)
letters_grow [] outs = same_outs outs
letters_grow (letter ∷ letters) outs =
    extends_on outs (said outs letter) (all_said letters (said outs letter)) (number_grows letter.peer letter.text outs) (letters_grow letters (said outs letter))

-- ---- a router

abbrev Grows : RouterSeen → RouterSeen → Type 0
Grows r later = Extends r.outs later.outs

sent_grows : (m : Publication) (targets : List Target) (r : RouterSeen) → Grows r (sent_to m targets r)
sent_grows m targets r = letters_grow (letters_of m targets) r.outs

told_unheard_grows : (found : Option Target) (reply : List ℕ) (r : RouterSeen) → Grows r (told_unheard found reply r)
told_unheard_grows None reply r = same_outs r.outs
told_unheard_grows (Some t) reply r = sent_grows (no_answer reply) (t ∷ []) r

unheard_grows : (wanted : Bool) (peer : ℕ) (respond : Option (List ℕ)) (r : RouterSeen) → Grows r (unheard wanted peer respond r)
unheard_grows wanted peer None r = same_outs r.outs
unheard_grows false peer (Some reply) r = same_outs r.outs
unheard_grows true peer (Some reply) r = told_unheard_grows (option_map target_of (find (answers peer reply) r.interests)) reply r

to_grows : (targets : List Target) (wanted : Bool) (peer : ℕ) (m : Publication) (r : RouterSeen) → Grows r (published_to targets wanted peer m r)
to_grows [] wanted peer m r = unheard_grows wanted peer m.respond r
to_grows (t ∷ targets) wanted peer m r = sent_grows m (t ∷ targets) r

published_grows : (peer : ℕ) (echo wanted : Bool) (m : Publication) (r : RouterSeen) → Grows r (published peer echo wanted m r)
published_grows peer echo wanted m r = to_grows (targets_by (heard peer echo m.subject r.interests)) wanted peer m r

-- ---- a broker

abbrev GrowsTo : BrokerSeen → BrokerSeen → Type 0
GrowsTo b later = Grows b.router later.router

ended_grows : (p : ℕ) (w : PeerWord) (b : BrokerSeen) → GrowsTo b (peer_ended p w b)
ended_grows p w b = number_grows p (end_text w) b.router.outs

subscribe_grows : (test : Bool) (p : ℕ) (made b : BrokerSeen) → GrowsTo b made → GrowsTo b (if test then made else told_line p (codes "-ERR 'Invalid Subject'") b)
subscribe_grows true p made b grows = grows
subscribe_grows false p made b grows = number_grows p _ b.router.outs

publish_grows : (p : ℕ) (peer : Option Peer) (m : Publication) (b : BrokerSeen) → GrowsTo b (publish_by p peer m b)
publish_grows p None m b = same_outs b.router.outs
publish_grows p (Some peer) m b = published_grows p peer.echo peer.no_responders m b.router

size_grows : (over : Bool) (p : ℕ) (m : Publication) (b : BrokerSeen)
    → GrowsTo b (if over then peer_ended p word.Size b else publish_by p (item_of p b.peers) m b)
size_grows true p m b = ended_grows p word.Size b
size_grows false p m b = publish_grows p (item_of p b.peers) m b

command_grows : (p : ℕ) (command : Command) (b : BrokerSeen) → GrowsTo b (command_done p command b)
command_grows p (Subscribe sid pattern group) b = subscribe_grows (is_valid pattern) p _ b (same_outs b.router.outs)
command_grows p (Unsubscribe sid most) b = same_outs b.router.outs
command_grows p (Publish m size) b = size_grows (nat_lt b.max_payload size) p m b
command_grows p Ping b = number_grows p _ b.router.outs
command_grows p Pong b = same_outs b.router.outs
command_grows p (Connect wishes) b = same_outs b.router.outs

front_grows : (p : ℕ) (found : PeerFront) (b next : BrokerSeen) → due_front p found b ≡ Some next → GrowsTo b next
front_grows p Unfinished b next is = cc
front_grows p Bad b next is = let same : peer_ended p word.Bad b ≡ next = cc in subst (GrowsTo b) same (ended_grows p word.Bad b)
front_grows p (Got command n) b next is =
    let same : taken_from p n (command_done p command b) ≡ next = cc in subst (GrowsTo b) same (command_grows p command b)

peer_grows : (p : ℕ) (peer : Option Peer) (b next : BrokerSeen) → due_of p peer b ≡ Some next → GrowsTo b next
peer_grows p None b next is = cc
peer_grows p (Some peer) b next is = front_grows p (peer_front peer.unread) b next is

settled_grows : (most : ℕ) (found : Option BrokerSeen) (b : BrokerSeen) → due b ≡ found → GrowsTo b (settled_by most found b)
settled_grows zero None b at = same_outs b.router.outs
settled_grows (suc most) None b at = same_outs b.router.outs
settled_grows zero (Some next) b at = same_outs b.router.outs
settled_grows (suc most) (Some next) b at =
    extends_on b.router.outs next.router.outs (settled_by most (due next) next).router.outs (peer_grows b.fed (fed_peer b) b next at)
    (settled_grows most (due next) next refl)

own_grows : (turn : BrokerTurn) (b : BrokerSeen) → GrowsTo b (own turn b)
own_grows Join b = one_more b.router.outs b.info
own_grows (Feed p bytes) b = same_outs b.router.outs
own_grows (Leave p) b = same_outs b.router.outs

turn_grows : (turn : BrokerTurn) (b : BrokerSeen) → GrowsTo b (after_turn turn b)
turn_grows turn b =
    extends_on b.router.outs (own turn b).router.outs (after_turn turn b).router.outs (own_grows turn b)
    (settled_grows (unread_len (fed_peer (own turn b))) (due (own turn b)) (own turn b) refl)

turns_grow : (turns : List BrokerTurn) (b : BrokerSeen) → GrowsTo b (played turns b)
turns_grow [] b = same_outs b.router.outs
turns_grow (turn ∷ turns) b =
    extends_on b.router.outs (after_turn turn b).router.outs (played turns (after_turn turn b)).router.outs (turn_grows turn b)
    (turns_grow turns (after_turn turn b))

-- ---- the text of one peer

index_more : (k : ℕ) (outs later : List (List ℕ)) → Extends outs later
    → (more : List ℕ) × (unwrap_or (slice_get later k) [] ≡ unwrap_or (slice_get outs k) [] ++ more)
index_more k [] later grows = (unwrap_or (slice_get later k) [], refl)
index_more k (out ∷ outs) [] grows = absurd grows
index_more zero (out ∷ outs) (now ∷ later) grows = grows.0
index_more (suc k) (out ∷ outs) (now ∷ later) grows = index_more k outs later grows.1

number_more : (p : ℕ) (outs later : List (List ℕ)) → Extends outs later
    → (more : List ℕ) × (unwrap_or (item_of p later) [] ≡ unwrap_or (item_of p outs) [] ++ more)
number_more zero outs later grows = ([], refl)
number_more (suc k) outs later grows = index_more k outs later grows

pub texts_grow : TextsGrow
texts_grow b turns p = number_more p b.router.outs (played turns b).router.outs (turns_grow turns b)
