-- Where each turn may come where it stands, no bytes come before their peer.
use Rattle.std.proofs.Common.{◌≡◌, ℕ, suc, Bool, true, false, not, ◌==◌, ◌&&◌, List, [], ◌∷◌, ◌++◌, length, Option, Some, None, refl, ap, sym, ◌∙◌}
use Rattle.std.specs.Prelude.{is_some, if◌then◌else◌}
use Rattle.std.proofs.lemmas.Bool.{eqb-true}
use Rattle.nats_outboxes.specs.Outboxes.{item_of}
use Rattle.nats_broker.specs.declared.peer.Peer.{Peer}
use Rattle.nats_broker.specs.declared.turn.BrokerTurn.{BrokerTurn}
use Rattle.nats_broker.specs.declared.turn.BrokerTurn.TheVariants.{Join, Feed, Leave}
use Rattle.nats_broker.specs.Peers.{up_peer}
use Rattle.nats_broker.specs.Playing.{BrokerSeen, is_due, new_broker, after_turn, may_come, is_valid_turn, out_of_turn_from}
use Rattle.nats_broker_laws.specs.Order.{is_among, fed_in, joined_by, bytes_of, said_in, said_for, AllAreFed}
use Rattle.nats_broker_laws.proofs.Order.{among, after_many}

up_there : (found : Option Peer) → is_some (up_peer found) ≡ true → is_some found ≡ true
up_there None is = is
up_there (Some peer) is = refl

-- a peer that is fed is there
feed_by : (p q : ℕ) (test : Bool) (bytes : List ℕ) (b : BrokerSeen) → (q == p) ≡ test
    → is_some (up_peer (item_of q b.peers)) ≡ true
    → (if test && is_among p (length b.peers) then bytes else []) ≡ (if test then bytes else [])
feed_by p q false bytes b at up = refl
feed_by p q true bytes b at up =
    let same : q ≡ p = eqb-true q p at in
    let there : is_some (item_of p b.peers) ≡ true
    = up_there (item_of p b.peers) (ap (λ (r : ℕ). is_some (up_peer (item_of r b.peers))) (sym same) ∙ up) in
    ap (λ (is : Bool). if is then bytes else []) (among p b.peers ∙ there)

turn_said : (p : ℕ) (turn : BrokerTurn) (b : BrokerSeen) → may_come turn b ≡ true
    → fed_in p (length b.peers) turn ≡ said_in p turn
turn_said p Join b may = refl
turn_said p (Feed q bytes) b may = feed_by p q (q == p) bytes b refl may
turn_said p (Leave q) b may = refl

second_holds : (one other : Bool) → (one && other) ≡ true → other ≡ true
second_holds true other holds = holds
second_holds false other holds = cc

none_is : (test : Bool) (place : ℕ) (later : Option ℕ) → (if test then later else Some place) ≡ None
    → (test ≡ true) × (later ≡ None)
none_is true place later is = (refl, is)
none_is false place later is = cc

turns_said : (p place : ℕ) (turns : List BrokerTurn) (b : BrokerSeen) → out_of_turn_from place turns b ≡ None
    → bytes_of p (length b.peers) turns ≡ said_for p turns
turns_said p place [] b valid = refl
turns_said p place (turn ∷ turns) b valid =
    let now = after_turn turn b in
    let each = none_is (is_valid_turn turn b) place (out_of_turn_from (suc place) turns now) valid in
    let may : may_come turn b ≡ true = second_holds (not (is_due b)) (may_come turn b) each.0 in
    ap (λ (text : List ℕ). text ++ bytes_of p (joined_by turn (length b.peers)) turns) (turn_said p turn b may)
    ∙ ap (λ (k : ℕ). said_in p turn ++ bytes_of p k turns) (sym (after_many turn b))
    ∙ ap (λ (text : List ℕ). said_in p turn ++ text) (turns_said p (suc place) turns now each.1)

pub all_are_fed : AllAreFed
all_are_fed info turns p valid = turns_said p 1 turns (new_broker info) valid
