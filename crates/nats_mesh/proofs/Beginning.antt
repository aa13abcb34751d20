-- Peers that join one after another, and moves that come so.
use Rattle.std.proofs.Common.{◌≡◌, ℕ, zero, suc, ◌+◌, ◌-◌, ◌<◌, Bool, true, false, not, ◌&&◌, List, [], ◌∷◌, length, drop, map, get_or, None, Ok, refl, sym, ◌∙◌, ap, arith, length-append}
use Rattle.std.specs.Prelude.{is_some}
use Rattle.nats_history.specs.declared.config.Config.{Config}
use Rattle.nats_outboxes.specs.Outboxes.{item_of}
use Rattle.nats_broker.specs.declared.turn.BrokerTurn.TheVariants.{Join, Feed}
use Rattle.nats_broker.specs.Peers.{up_peer}
use Rattle.nats_broker.specs.Playing.{BrokerSeen, due, due_of, is_due, fed_peer, unread_len, settled_by, is_valid_turn, joined, after_turn, played}
use Rattle.nats_moves.specs.declared.moves.Move.{Move}
use Rattle.nats_moves.specs.Mesh.{Mesh, join_of, is_up_at, moved}
use Rattle.nats_mesh.specs.Meshes.{Moved}
use Rattle.nats_mesh.proofs.Listed.{next_item}

-- ---- joins

none_by : (most : ℕ) (b : BrokerSeen) → settled_by most None b ≡ b
none_by zero b = refl
none_by (suc most) b = refl

one_joins : (b : BrokerSeen) → b.fed ≡ 0 → after_turn Join b ≡ joined b
one_joins b none =
    let nobody : fed_peer (joined b) ≡ None = ap (λ k. up_peer (item_of k (joined b).peers)) none in
    let nothing : due (joined b) ≡ None = ap (λ p. due_of b.fed p (joined b)) nobody in
    ap (λ next. settled_by (unread_len (fed_peer (joined b))) next (joined b)) nothing ∙ none_by (unread_len (fed_peer (joined b))) (joined b)

first_left : (configs : List Config) (k : ℕ) → k < length configs → map join_of (drop k configs) ≡ Join ∷ map join_of (drop (k + 1) configs)
first_left [] k less = absurd (omega (arith, less))
first_left (c ∷ configs) zero less = refl
first_left (c ∷ configs) (suc k) less =
    let e : suc k + 1 ≡ suc (k + 1) = omega arith in
    first_left configs k (omega (arith, less)) ∙ ap (λ j. Join ∷ map join_of (drop j (c ∷ configs))) (sym e)

-- one more peer joins
pub joins_on : (configs : List Config) (k : ℕ) (b next : BrokerSeen) (whole : BrokerSeen) → k < length configs → b.fed ≡ 0 → next ≡ joined b
    → played (map join_of (drop k configs)) b ≡ whole → played (map join_of (drop (k + 1) configs)) next ≡ whole
joins_on configs k b next whole less none is before =
    ap (played (map join_of (drop (k + 1) configs))) (is ∙ sym (one_joins b none))
    ∙ sym (ap (λ turns. played turns b) (first_left configs k less)) ∙ before

pub more_peers : (b next : BrokerSeen) (k : ℕ) → next ≡ joined b → length b.peers ≡ k → length next.peers ≡ k + 1
more_peers b next k is many = ap (λ (x : BrokerSeen). length x.peers) is ∙ length-append b.peers _ ∙ ap (λ n. n + 1) many

pub fed_stays : (b next : BrokerSeen) → next ≡ joined b → b.fed ≡ 0 → next.fed ≡ 0
fed_stays b next is none = ap (λ (x : BrokerSeen). x.fed) is ∙ none

-- ---- feeding

pub may_feed : (b : BrokerSeen) (i : ℕ) (bytes : List ℕ) (up : Bool) → is_due b ≡ false → up ≡ is_up_at i b → up ≡ true → is_valid_turn (Feed i bytes) b ≡ true
may_feed b i bytes up quiet is holds =
    ap (λ due. not due && is_some (up_peer (item_of i b.peers))) quiet ∙ sym is ∙ holds

-- ---- moves

move_left : (moves : List Move) (k : ℕ) (move : Move) → k < length moves → move ≡ get_or moves k move → drop k moves ≡ move ∷ drop (k + 1) moves
move_left moves k move less at = next_item moves k move less at

-- one more move was made
pub moves_on : (moves : List Move) (k : ℕ) (move : Move) (old new whole : Mesh) → k < length moves → move ≡ get_or moves k move
    → Moved move old (Ok true) new → moved (drop k moves) old ≡ whole → moved (drop (k + 1) moves) new ≡ whole
moves_on moves k move old new whole less at now before =
    ap (moved (drop (k + 1) moves)) now.1 ∙ sym (ap (λ ms. moved ms old) (move_left moves k move less at)) ∙ before
