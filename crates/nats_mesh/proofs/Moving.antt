-- What each move does to the clients and the broker.
use Rattle.std.proofs.Common.{◌≡◌, ℕ, ◌+◌, ◌-◌, Bool, true, false, ◌&&◌, List, [], ◌∷◌, ◌++◌, length, take, drop, Option, Some, None, Result, Ok, Err, refl, sym, ◌∙◌, ap, arith, length-append}
use Rattle.std.specs.Prelude.{slice_get, if◌then◌else◌}
use Rattle.std.proofs.lemmas.Bool.{false≢true}
use Rattle.nats_names.specs.declared.failed.NoMemory.{NoMemory}
use Rattle.nats_history.specs.declared.config.Config.{Config}
use Rattle.nats_history.specs.declared.call.Call.{Call}
use Rattle.nats_history.specs.declared.turn.Turn.TheVariants as turn
use Rattle.nats_history.specs.declared.transcript.LinkRow.{LinkRow}
use Rattle.nats_history.specs.declared.transcript.LinkWord.TheVariants as word
use Rattle.nats_history.specs.History.{History, is_up, link_text, taken_count}
use Rattle.nats_history.specs.Schedule.{steps}
use Rattle.nats_history.specs.Transcripts.{link_row, ended_links}
use Rattle.nats_outboxes.specs.Outboxes.{item_of, at_number}
use Rattle.nats_broker.specs.declared.turn.BrokerTurn.TheVariants.{Feed}
use Rattle.nats_broker.specs.Playing.{BrokerSeen, is_due, after_turn, played}
use Rattle.nats_moves.specs.declared.moves.Move.TheVariants as moves
use Rattle.nats_moves.specs.Mesh.{Member, carried, told_behind, may_play, is_up_at, takes_turn, is_valid_move, feeds_of}
use Rattle.nats_mesh.specs.Cores.{left_in, last_left}
use Rattle.nats_mesh.specs.Clients.{with_turn, with_next, may_step, SteppedAt, may_bring, BroughtAt, left_at}
use Rattle.nats_mesh.specs.Meshes.{mesh_of, Moved}

-- ---- what waits

last_there : (some : List LinkRow) (x : LinkRow) → slice_get (some ++ x ∷ []) (length some) ≡ Some x
last_there [] x = refl
last_there (y ∷ some) x = last_there some x

last_is : (some : List LinkRow) (x : LinkRow) → last_left (some ++ x ∷ []) ≡ x.left
last_is some x =
    let place : length (some ++ x ∷ []) - 1 ≡ length some = omega (arith, length-append some (x ∷ [])) in
    ap (λ k. left_in (slice_get (some ++ x ∷ []) k)) place ∙ ap left_in (last_there some x)

left_by : (c : Config) (h : History) (up : Bool) → up ≡ true
    → last_left (ended_links c h ++ (if up then link_row c word.Up h ∷ [] else []))
    ≡ (if up then drop (taken_count c h) (link_text c h) else [])
left_by c h true is = last_is (ended_links c h) (link_row c word.Up h)
left_by c h false is = absurd (false≢true is)

-- of a client whose link is up, what its transcript leaves is what waits
left_up : (member : Member) (n : ℕ) → may_play member (turn.Write n) ≡ true → left_at n (Some member) ≡ carried n member
left_up member n up = ap (take n) (left_by member.config (steps member.config member.turns) (is_up (steps member.config member.turns)) up)

-- ---- a client's turn

doing_is : (b : BrokerSeen) (i : ℕ) (call : Call) (found : Option Member) → takes_turn b (moves.Do i call) found ≡ may_step (turn.Do call) found
doing_is b i call None = refl
doing_is b i call (Some member) = refl

no_feed : (i : ℕ) (call : Call) (found : Option Member) → feeds_of (moves.Do i call) found ≡ []
no_feed i call None = refl
no_feed i call (Some member) = refl

pub does : (members later : List Member) (b : BrokerSeen) (i : ℕ) (call : Call) (r : Result Bool NoMemory) → is_due b ≡ false
    → SteppedAt i (turn.Do call) members r later → Moved (moves.Do i call) (mesh_of members b) r (mesh_of later b)
does members later b i call (Ok true) quiet steps = (
  doing_is b i call (item_of i members) ∙ steps.0,
  ap (λ ms. mesh_of ms b) steps.1
      ∙ ap (λ fed. mesh_of (at_number i (with_turn (turn.Do call) 0) members) (played fed b)) (sym (no_feed i call (item_of i members))),
  quiet,
)
does members later b i call (Ok false) quiet steps = doing_is b i call (item_of i members) ∙ steps.0
does members later b i call (Err e) quiet steps = tt

taking_is : (b : BrokerSeen) (i sid : ℕ) (found : Option Member) → takes_turn b (moves.Take i sid) found ≡ may_step (turn.Take sid) found
taking_is b i sid None = refl
taking_is b i sid (Some member) = refl

no_feed_taking : (i sid : ℕ) (found : Option Member) → feeds_of (moves.Take i sid) found ≡ []
no_feed_taking i sid None = refl
no_feed_taking i sid (Some member) = refl

pub takes : (members later : List Member) (b : BrokerSeen) (i sid : ℕ) (r : Result Bool NoMemory) → is_due b ≡ false
    → SteppedAt i (turn.Take sid) members r later → Moved (moves.Take i sid) (mesh_of members b) r (mesh_of later b)
takes members later b i sid (Ok true) quiet steps = (
  taking_is b i sid (item_of i members) ∙ steps.0,
  ap (λ ms. mesh_of ms b) steps.1
      ∙ ap (λ fed. mesh_of (at_number i (with_turn (turn.Take sid) 0) members) (played fed b)) (sym (no_feed_taking i sid (item_of i members))),
  quiet,
)
takes members later b i sid (Ok false) quiet steps = taking_is b i sid (item_of i members) ∙ steps.0
takes members later b i sid (Err e) quiet steps = tt

-- ---- bytes to a client

bringing_is : (b : BrokerSeen) (i n : ℕ) (found : Option Member) → takes_turn b (moves.Bring i n) found ≡ may_bring (told_behind i b) n found
bringing_is b i n None = refl
bringing_is b i n (Some member) = refl

no_feed_bringing : (i n : ℕ) (found : Option Member) → feeds_of (moves.Bring i n) found ≡ []
no_feed_bringing i n None = refl
no_feed_bringing i n (Some member) = refl

pub brings_down : (members : List Member) (b : BrokerSeen) (i n : ℕ) → is_up_at i b ≡ false → is_valid_move (moves.Bring i n) (mesh_of members b) ≡ false
brings_down members b i n down = ap (λ up. up && takes_turn b (moves.Bring i n) (item_of i members)) down

pub brings : (members later : List Member) (b : BrokerSeen) (i n : ℕ) (r : Result Bool NoMemory) → is_due b ≡ false → is_up_at i b ≡ true
    → BroughtAt i (told_behind i b) n members r later → Moved (moves.Bring i n) (mesh_of members b) r (mesh_of later b)
brings members later b i n (Ok true) quiet up steps = (
  ap (λ is. is && takes_turn b (moves.Bring i n) (item_of i members)) up ∙ bringing_is b i n (item_of i members) ∙ steps.0,
  ap (λ ms. mesh_of ms b) steps.1
      ∙ ap (λ fed. mesh_of (at_number i (with_next (told_behind i b) n) members) (played fed b)) (sym (no_feed_bringing i n (item_of i members))),
  quiet,
)
brings members later b i n (Ok false) quiet up steps =
    ap (λ is. is && takes_turn b (moves.Bring i n) (item_of i members)) up ∙ bringing_is b i n (item_of i members) ∙ steps.0
brings members later b i n (Err e) quiet up steps = tt

-- ---- bytes to the broker

carrying_is : (b : BrokerSeen) (i n : ℕ) (found : Option Member) → takes_turn b (moves.Carry i n) found ≡ may_step (turn.Write n) found
carrying_is b i n None = refl
carrying_is b i n (Some member) = refl

feeds_left : (i n : ℕ) (found : Option Member) → may_step (turn.Write n) found ≡ true → feeds_of (moves.Carry i n) found ≡ Feed i (left_at n found) ∷ []
feeds_left i n None may = absurd (false≢true may)
feeds_left i n (Some member) may = ap (λ bytes. Feed i bytes ∷ []) (sym (left_up member n may))

pub carries_down : (members : List Member) (b : BrokerSeen) (i n : ℕ) → is_up_at i b ≡ false → is_valid_move (moves.Carry i n) (mesh_of members b) ≡ false
carries_down members b i n down = ap (λ up. up && takes_turn b (moves.Carry i n) (item_of i members)) down

pub carries_not : (members : List Member) (b : BrokerSeen) (i n : ℕ) → is_up_at i b ≡ true → may_step (turn.Write n) (item_of i members) ≡ false
    → is_valid_move (moves.Carry i n) (mesh_of members b) ≡ false
carries_not members b i n up may =
    ap (λ is. is && takes_turn b (moves.Carry i n) (item_of i members)) up ∙ carrying_is b i n (item_of i members) ∙ may

pub carries : (members later : List Member) (b next : BrokerSeen) (i n : ℕ) (bytes : List ℕ) → is_up_at i b ≡ true
    → may_step (turn.Write n) (item_of i members) ≡ true → later ≡ at_number i (with_turn (turn.Write n) 0) members
    → bytes ≡ left_at n (item_of i members) → next ≡ after_turn (Feed i bytes) b → is_due next ≡ false
    → Moved (moves.Carry i n) (mesh_of members b) (Ok true) (mesh_of later next)
carries members later b next i n bytes up may steps waits fed quiet = (
  ap (λ is. is && takes_turn b (moves.Carry i n) (item_of i members)) up ∙ carrying_is b i n (item_of i members) ∙ may,
  ap (λ ms. mesh_of ms next) steps
      ∙ ap (mesh_of (at_number i (with_turn (turn.Write n) 0) members)) (fed ∙ ap (λ xs. after_turn (Feed i xs) b) waits)
      ∙ ap (λ turns. mesh_of (at_number i (with_turn (turn.Write n) 0) members) (played turns b)) (sym (feeds_left i n (item_of i members) may)),
  quiet,
)

pub carries_off : (members later : List Member) (b : BrokerSeen) (i n : ℕ) (stepped : Bool) → is_up_at i b ≡ true → stepped ≡ false
    → SteppedAt i (turn.Write n) members (Ok stepped) later → is_valid_move (moves.Carry i n) (mesh_of members b) ≡ false
carries_off members later b i n true up is steps = absurd (false≢true (sym is))
carries_off members later b i n false up is steps = carries_not members b i n up steps.0

pub carries_on : (members later : List Member) (b next : BrokerSeen) (i n : ℕ) (bytes : List ℕ) (stepped : Bool) → is_up_at i b ≡ true
    → stepped ≡ true → SteppedAt i (turn.Write n) members (Ok stepped) later → bytes ≡ left_at n (item_of i members)
    → next ≡ after_turn (Feed i bytes) b → is_due next ≡ false
    → Moved (moves.Carry i n) (mesh_of members b) (Ok true) (mesh_of later next)
carries_on members later b next i n bytes true up is steps waits fed quiet = carries members later b next i n bytes up steps.0 steps.1 waits fed quiet
carries_on members later b next i n bytes false up is steps waits fed quiet = absurd (false≢true is)
