-- What the rows of the transcripts tell of what is heard.
use Rattle.std.proofs.Common.{◌≡◌, ℕ, zero, suc, ◌+◌, ◌≤◌, ◌<◌, ◌^◌, true, List, [], ◌∷◌, map, Option, Some, None, Result, Ok, Err, IsErr, IfOk, Vec, Global, refl, sym, ◌∙◌, ap, subst, arith}
use Rattle.std.specs.Result.{result_map_both}
use Rattle.std.proofs.lemmas.Bool.{false≢true}
use Rattle.std.specs.Prelude.{slice_get, option_map, IsErrAnd}
use Rattle.nats_names.specs.Names.{is_token}
use Rattle.nats_history.specs.declared.config.Config.{Config}
use Rattle.nats_history.specs.declared.transcript.SubRow.{SubRow}
use Rattle.nats_history.specs.declared.transcript.Transcript.{Transcript}
use Rattle.nats_history.specs.History.{History, told, given}
use Rattle.nats_history.specs.Transcripts.{Answer, answers, sub_row, take_replies, sub_rows}
use Rattle.nats_tables.specs.Numbers.{count_from}
use Rattle.nats_info.specs.declared.info.ServerInfo.{ServerInfo}
use Rattle.nats_outboxes.specs.Outboxes.{item_of}
use Rattle.nats_broker.specs.declared.info.BrokerInfo.{BrokerInfo}
use Rattle.nats_broker.specs.declared.turn.RouteError.{RouteError}
use Rattle.nats_broker.specs.declared.turn.RouteError.TheVariants as refused
use Rattle.nats_broker.specs.Playing.{BrokerSeen, new_broker, played}
use Rattle.nats_server_text.specs.Said.{read_hello}
use Rattle.nats_moves.specs.declared.moves.Move.{Move}
use Rattle.nats_moves.specs.Mesh.{Member, Mesh, join_of, new_member, new_mesh, history_of, told_behind, moved, out_of_turn_from, transcript_of, transcripts}
use Rattle.nats_own_laws.specs.Own.{AreTypedConfigs, AreTypedMoves, HearsTold, MeshHears}
use Rattle.nats_mesh.specs.Clients.{came_up}
use Rattle.nats_mesh.specs.Meshes.{mesh_of, PlaysMoves, MeshesFrom, Meshes, RowHears, AllHear, MeshesHear}

-- ---- numbered rows

get_map : {A B : Type 0} (f : A → B) (xs : List A) (k : ℕ) → slice_get (map f xs) k ≡ option_map f (slice_get xs k)
get_map f [] k = refl
get_map f (x ∷ xs) zero = refl
get_map f (x ∷ xs) (suc k) = get_map f xs k

item_map : {A B : Type 0} (f : A → B) (xs : List A) (i : ℕ) → item_of i (map f xs) ≡ option_map f (item_of i xs)
item_map f xs zero = refl
item_map f xs (suc k) = get_map f xs k

mapped : {A B : Type 0} (f : A → B) (found : Option A) (y : B) → option_map f found ≡ Some y → (x : A) × (found ≡ Some x) × (y ≡ f x)
mapped f None y is = cc
mapped f (Some x) y is = let same : y ≡ f x = cc in (x, refl, same)

counted : (first n k x : ℕ) → slice_get (count_from first n) k ≡ Some x → x ≡ first + k
counted first zero k x is = cc
counted first (suc n) zero x is = let same : first ≡ x = cc in omega (arith, same)
counted first (suc n) (suc k) x is = let later = counted (suc first) n k x is in omega (arith, later)

-- the row of a number tells of the subscription of that number
number_is : (n s x : ℕ) → item_of s (count_from 1 n) ≡ Some x → (1 ≤ s) × (x ≡ s)
number_is n zero x is = cc
number_is n (suc k) x is = let there = counted 1 n k x is in (omega arith, omega (arith, there))

row_is : (c : Config) (h : History) (all : List (ℕ × Answer)) (s : ℕ) (sub : SubRow) → item_of s (sub_rows c h all) ≡ Some sub
    → (1 ≤ s) × (sub ≡ sub_row (told c s h) (take_replies s all))
row_is c h all s sub is =
    let row = λ (n : ℕ). sub_row (told c n h) (take_replies n all) in
    let found = mapped row (item_of s (count_from 1 (given h))) sub (sym (item_map row (count_from 1 (given h)) s) ∙ is) in
    let number = number_is (given h) s found.0 found.1 in
    (number.0, found.2 ∙ ap row number.1)

-- ---- what is heard

row_hears : (i s : ℕ) (b : BrokerSeen) (member : Member) (sub : SubRow) → HearsTold s (told_behind i b) member
    → item_of s (transcript_of member).subs ≡ Some sub → RowHears i s b sub
row_hears i s b member sub hears is =
    let h = history_of member in
    let row = row_is member.config h (answers member.config member.turns) s sub is in
    subst (RowHears i s b) (sym row.1) hears

all_hear : MeshHears → (info : BrokerInfo) (configs : List Config) (moves : List Move) → is_token info.server_id ≡ true → info.max_payload < 2 ^ 64
    → AreTypedConfigs configs → AreTypedMoves moves → out_of_turn_from 1 moves (new_mesh info configs) ≡ None
    → AllHear configs (moved moves (new_mesh info configs)).broker (transcripts (moved moves (new_mesh info configs)))
all_hear law info configs moves token small settings typed valid = λ i s config row sub at tested row_at sub_at.
    let last = moved moves (new_mesh info configs) in
    let found = mapped transcript_of (item_of i last.members) row (sym (item_map transcript_of last.members i) ∙ row_at) in
    let sub_there = ap (λ (t : Transcript). item_of s t.subs) (sym found.2) ∙ sub_at in
    let number = row_is found.0.config (history_of found.0) (answers found.0.config found.0.turns) s sub sub_there in
    row_hears i s last.broker found.0 sub
    (law info configs moves i s config found.0 token small settings typed valid at tested number.0 found.1) sub_there

-- ---- the whole

pub all_up : {E : Type 0} (r : Result (Vec Member Global) E) (info : BrokerInfo) (configs : List Config) (server : ServerInfo)
    → server ≡ read_hello info.server_id info.max_payload → IfOk r (λ clients. clients.items ≡ map (λ c. came_up c server) configs)
    → IfOk r (λ clients. clients.items ≡ map (new_member info) configs)
all_up (Ok clients) info configs server says up = up ∙ ap (λ x. map (λ c. came_up c x) configs) says
all_up (Err e) info configs server says up = tt

pub begun : (info : BrokerInfo) (configs : List Config) (members : List Member) (b : BrokerSeen)
    → members ≡ map (new_member info) configs → b ≡ played (map join_of configs) (new_broker info) → mesh_of members b ≡ new_mesh info configs
begun info configs members b up joins = ap (λ ms. mesh_of ms b) up ∙ ap (mesh_of (map (new_member info) configs)) joins

pub meshed : (moves : List Move) (old new : Mesh) (rows : List Transcript) → (out_of_turn_from 1 moves old ≡ None) × (new ≡ moved moves old)
    → rows ≡ transcripts new → MeshesFrom old moves (Ok rows)
meshed moves old new rows plays are = (plays.0, are ∙ ap transcripts plays.1)

pub refused_so : (moves : List Move) (old new : Mesh) (error : RouteError) → PlaysMoves moves old (Err error) new → MeshesFrom old moves (Err error)
refused_so moves old new (refused.OutOfTurn place) plays = plays
refused_so moves old new refused.NoMemory plays = tt

pub wanted : {A : Type 0} (f : A → List Transcript) (start : Mesh) (moves : List Move) (r : Result A RouteError)
    → IsErr r × IsErrAnd r (λ e. e ≡ refused.NoMemory) → MeshesFrom start moves (result_map_both f (λ error. error) r)
wanted f start moves (Ok x) is = absurd (false≢true is.0)
wanted f start moves (Err e) is = subst (λ x. MeshesFrom start moves (Err x)) (sym is.1) tt

hears_rows : MeshHears → (info : BrokerInfo) (configs : List Config) (moves : List Move) (rows : List Transcript) → is_token info.server_id ≡ true
    → info.max_payload < 2 ^ 64 → AreTypedConfigs configs → AreTypedMoves moves → Meshes configs info moves (Ok rows)
    → MeshesHear configs info moves (Ok rows)
hears_rows law info configs moves rows token small settings typed meshes =
    subst (AllHear configs (moved moves (new_mesh info configs)).broker) (sym meshes.1)
    (all_hear law info configs moves token small settings typed meshes.0)

pub hears : MeshHears → (info : BrokerInfo) (configs : List Config) (moves : List Move) (r : Result (List Transcript) RouteError) → is_token info.server_id ≡ true
    → info.max_payload < 2 ^ 64 → AreTypedConfigs configs → AreTypedMoves moves → Meshes configs info moves r → MeshesHear configs info moves r
hears law info configs moves (Ok rows) token small settings typed meshes = hears_rows law info configs moves rows token small settings typed meshes
hears law info configs moves (Err e) token small settings typed meshes = tt
