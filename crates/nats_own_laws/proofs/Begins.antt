-- Clients of one broker before any move, and what holds of them in the end.
use Rattle.std.proofs.Common.{◌≡◌, ℕ, zero, suc, ◌+◌, ◌<◌, ◌^◌, Bool, true, false, List, [], ◌∷◌, ◌++◌, length, take, map, Some, None, refl, sym, ◌∙◌, ap, subst, arith, append_assoc, append-nil, lt-ltb}
use Rattle.std.specs.Prelude.{nat_lt, slice_get, option_map}
use Rattle.std.specs.Option.{unwrap_or}
use Rattle.nats_names.specs.Names.{is_token}
use Rattle.nats_info.specs.declared.info.ServerInfo.{ServerInfo}
use Rattle.nats_history.specs.declared.config.Config.{Config}
use Rattle.nats_history.specs.declared.turn.Turn.TheVariants as turn
use Rattle.nats_history.specs.History.{opened, History, at_of, joined as client_joined, taken_count, link_text}
use Rattle.nats_history.specs.Parts.{parts_of}
use Rattle.nats_history.specs.Schedule.{due_call, due_by, due, most_due, write_limit, settled_within, steps}
use Rattle.nats_history.proofs.Dues.{nothing_there}
use Rattle.nats_heard.specs.Heard.{ComeBegun}
use Rattle.nats_link_text.specs.Typed.{IsTypedConfig}
use Rattle.nats_outboxes.specs.Outboxes.{item_of}
use Rattle.nats_broker_text.specs.declared.command.PeerFront.{PeerFront}
use Rattle.nats_broker_text.specs.declared.command.PeerFront.TheVariants.{Unfinished, Bad, Got}
use Rattle.nats_broker_text.specs.Commands.{peer_front}
use Rattle.nats_broker.specs.Info.{info_text}
use Rattle.nats_broker.specs.Peers.{up_peer}
use Rattle.nats_broker.specs.declared.info.BrokerInfo.{BrokerInfo}
use Rattle.nats_broker.specs.declared.turn.BrokerTurn.TheVariants.{Join}
use Rattle.nats_broker.specs.Playing.{BrokerSeen, due as broker_due, due_of, fed_peer, unread_len, settled_by, new_broker, joined, after_turn, played}
use Rattle.nats_broker.specs.Routes.{text_of}
use Rattle.nats_broker_laws.specs.Order.{read_by, commands_of, is_among, bytes_of}
use Rattle.nats_server_text.specs.Law.{ReadBack}
use Rattle.nats_server_text.specs.Said.{read_hello}
use Rattle.nats_server_laws.specs.Waiting.{asked_numbers, TextsGrow}
use Rattle.nats_moves.specs.Mesh.{join_of, up_turn, new_member, new_mesh, told_behind, moved}
use Rattle.nats_own_laws.specs.Own.{AreWithin, AreTypedConfigs, OwnNumbers, ToldOwn, MeshHears}
use Rattle.nats_own_laws.proofs.Clients.{Goes, goes_heard}
use Rattle.nats_own_laws.proofs.Lists.{joined_all, line_stays}
use Rattle.nats_own_laws.proofs.Meshes.{Broker, Holds, behind_is, all_moves}

-- ---- numbered items

get_map : {A B : Type 0} (f : A → B) (xs : List A) (k : ℕ) → slice_get (map f xs) k ≡ option_map f (slice_get xs k)
get_map f [] k = refl
get_map f (x ∷ xs) zero = refl
get_map f (x ∷ xs) (suc k) = get_map f xs k

item_map : {A B : Type 0} (f : A → B) (xs : List A) (i : ℕ) → item_of i (map f xs) ≡ option_map f (item_of i xs)
item_map f xs zero = refl
item_map f xs (suc k) = get_map f xs k

get_there : {A : Type 0} (xs : List A) (k : ℕ) (x : A) → slice_get xs k ≡ Some x → k < length xs
get_there [] k x is = cc
get_there (y ∷ xs) zero x is = omega arith
get_there (y ∷ xs) (suc k) x is = omega (arith, get_there xs k x is)

item_there : {A : Type 0} (xs : List A) (i : ℕ) (x : A) → item_of i xs ≡ Some x → is_among i (length xs) ≡ true
item_there xs zero x is = cc
item_there xs (suc k) x is = lt-ltb k (length xs) (get_there xs k x is)

config_typed : (configs : List Config) (k : ℕ) (c : Config) → AreTypedConfigs configs → slice_get configs k ≡ Some c → IsTypedConfig c
config_typed [] k c typed is = cc
config_typed (first ∷ configs) zero c typed is = let same : first ≡ c = cc in subst IsTypedConfig same typed.0
config_typed (first ∷ configs) (suc k) c typed is = config_typed configs k c typed.1 is

item_typed : (configs : List Config) (i : ℕ) (c : Config) → AreTypedConfigs configs → item_of i configs ≡ Some c → IsTypedConfig c
item_typed configs zero c typed is = cc
item_typed configs (suc k) c typed is = config_typed configs k c typed is

-- ---- peers that join

many_joined : (configs : List Config) (k : ℕ) → joined_all (map join_of configs) k ≡ k + length configs
many_joined [] k = omega arith
many_joined (c ∷ configs) k = many_joined configs (suc k) ∙ (omega arith)

no_bytes : (i : ℕ) (configs : List Config) (k : ℕ) → bytes_of i k (map join_of configs) ≡ []
no_bytes i [] k = refl
no_bytes i (c ∷ configs) k = no_bytes i configs (suc k)

none_by : (most : ℕ) (b : BrokerSeen) → settled_by most None b ≡ b
none_by zero b = refl
none_by (suc most) b = refl

one_joins : (b : BrokerSeen) → b.fed ≡ 0 → after_turn Join b ≡ joined b
one_joins b none =
    let nobody : fed_peer (joined b) ≡ None = ap (λ k. up_peer (item_of k (joined b).peers)) none in
    let nothing : broker_due (joined b) ≡ None = ap (λ p. due_of b.fed p (joined b)) nobody in
    ap (λ next. settled_by (unread_len (fed_peer (joined b))) next (joined b)) nothing ∙ none_by (unread_len (fed_peer (joined b))) (joined b)

joins_told : (configs : List Config) (b : BrokerSeen) → b.fed ≡ 0
    → (played (map join_of configs) b).router.outs ≡ b.router.outs ++ map (λ (c : Config). b.info) configs
joins_told [] b none = sym (append-nil b.router.outs)
joins_told (c ∷ configs) b none =
    ap (λ x. (played (map join_of configs) x).router.outs) (one_joins b none) ∙ joins_told configs (joined b) none
    ∙ append_assoc b.router.outs (b.info ∷ []) (map (λ (c : Config). b.info) configs)

-- ---- a link that came up

no_call : (b : Bool) → due_call b [] ≡ None
no_call true = refl
no_call false = refl

none_due : (c : Config) (info : ServerInfo) → due (parts_of c ((1, opened info) ∷ [])) ≡ None
none_due c info =
    let p = parts_of c ((1, opened info) ∷ []) in
    ap (λ found. due_by found p) nothing_there ∙ no_call (nat_lt (length p.link.wire.waiting) write_limit)

none_within : (c : Config) (place most : ℕ) (h : History) → settled_within c place most None h ≡ h
none_within c place most h = refl

came_up : (c : Config) (info : ServerInfo) → steps c (turn.Up info ∷ []) ≡ (1, opened info) ∷ []
came_up c info =
    let h = (1, opened info) ∷ [] in
    ap (λ next. settled_within c 1 (most_due (parts_of c h)) next h) (none_due c info) ∙ none_within c 1 (most_due (parts_of c h)) h

none_read : (found : PeerFront) → (read_by 0 [] found).commands ≡ []
none_read Unfinished = refl
none_read Bad = refl
none_read (Got command n) = refl

no_commands : (limit : ℕ) (bytes : List ℕ) → bytes ≡ [] → AreWithin limit (asked_numbers (commands_of bytes))
no_commands limit bytes is =
    subst (λ xs. AreWithin limit (asked_numbers (commands_of xs))) (sym is)
    (subst (λ cs. AreWithin limit (asked_numbers cs)) (sym (none_read (peer_front []))) tt)

-- ---- the clients before any move

goes_first : (info : BrokerInfo) (s : ℕ) (c : Config) (fed text : List ℕ) → info.max_payload < 2 ^ 64 → fed ≡ []
    → Goes c s (up_turn info ∷ []) fed text 0
goes_first info s c fed text small none =
    let up : steps c (up_turn info ∷ []) ≡ (1, opened (read_hello info.server_id info.max_payload)) ∷ []
    = came_up c (read_hello info.server_id info.max_payload) in
    record {
      info = read_hello info.server_id info.max_payload;
      others = [];
      turns_are = refl;
      none_up = tt;
      typed = (small, tt);
      left = text;
      brought_is = sym (ap (λ h. length (client_joined h)) up);
      told_is = sym (ap (λ h. client_joined h ++ text) up);
      fed_is = none ∙ sym (ap (λ h. take (taken_count c h) (link_text c h)) up);
      within = no_commands (at_of (steps c (up_turn info ∷ []))).subscribed fed none;
      come = subst (ComeBegun c s) (sym up) (tt, tt);
    }

first_text : (info : BrokerInfo) (configs : List Config) (i : ℕ) (c : Config) → item_of i configs ≡ Some c
    → text_of i (new_mesh info configs).broker ≡ info_text info.server_id info.max_payload
first_text info configs i c is =
    ap (λ outs. unwrap_or (item_of i outs) []) (joins_told configs (new_broker info) refl)
    ∙ ap (λ found. unwrap_or found []) (item_map (λ (c : Config). info_text info.server_id info.max_payload) configs i
    ∙ ap (option_map (λ (c : Config). info_text info.server_id info.max_payload)) is)

module _ (info : BrokerInfo) (i s : ℕ) (token : is_token info.server_id ≡ true) (small : info.max_payload < 2 ^ 64) (grow : TextsGrow) (reads : ReadBack) where
  first_broker : (configs : List Config) (c : Config) → item_of i configs ≡ Some c
      → Broker info i s token small grow reads (new_mesh info configs).broker (map join_of configs)
  first_broker configs c is =
      let b = (new_mesh info configs).broker in
      let line = info_text info.server_id info.max_payload in
      let many : joined_all (map join_of configs) 0 ≡ length configs = omega (arith, many_joined configs 0) in
      let line_is : b.info ≡ line = line_stays (map join_of configs) (new_broker info) in
      let text : text_of i b ≡ line = first_text info configs i c is in
      let behind : told_behind i b ≡ [] = behind_is info i s token small grow reads b [] line_is (text ∙ sym (append-nil line)) in
      record {
        broker_is = refl;
        among = ap (is_among i) many ∙ item_there configs i c is;
        line_is = line_is;
        text_is = text ∙ sym (append-nil line) ∙ ap (λ xs. line ++ xs) (sym behind);
      }

  first_holds : (configs : List Config) (c : Config) → item_of i configs ≡ Some c → c.skip_subject_validation ≡ false → IsTypedConfig c
      → Holds info i s token small grow reads (new_mesh info configs) (map join_of configs) (new_member info c)
  first_holds configs c is tested config =
      record {
        found = item_map (new_member info) configs i ∙ ap (option_map (new_member info)) is;
        broker = first_broker configs c is;
        tested = tested;
        config = config;
        goes = goes_first info s c (bytes_of i 0 (map join_of configs)) (told_behind i (new_mesh info configs).broker) small (no_bytes i configs 0);
      }

pub mesh_hears : OwnNumbers → ToldOwn → TextsGrow → ReadBack → MeshHears
mesh_hears numbers law grow reads info configs moves i s config last token small configs_typed moves_typed valid at tested low is =
    let mesh = new_mesh info configs in
    let holds = first_holds info i s token small grow reads configs config at tested (item_typed configs i config configs_typed at) in
    let ends = all_moves info i s token small grow reads numbers law low 1 moves mesh (map join_of configs) (new_member info config) last valid
    moves_typed holds is in
    goes_heard last.config s last.turns (bytes_of i 0 ends.turns) (told_behind i (moved moves mesh).broker) last.brought ends.holds.goes
