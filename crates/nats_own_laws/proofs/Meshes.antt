-- Clients of one broker, move by move.
use Rattle.std.proofs.Common.{◌≡◌, ℕ, suc, ◌+◌, ◌<◌, ◌≤◌, ◌^◌, Bool, true, false, ◌==◌, ◌&&◌, List, [], ◌∷◌, ◌++◌, length, take, drop, Option, Some, None, refl, sym, ◌∙◌, ap, subst, append_assoc, append-nil, take-append-drop}
use Rattle.std.specs.Prelude.{option_map, if◌then◌else◌}
use Rattle.std.proofs.lemmas.Bool.{false≢true, eqb-true, eq-eqb}
use Rattle.nats_names.specs.Names.{is_token}
use Rattle.nats_lines.specs.Operations.{operations}
use Rattle.nats_history.specs.History.{at_of, joined as client_joined}
use Rattle.nats_history.specs.Schedule.{steps}
use Rattle.nats_heard.specs.Heard.{messages_in, NoneUp}
use Rattle.nats_heard.proofs.Begun.{piece_of}
use Rattle.nats_heard.proofs.Taken.{taken_by}
use Rattle.nats_link_text.specs.Typed.{IsTypedConfig, IsTypedTurn}
use Rattle.nats_outboxes.specs.Outboxes.{item_of, at_number}
use Rattle.nats_broker.specs.Info.{info_text}
use Rattle.nats_broker.specs.declared.info.BrokerInfo.{BrokerInfo}
use Rattle.nats_broker.specs.declared.turn.BrokerTurn.{BrokerTurn}
use Rattle.nats_broker.specs.Playing.{BrokerSeen, new_broker, played}
use Rattle.nats_broker.specs.Routes.{text_of}
use Rattle.nats_broker_laws.specs.Order.{commands_of, is_among, bytes_of}
use Rattle.nats_server_text.specs.Law.{ReadBack}
use Rattle.nats_server_laws.specs.Waiting.{asked_numbers, TextsGrow}
use Rattle.nats_moves.specs.declared.moves.Move.{Move}
use Rattle.nats_moves.specs.declared.moves.Move.TheVariants.{Do, Take, Carry, Bring}
use Rattle.nats_moves.specs.Mesh.{Member, Mesh, history_of, carried, told_behind, client_of, turn_of, may_pass, takes_turn, is_valid_move, member_after, feeds, feeds_of, brings, fed_by, after_move, moved, out_of_turn_from}
use Rattle.nats_own_laws.specs.Own.{AreWithin, IsTypedMove, AreTypedMoves, OwnNumbers, ToldOwn}
use Rattle.nats_own_laws.proofs.Clients.{Goes, told_more, MayTake, goes_on}
use Rattle.nats_own_laws.proofs.Lists.{item_at, item_other, played_behind, joined_all, joined_both, bytes_both, line_stays}
use Rattle.nats_own_laws.proofs.Told.{behind_line}

first_gone : {A : Type 0} (some more : List A) → drop (length some) (some ++ more) ≡ more
first_gone [] more = refl
first_gone (x ∷ some) more = first_gone some more

second_holds : (one other : Bool) → (one && other) ≡ true → other ≡ true
second_holds true other holds = holds
second_holds false other holds = cc

none_is : (test : Bool) (place : ℕ) (later : Option ℕ) → (if test then later else Some place) ≡ None → (test ≡ true) × (later ≡ None)
none_is true place later is = (refl, is)
none_is false place later is = cc

some_same : {A : Type 0} (one other : A) → Some one ≡ Some other → one ≡ other
some_same one other is = cc

-- ---- a move of one client

-- the broker's turns of it are no joins
no_joins : (move : Move) (found : Option Member) (k : ℕ) → joined_all (feeds_of move found) k ≡ k
no_joins move None k = refl
no_joins (Do j call) (Some member) k = refl
no_joins (Take j sid) (Some member) k = refl
no_joins (Carry j n) (Some member) k = refl
no_joins (Bring j n) (Some member) k = refl

-- another client's gives the peer nothing
others_nothing : (i : ℕ) (move : Move) (found : Option Member) (k : ℕ) → (client_of move == i) ≡ false → bytes_of i k (feeds_of move found) ≡ []
others_nothing i move None k at = refl
others_nothing i (Do j call) (Some member) k at = refl
others_nothing i (Take j sid) (Some member) k at = refl
others_nothing i (Carry j n) (Some member) k at = ap (λ test. (if test && is_among i k then carried n member else []) ++ []) at
others_nothing i (Bring j n) (Some member) k at = refl

-- its own gives what its turn takes
its_bytes : (i : ℕ) (move : Move) (b : BrokerSeen) (member : Member) (k : ℕ) → (client_of move == i) ≡ true → is_among i k ≡ true
    → bytes_of i k (feeds member move) ≡ taken_by member.config (history_of member) (turn_of b member move)
its_bytes i (Do j call) b member k at among = refl
its_bytes i (Take j sid) b member k at among = refl
its_bytes i (Carry j n) b member k at among =
    ap (λ test. (if test && is_among i k then carried n member else []) ++ []) at
    ∙ ap (λ test. (if test then carried n member else []) ++ []) among ∙ append-nil (carried n member)
its_bytes i (Bring j n) b member k at among = refl

brings_piece : (b : BrokerSeen) (member : Member) (move : Move) → brings b member move ≡ length (piece_of (turn_of b member move))
brings_piece b member (Do j call) = refl
brings_piece b member (Take j sid) = refl
brings_piece b member (Carry j n) = refl
brings_piece b member (Bring j n) = refl

none_comes_up : (b : BrokerSeen) (member : Member) (move : Move) → NoneUp (turn_of b member move ∷ [])
none_comes_up b member (Do j call) = tt
none_comes_up b member (Take j sid) = tt
none_comes_up b member (Carry j n) = tt
none_comes_up b member (Bring j n) = tt

turn_typed : (b : BrokerSeen) (member : Member) (move : Move) → IsTypedMove move → IsTypedTurn (turn_of b member move)
turn_typed b member (Do j call) typed = typed
turn_typed b member (Take j sid) typed = tt
turn_typed b member (Carry j n) typed = tt
turn_typed b member (Bring j n) typed = tt

may_take : (b : BrokerSeen) (member : Member) (move : Move) → takes_turn b move (Some member) ≡ true
    → MayTake member.config member.turns (turn_of b member move)
may_take b member (Do j call) valid = tt
may_take b member (Take j sid) valid = tt
may_take b member (Carry j n) valid = valid
may_take b member (Bring j n) valid = tt

-- the bytes that it gives are the next of what the client was told
pieces : (i : ℕ) (b : BrokerSeen) (member : Member) (move : Move) (left : List ℕ) → client_of move ≡ i → drop member.brought (told_behind i b) ≡ left
    → (rest : List ℕ) × (left ≡ piece_of (turn_of b member move) ++ rest)
pieces i b member (Do j call) left same are = (left, refl)
pieces i b member (Take j sid) left same are = (left, refl)
pieces i b member (Carry j n) left same are = (left, refl)
pieces i b member (Bring j n) left same are = (
  drop n left,
  sym (take-append-drop n left) ∙ ap (λ xs. take n xs ++ drop n left) (sym are)
      ∙ ap (λ k. take n (drop member.brought (told_behind k b)) ++ drop n left) (sym same),
)

-- ---- the broker

module _ (info : BrokerInfo) (i s : ℕ) (token : is_token info.server_id ≡ true) (small : info.max_payload < 2 ^ 64) (grow : TextsGrow) (reads : ReadBack) where
  abbrev pub line : List ℕ
  line = info_text info.server_id info.max_payload

  -- the broker behind its turns: what it told the client begins with its line
  pub record Broker (b : BrokerSeen) (turns : List BrokerTurn) : Type 0 where
    pub broker_is : b ≡ played turns (new_broker info)
    pub among : is_among i (joined_all turns 0) ≡ true
    pub line_is : b.info ≡ line
    pub text_is : text_of i b ≡ line ++ told_behind i b

  -- more turns by which none joins
  record Later (b : BrokerSeen) (turns extra : List BrokerTurn) : Type 0 where
    stands : Broker (played extra b) (turns ++ extra)
    more : List ℕ
    told_is : told_behind i (played extra b) ≡ told_behind i b ++ more

  pub behind_is : (b : BrokerSeen) (behind : List ℕ) → b.info ≡ line → text_of i b ≡ line ++ behind → told_behind i b ≡ behind
  behind_is b behind is text = ap (λ l. drop (length l) (text_of i b)) is ∙ ap (drop (length line)) text ∙ first_gone line behind

  later : (b : BrokerSeen) (turns extra : List BrokerTurn) → joined_all extra (joined_all turns 0) ≡ joined_all turns 0 → Broker b turns
      → Later b turns extra
  later b turns extra none stands =
      let next = played extra b in
      let more = grow b extra i in
      let line_next : next.info ≡ line = line_stays extra b ∙ stands.line_is in
      let text : text_of i next ≡ line ++ (told_behind i b ++ more.0)
      = more.1 ∙ ap (λ xs. xs ++ more.0) stands.text_is ∙ append_assoc line (told_behind i b) more.0 in
      let told : told_behind i next ≡ told_behind i b ++ more.0 = behind_is next (told_behind i b ++ more.0) line_next text in
      record {
        stands = record {
          broker_is = ap (played extra) stands.broker_is ∙ sym (played_behind turns extra (new_broker info));
          among = ap (is_among i) (joined_both turns extra 0 ∙ none) ∙ stands.among;
          line_is = line_next;
          text_is = text ∙ ap (λ xs. line ++ xs) (sym told);
        };
        more = more.0;
        told_is = told;
      }

  -- where the number is above all that the peer's bytes ask for, no message of it was told
  nothing_told : ToldOwn → (b : BrokerSeen) (turns : List BrokerTurn) (limit : ℕ) → Broker b turns
      → AreWithin limit (asked_numbers (commands_of (bytes_of i 0 turns))) → limit < s → messages_in s (operations (told_behind i b)) ≡ []
  nothing_told law b turns limit stands within above =
      sym (behind_line reads s info.server_id info.max_payload (told_behind i b) token small)
      ∙ ap (λ text. messages_in s (operations text)) (sym stands.text_is)
      ∙ ap (λ x. messages_in s (operations (text_of i x))) stands.broker_is
      ∙ law info turns i limit s token small within above

  -- ---- one client

  pub record Holds (mesh : Mesh) (turns : List BrokerTurn) (member : Member) : Type 0 where
    pub found : item_of i mesh.members ≡ Some member
    pub broker : Broker mesh.broker turns
    pub tested : member.config.skip_subject_validation ≡ false
    pub config : IsTypedConfig member.config
    pub goes : Goes member.config s member.turns (bytes_of i 0 turns) (told_behind i mesh.broker) member.brought

  module _ (numbers : OwnNumbers) (law : ToldOwn) (low : 1 ≤ s) where
    -- the move of another client
    other_move : (move : Move) (mesh : Mesh) (turns : List BrokerTurn) (member : Member) → (client_of move == i) ≡ false → Holds mesh turns member
        → Holds (after_move move mesh) (turns ++ fed_by move mesh) member
    other_move move mesh turns member at holds =
        let extra = fed_by move mesh in
        let found = item_of (client_of move) mesh.members in
        let now = later mesh.broker turns extra (no_joins move found (joined_all turns 0)) holds.broker in
        let bytes : bytes_of i 0 turns ≡ bytes_of i 0 (turns ++ extra)
        = sym (bytes_both i turns extra 0 ∙ ap (λ xs. bytes_of i 0 turns ++ xs) (others_nothing i move found (joined_all turns 0) at)
        ∙ append-nil (bytes_of i 0 turns)) in
        record {
          found = item_other (client_of move) i (member_after mesh.broker move) mesh.members
              (λ same. false≢true (sym at ∙ eq-eqb (client_of move) i same)) ∙ holds.found;
          broker = now.stands;
          tested = holds.tested;
          config = holds.config;
          goes = subst (λ fed. Goes member.config s member.turns fed (told_behind i (played extra mesh.broker)) member.brought) bytes
              (subst (λ told. Goes member.config s member.turns (bytes_of i 0 turns) told member.brought) (sym now.told_is)
              (told_more member.config s member.turns (bytes_of i 0 turns) (told_behind i mesh.broker) now.more member.brought holds.goes));
        }

    -- the client's own
    own_move : (move : Move) (mesh : Mesh) (turns : List BrokerTurn) (member : Member) → (client_of move == i) ≡ true → client_of move ≡ i
        → IsTypedMove move → takes_turn mesh.broker move (Some member) ≡ true → Holds mesh turns member
        → Holds (after_move move mesh) (turns ++ fed_by move mesh) (member_after mesh.broker move member)
    own_move move mesh turns member at same typed valid holds =
        let b = mesh.broker in
        let extra = fed_by move mesh in
        let c = member.config in
        let t = turn_of b member move in
        let goes = holds.goes in
        let now = later b turns extra (no_joins move (item_of (client_of move) mesh.members) (joined_all turns 0)) holds.broker in
        let left : drop member.brought (told_behind i b) ≡ goes.left
        = ap (λ n. drop n (told_behind i b)) goes.brought_is ∙ ap (drop (length (client_joined (steps c member.turns)))) goes.told_is
        ∙ first_gone (client_joined (steps c member.turns)) goes.left in
        let rest = pieces i b member move goes.left same left in
        let onward = goes_on c s holds.tested holds.config numbers member.turns t (bytes_of i 0 turns) (told_behind i b) rest.0 member.brought low
        (none_comes_up b member move) (turn_typed b member move typed) (may_take b member move valid)
        (nothing_told law b turns (at_of (steps c member.turns)).subscribed holds.broker goes.within) goes rest.1 in
        let feeds_are : extra ≡ feeds member move
        = ap (λ k. feeds_of move (item_of k mesh.members)) same ∙ ap (feeds_of move) holds.found in
        let bytes : bytes_of i 0 turns ++ taken_by c (steps c member.turns) t ≡ bytes_of i 0 (turns ++ extra)
        = sym (bytes_both i turns extra 0 ∙ ap (λ xs. bytes_of i 0 turns ++ xs)
        (ap (bytes_of i (joined_all turns 0)) feeds_are ∙ its_bytes i move b member (joined_all turns 0) at holds.broker.among)) in
        record {
          found = ap (λ k. item_of i (at_number k (member_after b move) mesh.members)) same ∙ item_at i (member_after b move) mesh.members
              ∙ ap (option_map (member_after b move)) holds.found;
          broker = now.stands;
          tested = holds.tested;
          config = holds.config;
          goes = subst (λ fed. Goes c s (member.turns ++ t ∷ []) fed (told_behind i (played extra b)) (member.brought + brings b member move)) bytes
              (subst (λ told. Goes c s (member.turns ++ t ∷ []) (bytes_of i 0 turns ++ taken_by c (steps c member.turns) t) told (member.brought + brings b member move))
              (sym now.told_is)
              (told_more c s (member.turns ++ t ∷ []) (bytes_of i 0 turns ++ taken_by c (steps c member.turns) t) (told_behind i b) now.more
              (member.brought + brings b member move)
              (subst (λ n. Goes c s (member.turns ++ t ∷ []) (bytes_of i 0 turns ++ taken_by c (steps c member.turns) t) (told_behind i b) (member.brought + n))
              (sym (brings_piece b member move)) onward)));
        }

    -- ---- all moves

    -- a client that is there in the end, as it is in the end
    pub record Ends (mesh : Mesh) (last : Member) : Type 0 where
      pub turns : List BrokerTurn
      pub holds : Holds mesh turns last

    one_move : (move : Move) (mesh : Mesh) (turns : List BrokerTurn) (member : Member) → is_valid_move move mesh ≡ true → IsTypedMove move
        → Holds mesh turns member → (next : Member) × Holds (after_move move mesh) (turns ++ fed_by move mesh) next
    one_move move mesh turns member valid typed holds = by (client_of move == i) refl
      where
        takes : takes_turn mesh.broker move (item_of (client_of move) mesh.members) ≡ true
        takes = second_holds (may_pass mesh.broker move) (takes_turn mesh.broker move (item_of (client_of move) mesh.members)) valid

        by : (b : Bool) → (client_of move == i) ≡ b → (next : Member) × Holds (after_move move mesh) (turns ++ fed_by move mesh) next
        by false at = (member, other_move move mesh turns member at holds)
        by true at =
            let same : client_of move ≡ i = eqb-true (client_of move) i at in
            let may : takes_turn mesh.broker move (Some member) ≡ true
            = sym (ap (λ k. takes_turn mesh.broker move (item_of k mesh.members)) same ∙ ap (takes_turn mesh.broker move) holds.found) ∙ takes in
            (member_after mesh.broker move member, own_move move mesh turns member at same typed may holds)

    pub all_moves : (place : ℕ) (moves : List Move) (mesh : Mesh) (turns : List BrokerTurn) (member last : Member) → out_of_turn_from place moves mesh ≡ None
        → AreTypedMoves moves → Holds mesh turns member → item_of i (moved moves mesh).members ≡ Some last → Ends (moved moves mesh) last
    all_moves place [] mesh turns member last valid typed holds is =
        let same : member ≡ last = some_same member last (sym holds.found ∙ is) in
        record { turns = turns; holds = subst (Holds mesh turns) same holds }
    all_moves place (move ∷ moves) mesh turns member last valid typed holds is =
        let each = none_is (is_valid_move move mesh) place (out_of_turn_from (suc place) moves (after_move move mesh)) valid in
        let next = one_move move mesh turns member each.0 typed.0 holds in
        all_moves (suc place) moves (after_move move mesh) (turns ++ fed_by move mesh) next.0 last each.1 typed.1 next.1 is
