-- Messages of a number come only once its subscribe was handled, where what is read was told so.
use Rattle.std.proofs.Common.{◌≡◌, ℕ, zero, suc, ◌≤◌, Bool, true, false, ◌&&◌, cond, List, [], ◌∷◌, ◌++◌, length, Option, Some, None, ◌⊎◌, inl, inr, refl, sym, ◌∙◌, ap, append_assoc, subst, arith}
use Rattle.std.specs.Prelude.{nat_lt, slice_get, if◌then◌else◌}
use Rattle.std.proofs.lemmas.Bool.{false≢true, eq-eqb, ltb-true, ltb-false}
use Rattle.nats_message.specs.declared.message.Message.{Message}
use Rattle.nats_lines.specs.Operations.{Operation, message, Front, front, got, unfinished, fault, behind, operations}
use Rattle.nats_lines.proofs.Reading.{operation_at, operations_cut}
use Rattle.nats_tables.specs.Numbers.{is_about, named}
use Rattle.nats_history.specs.declared.config.Config.{Config}
use Rattle.nats_history.specs.declared.call.Call.{Call}
use Rattle.nats_history.specs.declared.stage.Stage.{Stage}
use Rattle.nats_history.specs.declared.stage.Stage.TheVariants.{Asked, Open, Ended}
use Rattle.nats_history.specs.declared.transcript.LinkWord.TheVariants as word
use Rattle.nats_history.specs.declared.turn.Turn.{Turn}
use Rattle.nats_history.specs.declared.turn.Turn.TheVariants.{Up, Piece, Write, Take}
use Rattle.nats_history.specs.History.{Step, opened, fed, read, handled, link_end, History, subscribes, names, At, next_subscribed, about, is_given, at_after, at_of, concerns, Told, told, told_after, sub_of, ends, opens, open_if, end_if, is_up, reads, joined}
use Rattle.nats_history.specs.Parts.{parts_of}
use Rattle.nats_history.specs.Schedule.{followers, chain, own_steps, due_call, due_by, due, put_steps, most_due, write_limit, settled_within, settled, after_turn}
use Rattle.nats_history.proofs.Words.{reads_are_there}
use Rattle.nats_heard.specs.Heard.{message_in, messages_in, is_asked, ComesBegun, ComeBegun, NoneUp}
use Rattle.nats_heard.proofs.Places.{begun_stays}
use Rattle.nats_heard.proofs.Reading.{is_mild, mild_passes, followers_mild, messages_both}
use Rattle.nats_heard.proofs.Steps.{AreAll, own_all}

-- ---- a subscription whose subscribe was handled

-- one that began stays so
pub stage_stays : (c : Config) (s place : ℕ) (step : Step) (h : History) → is_asked (told c s h).stage ≡ false
    → is_asked (told c s ((place, step) ∷ h)).stage ≡ false
stage_stays c s place step h begun = by (concerns s (at_of h) step)
  where
    t : Told
    t = told c s h

    by : (b : Bool) → is_asked (cond b (told_after c place step t) t).stage ≡ false
    by true = begun_stays (ends c (sub_of t) step) (opens step) t.stage begun
    by false = begun

begun_new : (a b : Bool) (stage : Stage) → b ≡ true → is_asked (end_if a (open_if b stage)) ≡ false
begun_new a false stage opens = absurd (false≢true opens)
begun_new true true Asked opens = refl
begun_new false true Asked opens = refl
begun_new true true Open opens = refl
begun_new false true Open opens = refl
begun_new true true Ended opens = refl
begun_new false true Ended opens = refl

-- the subscribe of number s is handled
handled_begun : (c : Config) (s place : ℕ) (call : Call) (h : History) → subscribes call ≡ true → nat_lt (at_of h).subscribed (at_of h).given ≡ true
    → s ≡ suc (at_of h).subscribed → is_asked (told c s ((place, handled call) ∷ h)).stage ≡ false
handled_begun c s place call h asks room is =
    ap (λ b. is_asked (cond b (told_after c place (handled call) t) t).stage) concerned
    ∙ begun_new (ends c (sub_of t) (handled call)) (opens (handled call)) t.stage asks
  where
    t : Told
    t = told c s h

    at : At
    at = at_of h

    about_it : is_about s (about at (handled call)) ≡ true
    about_it = ap (λ b. is_about s (if b then named (next_subscribed at) else named (names call))) asks
        ∙ ap (λ b. is_about s (named (if b then Some (suc at.subscribed) else None))) room
        ∙ eq-eqb s (suc at.subscribed) is

    given_it : is_given s (at_after (handled call) at) ≡ true
    given_it = ap (λ n. is_given n (at_after (handled call) at)) is ∙ room

    concerned : concerns s at (handled call) ≡ true
    concerned = ap (λ b. b && is_given s (at_after (handled call) at)) about_it ∙ given_it

up_to : (s n : ℕ) → s ≤ suc n → (s ≤ n) ⊎ (s ≡ suc n)
up_to s n up = by (nat_lt s (suc n)) refl
  where
    by : (b : Bool) → nat_lt s (suc n) ≡ b → (s ≤ n) ⊎ (s ≡ suc n)
    by true is = let less = ltb-true s (suc n) is in inl (omega (arith, less))
    by false is = let past = ltb-false s (suc n) is in inr (omega (arith, past, up))

pub subscribed_begun : (c : Config) (s : ℕ) (h : History) → 1 ≤ s → s ≤ (at_of h).subscribed → is_asked (told c s h).stage ≡ false
subscribed_begun c s [] low high = absurd (omega (arith, low, high))
subscribed_begun c s ((place, handled call) ∷ h) low high =
    by (subscribes call) (nat_lt (at_of h).subscribed (at_of h).given) refl refl high (subscribed_begun c s h low)
  where
    sub : ℕ
    sub = (at_of h).subscribed

    at_last : (s ≤ sub → is_asked (told c s h).stage ≡ false) → subscribes call ≡ true → nat_lt sub (at_of h).given ≡ true
        → (s ≤ sub) ⊎ (s ≡ suc sub) → is_asked (told c s ((place, handled call) ∷ h)).stage ≡ false
    at_last before asks room (inl earlier) = stage_stays c s place (handled call) h (before earlier)
    at_last before asks room (inr now) = handled_begun c s place call h asks room now

    by : (asks room : Bool) → subscribes call ≡ asks → nat_lt sub (at_of h).given ≡ room
        → s ≤ (if asks && room then suc sub else sub) → (s ≤ sub → is_asked (told c s h).stage ≡ false)
        → is_asked (told c s ((place, handled call) ∷ h)).stage ≡ false
    by true true asks room up before = at_last before asks room (up_to s sub up)
    by true false asks room up before = stage_stays c s place (handled call) h (before up)
    by false room_there asks room up before = stage_stays c s place (handled call) h (before up)
subscribed_begun c s ((place, step) ∷ h) low high = stage_stays c s place step h (subscribed_begun c s h low high)

-- ---- what is read of a text

none_first : {A : Type 0} (some more : List A) → some ++ more ≡ [] → some ≡ []
none_first [] more is = refl
none_first (x ∷ some) more is = cc

none_behind : {A : Type 0} (some more : List A) → some ++ more ≡ [] → more ≡ []
none_behind [] more is = is
none_behind (x ∷ some) more is = cc

-- a text that has no message of a number has it nowhere
none_there : (s k : ℕ) (ops : List Operation) (m : Message) → slice_get ops k ≡ Some (message s m) → messages_in s ops ≡ [] → ⊥
none_there s k [] m at none = cc
none_there s zero (op ∷ ops) m at none =
    let same : op ≡ message s m = cc in
    let first : message_in s op ≡ [] = none_first (message_in s op) (messages_in s ops) none in
    let there : message_in s (message s m) ≡ m ∷ [] = ap (λ b. if b then m ∷ [] else []) (eq-eqb s s refl) in
    let clash : m ∷ [] ≡ [] = sym there ∙ ap (message_in s) (sym same) ∙ first in cc
none_there s (suc k) (op ∷ ops) m at none = none_there s k ops m at (none_behind (message_in s op) (messages_in s ops) none)

module _ (c : Config) (s place : ℕ) (all rest : List ℕ) where
  -- bytes that joined are the first of a text that has messages of the number only where its subscribe was handled
  record Comes (h : History) : Type 0 where
    joined_are : all ≡ joined h ++ rest
    come : ComeBegun c s h
    begun : (is_asked (told c s h).stage ≡ false) ⊎ (messages_in s (operations all) ≡ [])

  still_begun : (step : Step) (h : History) → (is_asked (told c s h).stage ≡ false) ⊎ (messages_in s (operations all) ≡ [])
      → (is_asked (told c s ((place, step) ∷ h)).stage ≡ false) ⊎ (messages_in s (operations all) ≡ [])
  still_begun step h (inl begun) = inl (stage_stays c s place step h begun)
  still_begun step h (inr none) = inr none

  mild_comes : (step : Step) (h : History) → is_mild step ≡ true → Comes h → Comes ((place, step) ∷ h)
  mild_comes (opened info) h mild comes = absurd (false≢true mild)
  mild_comes (fed bytes) h mild comes = absurd (false≢true mild)
  mild_comes (read operation) h mild comes = absurd (false≢true mild)
  mild_comes step h mild comes = record { joined_are = comes.joined_are; come = (tt, comes.come); begun = still_begun step h comes.begun }

  all_comes : (steps : List Step) (h : History) → AreAll is_mild steps → Comes h → Comes (put_steps place steps h)
  all_comes [] h mild comes = comes
  all_comes (step ∷ steps) h mild comes = all_comes steps ((place, step) ∷ h) mild.1 (mild_comes step h mild.0 comes)

  -- an operation that is read
  may_read : (operation : Operation) (n : ℕ) (h : History) → front (behind (reads h) (joined h)) ≡ got operation n → Comes h
      → ComesBegun c s h (read operation)
  may_read (message sid m) n h stands comes = λ same. by same comes.begun
    where
      more : List Operation
      more = operations (behind (length (operations (joined h))) (joined h) ++ rest)

      by : s ≡ sid → (is_asked (told c s h).stage ≡ false) ⊎ (messages_in s (operations all) ≡ []) → is_asked (told c s h).stage ≡ false
      by same (inl begun) = begun
      by same (inr none) =
          let at = operation_at (reads h) (joined h) (message sid m) n (reads_are_there h) stands in
          let parts : messages_in s (operations (joined h)) ++ messages_in s more ≡ [] =
          sym (messages_both s (operations (joined h)) more) ∙ ap (messages_in s) (sym (operations_cut (joined h) rest))
          ∙ ap (λ text. messages_in s (operations text)) (sym comes.joined_are) ∙ none in
          absurd (none_there s (reads h) (operations (joined h)) m
          (subst (λ k. slice_get (operations (joined h)) (reads h) ≡ Some (message k m)) (sym same) at)
          (none_first (messages_in s (operations (joined h))) (messages_in s more) parts))
  may_read operation n h stands comes = tt

  read_comes : (operation : Operation) (n : ℕ) (h : History) → front (behind (reads h) (joined h)) ≡ got operation n → Comes h
      → Comes ((place, read operation) ∷ h)
  read_comes operation n h stands comes = record {
    joined_are = comes.joined_are;
    come = (may_read operation n h stands comes, comes.come);
    begun = still_begun (read operation) h comes.begun;
  }

  due_comes : (step : Step) (h : History) → Some step ≡ due (parts_of c h) → Comes h → Comes ((place, step) ∷ h)
  due_comes step h is comes = by_up (is_up h) is
    where
      alike : (other : Step) → step ≡ other → Comes ((place, other) ∷ h) → Comes ((place, step) ∷ h)
      alike other same later = subst (λ (s : Step). Comes ((place, s) ∷ h)) (sym same) later

      by_call : (b : Bool) (calls : List Call) → Some step ≡ due_call b calls → Comes ((place, step) ∷ h)
      by_call true [] e = cc
      by_call true (call ∷ more) e = let same : step ≡ handled call = cc in alike (handled call) same (mild_comes (handled call) h refl comes)
      by_call false calls e = cc

      by_front : (found : Front) → front (behind (reads h) (joined h)) ≡ found → Some step ≡ due_by found (parts_of c h) → Comes ((place, step) ∷ h)
      by_front (got operation n) stands e = let same : step ≡ read operation = cc in alike (read operation) same (read_comes operation n h stands comes)
      by_front (fault n) stands e =
          let same : step ≡ link_end word.Fault = cc in alike (link_end word.Fault) same (mild_comes (link_end word.Fault) h refl comes)
      by_front unfinished stands e = by_call (nat_lt (length (parts_of c h).link.wire.waiting) write_limit) (parts_of c h).calls e

      by_up : (up : Bool) → Some step ≡ (if up then due_by (front (if up then behind (reads h) (joined h) else [])) (parts_of c h) else None)
          → Comes ((place, step) ∷ h)
      by_up true e = by_front (front (behind (reads h) (joined h))) refl e
      by_up false e = cc

  within_comes : (most : ℕ) (next : Option Step) (h : History) → next ≡ due (parts_of c h) → Comes h → Comes (settled_within c place most next h)
  within_comes most None h is comes = comes
  within_comes zero (Some step) h is comes = comes
  within_comes (suc most) (Some step) h is comes =
      let more = put_steps place (chain (parts_of c h) step) h in
      within_comes most (due (parts_of c more)) more refl
      (all_comes (followers (parts_of c h) step) ((place, step) ∷ h) (followers_mild (parts_of c h) step) (due_comes step h is comes))

  settled_comes : (h : History) → Comes h → Comes (settled c place h)
  settled_comes h comes = within_comes (most_due (parts_of c h)) (due (parts_of c h)) h refl comes

-- the bytes that a turn gives
abbrev pub piece_of : Turn → List ℕ
piece_of (Piece bytes) = bytes
piece_of turn = []

fed_comes : (c : Config) (s place : ℕ) (all rest bytes : List ℕ) (h : History) → Comes c s place all (bytes ++ rest) h
    → Comes c s place all rest ((place, fed bytes) ∷ h)
fed_comes c s place all rest bytes h comes = record {
  joined_are = comes.joined_are ∙ sym (append_assoc (joined h) bytes rest);
  come = (tt, comes.come);
  begun = still_begun c s place all rest (fed bytes) h comes.begun;
}

-- a turn by which no link comes up, where the bytes that it gives are the next of the text
own_comes : (c : Config) (s place : ℕ) (all rest : List ℕ) (turn : Turn) (turns : List Turn) (h : History) → NoneUp (turn ∷ turns)
    → Comes c s place all (piece_of turn ++ rest) h → Comes c s place all rest (put_steps place (own_steps (parts_of c h) turn) h)
own_comes c s place all rest (Up info) turns h none comes = absurd none
own_comes c s place all rest (Piece bytes) turns h none comes =
    all_comes c s place all rest (followers (parts_of c h) (fed bytes)) ((place, fed bytes) ∷ h) (followers_mild (parts_of c h) (fed bytes))
    (fed_comes c s place all rest bytes h comes)
own_comes c s place all rest (Write n) turns h none comes =
    all_comes c s place all rest (own_steps (parts_of c h) (Write n)) h (own_all is_mild mild_passes (parts_of c h) (Write n) (λ m. refl)) comes
own_comes c s place all rest (Take sid) turns h none comes =
    all_comes c s place all rest (own_steps (parts_of c h) (Take sid)) h (own_all is_mild mild_passes (parts_of c h) (Take sid) refl) comes
own_comes c s place all rest turn turns h none comes =
    all_comes c s place all rest (own_steps (parts_of c h) turn) h (own_all is_mild mild_passes (parts_of c h) turn tt) comes

pub turn_comes : (c : Config) (s place : ℕ) (all rest : List ℕ) (turn : Turn) (turns : List Turn) (h : History) → NoneUp (turn ∷ turns)
    → all ≡ joined h ++ (piece_of turn ++ rest) → ComeBegun c s h
    → (is_asked (told c s h).stage ≡ false) ⊎ (messages_in s (operations all) ≡ [])
    → ComeBegun c s (after_turn c place turn h) × (all ≡ joined (after_turn c place turn h) ++ rest)
turn_comes c s place all rest turn turns h none are come begun =
    let own = own_comes c s place all rest turn turns h none (record { joined_are = are; come = come; begun = begun }) in
    let after = settled_comes c s place all rest (put_steps place (own_steps (parts_of c h) turn) h) own in
    (after.come, after.joined_are)
