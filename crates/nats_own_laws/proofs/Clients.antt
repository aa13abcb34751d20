-- One client, turn by turn: what it read and took, beside what the broker told it and was fed of it.
use Rattle.std.proofs.Common.{◌≡◌, ℕ, ◌+◌, ◌<◌, ◌≤◌, Bool, true, false, List, [], ◌∷◌, ◌++◌, length, take, drop, ◌⊎◌, inl, inr, refl, sym, ◌∙◌, ap, subst, arith, append_assoc, append-nil, take-append-drop, length-append}
use Rattle.std.specs.Prelude.{nat_lt, if◌then◌else◌}
use Rattle.std.proofs.lemmas.Bool.{ltb-true, ltb-false}
use Rattle.nats_message.specs.declared.message.Message.{Message}
use Rattle.nats_info.specs.declared.info.ServerInfo.{ServerInfo}
use Rattle.nats_lines.specs.Operations.{behind, operations}
use Rattle.nats_lines.proofs.Reading.{operations_cut}
use Rattle.nats_history.specs.declared.config.Config.{Config}
use Rattle.nats_history.specs.declared.turn.Turn.{Turn}
use Rattle.nats_history.specs.declared.turn.Turn.TheVariants.{Up, Write}
use Rattle.nats_history.specs.History.{is_up, joined, at_of, told as told_of, link_text, taken_count, waiting_bytes}
use Rattle.nats_history.specs.Schedule.{after_turn, steps}
use Rattle.nats_link_text.specs.Typed.{IsTypedConfig, IsTypedTurn, AreTypedTurns}
use Rattle.nats_broker_laws.specs.Order.{commands_of}
use Rattle.nats_server_laws.specs.Waiting.{asked_numbers}
use Rattle.nats_heard.specs.Heard.{is_asked, ComeBegun, by_place, heard, messages_read, messages_in, NoneUp}
use Rattle.nats_heard.proofs.Begun.{piece_of, subscribed_begun, turn_comes}
use Rattle.nats_heard.proofs.Places.{heard_by_place}
use Rattle.nats_heard.proofs.Prefixes.{prefix_heard}
use Rattle.nats_heard.proofs.Reading.{messages_both, read_of_joined}
use Rattle.nats_heard.proofs.Taken.{taken_by, turn_took}
use Rattle.nats_own_laws.specs.Own.{AreWithin, AreFirst, OwnNumbers}
use Rattle.nats_own_laws.proofs.Lists.{one_more, none_more, typed_more}
use Rattle.nats_own_laws.proofs.Numbers.{turn_grows}

up_within : (limit higher : ℕ) (numbers : List ℕ) → limit ≤ higher → AreWithin limit numbers → AreWithin higher numbers
up_within limit higher [] up are = tt
up_within limit higher (n ∷ numbers) up are = (omega (arith, up, are.0), up_within limit higher numbers up are.1)

-- a client's turns beside all the bytes that its peer was fed and those that it was told: it read the first of what it
-- was told, its peer was fed the first of what its link carries, and no message of a number came before its subscribe
-- was handled
pub record Goes (c : Config) (s : ℕ) (turns : List Turn) (fed told : List ℕ) (brought : ℕ) : Type 0 where
  pub info : ServerInfo
  pub others : List Turn
  pub turns_are : turns ≡ Up info ∷ others
  pub none_up : NoneUp others
  pub typed : AreTypedTurns turns
  pub left : List ℕ
  pub brought_is : brought ≡ length (joined (steps c turns))
  pub told_is : told ≡ joined (steps c turns) ++ left
  pub fed_is : fed ≡ take (taken_count c (steps c turns)) (link_text c (steps c turns))
  pub within : AreWithin (at_of (steps c turns)).subscribed (asked_numbers (commands_of fed))
  pub come : ComeBegun c s (steps c turns)

-- it is told more
pub told_more : (c : Config) (s : ℕ) (turns : List Turn) (fed told more : List ℕ) (brought : ℕ) → Goes c s turns fed told brought
    → Goes c s turns fed (told ++ more) brought
told_more c s turns fed told more brought goes = record {
  info = goes.info;
  others = goes.others;
  turns_are = goes.turns_are;
  none_up = goes.none_up;
  typed = goes.typed;
  left = goes.left ++ more;
  brought_is = goes.brought_is;
  told_is = ap (λ text. text ++ more) goes.told_is ∙ append_assoc (joined (steps c turns)) goes.left more;
  fed_is = goes.fed_is;
  within = goes.within;
  come = goes.come;
}

-- a turn that writes is one by which bytes are taken
abbrev pub MayTake : Config → List Turn → Turn → Type 0
MayTake c turns (Write n) = is_up (steps c turns) ≡ true
MayTake c turns turn = Unit {0}

taken_text : (n taken : ℕ) (text : List ℕ) (up : Bool) → up ≡ true
    → text ≡ (take taken text ++ take n (if up then drop taken text else [])) ++ drop n (drop taken text)
taken_text n taken text true up =
    sym (take-append-drop taken text) ∙ ap (λ xs. take taken text ++ xs) (sym (take-append-drop n (drop taken text)))
    ∙ sym (append_assoc (take taken text) (take n (drop taken text)) (drop n (drop taken text)))
taken_text n taken text false up = cc

more_brought : (brought before left piece rest all after : ℕ) → brought ≡ before → all ≡ before + left → left ≡ piece + rest → all ≡ after + rest
    → brought + piece ≡ after
more_brought brought before left piece rest all after is told parts later = omega (arith, is, told, parts, later)

module _ (c : Config) (s : ℕ) (tested : c.skip_subject_validation ≡ false) (config : IsTypedConfig c) (numbers : OwnNumbers) where
  -- what a write takes is asked for under numbers that were subscribed
  write_within : (turns : List Turn) (fed told : List ℕ) (brought n : ℕ) → is_up (steps c turns) ≡ true → Goes c s turns fed told brought
      → AreWithin (at_of (steps c turns)).subscribed (asked_numbers (commands_of (fed ++ take n (waiting_bytes c (steps c turns)))))
  write_within turns fed told brought n up goes =
      let h = steps c turns in
      let text : link_text c h ≡ (fed ++ take n (waiting_bytes c h)) ++ drop n (drop (taken_count c h) (link_text c h))
      = taken_text n (taken_count c h) (link_text c h) (is_up h) up
      ∙ ap (λ xs. (xs ++ take n (waiting_bytes c h)) ++ drop n (drop (taken_count c h) (link_text c h))) (sym goes.fed_is) in
      by turns (fed ++ take n (waiting_bytes c h)) (drop n (drop (taken_count c h) (link_text c h))) goes.turns_are goes.typed up text
    where
      by : (all : List Turn) (some more : List ℕ) → all ≡ Up goes.info ∷ goes.others → AreTypedTurns all → is_up (steps c all) ≡ true
          → link_text c (steps c all) ≡ some ++ more → AreWithin (at_of (steps c all)).subscribed (asked_numbers (commands_of some))
      by all some more are typed up text =
          subst (λ ts. AreWithin (at_of (steps c ts)).subscribed (asked_numbers (commands_of some))) (sym are)
          (numbers c goes.info goes.others some more tested config (subst AreTypedTurns are typed) goes.none_up
          (subst (λ ts. is_up (steps c ts) ≡ true) are up) (subst (λ ts. link_text c (steps c ts) ≡ some ++ more) are text))

  taken_within : (turns : List Turn) (fed told : List ℕ) (brought : ℕ) (turn : Turn) → MayTake c turns turn → Goes c s turns fed told brought
      → AreWithin (at_of (steps c turns)).subscribed (asked_numbers (commands_of (fed ++ taken_by c (steps c turns) turn)))
  taken_within turns fed told brought (Write n) may goes = write_within turns fed told brought n may goes
  taken_within turns fed told brought turn may goes =
      subst (λ text. AreWithin (at_of (steps c turns)).subscribed (asked_numbers (commands_of text))) (sym (append-nil fed)) goes.within

  -- either the subscribe of the number was handled, or no message of it was told
  begun_or_none : (turns : List Turn) (told : List ℕ) → 1 ≤ s
      → ((at_of (steps c turns)).subscribed < s → messages_in s (operations told) ≡ [])
      → (is_asked (told_of c s (steps c turns)).stage ≡ false) ⊎ (messages_in s (operations told) ≡ [])
  begun_or_none turns told low none = by (nat_lt (at_of (steps c turns)).subscribed s) refl
    where
      by : (b : Bool) → nat_lt (at_of (steps c turns)).subscribed s ≡ b
          → (is_asked (told_of c s (steps c turns)).stage ≡ false) ⊎ (messages_in s (operations told) ≡ [])
      by true at = inr (none (ltb-true (at_of (steps c turns)).subscribed s at))
      by false at =
          let high : s ≤ (at_of (steps c turns)).subscribed = omega (arith, ltb-false (at_of (steps c turns)).subscribed s at) in
          inl (subscribed_begun c s (steps c turns) low high)

  -- one turn more by which no link comes up, where the bytes that it gives are the next of what the client was told
  pub goes_on : (turns : List Turn) (turn : Turn) (fed told rest : List ℕ) (brought : ℕ) → 1 ≤ s → NoneUp (turn ∷ []) → IsTypedTurn turn → MayTake c turns turn
      → ((at_of (steps c turns)).subscribed < s → messages_in s (operations told) ≡ []) → (goes : Goes c s turns fed told brought)
      → goes.left ≡ piece_of turn ++ rest
      → Goes c s (turns ++ turn ∷ []) (fed ++ taken_by c (steps c turns) turn) told (brought + length (piece_of turn))
  goes_on turns turn fed told rest brought low none typed may nothing goes pieces =
      let h = steps c turns in
      let place = 1 + length turns in
      let comes = turn_comes c s place told rest turn [] h none (goes.told_is ∙ ap (λ text. joined h ++ text) pieces) goes.come
      (begun_or_none turns told low nothing) in
      let more : steps c (turns ++ turn ∷ []) ≡ after_turn c place turn h = one_more c turns turn in
      record {
        info = goes.info;
        others = goes.others ++ turn ∷ [];
        turns_are = ap (λ ts. ts ++ turn ∷ []) goes.turns_are;
        none_up = none_more goes.others turn goes.none_up none;
        typed = typed_more turns turn goes.typed typed;
        left = rest;
        brought_is = more_brought brought (length (joined h)) (length goes.left) (length (piece_of turn)) (length rest) (length told)
            (length (joined (after_turn c place turn h))) goes.brought_is (ap length goes.told_is ∙ length-append (joined h) goes.left)
            (ap length pieces ∙ length-append (piece_of turn) rest) (ap length comes.1 ∙ length-append (joined (after_turn c place turn h)) rest)
            ∙ ap (λ x. length (joined x)) (sym more);
        told_is = comes.1 ∙ ap (λ x. joined x ++ rest) (sym more);
        fed_is = turn_took c place fed turn [] h none goes.fed_is ∙ ap (λ x. take (taken_count c x) (link_text c x)) (sym more);
        within = subst (λ x. AreWithin (at_of x).subscribed (asked_numbers (commands_of (fed ++ taken_by c h turn)))) (sym more)
            (up_within (at_of h).subscribed (at_of (after_turn c place turn h)).subscribed (asked_numbers (commands_of (fed ++ taken_by c h turn)))
            (turn_grows c place turn [] h none) (taken_within turns fed told brought turn may goes));
        come = subst (ComeBegun c s) (sym more) comes.0;
      }

first_of_all : (some read whole all one two later : List Message) → read ≡ some ++ one → whole ≡ read ++ two → all ≡ whole ++ later
    → AreFirst some all
first_of_all some read whole all one two later first second third = (
  one ++ (two ++ later),
  third ∙ ap (λ ms. ms ++ later) (second ∙ ap (λ ms. ms ++ two) first) ∙ append_assoc (some ++ one) two later
      ∙ append_assoc some one (two ++ later),
)

-- what was put and dropped is the beginning of what was told
pub goes_heard : (c : Config) (s : ℕ) (turns : List Turn) (fed text : List ℕ) (brought : ℕ) → Goes c s turns fed text brought
    → AreFirst (by_place (told_of c s (steps c turns)).puts (told_of c s (steps c turns)).drops) (messages_in s (operations text))
goes_heard c s turns fed text brought goes =
    let h = steps c turns in
    let prefix = prefix_heard c s h goes.come in
    let read : (rest : List Message) × (messages_in s (operations (joined h)) ≡ messages_read s h ++ rest)
    = subst (λ ts. (rest : List Message) × (messages_in s (operations (joined (steps c ts))) ≡ messages_read s (steps c ts) ++ rest))
    (sym goes.turns_are) (read_of_joined c s goes.info goes.others goes.none_up) in
    let more = operations (behind (length (operations (joined h))) (joined h) ++ goes.left) in
    subst (λ ms. AreFirst ms (messages_in s (operations text))) (sym (heard_by_place c s turns))
    (first_of_all (heard c s h) (messages_read s h) (messages_in s (operations (joined h))) (messages_in s (operations text)) prefix.0 read.0
    (messages_in s more) prefix.1 read.1
    (ap (λ bytes. messages_in s (operations bytes)) goes.told_is ∙ ap (messages_in s) (operations_cut (joined h) goes.left)
    ∙ messages_both s (operations (joined h)) more))
