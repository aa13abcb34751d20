-- No message is told of a number that a peer's bytes do not ask for.
use Rattle.std.proofs.Common.{◌≡◌, ℕ, ◌<◌, ◌^◌, Bool, true, false, ◌||◌, ◌==◌, List, [], ◌∷◌, ◌++◌, length, map, Option, Some, None, refl, sym, ◌∙◌, ap, subst, arith, append-nil}
use Rattle.std.specs.Prelude.{if◌then◌else◌}
use Rattle.std.proofs.lemmas.Bool.{eqb-true}
use Rattle.nats_names.specs.Names.{is_token}
use Rattle.nats_message.specs.declared.message.Message.{Message}
use Rattle.nats_lines.specs.Operations.{message, info_op, behind, operations}
use Rattle.nats_lines.proofs.Reading.{operations_cut}
use Rattle.nats_broker_text.specs.declared.command.Command.{Command}
use Rattle.nats_broker_text.specs.declared.command.Command.TheVariants.{Subscribe, Unsubscribe, Publish, Ping, Pong, Connect}
use Rattle.nats_outboxes.specs.Outboxes.{item_of}
use Rattle.nats_broker.specs.Info.{info_text}
use Rattle.nats_broker.specs.Peers.{up_peer}
use Rattle.nats_broker.specs.declared.peer.Peer.{Peer}
use Rattle.nats_broker.specs.Playing.{new_broker, played}
use Rattle.nats_broker_laws.specs.Order.{commands_of, bytes_of, done_for, Follows, InOrder}
use Rattle.nats_server_text.specs.Law.{ReadBack}
use Rattle.nats_server_text.specs.Said.{Said, hello, told, unanswered, refused, pong, as_read, read_message, read_unanswered, read_hello}
use Rattle.nats_server_laws.specs.Waiting.{is_among, asked_numbers, AreAsked, ToldAsAsked}
use Rattle.nats_heard.specs.Heard.{message_in, messages_in}
use Rattle.nats_own_laws.specs.Own.{AreWithin, ToldOwn}

-- ---- numbers

first_within : (limit : ℕ) (some more : List ℕ) → AreWithin limit (some ++ more) → AreWithin limit some
first_within limit [] more are = tt
first_within limit (n ∷ some) more are = (are.0, first_within limit some more are.1)

numbers_both : (some more : List Command) → asked_numbers (some ++ more) ≡ asked_numbers some ++ asked_numbers more
numbers_both [] more = refl
numbers_both (Subscribe sid pattern group ∷ some) more = ap (λ ns. sid ∷ ns) (numbers_both some more)
numbers_both (Unsubscribe sid most ∷ some) more = numbers_both some more
numbers_both (Publish m size ∷ some) more = numbers_both some more
numbers_both (Ping ∷ some) more = numbers_both some more
numbers_both (Pong ∷ some) more = numbers_both some more
numbers_both (Connect wishes ∷ some) more = numbers_both some more

-- the commands that were done are among those of the bytes
done_within : (limit : ℕ) (done : List Command) (bytes : List ℕ) (peer : Option Peer) → Follows done bytes peer
    → AreWithin limit (asked_numbers (commands_of bytes)) → AreWithin limit (asked_numbers done)
done_within limit done bytes None follows are =
    first_within limit (asked_numbers done) (asked_numbers follows.0)
    (subst (AreWithin limit) (ap asked_numbers (sym follows.1) ∙ numbers_both done follows.0) are)
done_within limit done bytes (Some peer) follows are = subst (λ cs. AreWithin limit (asked_numbers cs)) (sym follows.0) are

not_among : (limit s : ℕ) (numbers : List ℕ) → AreWithin limit numbers → limit < s → is_among s numbers ≡ true → ⊥
not_among limit s [] are above is = cc
not_among limit s (n ∷ numbers) are above is = by (n == s) refl is (not_among limit s numbers are.1 above)
  where
    by : (b : Bool) → (n == s) ≡ b → (b || is_among s numbers) ≡ true → (is_among s numbers ≡ true → ⊥) → ⊥
    by true at is never = let same : n ≡ s = eqb-true n s at in omega (arith, same, are.0, above)
    by false at is never = never is

-- ---- messages

-- a message of another number
other_message : (s sid : ℕ) (m : Message) (numbers : List ℕ) → is_among sid numbers ≡ true → (is_among s numbers ≡ true → ⊥)
    → message_in s (message sid m) ≡ []
other_message s sid m numbers asked never = by (s == sid) refl
  where
    by : (b : Bool) → (s == sid) ≡ b → (if b then m ∷ [] else []) ≡ []
    by true at =
        let same : s ≡ sid = eqb-true s sid at in
        absurd (never (subst (λ n. is_among n numbers ≡ true) (sym same) asked))
    by false at = refl

none_said : (s : ℕ) (numbers : List ℕ) (all : List Said) → AreAsked numbers all → (is_among s numbers ≡ true → ⊥)
    → messages_in s (map as_read all) ≡ []
none_said s numbers [] are never = refl
none_said s numbers (hello id most ∷ all) are never = none_said s numbers all are.1 never
none_said s numbers (told sid subject respond headers payload ∷ all) are never =
    ap (λ ms. ms ++ messages_in s (map as_read all))
    (other_message s sid (read_message subject respond headers payload) numbers are.0 never)
    ∙ none_said s numbers all are.1 never
none_said s numbers (unanswered sid subject ∷ all) are never =
    ap (λ ms. ms ++ messages_in s (map as_read all)) (other_message s sid (read_unanswered subject) numbers are.0 never)
    ∙ none_said s numbers all are.1 never
none_said s numbers (refused why ∷ all) are never = none_said s numbers all are.1 never
none_said s numbers (pong ∷ all) are never = none_said s numbers all are.1 never

pub told_own : ToldAsAsked → InOrder → ReadBack → ToldOwn
told_own asks order reads info turns p limit s token small within above =
    let all = asks info turns p token small in
    let done = done_within limit (done_for p turns (new_broker info)) (bytes_of p 0 turns)
    (up_peer (item_of p (played turns (new_broker info)).peers)) (order info turns p) within in
    ap (λ text. messages_in s (operations text)) all.3 ∙ ap (messages_in s) (reads all.0 all.1).0
    ∙ none_said s (asked_numbers (done_for p turns (new_broker info))) all.0 all.2
    (not_among limit s (asked_numbers (done_for p turns (new_broker info))) done above)

-- ---- behind the first line

-- the broker's first line has no message, and nothing of it is left
pub behind_line : ReadBack → (s : ℕ) (id : List ℕ) (n : ℕ) (more : List ℕ) → is_token id ≡ true → n < 2 ^ 64
    → messages_in s (operations (info_text id n ++ more)) ≡ messages_in s (operations more)
behind_line reads s id n more token small =
    let line = info_text id n in
    let read = reads (hello id n ∷ []) ((token, small), tt) in
    let ops : operations line ≡ info_op (read_hello id n) ∷ []
    = ap operations (sym (append-nil line)) ∙ read.0 in
    let left : behind 1 line ≡ [] = ap (behind 1) (sym (append-nil line)) ∙ read.1 in
    ap (messages_in s) (operations_cut line more)
    ∙ ap (λ os. messages_in s (os ++ operations (behind (length os) line ++ more))) ops
    ∙ ap (λ rest. messages_in s (operations (rest ++ more))) left
