-- The lines of a script, one at a time.
use Rattle.std.proofs.Common.{◌≡◌, ℕ, suc, ◌+◌, List, [], ◌∷◌, ◌++◌, Option, Some, Result, Ok, Err, refl, sym, ap, ◌∙◌, append_assoc, add-one}
use Rattle.nats_broker.specs.declared.turn.BrokerTurn.{BrokerTurn}
use Rattle.nats_spelling.specs.Cut.{lines_of, IsFirstLine}
use Rattle.nats_route_script.specs.Script.{onto_turns, turn_of_line, turns_from}

abbrev Read : Type 0
Read = Result (List BrokerTurn) ℕ

abbrev some : BrokerTurn → Option BrokerTurn
some turn = Some turn

-- turns before what is read of further lines
abbrev pub onto_read : List BrokerTurn → Result (List BrokerTurn) ℕ → Result (List BrokerTurn) ℕ
onto_read front (Ok more) = Ok (front ++ more)
onto_read front (Err line) = Err line

onto_read_turn : (front : List BrokerTurn) (k : ℕ) (turn : BrokerTurn) (rest : Read) → onto_read front (onto_turns k (Some turn) rest) ≡ onto_read (front ++ turn ∷ []) rest
onto_read_turn front k turn (Ok more) = ap (λ (x : List BrokerTurn). let r : Read = Ok x in r) (sym (append_assoc front (turn ∷ []) more))
onto_read_turn front k turn (Err line) = refl

first_of : (k : ℕ) (text line rest : List ℕ) → IsFirstLine text line rest
    → turns_from k (lines_of text) ≡ onto_turns k (turn_of_line line) (turns_from (suc k) (lines_of rest))
first_of k text line rest first = ap (turns_from k) first.lines

-- one more line was read
pub read_more : (total : Result (List BrokerTurn) ℕ) (front : List BrokerTurn) (k : ℕ) (text line rest : List ℕ) (turn : BrokerTurn) → IsFirstLine text line rest
    → some turn ≡ turn_of_line line → total ≡ onto_read front (turns_from k (lines_of text))
    → total ≡ onto_read (front ++ turn ∷ []) (turns_from (k + 1) (lines_of rest))
read_more total front k text line rest turn first is so_far =
    so_far ∙ ap (onto_read front) (first_of k text line rest first)
    ∙ ap (λ (t : Option BrokerTurn). onto_read front (onto_turns k t (turns_from (suc k) (lines_of rest)))) (sym is)
    ∙ onto_read_turn front k turn (turns_from (suc k) (lines_of rest))
    ∙ ap (λ (n : ℕ). onto_read (front ++ turn ∷ []) (turns_from n (lines_of rest))) (sym (add-one k))
