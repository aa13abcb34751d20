-- The lines of a script, one at a time.
use Rattle.std.proofs.Common.{◌≡◌, ℕ, suc, ◌+◌, List, [], ◌∷◌, ◌++◌, Option, Some, Result, Ok, Err, refl, sym, ap, ◌∙◌, append_assoc, add-one}
use Rattle.nats_history.specs.declared.turn.Turn.{Turn}
use Rattle.nats_spelling.specs.Cut.{lines_of, IsFirstLine}
use Rattle.nats_script.specs.Script.{onto_turns, turn_of_line, turns_from}

abbrev Read : Type 0
Read = Result (List Turn) ℕ

abbrev some : Turn → Option Turn
some turn = Some turn

-- turns before what is read of further lines
abbrev pub onto_read : List Turn → Result (List Turn) ℕ → Result (List Turn) ℕ
onto_read front (Ok more) = Ok (front ++ more)
onto_read front (Err line) = Err line

onto_read_turn : (front : List Turn) (k : ℕ) (turn : Turn) (rest : Read) → onto_read front (onto_turns k (Some turn) rest) ≡ onto_read (front ++ turn ∷ []) rest
onto_read_turn front k turn (Ok more) = ap (λ (x : List Turn). let r : Read = Ok x in r) (sym (append_assoc front (turn ∷ []) more))
onto_read_turn front k turn (Err line) = refl

first_of : (k : ℕ) (text line rest : List ℕ) → IsFirstLine text line rest
    → turns_from k (lines_of text) ≡ onto_turns k (turn_of_line line) (turns_from (suc k) (lines_of rest))
first_of k text line rest first = ap (turns_from k) first.lines

-- one more line was read
pub read_more : (total : Result (List Turn) ℕ) (front : List Turn) (k : ℕ) (text line rest : List ℕ) (turn : Turn) → IsFirstLine text line rest
    → some turn ≡ turn_of_line line → total ≡ onto_read front (turns_from k (lines_of text))
    → total ≡ onto_read (front ++ turn ∷ []) (turns_from (k + 1) (lines_of rest))
read_more total front k text line rest turn first is so_far =
    so_far ∙ ap (onto_read front) (first_of k text line rest first)
    ∙ ap (λ (t : Option Turn). onto_read front (onto_turns k t (turns_from (suc k) (lines_of rest)))) (sym is)
    ∙ onto_read_turn front k turn (turns_from (suc k) (lines_of rest))
    ∙ ap (λ (n : ℕ). onto_read (front ++ turn ∷ []) (turns_from n (lines_of rest))) (sym (add-one k))
