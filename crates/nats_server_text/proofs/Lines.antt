-- A line of a server's text, as it is seen.
use Rattle.std.proofs.Common.{◌≡◌, ℕ, List, ◌∷◌, ◌++◌, Some, sym, ◌∙◌}
use Rattle.nats_lines.specs.Operations.{Sight, sight, sight_of_word, word_of}
use Rattle.nats_lines.proofs.Fronts.{sight_by_cut}
use Rattle.nats_server_text.proofs.Cuts.{NoReturn, cut_clean}

-- what is seen at a line, by what its word makes of it
pub line_seen : (line rest : List ℕ) (seen : Sight) → NoReturn line → sight_of_word (word_of line) line rest ≡ seen
    → sight (line ++ 13 ∷ 10 ∷ rest) ≡ seen
line_seen line rest seen clean is =
    sight_by_cut (line ++ 13 ∷ 10 ∷ rest) (Some (record { line = line; rest = rest })) (sym (cut_clean line rest clean)) ∙ is
