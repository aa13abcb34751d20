-- Pieces joined one after another.
use Rattle.std.proofs.Common.{◌≡◌, ◌∙◌, ap, ℕ, ◌+◌, ◌<◌, List, [], ◌∷◌, ◌++◌, length, take, get_or}
use Rattle.std.specs.List.{concat}
use Rattle.std.proofs.lemmas.List.{take_more, append-nil}
use Rattle.std.proofs.lemmas.List.Folds.{concat-append}

-- one piece more
pub concat_more : (pieces : List (List ℕ)) (i : ℕ) (d : List ℕ) → i < length pieces
    → concat (take (i + 1) pieces) ≡ concat (take i pieces) ++ get_or pieces i d
concat_more pieces i d within =
    ap concat (take_more pieces i d within) ∙ concat-append (take i pieces) (get_or pieces i d ∷ [])
    ∙ ap (λ (bytes : List ℕ). concat (take i pieces) ++ bytes) (append-nil (get_or pieces i d))
