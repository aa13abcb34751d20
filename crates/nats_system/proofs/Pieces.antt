-- The first piece that holds bytes.
use Rattle.std.specs.Prelude.{slice_index_or}
use Rattle.std.proofs.Common.{◌≡◌, ℕ, zero, suc, ◌+◌, ◌<◌, ◌≤◌, ◌==◌, true, false, List, [], ◌∷◌, ◌++◌, length, drop, ap, ◌∙◌, sym, refl, arith, length-append, eqb-true}
use Rattle.std.proofs.lemmas.Bool.{false≢true}
use Rattle.std.specs.List.{concat}
use Rattle.std.proofs.lemmas.List.{drop_all}

-- the bytes from one piece on are its own, and then those of the pieces behind it
from_piece : (xs : List (List ℕ)) (i : ℕ) (piece : List ℕ) → i < length xs → piece ≡ slice_index_or xs i piece
    → concat (drop i xs) ≡ piece ++ concat (drop (suc i) xs)
from_piece [] i piece inside is = absurd (omega arith)
from_piece (x ∷ xs) zero piece inside is = ap (λ (l : List ℕ). l ++ concat xs) (sym is)
from_piece (x ∷ xs) (suc i) piece inside is = from_piece xs i piece (omega arith) is

pub fits : (xs : List (List ℕ)) (i : ℕ) (piece : List ℕ) → i < length xs → piece ≡ slice_index_or xs i piece
    → concat (drop i xs) ≡ concat xs → length piece ≤ length (concat xs)
fits xs i piece inside is rest =
    omega (arith, length-append piece (concat (drop (suc i) xs)), ap length (from_piece xs i piece inside is), ap length rest)

bare : (piece more : List ℕ) → length piece ≡ 0 → piece ++ more ≡ more
bare [] more none = refl
bare (b ∷ piece) more none = absurd (omega arith)

-- an empty piece is passed over
pub passed : (xs : List (List ℕ)) (i next : ℕ) (piece : List ℕ) → next ≡ suc i → i < length xs
    → piece ≡ slice_index_or xs i piece → length piece ≡ 0 → concat (drop i xs) ≡ concat xs
    → concat (drop next xs) ≡ concat xs
passed xs i next piece after inside is none rest =
    ap (λ (n : ℕ). concat (drop n xs)) after
    ∙ (sym (from_piece xs i piece inside is ∙ bare piece (concat (drop (suc i) xs)) none) ∙ rest)

pub at_end : (xs : List (List ℕ)) (i : ℕ) → length xs ≤ i → concat (drop i xs) ≡ concat xs → concat xs ≡ []
at_end xs i end rest = sym rest ∙ ap concat (drop_all i xs end)

-- whether a piece holds bytes
pub some_in : (piece : List ℕ) → (length piece == 0) ≡ false → 0 < length piece
some_in [] is = absurd (false≢true (sym is))
some_in (b ∷ piece) is = omega arith

pub none_in : (piece : List ℕ) → (length piece == 0) ≡ true → length piece ≡ 0
none_in piece is = eqb-true (length piece) 0 is
