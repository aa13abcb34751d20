-- How a line begins and ends.
use Rattle.std.specs.Prelude.{ℕ, suc, List, [], ◌∷◌, ◌++◌}
use Rattle.std.specs.Fmt.{decimal}

-- the end of each line
abbrev pub lf : List ℕ
lf = 10 ∷ []

abbrev pub space : List ℕ
space = 32 ∷ []

-- a word and a number, as a line begins
abbrev pub opening : List ℕ → ℕ → List ℕ
opening word n = word ++ space ++ decimal n ++ space

-- a line that begins with a word and a number
abbrev pub placed : List ℕ → ℕ → List ℕ → List ℕ
placed word n text = opening word n ++ text ++ lf

-- the lines of rows by their numbers, the first of them this
abbrev pub numbered : {A : Type 0} → (ℕ → A → List ℕ) → ℕ → List A → List ℕ
numbered lines k [] = []
numbered lines k (row ∷ rows) = lines k row ++ numbered lines (suc k) rows
