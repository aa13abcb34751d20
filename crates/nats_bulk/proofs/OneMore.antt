-- A sum over the rows before one, and that row's number, is the sum over the rows up to it.
use Rattle.std.proofs.Common.{◌≡◌, ◌+◌, ◌<◌, List, ℕ, length, take, slice_index_or, refl}
use Rattle.std.specs.List.{sum_by}
use Rattle.std.proofs.lemmas.List.Sums.{sum_by_more}

pub one_more : {X : Type 0} (f : X → ℕ) (rows : List X) (i : ℕ) (row : X) (sum : ℕ) → i < length rows
    → slice_index_or rows i row ≡ row → sum ≡ sum_by f (take i rows) → sum + f row ≡ sum_by f (take (i + 1) rows)
one_more f rows i row sum inside is so_far = rw (so_far, sum_by_more f rows i row inside, is) refl
