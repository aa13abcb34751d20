-- Fewer events wait once one is handed out.
use Rattle.std.proofs.Common.{◌≡◌, ℕ, ◌<◌, List, [], ◌∷◌, length, drop, Option, Some, None, refl, arith}
use Rattle.nats_history.specs.Queue.{first}

pub fewer : {A : Type 0} (xs : List A) (x : A) → first xs ≡ Some x → length (drop 1 xs) < length xs
fewer [] x is = cc
fewer (y ∷ ys) x is = omega arith
