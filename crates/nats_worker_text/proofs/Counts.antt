-- Fewer words than three, and more, ask for no workers.
use Rattle.std.proofs.Common.{◌≡◌, ℕ, ◌<◌, ◌≤◌, List, [], ◌∷◌, length, map, None, refl, arith}
use Rattle.nats_worker_text.specs.Asked.{crew_asked}

pub fewer_none : {A : Type 0} (text : A → List ℕ) (words : List A) → length words < 3 → None ≡ crew_asked (map text words)
fewer_none text [] few = refl
fewer_none text (a ∷ []) few = refl
fewer_none text (a ∷ b ∷ []) few = refl
fewer_none text (a ∷ b ∷ c ∷ words) few = absurd (omega arith)

pub more_none : {A : Type 0} (text : A → List ℕ) (words : List A) → 4 ≤ length words → None ≡ crew_asked (map text words)
more_none text [] many = absurd (omega arith)
more_none text (a ∷ []) many = absurd (omega arith)
more_none text (a ∷ b ∷ []) many = absurd (omega arith)
more_none text (a ∷ b ∷ c ∷ []) many = absurd (omega arith)
more_none text (a ∷ b ∷ c ∷ d ∷ words) many = refl
