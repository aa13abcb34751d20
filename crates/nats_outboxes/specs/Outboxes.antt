-- The texts that wait, by peer.
use Rattle.std.specs.Prelude.{ℕ, zero, suc, ◌-◌, List, [], ◌∷◌, ◌++◌, length, take, fold, slice_get, Option, None}
use Rattle.nats_outboxes.specs.declared.outboxes.Letter.{Letter}

-- the item of a number, which counts from 1
abbrev pub item_of : {A : Type 0} → ℕ → List A → Option A
item_of zero xs = None
item_of (suc i) xs = slice_get xs i

abbrev pub at_index : {A : Type 0} → ℕ → (A → A) → List A → List A
at_index i f [] = []
at_index zero f (x ∷ xs) = f x ∷ xs
at_index (suc i) f (x ∷ xs) = x ∷ at_index i f xs

-- the item of a number is changed, where there is one
abbrev pub at_number : {A : Type 0} → ℕ → (A → A) → List A → List A
at_number zero f xs = xs
at_number (suc i) f xs = at_index i f xs

abbrev pub grown : List ℕ → List ℕ → List ℕ
grown text out = out ++ text

abbrev pub shortened : ℕ → List ℕ → List ℕ
shortened n out = take (length out - n) out

abbrev pub said : List (List ℕ) → Letter → List (List ℕ)
said outs letter = at_number letter.peer (grown letter.text) outs

-- all are told
abbrev pub all_said : List Letter → List (List ℕ) → List (List ℕ)
all_said letters outs = fold said outs letters
