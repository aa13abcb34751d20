-- The last item of a list is that at its last place.
use Rattle.std.proofs.Common.{◌≡◌, ℕ, zero, suc, ◌-◌, ◌<◌, List, [], ◌∷◌, length, get_or, Option, Some, None, refl, ap, sym, arith, Bor}
use Rattle.std.proofs.lemmas.Bool.{false≢true}
use Rattle.std.specs.Option.{option_copied, IfSome, IsSome}
use Rattle.nats_history.specs.Queue.{last}

pub last_read : {A : Type 0} (xs : List A) (k : ℕ) (x : A) → suc k ≡ length xs → x ≡ get_or xs k x → last xs ≡ Some x
last_read [] k x e at = absurd (omega arith)
last_read (y ∷ []) zero x e at = ap Some (sym at)
last_read (y ∷ []) (suc k) x e at = absurd (omega arith)
last_read (y ∷ z ∷ zs) zero x e at = absurd (omega arith)
last_read (y ∷ z ∷ zs) (suc k) x e at = last_read (z ∷ zs) k x (omega arith) at

-- what `back` of a queue of n items answers
pub back_is : {A : Type 0} (xs : List A) (n : ℕ) (r : Option (Bor A)) → n ≡ length xs → (IsSome r → 0 < n) × (0 < n → IsSome r) → IfSome r (λ x. x.now ≡ get_or xs (n - 1) x.now) → option_copied r ≡ last xs
back_is [] n None e v at = refl
back_is (y ∷ ys) n None e v at = absurd (false≢true (v.1 (omega arith)))
back_is xs n (Some x) e v at =
    let some : 0 < n = v.0 refl in
    sym (last_read xs (n - 1) x.now (omega arith) at)
