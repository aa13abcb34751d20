-- One more write to a sink, and one more read of bytes in memory.
use Rattle.std.proofs.Common.{◌≡◌, ℕ, ◌+◌, ◌-◌, ◌<◌, min, List, [], ◌++◌, length, take, drop, Option, Some, None, sym, ap, ◌∙◌, append_assoc, arith, length-append}
use Rattle.std.proofs.lemmas.List.{length-take, length-drop, take_at, take-append-drop, drop_all, drop-drop}
use Rattle.std.specs.Io.KnownBytes.{Appends}

pub appends_more : (a b c : Option (List ℕ)) (first second : List ℕ) → Appends a b first → Appends b c second → Appends a c (first ++ second)
appends_more None b c first second p q = tt
appends_more (Some x) None c first second p q = absurd p
appends_more (Some x) (Some y) None first second p q = absurd q
appends_more (Some x) (Some y) (Some z) first second p q = q ∙ ap (λ (l : List ℕ). l ++ second) p ∙ append_assoc x first second

-- a read of bytes in memory gives as many of those that are left as fit
pub memory_read : (bytes buf copied : List ℕ) (at n most : ℕ) → n ≡ min (min (length bytes - at) (length buf)) most → 0 < most
    → copied ≡ take n (drop at bytes) → (drop at bytes ≡ take n (copied ++ drop n buf) ++ drop (at + n) bytes)
    × (n ≡ 0 → 0 < length (copied ++ drop n buf) → drop (at + n) bytes ≡ [])
memory_read bytes buf copied at n most is some copy =
    let len : length copied ≡ n = omega (arith, ap length copy, length-take n (drop at bytes), length-drop at bytes) in
    let front : take n (copied ++ drop n buf) ≡ take n (drop at bytes) = take_at copied (drop n buf) n len ∙ copy in
    let back : drop n (drop at bytes) ≡ drop (at + n) bytes = drop-drop n at bytes in (
      sym (take-append-drop n (drop at bytes)) ∙ ap (λ (t : List ℕ). t ++ drop n (drop at bytes)) (sym front) ∙ ap (λ (t : List ℕ). take n (copied ++ drop n buf) ++ t) back,
      λ none room. drop_all (at + n) bytes (omega (arith, length-append copied (drop n buf), length-drop n buf)),
    )
