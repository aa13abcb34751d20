-- The map without a name is equal to itself alone.
use Rattle.std.proofs.Common.{◌≡◌, ◌==◌, Bool, true, false, ◌&&◌, cond, [], ◌∷◌, length, Option, Some, None, refl, sym, ap, subst, ◌∙◌}
use Rattle.std.specs.Str.{bytes_eq}
use Rattle.std.specs.Option.{option_eq}
use Rattle.std.specs.HashMap.{entries_eq}
use Rattle.std.specs.Cmp.Lexicographic.{pointwise, nat_list_eq_equiv}
use Rattle.std.specs.List.{IsDistinct}
use Rattle.std.proofs.Math.Dec.{eqb-suc-zero}
use Rattle.nats_header.specs.Headers.{Field, Headers, AreDistinct, same_headers}

abbrev same_values : Field → Field → Bool
same_values one other = pointwise bytes_eq one.1 other.1

nothing_first : (b : Bool) (same : Field → Field → Bool) (field : Field) (rest : Option Field) (more : Bool) → b ≡ true
    → (option_eq same None (cond b (Some field) rest) && more) ≡ false
nothing_first true same field rest more e = refl
nothing_first false same field rest more e = cc

nothing_second : (b : Bool) (same : Field → Field → Bool) (field : Field) (rest : Option Field) (more : Bool) → b ≡ true
    → ((option_eq same (cond b (Some field) rest) None && more) && true) ≡ false
nothing_second true same field rest more e = refl
nothing_second false same field rest more e = cc

pub empty-same : (headers : Headers) → same_headers [] headers ≡ (length headers == 0)
unfolding entries_eq
empty-same [] = refl
empty-same (field ∷ headers) =
    nothing_first (bytes_eq field.0 field.0) same_values field _ _ (nat_list_eq_equiv.refl field.0) ∙ sym (eqb-suc-zero (length headers))

pub same-empty : (headers : Headers) → same_headers headers [] ≡ (length headers == 0)
unfolding entries_eq
same-empty [] = refl
same-empty (field ∷ headers) =
    nothing_second (bytes_eq field.0 field.0) same_values field _ _ (nat_list_eq_equiv.refl field.0) ∙ sym (eqb-suc-zero (length headers))

pub empty-same-at : (one other : Headers) → [] ≡ one → same_headers one other ≡ (length other == 0)
empty-same-at one other e = rw (sym e) (empty-same other)

pub same-empty-at : (one other : Headers) → [] ≡ other → same_headers one other ≡ (length one == 0)
same-empty-at one other e = rw (sym e) (same-empty one)

pub none-distinct : (headers : Headers) → [] ≡ headers → AreDistinct headers
unfolding IsDistinct
none-distinct headers e = subst AreDistinct e tt

pub both-empty : (one other : Headers) → [] ≡ one → [] ≡ other → true ≡ same_headers one other
both-empty one other e f = sym (empty-same-at one other e ∙ ap (λ headers. length headers == 0) (sym f))
