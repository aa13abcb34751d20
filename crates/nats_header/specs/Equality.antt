-- Equality of header maps is an equivalence.
use Rattle.std.specs.Prelude.{List, ℕ}
use Rattle.std.specs.Cmp.{IsPartialEquivalence, IsEquivalence, equiv, partial_equiv_from_equiv}
use Rattle.std.specs.Cmp.Lexicographic.{pointwise, lists_equiv, nat_list_eq_equiv}
use Rattle.std.specs.HashMap.{HashMap}
use Rattle.std.specs.HashMap.Eq.{hash_map_eq_symm, hash_map_eq_trans, hash_map_eq_refl}
use Rattle.std.specs.Str.{bytes_eq}
use Rattle.indexmap.specs.Layout.{hash_map}
use Rattle.nats_header.specs.Headers.{Headers, same_headers}

-- the list as a map of std's, for its laws
as_map : Headers → HashMap (List ℕ) (List (List ℕ)) (Unit {0})
as_map headers = hash_map headers tt 0

values_equiv : IsEquivalence (pointwise bytes_eq)
values_equiv = lists_equiv nat_list_eq_equiv

pub same_headers-per : IsPartialEquivalence same_headers
unfolding as_map
same_headers-per = record {
  symm = λ a b. hash_map_eq_symm bytes_eq (pointwise bytes_eq) values_equiv.symm (as_map a) (as_map b);
  trans =
      λ a b c. hash_map_eq_trans bytes_eq (pointwise bytes_eq) nat_list_eq_equiv
      (partial_equiv_from_equiv values_equiv).trans (as_map a) (as_map b) (as_map c);
}

pub same_headers-equiv : IsEquivalence same_headers
unfolding as_map
same_headers-equiv =
    equiv same_headers-per (λ a. hash_map_eq_refl bytes_eq (pointwise bytes_eq) values_equiv.refl (as_map a))
