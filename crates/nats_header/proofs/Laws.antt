-- Laws of header maps as lists.
use Rattle.std.proofs.Common.{◌≡◌, ℕ, ◌+◌, ◌≤◌, ◌==◌, ◌&&◌, ◌||◌, Bool, true, false, not, cond, List, [], ◌∷◌, ◌++◌, length, nat_lt, refl, sym, ap, subst, ◌∙◌, arith, length-append, codes}
use Rattle.std.specs.Cmp.Lexicographic.{bytes_decides}
use Rattle.std.specs.List.{list_all, flat_map}
use Rattle.std.specs.Str.{bytes_eq}
use Rattle.std.proofs.lemmas.Bool.{false≢true, true≢false}
use Rattle.std.proofs.lemmas.Bool.Decides.{nat_tests}
use Rattle.std.proofs.lemmas.List.Folds.{list_all-append}
use Rattle.nats_header.specs.Names.{is_header_name, is_header_value}
use Rattle.nats_header.specs.Headers.{Field, Headers, has_name, values_of, with_values, inserted, appended, is_field, are_fields}
use Rattle.nats_header.specs.Block.{crlf, value_line, field_lines, lines_of, block_text}

same_text : (a b : List ℕ) → bytes_eq a b ≡ true → a ≡ b
same_text a b e = (bytes_decides a b).0 e

pub same_self : (a : List ℕ) → bytes_eq a a ≡ true
same_self a = (bytes_decides a a).1 refl

-- two texts that differ do so either way round
pub differ : (a b : List ℕ) → bytes_eq a b ≡ false → bytes_eq b a ≡ false
differ a b e = turned (bytes_eq b a) refl
  where
    turned : (r : Bool) → bytes_eq b a ≡ r → bytes_eq b a ≡ false
    turned false h = h
    turned true h = absurd (false≢true (sym e ∙ (bytes_decides a b).1 (sym ((bytes_decides b a).0 h))))

-- what a test says of two values is known once its answer is
pub cond_true : {A : Type 0} (b : Bool) (x y : A) → b ≡ true → cond b x y ≡ x
cond_true true x y e = refl
cond_true false x y e = absurd (false≢true e)

pub cond_false : {A : Type 0} (b : Bool) (x y : A) → b ≡ false → cond b x y ≡ y
cond_false false x y e = refl
cond_false true x y e = absurd (true≢false e)

-- the block's length
pub length-block_text : (headers : Headers) → length (block_text headers) ≡ 12 + length (lines_of headers)
length-block_text headers = omega (arith, length-append (lines_of headers) crlf)

pub length-value_line : (name value : List ℕ) → length (value_line name value) ≡ length name + length value + 4
length-value_line name value =
    omega (arith, length-append (name ++ codes ": " ++ value) crlf, length-append (name ++ codes ": ") value, length-append name (codes ": "))

-- the lines of other values take other room
lines_step : (b : Bool) (field : Field) (headers : Headers) (name : List ℕ) (values : List (List ℕ)) → (b ≡ true → name ≡ field.0)
    → length (lines_of (with_values headers name values)) + length (field_lines (name, values_of headers name)) ≡ length (lines_of headers) + length (field_lines (name, values))
    → length (lines_of (cond b ((field.0, values) ∷ headers) (field ∷ with_values headers name values))) + length (field_lines (name, cond b field.1 (values_of headers name))) ≡ length (lines_of (field ∷ headers)) + length (field_lines (name, values))
lines_step true field headers name values same rest =
    let own = ap (λ n. length (flat_map (value_line n) field.1)) (same refl) in
    let other = ap (λ n. length (flat_map (value_line n) values)) (same refl) in
    omega (arith, own, other, length-append (field_lines (field.0, values)) (lines_of headers), length-append (field_lines field) (lines_of headers))
lines_step false field headers name values same rest =
    omega (arith, rest, length-append (field_lines field) (lines_of (with_values headers name values)), length-append (field_lines field) (lines_of headers))

pub length-with_values : (headers : Headers) (name : List ℕ) (values : List (List ℕ)) → length (lines_of (with_values headers name values)) + length (field_lines (name, values_of headers name)) ≡ length (lines_of headers) + length (field_lines (name, values))
length-with_values [] name values = omega (arith, length-append (field_lines (name, values)) [])
length-with_values (field ∷ headers) name values =
    lines_step (bytes_eq name field.0) field headers name values (same_text name field.0) (length-with_values headers name values)

within_step : (b : Bool) (field : Field) (headers : Headers) (name : List ℕ) → (b ≡ true → name ≡ field.0)
    → length (field_lines (name, values_of headers name)) ≤ length (lines_of headers)
    → length (field_lines (name, cond b field.1 (values_of headers name))) ≤ length (lines_of (field ∷ headers))
within_step true field headers name same rest =
    let own = ap (λ n. length (flat_map (value_line n) field.1)) (same refl) in
    omega (arith, own, length-append (field_lines field) (lines_of headers))
within_step false field headers name same rest =
    omega (arith, rest, length-append (field_lines field) (lines_of headers))

-- a name's lines are among those of the map
pub length-values_of : (headers : Headers) (name : List ℕ) → length (field_lines (name, values_of headers name)) ≤ length (lines_of headers)
length-values_of [] name = omega arith
length-values_of (field ∷ headers) name =
    within_step (bytes_eq name field.0) field headers name (same_text name field.0) (length-values_of headers name)

-- one line more
pub length-appended_lines : (name : List ℕ) (values : List (List ℕ)) (value : List ℕ) → length (field_lines (name, values ++ value ∷ [])) ≡ length (field_lines (name, values)) + length (value_line name value)
length-appended_lines name [] value = omega (arith, length-append (value_line name value) [])
length-appended_lines name (first ∷ values) value =
    omega (arith, length-appended_lines name values value, length-append (value_line name first) (field_lines (name, values ++ value ∷ [])), length-append (value_line name first) (field_lines (name, values)))

both : (a b : Bool) → a ≡ true → b ≡ true → (a && b) ≡ true
both true true p q = refl
both true false p q = q
both false b p q = p

pub first_of_both : (a b : Bool) → (a && b) ≡ true → a ≡ true
first_of_both true b p = refl
first_of_both false b p = p

pub second_of_both : (a b : Bool) → (a && b) ≡ true → b ≡ true
second_of_both true b p = p
second_of_both false b p = absurd (false≢true p)

fields_step : (b : Bool) (field : Field) (headers : Headers) (name : List ℕ) (values : List (List ℕ)) → (b ≡ true → name ≡ field.0)
    → is_field (name, values) ≡ true → are_fields (field ∷ headers) ≡ true → are_fields (with_values headers name values) ≡ true
    → are_fields (cond b ((field.0, values) ∷ headers) (field ∷ with_values headers name values)) ≡ true
fields_step true field headers name values same new old rest =
    both (is_field (field.0, values)) (are_fields headers) (subst (λ n. is_field (n, values) ≡ true) (same refl) new) (second_of_both (is_field field) (are_fields headers) old)
fields_step false field headers name values same new old rest =
    both (is_field field) (are_fields (with_values headers name values)) (first_of_both (is_field field) (are_fields headers) old) rest

-- a field of the protocol keeps a map in it
pub are_fields-with_values : (headers : Headers) (name : List ℕ) (values : List (List ℕ)) → is_field (name, values) ≡ true → are_fields headers ≡ true → are_fields (with_values headers name values) ≡ true
are_fields-with_values [] name values new old = both (is_field (name, values)) true new refl
are_fields-with_values (field ∷ headers) name values new old =
    fields_step (bytes_eq name field.0) field headers name values (same_text name field.0) new old (are_fields-with_values headers name values new (second_of_both (is_field field) (are_fields headers) old))

-- the parts of a field
pub is_field-made : (name : List ℕ) (values : List (List ℕ)) → is_header_name name ≡ true → not (length values == 0) ≡ true → list_all is_header_value values ≡ true → is_field (name, values) ≡ true
is_field-made name values n some v =
    both (is_header_name name && not (length values == 0)) (list_all is_header_value values) (both (is_header_name name) (not (length values == 0)) n some) v

values_step : (b : Bool) (field : Field) (headers : Headers) (name : List ℕ) → are_fields (field ∷ headers) ≡ true → list_all is_header_value (values_of headers name) ≡ true → list_all is_header_value (cond b field.1 (values_of headers name)) ≡ true
values_step true field headers name old rest =
    second_of_both (is_header_name field.0 && not (length field.1 == 0)) (list_all is_header_value field.1) (first_of_both (is_field field) (are_fields headers) old)
values_step false field headers name old rest = rest

pub values_of-valid : (headers : Headers) (name : List ℕ) → are_fields headers ≡ true → list_all is_header_value (values_of headers name) ≡ true
values_of-valid [] name old = refl
values_of-valid (field ∷ headers) name old =
    values_step (bytes_eq name field.0) field headers name old (values_of-valid headers name (second_of_both (is_field field) (are_fields headers) old))

there_step : (b : Bool) (field : Field) (headers : Headers) (name : List ℕ) → are_fields (field ∷ headers) ≡ true → not (length (values_of headers name) == 0) ≡ has_name headers name → not (length (cond b field.1 (values_of headers name)) == 0) ≡ (b || has_name headers name)
there_step true field headers name old rest =
    second_of_both (is_header_name field.0) (not (length field.1 == 0)) (first_of_both (is_header_name field.0 && not (length field.1 == 0)) (list_all is_header_value field.1) (first_of_both (is_field field) (are_fields headers) old))
there_step false field headers name old rest = rest

-- a name is there exactly where it has a value
pub values_of-there : (headers : Headers) (name : List ℕ) → are_fields headers ≡ true → not (length (values_of headers name) == 0) ≡ has_name headers name
values_of-there [] name old = refl
values_of-there (field ∷ headers) name old =
    there_step (bytes_eq name field.0) field headers name old (values_of-there headers name (second_of_both (is_field field) (are_fields headers) old))

own_step : (b : Bool) (field : Field) (headers : Headers) (name : List ℕ) (values : List (List ℕ)) → bytes_eq name field.0 ≡ b → values_of (with_values headers name values) name ≡ values → values_of (cond b ((field.0, values) ∷ headers) (field ∷ with_values headers name values)) name ≡ values
own_step true field headers name values e rest =
    cond_true (bytes_eq name field.0) values (values_of headers name) e
own_step false field headers name values e rest =
    cond_false (bytes_eq name field.0) field.1 (values_of (with_values headers name values) name) e ∙ rest

-- a name has the values that it was given
pub values_of-with_values : (headers : Headers) (name : List ℕ) (values : List (List ℕ)) → values_of (with_values headers name values) name ≡ values
values_of-with_values [] name values = cond_true (bytes_eq name name) values [] (same_self name)
values_of-with_values (field ∷ headers) name values =
    own_step (bytes_eq name field.0) field headers name values refl (values_of-with_values headers name values)

other_step : (b : Bool) (field : Field) (headers : Headers) (name other : List ℕ) (values : List (List ℕ)) → (b ≡ true → name ≡ field.0) → bytes_eq name other ≡ false → values_of (with_values headers name values) other ≡ values_of headers other → values_of (cond b ((field.0, values) ∷ headers) (field ∷ with_values headers name values)) other ≡ values_of (field ∷ headers) other
other_step true field headers name other values same e rest =
    let apart : bytes_eq other field.0 ≡ false = subst (λ n. bytes_eq other n ≡ false) (same refl) (differ name other e) in
    cond_false (bytes_eq other field.0) values (values_of headers other) apart ∙ sym (cond_false (bytes_eq other field.0) field.1 (values_of headers other) apart)
other_step false field headers name other values same e rest =
    ap (λ r. cond (bytes_eq other field.0) field.1 r) rest

-- and other names have theirs
pub values_of-others : (headers : Headers) (name other : List ℕ) (values : List (List ℕ)) → bytes_eq name other ≡ false → values_of (with_values headers name values) other ≡ values_of headers other
values_of-others [] name other values e = cond_false (bytes_eq other name) values [] (differ name other e)
values_of-others (field ∷ headers) name other values e =
    other_step (bytes_eq name field.0) field headers name other values (same_text name field.0) e (values_of-others headers name other values e)

module _ (headers : Headers) (name value : List ℕ) where
  -- the block with one value in the place of those of a name
  pub length-inserted : length (block_text (inserted headers name value)) + length (field_lines (name, values_of headers name)) ≡ length (block_text headers) + length (value_line name value)
  length-inserted =
      omega (arith, length-block_text (inserted headers name value), length-block_text headers, length-with_values headers name (value ∷ []), length-append (value_line name value) [])

  -- the block with one value more
  pub length-appended : length (block_text (appended headers name value)) ≡ length (block_text headers) + length (value_line name value)
  length-appended =
      omega (arith, length-block_text (appended headers name value), length-block_text headers, length-with_values headers name (values_of headers name ++ value ∷ []), length-appended_lines name (values_of headers name) value)

  pub are_fields-inserted : is_header_name name ≡ true → is_header_value value ≡ true → are_fields headers ≡ true → are_fields (inserted headers name value) ≡ true
  are_fields-inserted n v old =
      are_fields-with_values headers name (value ∷ []) (is_field-made name (value ∷ []) n refl (both (is_header_value value) true v refl)) old

  some_last : (values : List (List ℕ)) → not (length (values ++ value ∷ []) == 0) ≡ true
  some_last [] = refl
  some_last (first ∷ values) = grind (arith, nat_tests)

  pub are_fields-appended : is_header_name name ≡ true → is_header_value value ≡ true → are_fields headers ≡ true → are_fields (appended headers name value) ≡ true
  are_fields-appended n v old =
      let values = values_of headers name in
      let all = list_all-append is_header_value values (value ∷ []) ∙ both (list_all is_header_value values) (is_header_value value && true) (values_of-valid headers name old) (both (is_header_value value) true v refl) in
      are_fields-with_values headers name (values ++ value ∷ []) (is_field-made name (values ++ value ∷ []) n (some_last values) all) old

-- what a name and the others have after an insertion or an appending of what two texts told
module _ (new old : Headers) (name value told_name told_value : List ℕ) (n : name ≡ told_name) (v : value ≡ told_value) where
  pub values_of-inserted : new ≡ inserted old name value → values_of new told_name ≡ told_value ∷ []
  values_of-inserted e =
      ap (λ h. values_of h told_name) (e ∙ (λ i. inserted old (n i) (v i))) ∙ values_of-with_values old told_name (told_value ∷ [])

  pub values_of-appended : new ≡ appended old name value → values_of new told_name ≡ values_of old told_name ++ told_value ∷ []
  values_of-appended e =
      ap (λ h. values_of h told_name) (e ∙ (λ i. appended old (n i) (v i))) ∙ values_of-with_values old told_name (values_of old told_name ++ told_value ∷ [])

  pub others-inserted : new ≡ inserted old name value → (other : List ℕ) → bytes_eq told_name other ≡ false → values_of new other ≡ values_of old other
  others-inserted e other apart =
      ap (λ h. values_of h other) (e ∙ (λ i. inserted old (n i) (v i))) ∙ values_of-others old told_name other (told_value ∷ []) apart

  pub others-appended : new ≡ appended old name value → (other : List ℕ) → bytes_eq told_name other ≡ false → values_of new other ≡ values_of old other
  others-appended e other apart =
      ap (λ h. values_of h other) (e ∙ (λ i. appended old (n i) (v i))) ∙ values_of-others old told_name other (values_of old told_name ++ told_value ∷ []) apart

-- a list has a first item, and a last one, exactly where it isn't empty
pub nat_lt-zero : (n : ℕ) → nat_lt 0 n ≡ not (n == 0)
nat_lt-zero n = grind (arith, nat_tests)
