-- The tokens of a text, one by one.
use Rattle.std.proofs.Common.{◌≡◌, ◌≢◌, ℕ, suc, ◌<◌, Bool, true, false, List, [], ◌∷◌, length, get_or, refl, ap, sym, arith, tests}
use Rattle.std.specs.Prelude.{◌==◌, if◌then◌else◌}
use Rattle.std.specs.List.{slice_split, onto_first, position_or_len, before_first, after_first}
use Rattle.std.proofs.lemmas.List.Splits.{slice_split_first}
use Rattle.nats_matching.specs.Matching.{is_dot, tokens_of, takes_rest, tokens_match}

-- what stands before a text's first dot is its first token, and the others stand behind
pub tokens_at_dot : (text token rest : List ℕ) → position_or_len is_dot text < length text
    → token ≡ before_first is_dot text → rest ≡ after_first is_dot text → token ∷ tokens_of rest ≡ tokens_of text
tokens_at_dot text token rest inside front behind =
    let first = slice_split_first is_dot text 0 inside in
    let whole : slice_split is_dot text ≡ token ∷ slice_split is_dot rest = cc in
    sym whole

whole_step : (test : Bool) (x : ℕ) (text : List ℕ) → (x == 46) ≡ test → x ≢ 46 → slice_split is_dot text ≡ text ∷ []
    → (if test then [] ∷ slice_split is_dot text else onto_first x (slice_split is_dot text)) ≡ (x ∷ text) ∷ []
whole_step true x text is other whole = absurd (other (grind (arith, tests)))
whole_step false x text is other whole = ap (onto_first x) whole

split_whole : (text : List ℕ) → ((i : ℕ) → i < length text → get_or text i 0 ≢ 46) → slice_split is_dot text ≡ text ∷ []
split_whole [] never = refl
split_whole (x ∷ text) never =
    whole_step (x == 46) x text refl (never 0 (omega arith)) (split_whole text (λ i inside. never (suc i) (omega arith)))

-- a text without a dot is its one token
pub tokens_whole : (text : List ℕ) → ((i : ℕ) → i < length text → get_or text i 0 ≢ 46) → text ∷ [] ≡ tokens_of text
tokens_whole text never = sym (split_whole text never)

onto : (x : ℕ) (tokens : List (List ℕ)) → (t : List ℕ) × (ts : List (List ℕ)) × (onto_first x tokens ≡ t ∷ ts)
onto x [] = (x ∷ [], [], refl)
onto x (t ∷ ts) = (x ∷ t, ts, refl)

dotted : (test : Bool) (x : ℕ) (tokens : List (List ℕ))
    → (t : List ℕ) × (ts : List (List ℕ)) × ((if test then [] ∷ tokens else onto_first x tokens) ≡ t ∷ ts)
dotted true x tokens = ([], tokens, refl)
dotted false x tokens = onto x tokens

-- a text has a token
some_token : (text : List ℕ) → (t : List ℕ) × (ts : List (List ℕ)) × (tokens_of text ≡ t ∷ ts)
some_token [] = ([], [], refl)
some_token (x ∷ text) = dotted (x == 46) x (slice_split is_dot text)

-- so a token that others follow isn't the last
pub not_last : (pattern text : List ℕ) → false ≡ takes_rest pattern (tokens_of text)
not_last pattern text = let some = some_token text in rw (some.2) refl

-- and no token at all doesn't match it
pub none_left : (text : List ℕ) → false ≡ tokens_match [] (tokens_of text)
none_left text = let some = some_token text in rw (some.2) refl
