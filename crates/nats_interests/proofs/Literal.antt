-- A pattern without a wildcard's byte matches its own text alone.
use Rattle.std.proofs.Common.{◌≡◌, ℕ, Bool, true, false, ◌&&◌, ◌||◌, List, [], ◌∷◌, refl, ap, sym, ◌∙◌}
use Rattle.std.specs.Prelude.{codes, if◌then◌else◌}
use Rattle.std.specs.List.{onto_first, join_with_byte}
use Rattle.std.specs.Str.{bytes_eq}
use Rattle.std.proofs.lemmas.Bool.{false≢true}
use Rattle.std.proofs.lemmas.Slice.Eq.{bytes_eq-Decides}
use Rattle.std.proofs.lemmas.List.Splits.{join_with_byte-slice_split}
use Rattle.nats_matching.specs.Matching.{is_dot, tokens_of, takes_rest, tokens_match, matches}
use Rattle.nats_interests.specs.Index.{is_mark, has_mark}

-- no token has a wildcard's byte
abbrev AreBare : List (List ℕ) → Type 0
AreBare [] = Unit {0}
AreBare (token ∷ tokens) = (has_mark token ≡ false) × AreBare tokens

neither : (a b : Bool) → (a || b) ≡ false → (a ≡ false) × (b ≡ false)
neither false false is = (refl, refl)
neither true b is = absurd (false≢true (sym is))
neither false true is = absurd (false≢true (sym is))

bare_onto : (b : ℕ) (tokens : List (List ℕ)) → is_mark b ≡ false → AreBare tokens → AreBare (onto_first b tokens)
bare_onto b [] is all = (ap (λ c. c || false) is, tt)
bare_onto b (token ∷ tokens) is all = (ap (λ c. c || has_mark token) is ∙ all.0, all.1)

bare_more : (dot : Bool) (b : ℕ) (tokens : List (List ℕ)) → is_mark b ≡ false → AreBare tokens
    → AreBare (if dot then [] ∷ tokens else onto_first b tokens)
bare_more true b tokens is all = (refl, all)
bare_more false b tokens is all = bare_onto b tokens is all

bare_tokens : (text : List ℕ) → has_mark text ≡ false → AreBare (tokens_of text)
bare_tokens [] is = (refl, tt)
bare_tokens (b ∷ text) is =
    let parts = neither (is_mark b) (has_mark text) is in
    bare_more (is_dot b) b (tokens_of text) parts.0 (bare_tokens text parts.1)

equal_bytes : (xs ys : List ℕ) → bytes_eq xs ys ≡ true → xs ≡ ys
equal_bytes xs ys is = (bytes_eq-Decides xs ys).0 is

-- a token without such a byte is no wildcard
no_mark : (token : List ℕ) (mark : ℕ) → has_mark token ≡ false → has_mark (mark ∷ []) ≡ true → bytes_eq token (mark ∷ []) ≡ false
no_mark token mark bare marked = by (bytes_eq token (mark ∷ [])) refl
  where
    by : (c : Bool) → bytes_eq token (mark ∷ []) ≡ c → c ≡ false
    by false is = refl
    by true is = absurd (false≢true (sym bare ∙ ap has_mark (equal_bytes token (mark ∷ []) is) ∙ marked))

rest_not : (token : List ℕ) (tokens : List (List ℕ)) → has_mark token ≡ false → takes_rest token tokens ≡ false
rest_not token [] bare = no_mark token 62 bare refl
rest_not token (next ∷ tokens) bare = refl

both_true : (a b : Bool) → (a && b) ≡ true → (a ≡ true) × (b ≡ true)
both_true true true is = (refl, refl)
both_true true false is = absurd (false≢true is)
both_true false b is = absurd (false≢true is)

same_tokens : (patterns tokens : List (List ℕ)) → AreBare patterns → tokens_match patterns tokens ≡ true → patterns ≡ tokens
same_tokens [] [] bare is = refl
same_tokens [] (token ∷ tokens) bare is = absurd (false≢true is)
same_tokens (pattern ∷ patterns) [] bare is = absurd (false≢true is)
same_tokens (pattern ∷ patterns) (token ∷ tokens) bare is =
    let whole : (bytes_eq pattern token && tokens_match patterns tokens) ≡ true
    = sym (ap (λ c. c || ((bytes_eq pattern (codes "*") || bytes_eq pattern token) && tokens_match patterns tokens)) (rest_not pattern patterns bare.0)
    ∙ ap (λ c. (c || bytes_eq pattern token) && tokens_match patterns tokens) (no_mark pattern 42 bare.0 refl)) ∙ is in
    let parts = both_true (bytes_eq pattern token) (tokens_match patterns tokens) whole in
    ap (λ t. t ∷ patterns) (equal_bytes pattern token parts.0) ∙ ap (λ ts. token ∷ ts) (same_tokens patterns tokens bare.1 parts.1)

whole_text : (text : List ℕ) → join_with_byte 46 (tokens_of text) ≡ text
whole_text text = join_with_byte-slice_split 46 text

pub matches_itself : (pattern subject : List ℕ) → has_mark pattern ≡ false → matches pattern subject ≡ true → pattern ≡ subject
matches_itself pattern subject bare is =
    sym (whole_text pattern)
    ∙ ap (join_with_byte 46) (same_tokens (tokens_of pattern) (tokens_of subject) (bare_tokens pattern bare) is)
    ∙ whole_text subject

-- ---- its own text

or_true : (a : Bool) → (a || true) ≡ true
or_true true = refl
or_true false = refl

own_tokens : (tokens : List (List ℕ)) → tokens_match tokens tokens ≡ true
own_tokens [] = refl
own_tokens (token ∷ tokens) =
    ap (λ c. takes_rest token tokens || ((bytes_eq token (codes "*") || c) && tokens_match tokens tokens)) ((bytes_eq-Decides token token).1 refl)
    ∙ ap (λ c. takes_rest token tokens || (c && tokens_match tokens tokens)) (or_true (bytes_eq token (codes "*")))
    ∙ ap (λ c. takes_rest token tokens || c) (own_tokens tokens)
    ∙ or_true (takes_rest token tokens)

-- a text matches itself
pub same_matches : (pattern subject : List ℕ) → bytes_eq pattern subject ≡ true → matches pattern subject ≡ true
same_matches pattern subject is = ap (λ text. matches text subject) (equal_bytes pattern subject is) ∙ own_tokens (tokens_of subject)
