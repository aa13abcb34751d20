-- Names that are put together: the subjects of replies to requests may be published to where their prefix may.
use Rattle.std.proofs.Common.{◌≡◌, ℕ, zero, suc, ◌<◌, Bool, true, false, not, List, [], ◌∷◌, ◌++◌, length, refl, sym, ap, ◌∙◌, arith, lit<}
use Rattle.std.specs.Prelude.{◌==◌, ◌&&◌, ◌||◌, nat_le, codes}
use Rattle.std.specs.List.{list_all}
use Rattle.std.specs.Str.{is_utf8, IsAscii}
use Rattle.std.proofs.lemmas.Str.{IsUtf8-from_is_utf8, is_utf8-from_IsUtf8, IsUtf8-append, IsUtf8-from_ascii}
use Rattle.std.proofs.lemmas.Str.Ascii.{IsAscii-nil}
use Rattle.std.proofs.lemmas.Bool.{false≢true, eqb-true, ne_eqb}
use Rattle.std.proofs.lemmas.List.Folds.{list_all-append}
use Rattle.nats_names.specs.Names.{is_separator, is_nonempty, is_letter_or_digit}
use Rattle.nats_client_text.specs.Law.{IsName}
use Rattle.nats_history.specs.declared.config.Config.{Config}
use Rattle.nats_history.specs.History.{inbox, inbox_of}
use Rattle.nats_link_text.specs.Typed.{IsToken}

pub both : (a b : Bool) → (a && b) ≡ true → (a ≡ true) × (b ≡ true)
both true true is = (refl, refl)
both true false is = absurd (false≢true is)
both false b is = absurd (false≢true is)

pub together : (a b : Bool) → a ≡ true → b ≡ true → (a && b) ≡ true
together true true p q = refl
together true false p q = absurd (false≢true q)
together false b p q = absurd (false≢true p)

-- ---- what may stand in a name behind its first byte

abbrev plain : ℕ → Bool
plain b = not (is_separator b)

abbrev pub IsPart : List ℕ → Type 0
IsPart text = (is_utf8 text ≡ true) × (list_all plain text ≡ true)

utf8_append : (one other : List ℕ) → is_utf8 one ≡ true → is_utf8 other ≡ true → is_utf8 (one ++ other) ≡ true
utf8_append one other p q =
    is_utf8-from_IsUtf8 (one ++ other) (IsUtf8-append one other (IsUtf8-from_is_utf8 one p) (IsUtf8-from_is_utf8 other q))

plain_append : (one other : List ℕ) → list_all plain one ≡ true → list_all plain other ≡ true → list_all plain (one ++ other) ≡ true
plain_append one other p q = list_all-append plain one other ∙ together (list_all plain one) (list_all plain other) p q

off_zero : (n : ℕ) → (n ≡ 0 → ⊥) → not (n == 0) ≡ true
off_zero n some = ap not (ne_eqb n 0 some)

nonempty_append : (one other : List ℕ) → is_nonempty one ≡ true → is_nonempty (one ++ other) ≡ true
nonempty_append [] other is = absurd (false≢true is)
nonempty_append (b ∷ bytes) other is = off_zero (length ((b ∷ bytes) ++ other)) (λ none. omega (arith, none))

name_append : (one other : List ℕ) → IsName one → IsPart other → IsName (one ++ other)
name_append one other p q =
    let parts = both (is_nonempty one) (list_all plain one) p.1 in (
      utf8_append one other p.0 q.0,
      together (is_nonempty (one ++ other)) (list_all plain (one ++ other)) (nonempty_append one other parts.0) (plain_append one other parts.1 q.1),
    )

-- ---- tokens

off : (b n : ℕ) → is_letter_or_digit n ≡ false → is_letter_or_digit b ≡ true → (b == n) ≡ false
off b n none is = by (b == n) refl
  where
    by : (t : Bool) → (b == n) ≡ t → t ≡ false
    by true same = absurd (false≢true (sym none ∙ (ap is_letter_or_digit (sym (eqb-true b n same)) ∙ is)))
    by false same = refl

none_is : (p q r s : Bool) → p ≡ false → q ≡ false → r ≡ false → s ≡ false → not (p || q || r || s) ≡ true
none_is false false false false a b c d = refl
none_is true q r s a b c d = absurd (false≢true (sym a))
none_is false true r s a b c d = absurd (false≢true (sym b))
none_is false false true s a b c d = absurd (false≢true (sym c))
none_is false false false true a b c d = absurd (false≢true (sym d))

letter_plain : (b : ℕ) → is_letter_or_digit b ≡ true → plain b ≡ true
letter_plain b is =
    none_is (b == 32) (b == 9) (b == 13) (b == 10) (off b 32 refl is) (off b 9 refl is) (off b 13 refl is) (off b 10 refl is)

letters_plain : (text : List ℕ) → list_all is_letter_or_digit text ≡ true → list_all plain text ≡ true
letters_plain [] is = refl
letters_plain (b ∷ bytes) is =
    let parts = both (is_letter_or_digit b) (list_all is_letter_or_digit bytes) is in
    together (plain b) (list_all plain bytes) (letter_plain b parts.0) (letters_plain bytes parts.1)

last_of : (a b c : Bool) → (a && b && c) ≡ true → c ≡ true
last_of true true true is = refl
last_of true true false is = absurd (false≢true is)
last_of true false c is = absurd (false≢true is)
last_of false b c is = absurd (false≢true is)

token_part : (text : List ℕ) → IsToken text → IsPart text
token_part text is =
    (is.0, letters_plain text (last_of (is_nonempty text) (nat_le (length text) 64) (list_all is_letter_or_digit text) is.1))

-- ---- inboxes

one_ascii : (b : ℕ) → b < 128 → IsAscii (b ∷ [])
one_ascii b less zero = less
one_ascii b less (suc i) = IsAscii-nil i

one_utf8 : (b : ℕ) → b < 128 → is_utf8 (b ∷ []) ≡ true
one_utf8 b less = is_utf8-from_IsUtf8 (b ∷ []) (IsUtf8-from_ascii (b ∷ []) (one_ascii b less))

dot_part : IsPart (codes ".")
dot_part = (one_utf8 46 (lit< tt), refl)

star_part : IsPart (codes "*")
star_part = (one_utf8 42 (lit< tt), refl)

inbox_name : (c : Config) → IsName c.inbox_prefix → IsToken c.mux_id → IsName (inbox c)
inbox_name c prefix mux =
    let dotted : IsName (c.inbox_prefix ++ codes ".") = name_append c.inbox_prefix (codes ".") prefix dot_part in
    let with_mux : IsName ((c.inbox_prefix ++ codes ".") ++ c.mux_id) = name_append (c.inbox_prefix ++ codes ".") c.mux_id dotted (token_part c.mux_id mux) in
    name_append ((c.inbox_prefix ++ codes ".") ++ c.mux_id) (codes ".") with_mux dot_part

pub reply_name : (c : Config) (token : List ℕ) → IsName c.inbox_prefix → IsToken c.mux_id → IsToken token → IsName (inbox_of c token)
reply_name c token prefix mux is = name_append (inbox c) token (inbox_name c prefix mux) (token_part token is)

-- the subject under which all replies come
pub replies_name : (c : Config) → IsName c.inbox_prefix → IsToken c.mux_id → IsName (inbox c ++ codes "*")
replies_name c prefix mux = name_append (inbox c) (codes "*") (inbox_name c prefix mux) star_part
