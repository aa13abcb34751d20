-- What is remembered of unread bytes stays true as they grow, and a search that goes on from there cuts the whole text.
use Rattle.std.proofs.Common.{◌≡◌, ℕ, zero, suc, ◌+◌, ◌-◌, ◌<◌, ◌≤◌, Bool, true, false, not, List, [], ◌∷◌, ◌++◌, length, take, drop, Option, Some, None, refl, ap, sym, ◌∙◌, arith, tests, lit<, length-append, length-drop, length-take-le, take-add, drop-drop, append_assoc, ⊎_elim}
use Rattle.std.specs.Prelude.{◌==◌, ◌&&◌, nat_eq, slice_index, if◌then◌else◌, codes, IsTrue}
use Rattle.std.specs.Bool.{OnTrue, OnFalse}
use Rattle.std.specs.Option.{option_map}
use Rattle.std.specs.List.{starts_with}
use Rattle.std.proofs.lemmas.List.{length-take}
use Rattle.std.proofs.lemmas.Bool.{cases_lt}
use Rattle.memchr.specs.Find.{FindsNeedle, IsFirstByte, is_byte}
use Rattle.nats_message.specs.Content.{crlf}
use Rattle.nats_lines.specs.Operations.{Cut, onto_line, cut_line, sight, Front, unfinished, got, fault, is_unfinished, front}
use Rattle.nats_outbuf.specs.Buffers.{is_crlf_at}
use Rattle.nats_lines.specs.Scan.{clear_to, Looked, EndsBefore, Behind, tested, untested, cut_at, Needs, Awaits}
use Rattle.nats_lines.proofs.Lines.{cut_none, cut_by_search}
use Rattle.nats_lines.proofs.Fronts.{cut_more, cut_length, front_more, fault_more}

-- a text of some bytes and a text that is cut
abbrev pub onto_front : List ℕ → Cut → Cut
onto_front front cut = record { line = front ++ cut.line; rest = cut.rest }

more_step : (test inner later : Bool) → (inner ≡ true → later ≡ true) → (not test && inner) ≡ true → (not test && later) ≡ true
more_step true inner later grows is = cc
more_step false inner later grows is = grows is

pub clear_more : (n : ℕ) (bytes more : List ℕ) → clear_to n bytes ≡ true → clear_to n (bytes ++ more) ≡ true
clear_more zero bytes more is = refl
clear_more (suc n) [] more is = cc
clear_more (suc n) (a ∷ []) more is = cc
clear_more (suc n) (a ∷ b ∷ rest) more is =
    more_step (a == 13 && b == 10) (clear_to n (b ∷ rest)) (clear_to n (b ∷ rest ++ more)) (clear_more n (b ∷ rest) more) is

same_cut : (found : Option Cut) → found ≡ option_map (onto_front []) found
same_cut None = refl
same_cut (Some cut) = refl

later_cut : (a : ℕ) (front : List ℕ) (found : Option Cut)
    → option_map (onto_line a) (option_map (onto_front front) found) ≡ option_map (onto_front (a ∷ front)) found
later_cut a front None = refl
later_cut a front (Some cut) = refl

cut_step : (test : Bool) (a : ℕ) (front rest : List ℕ) (inner found : Option Cut) (clear : Bool)
    → (not test && clear) ≡ true → (clear ≡ true → inner ≡ option_map (onto_front front) found)
    → (if test then Some (record { line = []; rest = rest }) else option_map (onto_line a) inner) ≡ option_map (onto_front (a ∷ front)) found
cut_step true a front rest inner found clear is goes_on = cc
cut_step false a front rest inner found clear is goes_on = ap (option_map (onto_line a)) (goes_on is) ∙ later_cut a front found

-- a text is cut where the part behind a clear front is cut
pub cut_behind : (n : ℕ) (bytes : List ℕ) → clear_to n bytes ≡ true
    → cut_line bytes ≡ option_map (onto_front (take n bytes)) (cut_line (drop n bytes))
cut_behind zero bytes is = same_cut (cut_line bytes)
cut_behind (suc n) [] is = cc
cut_behind (suc n) (a ∷ []) is = cc
cut_behind (suc n) (a ∷ b ∷ rest) is =
    cut_step (a == 13 && b == 10) a (take n (b ∷ rest)) rest (cut_line (b ∷ rest)) (cut_line (drop n (b ∷ rest))) (clear_to n (b ∷ rest)) is (cut_behind n (b ∷ rest))

front_cut : (n : ℕ) (bytes : List ℕ) (found : Option ℕ)
    → option_map (onto_front (take n bytes)) (option_map (cut_at (drop n bytes)) found) ≡ option_map (λ k. cut_at bytes (n + k)) found
front_cut n bytes None = refl
front_cut n bytes (Some k) =
    let e : n + (k + 2) ≡ n + k + 2 = omega arith in
    rw (drop-drop (k + 2) n bytes, e, take-add n k bytes) refl

-- a search behind a clear front finds where the whole text is cut
pub cut_on : (n : ℕ) (bytes : List ℕ) (found : Option ℕ) → clear_to n bytes ≡ true → FindsNeedle (drop n bytes) crlf 0 found
    → cut_line bytes ≡ option_map (λ k. cut_at bytes (n + k)) found
cut_on n bytes found is finds =
    cut_behind n bytes is ∙ ap (option_map (onto_front (take n bytes))) (cut_by_search (drop n bytes) found finds) ∙ front_cut n bytes found

no_pair : (test : Bool) → (test && false) ≡ true → ⊥
no_pair true is = cc
no_pair false is = cc

at_end : (bytes : List ℕ) → starts_with nat_eq bytes (codes "\r\n") ≡ true → cut_line bytes ≡ Some (cut_at bytes 0)
at_end [] is = cc
at_end (a ∷ []) is = absurd (no_pair (nat_eq 13 a) is)
at_end (a ∷ b ∷ rest) is =
    let p : a ≡ 13 = grind (arith, tests) in
    let q : b ≡ 10 = grind (arith, tests) in
    rw (p, q) refl

-- a text is cut where a line's end stands behind a clear front
pub cut_there : (n : ℕ) (bytes : List ℕ) → clear_to n bytes ≡ true → is_crlf_at bytes n ≡ true → cut_line bytes ≡ Some (cut_at bytes n)
cut_there n bytes is ends =
    cut_behind n bytes is ∙ ap (option_map (onto_front (take n bytes))) (at_end (drop n bytes) ends) ∙ front_cut n bytes (Some 0)
    ∙ ap (λ k. Some (cut_at bytes k)) (let e : n + 0 ≡ n = omega arith in e)

-- a line's end fits into the text, with both its bytes
pub end_fits : (bytes : List ℕ) (k : ℕ) → cut_line bytes ≡ Some (cut_at bytes k) → k + 2 ≤ length bytes
end_fits bytes k is =
    omega (arith, cut_length bytes (cut_at bytes k) is, length-take k bytes, length-drop (k + 2) bytes)

length_step : (test : Bool) (a : ℕ) (rest : List ℕ) (inner : Option Cut) (cut : Cut) (clear after : ℕ → Bool)
    → clear 0 ≡ true → ((n : ℕ) → clear (suc n) ≡ (not test && after n)) → ((c : Cut) → inner ≡ Some c → after (length c.line) ≡ true)
    → (if test then Some (record { line = []; rest = rest }) else option_map (onto_line a) inner) ≡ Some cut
    → clear (length cut.line) ≡ true
length_step true a rest inner cut clear after first next behind is =
    let e : record { line = []; rest = rest } ≡ cut = cc in
    ap (λ (c : Cut). clear (length c.line)) (sym e) ∙ first
length_step false a rest None cut clear after first next behind is = cc
length_step false a rest (Some c) cut clear after first next behind is =
    let e : onto_line a c ≡ cut = cc in
    ap (λ (c : Cut). clear (length c.line)) (sym e) ∙ next (length c.line) ∙ behind c refl

-- no line's end stands in the line that is cut
pub clear_line : (bytes : List ℕ) (cut : Cut) → cut_line bytes ≡ Some cut → clear_to (length cut.line) bytes ≡ true
clear_line [] cut is = cc
clear_line (a ∷ []) cut is = cc
clear_line (a ∷ b ∷ rest) cut is =
    length_step (a == 13 && b == 10) a rest (cut_line (b ∷ rest)) cut (λ n. clear_to n (a ∷ b ∷ rest)) (λ n. clear_to n (b ∷ rest))
    refl (λ n. refl) (clear_line (b ∷ rest)) is

-- and so is the text up to that line's end
pub clear_end : (bytes : List ℕ) (k : ℕ) → cut_line bytes ≡ Some (cut_at bytes k) → clear_to k bytes ≡ true
clear_end bytes k is =
    let e : length (take k bytes) ≡ k = length-take-le k bytes (omega (arith, end_fits bytes k is)) in
    rw e at (clear_line bytes (cut_at bytes k) is)

none_step : (test : Bool) (a : ℕ) (rest : List ℕ) (inner : Option Cut) (clear : Bool) → (inner ≡ None → clear ≡ true)
    → (if test then Some (record { line = []; rest = rest }) else option_map (onto_line a) inner) ≡ None → (not test && clear) ≡ true
none_step true a rest inner clear goes_on is = cc
none_step false a rest None clear goes_on is = goes_on refl
none_step false a rest (Some c) clear goes_on is = cc

clear_none : (n : ℕ) (bytes : List ℕ) → n + 1 ≤ length bytes → cut_line bytes ≡ None → clear_to n bytes ≡ true
clear_none zero bytes within none = refl
clear_none (suc n) [] within none = absurd (omega arith)
clear_none (suc n) (a ∷ []) within none = absurd (omega arith)
clear_none (suc n) (a ∷ b ∷ rest) within none =
    none_step (a == 13 && b == 10) a rest (cut_line (b ∷ rest)) (clear_to n (b ∷ rest)) (clear_none n (b ∷ rest) (omega arith)) none

-- a text without a line's end is clear up to its last byte
pub clear_short : (bytes : List ℕ) → cut_line bytes ≡ None → clear_to (length bytes - 1) bytes ≡ true
clear_short [] none = refl
clear_short (a ∷ rest) none =
    let e : length (a ∷ rest) - 1 ≡ length rest = omega arith in
    rw e (clear_none (length rest) (a ∷ rest) (omega arith) none)

-- ---- by the first LF

join_step : (test inner later : Bool) → (inner ≡ true → later ≡ true) → (not test && inner) ≡ true → (not test && later) ≡ true
join_step true inner later goes_on is = cc
join_step false inner later goes_on is = goes_on is

-- a front that is clear, and a clear front behind it
clear_join : (n m : ℕ) (bytes : List ℕ) → clear_to n bytes ≡ true → clear_to m (drop n bytes) ≡ true → clear_to (n + m) bytes ≡ true
clear_join zero m bytes is later = let e : zero + m ≡ m = omega arith in rw e later
clear_join (suc n) m [] is later = cc
clear_join (suc n) m (a ∷ []) is later = cc
clear_join (suc n) m (a ∷ b ∷ rest) is later =
    let e : suc n + m ≡ suc (n + m) = omega arith in
    rw e (join_step (a == 13 && b == 10) (clear_to n (b ∷ rest)) (clear_to (n + m) (b ∷ rest)) (λ inner. clear_join n m (b ∷ rest) inner later) is)

lf_step : (test : Bool) (a b : ℕ) (inner : Bool) → (a == 13 && b == 10) ≡ test → (is_byte 10 b ≡ true → ⊥) → inner ≡ true → (not test && inner) ≡ true
lf_step true a b inner is never ok = let q : b ≡ 10 = grind (arith, tests) in absurd (never (rw q refl))
lf_step false a b inner is never ok = ok

-- a text is clear up to the place before its first LF
lf_clear : (n : ℕ) (bytes : List ℕ) → n < length bytes → ((k : ℕ) → k < suc n → is_byte 10 (slice_index bytes k) ≡ true → ⊥) → clear_to n bytes ≡ true
lf_clear zero bytes within never = refl
lf_clear (suc n) [] within never = absurd (omega arith)
lf_clear (suc n) (a ∷ []) within never = absurd (omega arith)
lf_clear (suc n) (a ∷ b ∷ rest) within never =
    lf_step (a == 13 && b == 10) a b (clear_to n (b ∷ rest)) refl (never 1 (omega arith))
    (lf_clear n (b ∷ rest) (omega arith) (λ k h. never (suc k) (omega arith)))

before_lf : (i : ℕ) (bytes : List ℕ) → IsFirstByte (is_byte 10) bytes (Some i) → clear_to (i - 1) bytes ≡ true
before_lf zero bytes found = refl
before_lf (suc i) bytes found =
    let e : suc i - 1 ≡ i = omega arith in
    rw e (lf_clear i bytes (omega (arith, found.0.high)) (λ k h. found.0.before k (omega arith) h))

-- the place before the first LF behind a clear front is clear
pub clear_before : (n i : ℕ) (bytes : List ℕ) → clear_to n bytes ≡ true → IsFirstByte (is_byte 10) (drop n bytes) (Some i)
    → clear_to (n + (i - 1)) bytes ≡ true
clear_before n i bytes is found = clear_join n (i - 1) bytes is (before_lf i (drop n bytes) found)

no_lf : (bytes : List ℕ) → IsFirstByte (is_byte 10) bytes None → cut_line bytes ≡ None
no_lf bytes none = cut_none bytes (λ k occurs. none (k + 1) (omega arith) (omega (arith, occurs.fits)) (rw (occurs.reads 1 (lit< tt)) refl))

-- a text without an LF behind a clear front isn't cut
pub uncut : (n : ℕ) (bytes : List ℕ) → clear_to n bytes ≡ true → IsFirstByte (is_byte 10) (drop n bytes) None → cut_line bytes ≡ None
uncut n bytes is none = cut_behind n bytes is ∙ ap (option_map (onto_front (take n bytes))) (no_lf (drop n bytes) none)

-- ---- by steps

-- the first LF behind a place stands within the text
pub lf_fits : (n i : ℕ) (bytes : List ℕ) → IsFirstByte (is_byte 10) (drop n bytes) (Some i) → n + i < length bytes
lf_fits n i bytes found = omega (arith, found.0.high, length-drop n bytes)

not_pair : (test : Bool) (a b : ℕ) (rest : List ℕ) → (a == 13 && b == 10) ≡ test → starts_with nat_eq (a ∷ b ∷ rest) (codes "\r\n") ≡ false
    → (not test && true) ≡ true
not_pair true a b rest is absent =
    let p : a ≡ 13 = grind (arith, tests) in
    let q : b ≡ 10 = grind (arith, tests) in
    let e : true ≡ false = rw (p, q) at absent in
    cc
not_pair false a b rest is absent = refl

clear_one : (bytes : List ℕ) → 1 < length bytes → starts_with nat_eq bytes (codes "\r\n") ≡ false → clear_to 1 bytes ≡ true
clear_one [] within absent = absurd (omega arith)
clear_one (a ∷ []) within absent = absurd (omega arith)
clear_one (a ∷ b ∷ rest) within absent = not_pair (a == 13 && b == 10) a b rest refl absent

-- a clear front grows by a place where no line's end stands
clear_next : (n : ℕ) (bytes : List ℕ) → clear_to n bytes ≡ true → is_crlf_at bytes n ≡ false → n + 1 < length bytes → clear_to (n + 1) bytes ≡ true
clear_next n bytes is absent within = clear_join n 1 bytes is (clear_one (drop n bytes) (omega (arith, length-drop n bytes)) absent)

-- a text is clear up to its first LF where that ends no line
clear_before_lf : (n i : ℕ) (bytes : List ℕ) → clear_to n bytes ≡ true → IsFirstByte (is_byte 10) (drop n bytes) (Some i) → 0 < i
    → is_crlf_at bytes (n + i - 1) ≡ false → clear_to (n + i) bytes ≡ true
clear_before_lf n i bytes is found some absent =
    let place : n + i - 1 ≡ n + (i - 1) = omega arith in
    let next : n + (i - 1) + 1 ≡ n + i = omega arith in
    rw next at (clear_next (n + (i - 1)) bytes (clear_before n i bytes is found) (rw place at absent) (omega (arith, lf_fits n i bytes found)))

no_end_at_lf : (i : ℕ) (bytes : List ℕ) → is_byte 10 (slice_index bytes i) ≡ true → i < length bytes → is_crlf_at bytes i ≡ false
no_end_at_lf zero [] lf within = absurd (omega arith)
no_end_at_lf zero (b ∷ rest) lf within = let p : b ≡ 10 = grind (arith, tests) in rw p refl
no_end_at_lf (suc i) [] lf within = absurd (omega arith)
no_end_at_lf (suc i) (b ∷ rest) lf within = no_end_at_lf i rest lf (omega arith)

-- and past it, where a byte follows
clear_past_lf : (n i : ℕ) (bytes : List ℕ) → clear_to (n + i) bytes ≡ true → IsFirstByte (is_byte 10) (drop n bytes) (Some i)
    → n + i + 1 < length bytes → clear_to (n + i + 1) bytes ≡ true
clear_past_lf n i bytes is found within =
    let there : is_crlf_at (drop n bytes) i ≡ is_crlf_at bytes (n + i) = ap (λ text. starts_with nat_eq text (codes "\r\n")) (drop-drop i n bytes) in
    clear_next (n + i) bytes is (sym there ∙ no_end_at_lf i (drop n bytes) found.1 found.0.high) within

cut_short : (bytes : List ℕ) → length bytes ≤ 1 → cut_line bytes ≡ None
cut_short [] within = refl
cut_short (a ∷ []) within = refl
cut_short (a ∷ b ∷ rest) within = absurd (omega arith)

-- a text that is clear up to its last byte isn't cut
pub uncut_end : (n : ℕ) (bytes : List ℕ) → clear_to n bytes ≡ true → length bytes ≤ n + 1 → cut_line bytes ≡ None
uncut_end n bytes is within =
    cut_behind n bytes is ∙ ap (option_map (onto_front (take n bytes))) (cut_short (drop n bytes) (omega (arith, length-drop n bytes)))

kept_clear : (test inner : Bool) → (not test && inner) ≡ true → inner ≡ true
kept_clear true inner is = cc
kept_clear false inner is = is

-- a byte stands behind each place of a clear front
pub clear_within : (n : ℕ) (bytes : List ℕ) → clear_to n bytes ≡ true → n ≤ length bytes - 1
clear_within zero bytes is = omega arith
clear_within (suc n) [] is = cc
clear_within (suc n) (a ∷ []) is = cc
clear_within (suc n) (a ∷ b ∷ rest) is =
    omega (arith, clear_within n (b ∷ rest) (kept_clear (a == 13 && b == 10) (clear_to n (b ∷ rest)) is))

-- what a step at the byte before the first LF tells
pub ends_by : (told : Bool) (place at : ℕ) (bytes : List ℕ) → place < at → clear_to place bytes ≡ true
    → IsFirstByte (is_byte 10) (drop place bytes) (Some (at - place)) → told ≡ is_crlf_at bytes (at - 1) → OnTrue told (EndsBefore place at bytes)
ends_by true place at bytes past is found tells =
    let there : place + (at - place - 1) ≡ at - 1 = omega arith in
    (past, rw there at (clear_before place (at - place) bytes is found), sym tells)
ends_by false place at bytes past is found tells = tt

pub none_by : (told : Bool) (place at : ℕ) (bytes : List ℕ) → place < at → clear_to place bytes ≡ true
    → IsFirstByte (is_byte 10) (drop place bytes) (Some (at - place)) → told ≡ is_crlf_at bytes (at - 1) → OnFalse told (IsTrue (clear_to at bytes))
none_by true place at bytes past is found tells = tt
none_by false place at bytes past is found tells =
    let there : place + (at - place) ≡ at = omega arith in
    let before : place + (at - place) - 1 ≡ at - 1 = omega arith in
    rw there at (clear_before_lf place (at - place) bytes is found (omega arith) (rw before (sym tells)))

-- where a byte follows the first LF, and that ends no line, the text is clear past it
pub clear_past : (place at lf : ℕ) (bytes : List ℕ) → at ≡ place + lf → clear_to at bytes ≡ true → IsFirstByte (is_byte 10) (drop place bytes) (Some lf)
    → at + 1 < length bytes → clear_to (at + 1) bytes ≡ true
clear_past place at lf bytes sum is found within =
    rw sum (clear_past_lf place lf bytes (rw sum at is) found (rw sum at within))

-- ---- as the text grows, and as its front goes

starts_more : (bytes more : List ℕ) → starts_with nat_eq bytes (codes "\r\n") ≡ true → starts_with nat_eq (bytes ++ more) (codes "\r\n") ≡ true
starts_more [] more is = cc
starts_more (a ∷ []) more is = absurd (no_pair (nat_eq 13 a) is)
starts_more (a ∷ b ∷ rest) more is = is

crlf_more : (n : ℕ) (bytes more : List ℕ) → is_crlf_at bytes n ≡ true → is_crlf_at (bytes ++ more) n ≡ true
crlf_more zero bytes more is = starts_more bytes more is
crlf_more (suc n) [] more is = cc
crlf_more (suc n) (a ∷ bytes) more is = crlf_more n bytes more is

-- what was looked for is found in more bytes too
pub looked_more : (place : ℕ) (ended : Bool) (bytes more : List ℕ) → Looked place ended bytes → Looked place ended (bytes ++ more)
looked_more place false bytes more is = (omega (arith, is.0, length-append bytes more), clear_more place bytes more is.1, tt)
looked_more place true bytes more is =
    (omega (arith, is.0, length-append bytes more), clear_more place bytes more is.1, crlf_more place bytes more is.2)

-- a line's end that was found fits into the text, with both its bytes
pub found_fits : (place : ℕ) (bytes : List ℕ) → Looked place true bytes → place + 2 ≤ length bytes
found_fits place bytes is = end_fits bytes place (cut_there place bytes is.1 is.2)

pub fits_there : (place : ℕ) (ended : Bool) (bytes : List ℕ) → ended ≡ true → Looked place ended bytes → place + 2 ≤ length bytes
fits_there place true bytes e is = found_fits place bytes is
fits_there place false bytes e is = cc

-- and the text is cut there
pub cut_found : (place : ℕ) (ended : Bool) (bytes : List ℕ) → ended ≡ true → Looked place ended bytes → cut_line bytes ≡ Some (cut_at bytes place)
cut_found place true bytes e is = cut_there place bytes is.1 is.2
cut_found place false bytes e is = cc

pub on_false : (test : Bool) (P : Type 0) → test ≡ false → OnFalse test P → P
on_false true P e is = cc
on_false false P e is = is

pub tested_fits : (place : ℕ) (ended : Bool) (bytes : List ℕ) → Looked place ended bytes → tested place ended ≤ length bytes
tested_fits place false bytes is = is.0
tested_fits place true bytes is = omega (arith, found_fits place bytes is)

more_left : (tested size more : ℕ) → tested ≤ size → size + more - tested ≡ size - tested + more
more_left tested size more fits = omega arith

-- all bytes that come are not tested yet
pub untested_more : (place : ℕ) (ended : Bool) (bytes more : List ℕ) → Looked place ended bytes
    → untested place ended (bytes ++ more) ≡ untested place ended bytes + length more
untested_more place ended bytes more is =
    ap (λ size. size - tested place ended) (length-append bytes more)
    ∙ more_left (tested place ended) (length bytes) (length more) (tested_fits place ended bytes is)

-- what is needed is needed of more bytes too
pub needs_more : (bytes more : List ℕ) (size : ℕ) → Needs bytes size → Needs (bytes ++ more) size
needs_more bytes more size needs = λ others short.
    let e = append_assoc bytes more others in
    rw e (needs (more ++ others) (rw e at short))

clear_drop : (n k : ℕ) (bytes : List ℕ) → clear_to n bytes ≡ true → clear_to (n - k) (drop k bytes) ≡ true
clear_drop n zero bytes is = let e : n - zero ≡ n = omega arith in rw e is
clear_drop zero (suc k) bytes is = let e : zero - suc k ≡ zero = omega arith in rw e refl
clear_drop (suc n) (suc k) [] is = cc
clear_drop (suc n) (suc k) (a ∷ []) is = cc
clear_drop (suc n) (suc k) (a ∷ b ∷ rest) is =
    let e : suc n - suc k ≡ n - k = omega arith in
    rw e (clear_drop n k (b ∷ rest) (kept_clear (a == 13 && b == 10) (clear_to n (b ∷ rest)) is))

crlf_drop : (n k : ℕ) (bytes : List ℕ) → k ≤ n → is_crlf_at (drop k bytes) (n - k) ≡ is_crlf_at bytes n
crlf_drop n k bytes within =
    let e : k + (n - k) ≡ n = omega arith in
    ap (λ text. starts_with nat_eq text (codes "\r\n")) (drop-drop (n - k) k bytes) ∙ ap (is_crlf_at bytes) e

-- what was found stands nearer to the front once some bytes before it go
looked_drop : (place n : ℕ) (ended : Bool) (bytes : List ℕ) → Looked place ended bytes → n ≤ place → Looked (place - n) ended (drop n bytes)
looked_drop place n false bytes is within = (omega (arith, is.0, length-drop n bytes), clear_drop place n bytes is.1, tt)
looked_drop place n true bytes is within =
    (omega (arith, is.0, length-drop n bytes), clear_drop place n bytes is.1, crlf_drop place n bytes within ∙ is.2)

untested_drop : (place n : ℕ) (ended : Bool) (bytes : List ℕ) → n ≤ place
    → untested (place - n) ended (drop n bytes) ≤ untested place ended bytes
untested_drop place n false bytes within = omega (arith, length-drop n bytes)
untested_drop place n true bytes within = omega (arith, length-drop n bytes)

-- nothing is known once more than was tested goes
untested_all : (place n : ℕ) (ended : Bool) (bytes : List ℕ) → place < n → untested 0 false (drop n bytes) ≤ untested place ended bytes
untested_all place n false bytes past = omega (arith, length-drop n bytes)
untested_all place n true bytes past = omega (arith, length-drop n bytes)

pub looked_behind : (n place new_place : ℕ) (ended new_ended : Bool) (bytes : List ℕ) → Looked place ended bytes
    → Behind n place ended new_place new_ended → Looked new_place new_ended (drop n bytes)
looked_behind n place new_place ended new_ended bytes is behind =
    ⊎_elim (λ past. let e = behind.1 past in rw (e.0, e.1) (omega arith, refl, tt))
    (λ within. let e = behind.0 within in rw (e.0, e.1) (looked_drop place n ended bytes is within))
    (cases_lt place n)

pub untested_behind : (n place new_place : ℕ) (ended new_ended : Bool) (bytes : List ℕ) → Behind n place ended new_place new_ended
    → untested new_place new_ended (drop n bytes) ≤ untested place ended bytes
untested_behind n place new_place ended new_ended bytes behind =
    ⊎_elim (λ past. let e = behind.1 past in rw (e.0, e.1) (untested_all place n ended bytes past))
    (λ within. let e = behind.0 within in rw (e.0, e.1) (untested_drop place n ended bytes within))
    (cases_lt place n)

finished_by : (found : Front) (bytes more : List ℕ) → front bytes ≡ found → is_unfinished found ≡ false → is_unfinished (front (bytes ++ more)) ≡ false
finished_by unfinished bytes more here is = cc
finished_by (got op n) bytes more here is = ap is_unfinished (front_more bytes more op n here)
finished_by (fault n) bytes more here is = ap is_unfinished (fault_more bytes more n here)

-- what stands there whole stays there
pub ready_more : (ready : Bool) (bytes more : List ℕ) → OnTrue ready (is_unfinished (front bytes) ≡ false)
    → OnTrue ready (is_unfinished (front (bytes ++ more)) ≡ false)
ready_more true bytes more is = finished_by (front bytes) bytes more refl is
ready_more false bytes more is = tt

-- ---- how many bytes are needed

pub needs_line : (bytes : List ℕ) (cut : Cut) (count size : ℕ) → cut_line bytes ≡ Some cut → Awaits cut.line count
    → size ≤ length cut.line + count + 4 → Needs bytes size
unfolding sight
needs_line bytes cut count size is awaits fits = λ more h.
    rw (cut_more bytes more cut is)
    (awaits (cut.rest ++ more) (omega (arith, h, fits, cut_length bytes cut is, length-append bytes more, length-append cut.rest more)))

-- ---- a test at one place

pub looked_end : (ended : Bool) (place : ℕ) (bytes : List ℕ) → place ≤ length bytes → clear_to place bytes ≡ true → ended ≡ is_crlf_at bytes place
    → Looked place ended bytes
looked_end true place bytes within clear is = (within, clear, sym is)
looked_end false place bytes within clear is = (within, clear, tt)

-- a byte was tested there
pub end_paid : (ended : Bool) (place : ℕ) (bytes : List ℕ) → 0 < place → place + 1 < length bytes → untested place ended bytes + 1 ≤ length bytes
end_paid true place bytes some within = omega arith
end_paid false place bytes some within = omega arith
