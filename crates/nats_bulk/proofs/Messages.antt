-- A message that is written is read as one whole message.
use Rattle.std.proofs.Common.{◌≡◌, ◌≢◌, ℕ, zero, suc, ◌+◌, ◌<◌, ◌≤◌, ◌^◌, ◌/◌, ◌%◌, Bool, true, false, cond, not, List, [], ◌∷◌, ◌++◌, length, take, drop, get_or, Option, Some, None, refl, ap, sym, ◌∙◌, arith, tests, lit<, append_assoc, length-append, option_map}
use Rattle.std.specs.Prelude.{◌==◌, ◌&&◌, nat_lt, if◌then◌else◌, codes}
use Rattle.std.specs.List.{filter, slice_split, onto_first}
use Rattle.std.specs.Fmt.{digits, digits_onto, digit_glyph, decimal}
use Rattle.std.specs.Char.{is_ascii_digit}
use Rattle.std.specs.Str.{is_utf8, IsUtf8, IsAscii, all_ascii_digits}
use Rattle.std.specs.Str.Parse.{digits_value, without_leading_plus}
use Rattle.std.proofs.Math.Seq.{take-append_seam}
use Rattle.std.proofs.lemmas.List.{drop_all}
use Rattle.std.proofs.lemmas.Bool.{lt-ltb, le-ltb}
use Rattle.std.proofs.lemmas.Fmt.{digits_decimal, digits_value-decimal, decimal_nonempty, IsAscii-decimal}
use Rattle.std.proofs.lemmas.Str.{is_utf8-from_IsUtf8, IsUtf8-append, IsUtf8-from_ascii}
use Rattle.std.proofs.lemmas.Str.Ascii.{IsAscii-nil}
use Rattle.std.proofs.lemmas.Str.Parse.{IsNumeralModel, numerals_by_value, tells_all_ascii_digits, without_leading_plus_none}
use Rattle.nats_message.specs.declared.message.Message.{Message}
use Rattle.nats_lines.specs.Operations.{message, got, front, Cut, onto_line, cut_line, number_of, Head, pieces_of, head_with, head_of_pieces, head_of, message_of, plain, less, whole, message_or_bad, sight}
use Rattle.nats_lines.proofs.Fronts.{sight_by_cut, front_by_sight}

-- ---- numbers

either : (b : Bool) (xs ys : List ℕ) (m : ℕ) → length xs ≤ m → length ys ≤ m → length (cond b xs ys) ≤ m
either true xs ys m p q = p
either false xs ys m p q = q

onto_short : (k base : ℕ) (upper : Bool) (n : ℕ) (acc : List ℕ) (m : ℕ) → k + length acc ≤ m → length (digits_onto k base upper n acc) ≤ m
onto_short zero base upper n acc m fits = omega (arith, fits)
onto_short (suc k) base upper n acc m fits =
    let glyph = digit_glyph upper (n % base) in
    either (n / base == 0) (glyph ∷ acc) (digits_onto k base upper (n / base) (glyph ∷ acc)) m (omega (arith, fits))
    (onto_short k base upper (n / base) (glyph ∷ acc) m (omega (arith, fits)))

-- a number has few digits, however large it is
decimal_short : (n : ℕ) → length (decimal n) ≤ 64
unfolding digits
decimal_short n = onto_short 64 10 false n [] 64 (omega arith)

own : IsNumeralModel (λ ds. all_ascii_digits ds ≡ true) (digits_value 10)
own = numerals_by_value _ tells_all_ascii_digits

both : (a b : Bool) → (a && b) ≡ true → (a ≡ true) × (b ≡ true)
both true true is = (refl, refl)
both true false is = cc
both false b is = cc

digit_no_plus : (c : ℕ) → is_ascii_digit c ≡ true → c ≢ 43
digit_no_plus c is plus = grind (arith, tests)

digit_no_space : (c : ℕ) → is_ascii_digit c ≡ true → (c == 32) ≡ false
digit_no_space c is = grind (arith, tests)

digit_no_return : (c : ℕ) → is_ascii_digit c ≡ true → (c == 13) ≡ false
digit_no_return c is = grind (arith, tests)

no_plus : (text : List ℕ) → all_ascii_digits text ≡ true → get_or text 0 0 ≢ 43
no_plus [] is plus = absurd (omega (arith, plus))
no_plus (c ∷ text) is plus = digit_no_plus c (both (is_ascii_digit c) (all_ascii_digits text) is).0 plus

none_left : (text : List ℕ) → 0 < length text → (length text == 0) ≡ false
none_left [] some = absurd (omega (arith, some))
none_left (b ∷ text) some = grind (arith, tests)

number_step : (none right small : Bool) (n m : ℕ) → none ≡ false → right ≡ true → small ≡ true → n ≡ m
    → (if not none && right && small then Some n else None) ≡ Some m
number_step false true true n m p q r same = ap Some same
number_step true right small n m p q r same = cc
number_step false false small n m p q r same = cc
number_step false true false n m p q r same = cc

-- a number that is written is read
number_back : (n : ℕ) → n < 2 ^ 64 → number_of (decimal n) ≡ Some n
number_back n small =
    let right : all_ascii_digits (decimal n) ≡ true = digits_decimal own n small in
    let value : digits_value 10 (decimal n) ≡ n = digits_value-decimal own n small in
    let bare : without_leading_plus (decimal n) ≡ decimal n = without_leading_plus_none (decimal n) (no_plus (decimal n) right) in
    ap (λ ds. if not (length ds == 0) && all_ascii_digits ds && nat_lt (digits_value 10 ds) (2 ^ 64) then Some (digits_value 10 ds) else None) bare
    ∙ number_step (length (decimal n) == 0) (all_ascii_digits (decimal n)) (nat_lt (digits_value 10 (decimal n)) (2 ^ 64)) (digits_value 10 (decimal n)) n
    (none_left (decimal n) (decimal_nonempty n small)) right (lt-ltb _ _ (rw value small)) value

-- ---- the line

-- no byte is a CR
abbrev pub NoReturn : List ℕ → Type 0
NoReturn [] = Unit {0}
NoReturn (b ∷ bytes) = ((b == 13) ≡ false) × NoReturn bytes

no_return_append : (xs ys : List ℕ) → NoReturn xs → NoReturn ys → NoReturn (xs ++ ys)
no_return_append [] ys is are = are
no_return_append (x ∷ xs) ys is are = (is.0, no_return_append xs ys is.1 are)

digits_no_return : (ds : List ℕ) → all_ascii_digits ds ≡ true → NoReturn ds
digits_no_return [] is = tt
digits_no_return (c ∷ ds) is =
    let parts = both (is_ascii_digit c) (all_ascii_digits ds) is in
    (digit_no_return c parts.0, digits_no_return ds parts.1)

cut_step : (test other : Bool) (a : ℕ) (more : List ℕ) (inner : Option Cut) (cut : Cut) → test ≡ false → inner ≡ Some cut
    → (if test && other then Some (record { line = []; rest = more }) else option_map (onto_line a) inner) ≡ Some (onto_line a cut)
cut_step true other a more inner cut is same = cc
cut_step false other a more inner cut is same = ap (option_map (onto_line a)) same

cut_later : (a : ℕ) (text : List ℕ) (cut : Cut) → (a == 13) ≡ false → cut_line text ≡ Some cut → cut_line (a ∷ text) ≡ Some (onto_line a cut)
cut_later a [] cut is later = cc
cut_later a (b ∷ more) cut is later = cut_step (a == 13) (b == 10) a more (cut_line (b ∷ more)) cut is later

-- a line without a CR is cut at its CR LF
cut_clean : (line rest : List ℕ) → NoReturn line → cut_line (line ++ 13 ∷ 10 ∷ rest) ≡ Some (record { line = line; rest = rest })
cut_clean [] rest is = refl
cut_clean (b ∷ line) rest is = cut_later b (line ++ 13 ∷ 10 ∷ rest) (record { line = line; rest = rest }) is.0 (cut_clean line rest is.1)

split_step : (test : Bool) (x : ℕ) (text : List ℕ) (parts : List (List ℕ)) → test ≡ false → parts ≡ text ∷ []
    → (if test then [] ∷ parts else onto_first x parts) ≡ (x ∷ text) ∷ []
split_step true x text parts is same = cc
split_step false x text parts is same = ap (onto_first x) same

split_digits : (ds : List ℕ) → all_ascii_digits ds ≡ true → slice_split (λ b. b == 32) ds ≡ ds ∷ []
split_digits [] is = refl
split_digits (c ∷ ds) is =
    let parts = both (is_ascii_digit c) (all_ascii_digits ds) is in
    split_step (c == 32) c ds (slice_split (λ b. b == 32) ds) (digit_no_space c parts.0) (split_digits ds parts.1)

kept_whole : (ds : List ℕ) (parts : List (List ℕ)) → parts ≡ ds ∷ [] → (length ds == 0) ≡ false
    → filter (λ piece. not (length piece == 0)) parts ≡ ds ∷ []
kept_whole ds parts is some = ap (filter (λ piece. not (length piece == 0))) is ∙ ap (λ none. cond (not none) (ds ∷ []) []) some

-- each byte is ASCII
abbrev AreSmall : List ℕ → Type 0
AreSmall [] = Unit {0}
AreSmall (b ∷ bytes) = (b < 128) × AreSmall bytes

small_ascii : (bytes : List ℕ) → AreSmall bytes → IsAscii bytes
small_ascii [] are i = IsAscii-nil i
small_ascii (b ∷ bytes) are zero = are.0
small_ascii (b ∷ bytes) are (suc i) = small_ascii bytes are.1 i

-- what stands in a message's line between its word and the count of its payload: subject and number
record Names (between subject : List ℕ) (sid : ℕ) : Type 0 where
  clean : NoReturn between
  ascii : AreSmall between
  pieces : (ds : List ℕ) → slice_split (λ b. b == 32) ds ≡ ds ∷ [] → (length ds == 0) ≡ false
      → head_of_pieces (pieces_of (between ++ ds)) ≡ head_with subject None (Some sid) (number_of ds)

utf8_step : (test : Bool) (text : List ℕ) → test ≡ true → (if test then head_of_pieces (pieces_of text) else None) ≡ head_of_pieces (pieces_of text)
utf8_step true text is = refl
utf8_step false text is = cc

head_read : (between subject : List ℕ) (sid n : ℕ) → n < 2 ^ 64 → Names between subject sid
    → head_of (between ++ decimal n) ≡ Some (record { subject = subject; sid = sid; reply = None; count = n })
head_read between subject sid n small names =
    let ds = decimal n in
    let right : all_ascii_digits ds ≡ true = digits_decimal own n small in
    let utf8 : IsUtf8 (between ++ ds) =
    IsUtf8-append between ds (IsUtf8-from_ascii between (small_ascii between names.ascii)) (IsUtf8-from_ascii ds (IsAscii-decimal n small)) in
    utf8_step (is_utf8 (between ++ ds)) (between ++ ds) (is_utf8-from_IsUtf8 (between ++ ds) utf8)
    ∙ names.pieces ds (split_digits ds right) (none_left ds (decimal_nonempty n small))
    ∙ ap (head_with subject None (Some sid)) (number_back n small)

-- ---- the whole

abbrev pub text_with : List ℕ → List ℕ → List ℕ
text_with start payload = start ++ (decimal (length payload) ++ (codes "\r\n" ++ (payload ++ codes "\r\n")))

-- one message stands in a text, and nothing behind it
pub record IsMessage (text : List ℕ) : Type 0 where
  pub sid : ℕ
  pub m : Message
  pub n : ℕ
  pub is : front text ≡ got (message sid m) n
  pub ends : drop n text ≡ []

body_step : (few : Bool) (size : ℕ) (head : Head) (bytes payload : List ℕ) → few ≡ false → bytes ≡ payload
    → (if few then less else whole (plain (message head.sid (message_of head bytes))) size) ≡ whole (plain (message head.sid (message_of head payload))) size
body_step true size head bytes payload is same = cc
body_step false size head bytes payload is same = ap (λ b. whole (plain (message head.sid (message_of head b))) size) same

body_read : (end : ℕ) (head : Head) (payload : List ℕ) → head.count ≡ length payload
    → message_or_bad end (payload ++ 13 ∷ 10 ∷ []) (Some head) ≡ whole (plain (message head.sid (message_of head payload))) (end + head.count + 4)
body_read end head payload counts =
    let rest = payload ++ 13 ∷ 10 ∷ [] in
    let enough : nat_lt (length rest) (head.count + 2) ≡ false =
    le-ltb (length rest) (head.count + 2) (omega (arith, counts, length-append payload (13 ∷ 10 ∷ []))) in
    body_step (nat_lt (length rest) (head.count + 2)) (end + head.count + 4) head (take head.count rest) payload enough
    (ap (λ n. take n rest) counts ∙ take-append_seam payload (13 ∷ 10 ∷ []))

written : (between subject : List ℕ) (sid : ℕ) (payload : List ℕ) → length payload < 2 ^ 64 → Names between subject sid
    → IsMessage (text_with (codes "MSG " ++ between) payload)
written between subject sid payload small names =
    let count = length payload in
    let ds = decimal count in
    let line = codes "MSG " ++ (between ++ ds) in
    let rest = payload ++ 13 ∷ 10 ∷ [] in
    let text = text_with (codes "MSG " ++ between) payload in
    let head : Head = record { subject = subject; sid = sid; reply = None; count = count } in
    let size = length line + count + 4 in
    let clean : NoReturn line =
    (refl, (refl, (refl, (refl, no_return_append between ds names.clean (digits_no_return ds (digits_decimal own count small)))))) in
    let same : line ++ 13 ∷ 10 ∷ rest ≡ text = ap (λ t. codes "MSG " ++ t) (append_assoc between ds (13 ∷ 10 ∷ rest)) in
    let found : Cut = record { line = line; rest = rest } in
    let cut : Some found ≡ cut_line text = sym (cut_clean line rest clean) ∙ ap cut_line same in
    let seen : sight text ≡ whole (plain (message sid (message_of head payload))) size =
    sight_by_cut text (Some found) cut
    ∙ ap (message_or_bad (length line) rest) (head_read between subject sid count small names)
    ∙ body_read (length line) head payload refl in
    record {
      sid = sid;
      m = message_of head payload;
      n = size;
      is = front_by_sight text (whole (plain (message sid (message_of head payload))) size) (sym seen);
      ends = drop_all size text (omega (arith, ap length same, length-append line (13 ∷ 10 ∷ rest), length-append payload (13 ∷ 10 ∷ [])));
    }

of_a : Names (codes "bulk.a 1 ") (codes "bulk.a") 1
of_a = record {
  clean = (refl, (refl, (refl, (refl, (refl, (refl, (refl, (refl, (refl, tt)))))))));
  ascii = (lit< tt, (lit< tt, (lit< tt, (lit< tt, (lit< tt, (lit< tt, (lit< tt, (lit< tt, (lit< tt, tt)))))))));
  pieces = λ ds split some. ap (λ parts. head_of_pieces (codes "bulk.a" ∷ codes "1" ∷ parts)) (kept_whole ds (slice_split (λ b. b == 32) ds) split some);
}

of_b : Names (codes "bulk.b 2 ") (codes "bulk.b") 2
of_b = record {
  clean = (refl, (refl, (refl, (refl, (refl, (refl, (refl, (refl, (refl, tt)))))))));
  ascii = (lit< tt, (lit< tt, (lit< tt, (lit< tt, (lit< tt, (lit< tt, (lit< tt, (lit< tt, (lit< tt, tt)))))))));
  pieces = λ ds split some. ap (λ parts. head_of_pieces (codes "bulk.b" ∷ codes "2" ∷ parts)) (kept_whole ds (slice_split (λ b. b == 32) ds) split some);
}

pub message_a : (k : ℕ) → IsMessage (text_with (codes "MSG bulk.a 1 ") (decimal k))
message_a k = written (codes "bulk.a 1 ") (codes "bulk.a") 1 (decimal k) (omega (arith, decimal_short k)) of_a

pub message_b : (k : ℕ) → IsMessage (text_with (codes "MSG bulk.b 2 ") (decimal k))
message_b k = written (codes "bulk.b 2 ") (codes "bulk.b") 2 (decimal k) (omega (arith, decimal_short k)) of_b
