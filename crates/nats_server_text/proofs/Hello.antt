-- The line by which a broker says what it is, read back.
use Rattle.std.proofs.Common.{◌≡◌, ℕ, ◌≤◌, ◌<◌, ◌^◌, ◌==◌, Bool, true, false, ◌&&◌, ◌||◌, cond, List, [], ◌∷◌, ◌++◌, length, drop, Option, Some, None, refl, ap, sym, ◌∙◌, arith, append_assoc, append-nil, length-append, decimal, inl, inr, ◌⊎◌, subst, ◌+◌, option_map}
use Rattle.std.specs.Prelude.{nat_le, nat_lt, not, if◌then◌else◌, codes, option_and_then}
use Rattle.std.specs.List.{list_all}
use Rattle.std.specs.Str.{is_utf8, IsUtf8}
use Rattle.std.proofs.lemmas.Bool.{and_parts, or_cases, leb-true, ne_eqb, not-true}
use Rattle.std.proofs.lemmas.Str.{is_utf8-from_IsUtf8, IsUtf8-append, IsUtf8-from_ascii}
use Rattle.std.proofs.lemmas.Fmt.{IsAscii-decimal, decimal_digit}
use Rattle.json.specs.Lex.{Lexeme, lex, between, punctuate, fresh, tokens}
use Rattle.json.specs.Print.{print, print_from, escape, escape_byte, IsNumber}
use Rattle.json.specs.Json as json
use Rattle.json.specs.Token.{Token}
use Rattle.json.specs.Tree.{json_tokens, HasNumbers}
use Rattle.json.proofs.Printed.Tokens.{tokens-print}
use Rattle.json.proofs.Printed.Trees.{ArePrintable-json_tokens, value-json_tokens}
use Rattle.json.proofs.Printed.Strings.{escape_byte_plain}
use Rattle.json.proofs.Printed.Decimals.{IsNumber-decimal}
use Rattle.serde_json.specs.Data.{Data, unsigned, boolean, number, string, object, Members, no_members, member, put}
use Rattle.serde_json.specs.Read.{read, number_of, of_json, of_members, max_depth}
use Rattle.serde_json.proofs.Numbers.{number_of-decimal}
use Rattle.nats_names.specs.Names.{is_letter_or_digit, is_nonempty, is_token}
use Rattle.nats_info.specs.Fields.{info_of, info_at}
use Rattle.nats_info.specs.declared.info.ServerInfo.{ServerInfo}
use Rattle.nats_lines.specs.Operations.{Operation, info_op, OpText, info_text as info_op_text, Sight, whole, front, sight, got, Front, front_of_sight, got_or_fault}
use Rattle.nats_lines.proofs.Fronts.{front_by_sight}
use Rattle.nats_broker.specs.Info.{info_text}
use Rattle.nats_server_text.specs.Said.{read_hello}
use Rattle.nats_server_text.proofs.Cuts.{AreSmall, small_utf8, all_small, NoReturn, no_return_append, spaced_clean, number_word}
use Rattle.nats_server_text.proofs.Lines.{line_seen}

-- ---- a name is plain

-- a byte of a name
abbrev Plain : ℕ → Type 0
Plain x = (48 ≤ x) × (x ≤ 122) × (x ≡ 92 → ⊥)

in_range : (a b x : ℕ) → (nat_le a x && nat_le x b) ≡ true → (a ≤ x) × (x ≤ b)
in_range a b x is = let parts = and_parts (nat_le a x) (nat_le x b) is in (leb-true a x parts.0, leb-true x b parts.1)

plain_byte : (x : ℕ) → is_letter_or_digit x ≡ true → Plain x
plain_byte x is = by (or_cases (nat_le 48 x && nat_le x 57 || (nat_le 65 x && nat_le x 90)) (nat_le 97 x && nat_le x 122) is)
  where
    upper : (nat_le 65 x && nat_le x 90) ≡ true → Plain x
    upper e = let b = in_range 65 90 x e in (omega (arith, b.0), omega (arith, b.1), λ so. omega (arith, b.1, so))

    lower : (nat_le 97 x && nat_le x 122) ≡ true → Plain x
    lower e = let b = in_range 97 122 x e in (omega (arith, b.0), omega (arith, b.1), λ so. omega (arith, b.0, so))

    digit : (nat_le 48 x && nat_le x 57) ≡ true → Plain x
    digit e = let b = in_range 48 57 x e in (omega (arith, b.0), omega (arith, b.1), λ so. omega (arith, b.1, so))

    some : ((nat_le 48 x && nat_le x 57) ≡ true) ⊎ ((nat_le 65 x && nat_le x 90) ≡ true) → Plain x
    some (inl e) = digit e
    some (inr e) = upper e

    by : ((nat_le 48 x && nat_le x 57 || (nat_le 65 x && nat_le x 90)) ≡ true) ⊎ ((nat_le 97 x && nat_le x 122) ≡ true)
        → Plain x
    by (inl e) = some (or_cases (nat_le 48 x && nat_le x 57) (nat_le 65 x && nat_le x 90) e)
    by (inr e) = lower e

escape_same : (id : List ℕ) → list_all is_letter_or_digit id ≡ true → escape id ≡ id
escape_same [] are = refl
escape_same (x ∷ id) are =
    let parts = and_parts (is_letter_or_digit x) (list_all is_letter_or_digit id) are in
    let p = plain_byte x parts.0 in
    let one : escape_byte x ≡ x ∷ [] =
    escape_byte_plain x (λ so. omega (arith, p.0, so)) (plain_byte x parts.0).2 (omega (arith, p.0)) in
    ap (λ (l : List ℕ). l ++ escape id) one ∙ ap (λ (l : List ℕ). x ∷ l) (escape_same id parts.1)

name_small : (id : List ℕ) → list_all is_letter_or_digit id ≡ true → AreSmall id
name_small [] are = tt
name_small (x ∷ id) are =
    let parts = and_parts (is_letter_or_digit x) (list_all is_letter_or_digit id) are in
    let p = plain_byte x parts.0 in
    (omega (arith, p.1), name_small id parts.1)

-- no byte of a text that is known is a return
literal : (text : List ℕ) → list_all (λ b. not (b == 13)) text ≡ true → NoReturn text
literal [] are = tt
literal (b ∷ text) are =
    let parts = and_parts (not (b == 13)) (list_all (λ b. not (b == 13)) text) are in
    (not-true (b == 13) parts.0, literal text parts.1)

name_no_return : (id : List ℕ) → list_all is_letter_or_digit id ≡ true → NoReturn id
name_no_return [] are = tt
name_no_return (x ∷ id) are =
    let parts = and_parts (is_letter_or_digit x) (list_all is_letter_or_digit id) are in
    let p = plain_byte x parts.0 in
    (ne_eqb x 13 (λ so. omega (arith, p.0, so)), name_no_return id parts.1)

-- ---- the object

-- the tree of its text
abbrev pub tree : List ℕ → ℕ → json.Json
tree id n = json.object (json.member (codes "server_id") (json.string id)
    (json.member (codes "version") (json.string (codes "2.10.0"))
    (json.member (codes "proto") (json.number (codes "1"))
    (json.member (codes "headers") (json.boolean true)
    (json.member (codes "max_payload") (json.number (decimal n)) json.no_members)))))

-- its members, which are kept in the order of their keys
abbrev pub value : List ℕ → ℕ → Data
value id n = object (put (codes "max_payload") (number (unsigned n))
    (put (codes "headers") (boolean true)
    (put (codes "proto") (number (unsigned 1))
    (put (codes "version") (string (codes "2.10.0"))
    (put (codes "server_id") (string id) no_members)))))

abbrev pub object_text : List ℕ → ℕ → List ℕ
object_text id n = codes "{\"server_id\":\"" ++ (id ++ (codes "\",\"version\":\"2.10.0\",\"proto\":1,\"headers\":true,\"max_payload\":"
    ++ (decimal n ++ codes "}")))

printed : (id : List ℕ) (n : ℕ) → escape id ≡ id → print (json_tokens (tree id n)) ≡ object_text id n
unfolding print_from escape_byte
printed id n same =
    ap (λ (text : List ℕ). codes "{\"server_id\":\"" ++ ((text ++ 34 ∷ []) ++ (codes ",\"version\":\"2.10.0\",\"proto\":1,\"headers\":true,\"max_payload\":" ++ (decimal n ++ codes "}")))) same
    ∙ ap (λ (l : List ℕ). codes "{\"server_id\":\"" ++ l) (append_assoc id (34 ∷ []) (codes ",\"version\":\"2.10.0\",\"proto\":1,\"headers\":true,\"max_payload\":" ++ (decimal n ++ codes "}")))

one : number_of (codes "1") ≡ Some (unsigned 1)
one = ap number_of (sym (decimal_digit 1 (omega arith))) ∙ number_of-decimal 1 (omega arith)

one_number : IsNumber (codes "1")
one_number = subst IsNumber (decimal_digit 1 (omega arith)) (IsNumber-decimal 1 (omega arith))

numbers : (id : List ℕ) (n : ℕ) → n < 2 ^ 64 → HasNumbers (tree id n)
numbers id n small = (tt, (tt, (one_number, (tt, (IsNumber-decimal n small, tt)))))

-- what the tree is
one_member : (k : List ℕ) (j : json.Json) (ms : json.Members) (found : Members) (d : Data) → of_json j ≡ Some d
    → of_members (json.member k j ms) found ≡ of_members ms (put k d found)
one_member k j ms found d is = ap (option_and_then (λ d. of_members ms (put k d found))) is

of_tree : (id : List ℕ) (n : ℕ) → n < 2 ^ 64 → of_json (tree id n) ≡ Some (value id n)
of_tree id n small =
    let last = json.member (codes "max_payload") (json.number (decimal n)) json.no_members in
    let fourth = json.member (codes "headers") (json.boolean true) last in
    let third = json.member (codes "proto") (json.number (codes "1")) fourth in
    let second = json.member (codes "version") (json.string (codes "2.10.0")) third in
    let a = put (codes "server_id") (string id) no_members in
    let b = put (codes "version") (string (codes "2.10.0")) a in
    let c = put (codes "proto") (number (unsigned 1)) b in
    let d = put (codes "headers") (boolean true) c in
    ap (option_map object)
    (one_member (codes "server_id") (json.string id) second no_members (string id) refl
    ∙ one_member (codes "version") (json.string (codes "2.10.0")) third a (string (codes "2.10.0")) refl
    ∙ one_member (codes "proto") (json.number (codes "1")) fourth b (number (unsigned 1)) (ap (option_map number) one)
    ∙ one_member (codes "headers") (json.boolean true) last c (boolean true) refl
    ∙ one_member (codes "max_payload") (json.number (decimal n)) json.no_members d (number (unsigned n))
    (ap (option_map number) (number_of-decimal n small)))

-- a space before it is none of it
space_less : (text : List ℕ) → lex between (32 ∷ text) ≡ lex between text
unfolding lex
space_less text = refl

read_spaced : (text : List ℕ) → read (32 ∷ text) ≡ read text
read_spaced text =
    ap (λ (lexemes : List Lexeme). option_and_then of_json (option_and_then (λ p. json.if_last p.0 p.1)
    (json.value max_depth (punctuate fresh lexemes)))) (space_less text)

hello_read : (id : List ℕ) (n : ℕ) → list_all is_letter_or_digit id ≡ true → n < 2 ^ 64
    → read (32 ∷ object_text id n) ≡ Some (value id n)
hello_read id n are small =
    let whole_value = λ (o : Option (json.Json × List Token)).
    option_and_then of_json (option_and_then (λ p. json.if_last p.0 p.1) o) in
    read_spaced (object_text id n)
    ∙ ap (λ (text : List ℕ). whole_value (json.value max_depth (tokens text))) (sym (printed id n (escape_same id are)))
    ∙ ap (λ (ts : List Token). whole_value (json.value max_depth ts))
    (tokens-print (json_tokens (tree id n)) (ArePrintable-json_tokens (tree id n) (numbers id n small))
    ∙ sym (append-nil (json_tokens (tree id n))))
    ∙ ap whole_value (value-json_tokens (tree id n) max_depth [] (omega arith))
    ∙ of_tree id n small

hello_utf8 : (id : List ℕ) (n : ℕ) → list_all is_letter_or_digit id ≡ true → n < 2 ^ 64
    → is_utf8 (32 ∷ object_text id n) ≡ true
hello_utf8 id n are small =
    is_utf8-from_IsUtf8 (32 ∷ object_text id n)
    (IsUtf8-append (codes " {\"server_id\":\"") (id ++ (codes "\",\"version\":\"2.10.0\",\"proto\":1,\"headers\":true,\"max_payload\":" ++ (decimal n ++ codes "}")))
    (literal (codes " {\"server_id\":\"") refl)
    (IsUtf8-append id (codes "\",\"version\":\"2.10.0\",\"proto\":1,\"headers\":true,\"max_payload\":" ++ (decimal n ++ codes "}")) (name id are)
    (IsUtf8-append (codes "\",\"version\":\"2.10.0\",\"proto\":1,\"headers\":true,\"max_payload\":") (decimal n ++ codes "}")
    (literal (codes "\",\"version\":\"2.10.0\",\"proto\":1,\"headers\":true,\"max_payload\":") refl)
    (IsUtf8-append (decimal n) (codes "}") (IsUtf8-from_ascii (decimal n) (IsAscii-decimal n small)) (literal (codes "}") refl)))))
  where
    literal : (text : List ℕ) → list_all (λ b. nat_lt b 128) text ≡ true → IsUtf8 text
    literal text small = small_utf8 text (all_small text small)

    name : (id : List ℕ) → list_all is_letter_or_digit id ≡ true → IsUtf8 id
    name id are = small_utf8 id (name_small id are)

info_there : (id : List ℕ) (n : ℕ) → list_all is_letter_or_digit id ≡ true → n < 2 ^ 64
    → info_at (32 ∷ object_text id n) ≡ Some (read_hello id n)
unfolding info_at
info_there id n are small =
    ap (λ (b : Bool). if b then option_and_then info_of (read (32 ∷ object_text id n)) else None) (hello_utf8 id n are small)
    ∙ ap (option_and_then info_of) (hello_read id n are small)

-- ---- the line

abbrev front_of_info : ℕ → Option ServerInfo → Front
front_of_info n found = got_or_fault n 0 (option_map info_op found)

abbrev pub hello_line : List ℕ → ℕ → List ℕ
hello_line id n = codes "INFO {\"server_id\":\"" ++ (id ++ (codes "\",\"version\":\"2.10.0\",\"proto\":1,\"headers\":true,\"max_payload\":" ++ (decimal n ++ codes "}")))

hello_clean : (id : List ℕ) (n : ℕ) → list_all is_letter_or_digit id ≡ true → n < 2 ^ 64 → NoReturn (hello_line id n)
hello_clean id n are small =
    no_return_append (codes "INFO {\"server_id\":\"") (id ++ (codes "\",\"version\":\"2.10.0\",\"proto\":1,\"headers\":true,\"max_payload\":" ++ (decimal n ++ codes "}")))
    no_return_opening
    (no_return_append id (codes "\",\"version\":\"2.10.0\",\"proto\":1,\"headers\":true,\"max_payload\":" ++ (decimal n ++ codes "}")) (name_no_return id are)
    (no_return_append (codes "\",\"version\":\"2.10.0\",\"proto\":1,\"headers\":true,\"max_payload\":") (decimal n ++ codes "}") no_return_middle
    (no_return_append (decimal n) (codes "}") (spaced_clean (decimal n) [] (number_word n small) tt) (refl, tt))))
  where
    no_return_opening : NoReturn (codes "INFO {\"server_id\":\"")
    no_return_opening = literal (codes "INFO {\"server_id\":\"") refl

    no_return_middle : NoReturn (codes "\",\"version\":\"2.10.0\",\"proto\":1,\"headers\":true,\"max_payload\":")
    no_return_middle = literal (codes "\",\"version\":\"2.10.0\",\"proto\":1,\"headers\":true,\"max_payload\":") refl

-- the line, and the line's end behind it
by_line : (id : List ℕ) (n : ℕ) (rest : List ℕ) → info_text id n ++ rest ≡ hello_line id n ++ 13 ∷ 10 ∷ rest
by_line id n rest =
    parts (codes "INFO {\"server_id\":\"") id (codes "\",\"version\":\"2.10.0\",\"proto\":1,\"headers\":true,\"max_payload\":") (decimal n) (codes "}") (13 ∷ 10 ∷ []) rest
  where
    parts : (v a b c d e r : List ℕ) → (v ++ a ++ b ++ c ++ d ++ e) ++ r ≡ (v ++ (a ++ (b ++ (c ++ d)))) ++ (e ++ r)
    parts v a b c d e r = simp append_assoc

line_length : (id : List ℕ) (n : ℕ) → length (info_text id n) ≡ length (hello_line id n) + 2
line_length id n =
    ap length (sym (append-nil (info_text id n)) ∙ by_line id n []) ∙ length-append (hello_line id n) (13 ∷ 10 ∷ [])

pub hello_stands : (id : List ℕ) (n : ℕ) → is_token id ≡ true → n < 2 ^ 64 → (rest : List ℕ)
    → front (info_text id n ++ rest) ≡ got (info_op (read_hello id n)) (length (info_text id n))
hello_stands id n is small rest =
    let are = (and_parts (is_nonempty id && nat_le (length id) 64) (list_all is_letter_or_digit id) is).1 in
    let seen = whole (info_op_text (32 ∷ object_text id n)) (length (hello_line id n) + 2) in
    ap front (by_line id n rest)
    ∙ front_by_sight (hello_line id n ++ 13 ∷ 10 ∷ rest) seen
    (sym (line_seen (hello_line id n) rest seen (hello_clean id n are small) refl))
    ∙ ap (λ (o : Option ServerInfo). front_of_info (length (hello_line id n) + 2) o) (info_there id n are small)
    ∙ ap (got (info_op (read_hello id n))) (sym (line_length id n))
