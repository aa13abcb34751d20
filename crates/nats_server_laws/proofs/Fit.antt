-- Each command that is read can be told on.
use Rattle.std.proofs.Common.{◌≡◌, ℕ, zero, suc, ◌+◌, ◌^◌, ◌<◌, ◌≤◌, Bool, true, false, not, ◌&&◌, ◌||◌, List, [], ◌∷◌, ◌++◌, length, get_or, ne_eqb, Option, Some, None, refl, ap, sym, ◌∙◌, subst, arith, length-drop}
use Rattle.std.specs.Prelude.{◌==◌, nat_lt, option_map, codes, if◌then◌else◌}
use Rattle.std.specs.List.{slice_split, onto_first, list_all, position_or_len, before_first, after_first, AllByRecursion, IsDistinct}
use Rattle.std.specs.Map.{keys_of}
use Rattle.std.specs.Str.{IsUtf8, is_utf8, all_ascii_digits, bytes_eq}
use Rattle.std.specs.Str.Parse.{digits_value}
use Rattle.std.proofs.lemmas.Bool.{false≢true, ltb-true, ltb-false, eqb-true}
use Rattle.std.proofs.lemmas.Str.{IsUtf8-from_is_utf8, is_utf8-from_IsUtf8, IsUtf8-take, IsUtf8-drop, IsUtf8-nil, IsCharBoundary-before_ascii, IsCharBoundary-after_ascii}
use Rattle.std.proofs.lemmas.List.Splits.{slice_split_first}
use Rattle.std.proofs.lemmas.List.Folds.{list_all-append}
use Rattle.std.proofs.lemmas.Slice.Eq.{bytes_eq-Decides}
use Rattle.nats_header.proofs.Laws.{are_fields-with_values, is_field-made, values_of-valid}
use Rattle.nats_names.specs.Names.{is_publishable}
use Rattle.nats_header.specs.Names.{is_header_name, is_header_value}
use Rattle.nats_header.specs.Headers.{Headers, values_of, with_values}
use Rattle.nats_commands.specs.Commands.{sent_block}
use Rattle.nats_block.specs.Lines.{cut_at}
use Rattle.nats_block.specs.Fields.{Pair, tested, onto_fields, with_field, all_appended}
use Rattle.nats_message.specs.declared.op.ClientOp.{ClientOp}
use Rattle.nats_message.specs.declared.op.ClientOp.TheVariants as op
use Rattle.nats_lines.specs.Operations.{Cut, cut_line}
use Rattle.nats_client_text.specs.Law.{IsName, IsNameOrNone, AreTexts, HaveTexts, AreHeaders, AreHeadersOrNone}
use Rattle.nats_client_text.specs.Pieces.{pieces_of, plain_number, begins_number, word_of}
use Rattle.nats_client_text.specs.Blocks as client
use Rattle.nats_client_text.specs.Grammar.{OpText, plain, published, Publishes, Line, alone, counted, bare, limited, unsubscription, subscribed, subscription, with_payload, publication, with_block, header_publication, line_of_word, line_of_pieces, line_of, Body, short, torn, body, body_of, Sight, less, whole, wrong, text_of, sight_of_body, sight_of_line, sight_of_cut, sight, op_of, got_or_bad, front_of_sight, front}
use Rattle.nats_client_text.specs.declared.pieces.Word.{Word}
use Rattle.nats_client_text.specs.declared.pieces.Word.TheVariants as word
use Rattle.nats_client_text.specs.declared.read.ClientFront.{ClientFront}
use Rattle.nats_client_text.specs.declared.read.ClientFront.TheVariants as read
use Rattle.nats_broker_text.specs.declared.connect.Wishes.{Wishes}
use Rattle.nats_broker_text.specs.declared.command.Command.{Command}
use Rattle.nats_broker_text.specs.declared.command.Command.TheVariants.{Subscribe, Unsubscribe, Ping, Pong, Connect}
use Rattle.nats_broker_text.specs.declared.command.PeerFront.TheVariants.{Got}
use Rattle.nats_broker_text.specs.Connect.{wishes_at}
use Rattle.nats_broker_text.specs.Commands as peer
use Rattle.nats_server_text.specs.Law.{IsWordOrNone}
use Rattle.nats_server_text.specs.Said.{counted as counted_bytes}
use Rattle.nats_server_laws.specs.Waiting.{IsFit, ReadsFit}

-- ---- pieces

both_true : (a b : Bool) → (a && b) ≡ true → (a ≡ true) × (b ≡ true)
both_true true true is = (refl, refl)
both_true true false is = absurd (false≢true is)
both_true false b is = absurd (false≢true is)

neither : (a b : Bool) → (a || b) ≡ false → (a ≡ false) × (b ≡ false)
neither false false is = (refl, refl)
neither true b is = absurd (false≢true (sym is))
neither false true is = absurd (false≢true (sym is))

-- a byte stands at its first place
found_at : (mark : ℕ) (text : List ℕ) → position_or_len (λ b. b == mark) text < length text
    → get_or text (position_or_len (λ b. b == mark) text) 0 ≡ mark
found_at mark [] inside = absurd (omega (arith, inside))
found_at mark (x ∷ text) inside = by (x == mark) refl inside (found_at mark text)
  where
    k : ℕ
    k = position_or_len (λ b. b == mark) text

    by : (b : Bool) → (x == mark) ≡ b → (if not b then 1 + k else 0) < suc (length text) → (k < length text → get_or text k 0 ≡ mark)
        → get_or (x ∷ text) (if not b then 1 + k else 0) 0 ≡ mark
    by true is within later = eqb-true x mark is
    by false is within later =
        let e : 1 + k ≡ suc k = omega arith in
        ap (λ n. get_or (x ∷ text) n 0) e ∙ later (omega (arith, within))

-- what stands before and behind an ASCII byte of a text
parts_utf8 : (mark : ℕ) (text : List ℕ) → mark < 128 → IsUtf8 text → position_or_len (λ b. b == mark) text < length text
    → IsUtf8 (before_first (λ b. b == mark) text) × IsUtf8 (after_first (λ b. b == mark) text)
parts_utf8 mark text small is inside =
    let k = position_or_len (λ b. b == mark) text in
    let low : get_or text k 0 < 128 = omega (arith, found_at mark text inside, small) in
    (IsUtf8-take text k is (IsCharBoundary-before_ascii text k inside low), IsUtf8-drop text (k + 1) is (IsCharBoundary-after_ascii text k is inside low))

abbrev AreUtf8 : List (List ℕ) → Type 0
AreUtf8 [] = Unit {0}
AreUtf8 (text ∷ texts) = IsUtf8 text × AreUtf8 texts

whole_step : (test : Bool) (mark x : ℕ) (text : List ℕ) → (x == mark) ≡ test → (if not test then 1 + position_or_len (λ b. b == mark) text else 0) ≡ suc (length text)
    → (position_or_len (λ b. b == mark) text ≡ length text → slice_split (λ b. b == mark) text ≡ text ∷ [])
    → (if test then [] ∷ slice_split (λ b. b == mark) text else onto_first x (slice_split (λ b. b == mark) text)) ≡ (x ∷ text) ∷ []
whole_step true mark x text at none later = absurd (omega (arith, none))
whole_step false mark x text at none later = ap (onto_first x) (later (omega (arith, none)))

split_whole : (mark : ℕ) (text : List ℕ) → position_or_len (λ b. b == mark) text ≡ length text → slice_split (λ b. b == mark) text ≡ text ∷ []
split_whole mark [] none = refl
split_whole mark (x ∷ text) none = whole_step (x == mark) mark x text refl none (split_whole mark text)

position_most : (mark : ℕ) (text : List ℕ) → position_or_len (λ b. b == mark) text ≤ length text
position_most mark [] = omega arith
position_most mark (x ∷ text) = by (x == mark) (position_most mark text)
  where
    by : (b : Bool) → position_or_len (λ c. c == mark) text ≤ length text → (if not b then 1 + position_or_len (λ c. c == mark) text else 0) ≤ suc (length text)
    by true later = omega arith
    by false later = omega (arith, later)

no_text : (text : List ℕ) → length text ≤ 0 → text ≡ []
no_text [] none = refl
no_text (x ∷ text) none = absurd (omega (arith, none))

pieces_utf8 : (most : ℕ) (text : List ℕ) → length text ≤ most → IsUtf8 text → AreUtf8 (pieces_of text)
pieces_utf8 zero text few is = subst (λ bytes. AreUtf8 (pieces_of bytes)) (sym (no_text text few)) (IsUtf8-nil, tt)
pieces_utf8 (suc most) text few is = by (nat_lt k (length text)) refl (λ inside. pieces_utf8 most (after_first (λ b. b == 32) text) (shorter inside))
  where
    k : ℕ
    k = position_or_len (λ b. b == 32) text

    shorter : k < length text → length (after_first (λ b. b == 32) text) ≤ most
    shorter inside = omega (arith, length-drop (k + 1) text, few, inside)

    by : (b : Bool) → nat_lt k (length text) ≡ b → (k < length text → IsUtf8 (after_first (λ b. b == 32) text) → AreUtf8 (pieces_of (after_first (λ b. b == 32) text)))
        → AreUtf8 (pieces_of text)
    by true at later =
        let inside = ltb-true k (length text) at in
        let parts = parts_utf8 32 text (omega arith) is inside in
        subst AreUtf8 (sym (slice_split_first (λ b. b == 32) text 0 inside)) (parts.0, later inside parts.1)
    by false at later =
        let all : k ≡ length text = omega (arith, ltb-false k (length text) at, position_most 32 text) in
        subst AreUtf8 (sym (split_whole 32 text all)) (is, tt)

abbrev AreNames : List (List ℕ) → Type 0
AreNames [] = Unit {0}
AreNames (text ∷ texts) = IsName text × AreNames texts

names_of : (texts : List (List ℕ)) → AreUtf8 texts → list_all is_publishable texts ≡ true → AreNames texts
names_of [] are all = tt
names_of (text ∷ texts) are all =
    let parts = both_true (is_publishable text) (list_all is_publishable texts) all in
    ((is_utf8-from_IsUtf8 text are.0, parts.0), names_of texts are.1 parts.1)

-- ---- lines

number_small : (text : List ℕ) (n : ℕ) → plain_number text ≡ Some n → n < 2 ^ 64
number_small text n is = by (begins_number text && all_ascii_digits text) (nat_lt (digits_value 10 text) (2 ^ 64)) refl is
  where
    by : (a b : Bool) → nat_lt (digits_value 10 text) (2 ^ 64) ≡ b → (if a && b then Some (digits_value 10 text) else None) ≡ Some n → n < 2 ^ 64
    by true true small at =
        let same : digits_value 10 text ≡ n = cc in subst (λ m. m < 2 ^ 64) same (ltb-true (digits_value 10 text) (2 ^ 64) small)
    by true false small at = cc
    by false b small at = cc

-- what is read has names and numbers
abbrev IsRead : ClientOp → Type 0
IsRead (op.Subscribe sid subject queue_group) = sid < 2 ^ 64
IsRead (op.Publish subject payload respond headers) = IsName subject × IsNameOrNone respond × AreHeadersOrNone headers
IsRead (op.Unsubscribe sid max) = Unit {0}
IsRead op.Ping = Unit {0}
IsRead op.Pong = Unit {0}
IsRead (op.Connect info) = Unit {0}

abbrev IsOpText : OpText → Type 0
IsOpText (plain one) = IsRead one
IsOpText (published subject respond block payload) = IsName subject × IsNameOrNone respond

abbrev IsLine : Line → Type 0
IsLine (alone text) = IsOpText text
IsLine (counted p) = IsName p.subject × IsNameOrNone p.respond

abbrev IsLineOrNone : Option Line → Type 0
IsLineOrNone None = Unit {0}
IsLineOrNone (Some line) = IsLine line

bare_line : (text : OpText) (pieces : List (List ℕ)) → IsOpText text → IsLineOrNone (bare text pieces)
bare_line text [] is = is
bare_line text (piece ∷ pieces) is = tt

limited_line : (sid max : Option ℕ) → IsLineOrNone (limited sid max)
limited_line None max = tt
limited_line (Some sid) None = tt
limited_line (Some sid) (Some max) = tt

numbered_line : (sid : Option ℕ) → IsLineOrNone (option_map (λ n. alone (plain (op.Unsubscribe n None))) sid)
numbered_line None = tt
numbered_line (Some sid) = tt

unsubscription_line : (pieces : List (List ℕ)) → IsLineOrNone (unsubscription pieces)
unsubscription_line [] = tt
unsubscription_line (sid ∷ []) = numbered_line (plain_number sid)
unsubscription_line (sid ∷ max ∷ []) = limited_line (plain_number sid) (plain_number max)
unsubscription_line (a ∷ b ∷ c ∷ more) = tt

subscribed_line : (subject : List ℕ) (queue_group : Option (List ℕ)) (text : List ℕ) (sid : Option ℕ) → plain_number text ≡ sid
    → IsLineOrNone (subscribed subject queue_group sid)
subscribed_line subject queue_group text None at = tt
subscribed_line subject queue_group text (Some sid) at = number_small text sid at

subscription_line : (pieces : List (List ℕ)) → IsLineOrNone (subscription pieces)
subscription_line [] = tt
subscription_line (a ∷ []) = tt
subscription_line (subject ∷ sid ∷ []) = subscribed_line subject None sid (plain_number sid) refl
subscription_line (subject ∷ queue_group ∷ sid ∷ []) = subscribed_line subject (Some queue_group) sid (plain_number sid) refl
subscription_line (a ∷ b ∷ c ∷ d ∷ more) = tt

payload_line : (subject : List ℕ) (respond : Option (List ℕ)) (count : Option ℕ) → IsName subject → IsNameOrNone respond
    → IsLineOrNone (with_payload subject respond count)
payload_line subject respond None is reply = tt
payload_line subject respond (Some count) is reply = (is, reply)

publication_line : (pieces : List (List ℕ)) → AreNames pieces → IsLineOrNone (publication pieces)
publication_line [] are = tt
publication_line (a ∷ []) are = tt
publication_line (subject ∷ count ∷ []) are = payload_line subject None (plain_number count) are.0 tt
publication_line (subject ∷ respond ∷ count ∷ []) are = payload_line subject (Some respond) (plain_number count) are.0 are.1.0
publication_line (a ∷ b ∷ c ∷ d ∷ more) are = tt

block_cond : (test : Bool) (p : Publishes) → IsName p.subject → IsNameOrNone p.respond → IsLineOrNone (if test then None else Some (counted p))
block_cond true p is reply = tt
block_cond false p is reply = (is, reply)

block_line : (subject : List ℕ) (respond : Option (List ℕ)) (block_len total : Option ℕ) → IsName subject → IsNameOrNone respond
    → IsLineOrNone (with_block subject respond block_len total)
block_line subject respond None total is reply = tt
block_line subject respond (Some block_len) None is reply = tt
block_line subject respond (Some block_len) (Some total) is reply =
    block_cond (nat_lt total block_len) (record { subject = subject; respond = respond; block_len = Some block_len; count = total }) is reply

header_line : (pieces : List (List ℕ)) → AreNames pieces → IsLineOrNone (header_publication pieces)
header_line [] are = tt
header_line (a ∷ []) are = tt
header_line (a ∷ b ∷ []) are = tt
header_line (subject ∷ block_len ∷ total ∷ []) are = block_line subject None (plain_number block_len) (plain_number total) are.0 tt
header_line (subject ∷ respond ∷ block_len ∷ total ∷ []) are =
    block_line subject (Some respond) (plain_number block_len) (plain_number total) are.0 are.1.0
header_line (a ∷ b ∷ c ∷ d ∷ e ∷ more) are = tt

word_line : (w : Word) (pieces : List (List ℕ)) → AreNames pieces → IsLineOrNone (line_of_word w pieces)
word_line word.Ping pieces are = bare_line (plain op.Ping) pieces tt
word_line word.Pong pieces are = bare_line (plain op.Pong) pieces tt
word_line word.Unsubscribe pieces are = unsubscription_line pieces
word_line word.Subscribe pieces are = subscription_line pieces
word_line word.Publish pieces are = publication_line pieces are
word_line word.HeaderPublish pieces are = header_line pieces are
word_line word.Other pieces are = tt

pieces_line : (pieces : List (List ℕ)) → AreNames pieces → IsLineOrNone (line_of_pieces pieces)
pieces_line [] are = tt
pieces_line (first ∷ pieces) are = word_line (word_of first) pieces are.1

line_is : (line : List ℕ) → IsLineOrNone (line_of line)
line_is line = by (is_utf8 line) (list_all is_publishable (pieces_of line)) refl refl
  where
    by : (a b : Bool) → is_utf8 line ≡ a → list_all is_publishable (pieces_of line) ≡ b
        → IsLineOrNone (if a && b then line_of_pieces (pieces_of line) else None)
    by true true text all =
        pieces_line (pieces_of line) (names_of (pieces_of line) (pieces_utf8 (length line) line (omega arith) (IsUtf8-from_is_utf8 line text)) all)
    by true false text all = tt
    by false b text all = tt

-- ---- header blocks

-- a name and a value of the protocol, which is UTF-8
abbrev IsPair : Pair → Type 0
IsPair pair = (is_header_name pair.0 ≡ true) × (is_header_value pair.1 ≡ true) × (is_utf8 pair.1 ≡ true)

abbrev ArePairs : List Pair → Type 0
ArePairs [] = Unit {0}
ArePairs (pair ∷ pairs) = IsPair pair × ArePairs pairs

tested_pair : (given pair : Pair) → tested given ≡ Some pair → is_utf8 given.1 ≡ true → IsPair pair
tested_pair given pair is text = by (is_header_name given.0) (is_header_value given.1) refl refl is
  where
    by : (a b : Bool) → is_header_name given.0 ≡ a → is_header_value given.1 ≡ b → (if a && b then Some given else None) ≡ Some pair → IsPair pair
    by true true name value at = let same : given ≡ pair = cc in subst IsPair same (name, value, text)
    by true false name value at = cc
    by false b name value at = cc

behind_pair : (name rest : List ℕ) (pair : Pair) → IsUtf8 rest → client.field_behind name rest ≡ Some pair → IsPair pair
behind_pair name [] pair text is = cc
behind_pair name (space ∷ value) pair text is = by (space == 32) refl is
  where
    by : (b : Bool) → (space == 32) ≡ b → (if b then tested (name, value) else None) ≡ Some pair → IsPair pair
    by true at found =
        let low : space < 128 = omega (arith, eqb-true space 32 at) in
        let value_text : IsUtf8 value = IsUtf8-drop (space ∷ value) 1 text (IsCharBoundary-after_ascii (space ∷ value) 0 text (omega arith) low) in
        tested_pair (name, value) pair found (is_utf8-from_IsUtf8 value value_text)
    by false at found = cc

field_pair : (line : List ℕ) (pair : Pair) → client.field_of line ≡ Some pair → IsPair pair
field_pair line pair is = by (is_utf8 line) refl is
  where
    k : ℕ
    k = position_or_len (λ b. b == 58) line

    cut : (b : Bool) → nat_lt k (length line) ≡ b → IsUtf8 line
        → client.field_cut (if b then Some (before_first (λ b. b == 58) line, after_first (λ b. b == 58) line) else None) ≡ Some pair → IsPair pair
    cut true at text found =
        behind_pair (before_first (λ b. b == 58) line) (after_first (λ b. b == 58) line) pair
        (parts_utf8 58 line (omega arith) text (ltb-true k (length line) at)).1 found
    cut false at text found = cc

    by : (b : Bool) → is_utf8 line ≡ b → (if b then client.field_cut (cut_at 58 line) else None) ≡ Some pair → IsPair pair
    by true text found = cut (nat_lt k (length line)) refl (IsUtf8-from_is_utf8 line text) found
    by false text found = cc

ended_pairs : (lines : List (List ℕ)) (pairs : List Pair) → client.ended_by lines ≡ Some pairs → ArePairs pairs
ended_pairs [] pairs is = cc
ended_pairs ([] ∷ []) pairs is = let same : [] ≡ pairs = cc in subst ArePairs same tt
ended_pairs ([] ∷ line ∷ lines) pairs is = cc
ended_pairs ((x ∷ line) ∷ lines) pairs is = cc

onto_pairs : (one : Option Pair) (more : Option (List Pair)) (pairs : List Pair) → ((pair : Pair) → one ≡ Some pair → IsPair pair)
    → ((found : List Pair) → more ≡ Some found → ArePairs found) → onto_fields one more ≡ Some pairs → ArePairs pairs
onto_pairs None more pairs first behind is = cc
onto_pairs (Some pair) None pairs first behind is = cc
onto_pairs (Some pair) (Some found) pairs first behind is =
    let same : pair ∷ found ≡ pairs = cc in subst ArePairs same (first pair refl, behind found refl)

fields_cond : (test : Bool) (line : List ℕ) (lines : List (List ℕ)) (pairs : List Pair)
    → ((found : List Pair) → client.fields_of lines ≡ Some found → ArePairs found)
    → (if test then client.ended_by lines else onto_fields (client.field_of line) (client.fields_of lines)) ≡ Some pairs → ArePairs pairs
fields_cond true line lines pairs later is = ended_pairs lines pairs is
fields_cond false line lines pairs later is =
    onto_pairs (client.field_of line) (client.fields_of lines) pairs (λ pair found. field_pair line pair found) later is

fields_pairs : (lines : List (List ℕ)) (pairs : List Pair) → client.fields_of lines ≡ Some pairs → ArePairs pairs
fields_pairs [] pairs is = cc
fields_pairs (line ∷ lines) pairs is = fields_cond (length line == 0) line lines pairs (λ found at. fields_pairs lines found at) is

-- ---- header maps

texts_more : (values : List (List ℕ)) (value : List ℕ) → AreTexts values → is_utf8 value ≡ true → AreTexts (values ++ value ∷ [])
texts_more [] value are is = (is, tt)
texts_more (first ∷ values) value are is = (are.0, texts_more values value are.1 is)

texts_of : (headers : Headers) (name : List ℕ) → HaveTexts headers → AreTexts (values_of headers name)
texts_of [] name have = tt
texts_of (field ∷ headers) name have = by (bytes_eq name field.0) (texts_of headers name have.1)
  where
    by : (b : Bool) → AreTexts (values_of headers name) → AreTexts (if b then field.1 else values_of headers name)
    by true later = have.0
    by false later = later

with_texts : (headers : Headers) (name : List ℕ) (values : List (List ℕ)) → HaveTexts headers → AreTexts values → HaveTexts (with_values headers name values)
with_texts [] name values have are = (are, tt)
with_texts (field ∷ headers) name values have are = by (bytes_eq name field.0) (with_texts headers name values have.1 are)
  where
    by : (b : Bool) → HaveTexts (with_values headers name values)
        → HaveTexts (if b then (field.0, values) ∷ headers else field ∷ with_values headers name values)
    by true later = (are, have.1)
    by false later = (have.0, later)

-- the keys, where one may go last
keys_with : (P : List ℕ → Type 0) (headers : Headers) (name : List ℕ) (values : List (List ℕ)) → AllByRecursion P (keys_of headers) → P name
    → AllByRecursion P (keys_of (with_values headers name values))
keys_with P [] name values are is = (is, tt)
keys_with P (field ∷ headers) name values are is = by (bytes_eq name field.0) (keys_with P headers name values are.1 is)
  where
    by : (b : Bool) → AllByRecursion P (keys_of (with_values headers name values))
        → AllByRecursion P (keys_of (if b then (field.0, values) ∷ headers else field ∷ with_values headers name values))
    by true later = are
    by false later = (are.0, later)

eq_back : (a b : List ℕ) → bytes_eq a b ≡ false → bytes_eq b a ≡ false
eq_back a b is = by (bytes_eq b a) refl
  where
    by : (c : Bool) → bytes_eq b a ≡ c → c ≡ false
    by false at = refl
    by true at =
        let same : b ≡ a = (bytes_eq-Decides b a).0 at in
        absurd (false≢true (sym is ∙ (bytes_eq-Decides a b).1 (sym same)))

with_distinct : (headers : Headers) (name : List ℕ) (values : List (List ℕ)) → IsDistinct bytes_eq (keys_of headers)
    → IsDistinct bytes_eq (keys_of (with_values headers name values))
unfolding IsDistinct
with_distinct [] name values are = (tt, tt)
with_distinct (field ∷ headers) name values are = by (bytes_eq name field.0) refl (with_distinct headers name values are.1)
  where
    by : (b : Bool) → bytes_eq name field.0 ≡ b → IsDistinct bytes_eq (keys_of (with_values headers name values))
        → IsDistinct bytes_eq (keys_of (if b then (field.0, values) ∷ headers else field ∷ with_values headers name values))
    by true at later = are
    by false at later = (keys_with (λ y. bytes_eq field.0 y ≡ false) headers name values are.0 (eq_back name field.0 at), later)

appended_headers : (headers : Headers) (pair : Pair) → AreHeaders headers → IsPair pair → AreHeaders (with_field headers pair)
appended_headers headers pair are is = (
  with_distinct headers pair.0 (values_of headers pair.0 ++ pair.1 ∷ []) are.0,
  are_fields-with_values headers pair.0 (values_of headers pair.0 ++ pair.1 ∷ [])
      (is_field-made pair.0 (values_of headers pair.0 ++ pair.1 ∷ []) is.0 (some_values (values_of headers pair.0) pair.1)
      (all_more (values_of headers pair.0) pair.1 (values_of-valid headers pair.0 are.1) is.1)) are.1,
  with_texts headers pair.0 (values_of headers pair.0 ++ pair.1 ∷ []) are.2 (texts_more (values_of headers pair.0) pair.1 (texts_of headers pair.0 are.2) is.2),
)
  where
    some_values : (values : List (List ℕ)) (value : List ℕ) → not (length (values ++ value ∷ []) == 0) ≡ true
    some_values [] value = refl
    some_values (first ∷ values) value = ap not (ne_eqb (suc (length (values ++ value ∷ []))) 0 (λ same. omega (arith, same)))

    all_more : (values : List (List ℕ)) (value : List ℕ) → list_all is_header_value values ≡ true → is_header_value value ≡ true
        → list_all is_header_value (values ++ value ∷ []) ≡ true
    all_more values value all is = list_all-append is_header_value values (value ∷ []) ∙ ap (λ b. b && (is_header_value value && true)) all ∙ ap (λ b. b && true) is

all_headers : (pairs : List Pair) (headers : Headers) → AreHeaders headers → ArePairs pairs → AreHeaders (all_appended headers pairs)
all_headers [] headers are pairs_are = are
all_headers (pair ∷ pairs) headers are pairs_are = all_headers pairs (with_field headers pair) (appended_headers headers pair are pairs_are.0) pairs_are.1

no_headers : AreHeaders []
unfolding IsDistinct
no_headers = (tt, refl, tt)

fields_headers : (found : Option (List Pair)) (headers : Headers) → ((pairs : List Pair) → found ≡ Some pairs → ArePairs pairs)
    → option_map (all_appended []) found ≡ Some headers → AreHeaders headers
fields_headers None headers are is = cc
fields_headers (Some pairs) headers are is =
    let same : all_appended [] pairs ≡ headers = cc in subst AreHeaders same (all_headers pairs [] no_headers (are pairs refl))

lines_headers : (lines : List (List ℕ)) (headers : Headers) → client.block_of_lines lines ≡ Some headers → AreHeaders headers
lines_headers [] headers is = cc
lines_headers (first ∷ lines) headers is = by (bytes_eq first (codes "NATS/1.0")) is
  where
    by : (b : Bool) → (if b then client.headers_of lines else None) ≡ Some headers → AreHeaders headers
    by true at = fields_headers (client.fields_of lines) headers (λ pairs found. fields_pairs lines pairs found) at
    by false at = cc

block_headers : (block : List ℕ) (headers : Headers) → client.block_of block ≡ Some headers → AreHeaders headers
unfolding client.block_of
block_headers block headers is = lines_headers (client.lines_of block) headers is

-- ---- fronts

with_headers : (subject payload : List ℕ) (respond : Option (List ℕ)) (found : Option Headers) (one : ClientOp) → IsName subject → IsNameOrNone respond
    → ((headers : Headers) → found ≡ Some headers → AreHeaders headers)
    → option_map (λ headers. op.Publish subject payload respond (Some headers)) found ≡ Some one → IsRead one
with_headers subject payload respond None one is reply are at = cc
with_headers subject payload respond (Some headers) one is reply are at =
    let same : op.Publish subject payload respond (Some headers) ≡ one = cc in subst IsRead same (is, reply, are headers refl)

op_is : (text : OpText) (one : ClientOp) → IsOpText text → op_of text ≡ Some one → IsRead one
op_is (plain given) one is at = let same : given ≡ one = cc in subst IsRead same is
op_is (published subject respond None payload) one is at =
    let same : op.Publish subject payload respond None ≡ one = cc in subst IsRead same (is.0, is.1, tt)
op_is (published subject respond (Some block) payload) one is at =
    with_headers subject payload respond (client.block_of block) one is.0 is.1 (λ headers found. block_headers block headers found) at

abbrev IsSeen : Sight → Type 0
IsSeen less = Unit {0}
IsSeen (whole text n) = IsOpText text
IsSeen wrong = Unit {0}

text_seen : (subject : List ℕ) (respond : Option (List ℕ)) (block_len : Option ℕ) (bytes : List ℕ) → IsName subject → IsNameOrNone respond
    → IsOpText (text_of subject respond block_len bytes)
text_seen subject respond None bytes is reply = (is, reply)
text_seen subject respond (Some block_len) bytes is reply = (is, reply)

body_seen : (p : Publishes) (end : ℕ) (found : Body) → IsLine (counted p) → IsSeen (sight_of_body p end found)
body_seen p end short is = tt
body_seen p end torn is = tt
body_seen p end (body bytes) is = text_seen p.subject p.respond p.block_len bytes is.0 is.1

line_seen : (end : ℕ) (rest : List ℕ) (found : Option Line) → IsLineOrNone found → IsSeen (sight_of_line end rest found)
line_seen end rest None is = tt
line_seen end rest (Some (alone text)) is = is
line_seen end rest (Some (counted p)) is = body_seen p end (body_of p.count rest) is

cut_seen : (found : Option Cut) → IsSeen (sight_of_cut found)
cut_seen None = tt
cut_seen (Some cut) = line_seen (length cut.line + 2) cut.rest (line_of cut.line) (line_is cut.line)

got_is : (n m : ℕ) (found : Option ClientOp) (one : ClientOp) → ((given : ClientOp) → found ≡ Some given → IsRead given) → got_or_bad n found ≡ read.Got one m → IsRead one
got_is n m None one are at = cc
got_is n m (Some given) one are at = let same : given ≡ one = cc in subst IsRead same (are given refl)

sight_is : (seen : Sight) (one : ClientOp) (n : ℕ) → IsSeen seen → front_of_sight seen ≡ read.Got one n → IsRead one
sight_is less one n is at = cc
sight_is wrong one n is at = cc
sight_is (whole text m) one n is at = got_is m n (op_of text) one (λ given found. op_is text given is found) at

front_is : (text : List ℕ) (one : ClientOp) (n : ℕ) → front text ≡ read.Got one n → IsRead one
unfolding front sight
front_is text one n at = sight_is (sight_of_cut (cut_line text)) one n (cut_seen (cut_line text)) at

-- ---- commands

counts_block : (headers : Option Headers) (payload : List ℕ) → counted_bytes (sent_block headers) payload ≤ peer.block_len headers + length payload
counts_block None payload = omega arith
counts_block (Some []) payload = omega arith
counts_block (Some (field ∷ fields)) payload = omega arith

word_or_none : (respond : Option (List ℕ)) → IsNameOrNone respond → peer.may_hold_white respond ≡ false → IsWordOrNone respond
word_or_none None is none = tt
word_or_none (Some reply) is none = (is.0, is.1, none)

publish_fit : (subject payload : List ℕ) (respond : Option (List ℕ)) (headers : Option Headers) (command : Command) → IsName subject → IsNameOrNone respond
    → AreHeadersOrNone headers → peer.command_of (op.Publish subject payload respond headers) ≡ Some command → IsFit command
publish_fit subject payload respond headers command is reply are at = by (peer.holds_white subject || peer.may_hold_white respond) refl at
  where
    by : (b : Bool) → (peer.holds_white subject || peer.may_hold_white respond) ≡ b
        → (if b then None else Some (peer.publish_of subject payload respond headers)) ≡ Some command → IsFit command
    by true white found = cc
    by false white found =
        let same : peer.publish_of subject payload respond headers ≡ command = cc in
        let none = neither (peer.holds_white subject) (peer.may_hold_white respond) white in
        subst IsFit same (headers, refl, (is.0, is.1, none.0), word_or_none respond reply none.1, are, counts_block headers payload)

op_fit : (one : ClientOp) (command : Command) → IsRead one → peer.command_of one ≡ Some command → IsFit command
op_fit (op.Subscribe sid subject queue_group) command is at = let same : Subscribe sid subject queue_group ≡ command = cc in subst IsFit same is
op_fit (op.Unsubscribe sid max) command is at = let same : Unsubscribe sid max ≡ command = cc in subst IsFit same tt
op_fit (op.Publish subject payload respond headers) command is at = publish_fit subject payload respond headers command is.0 is.1 is.2 at
op_fit op.Ping command is at = let same : Ping ≡ command = cc in subst IsFit same tt
op_fit op.Pong command is at = let same : Pong ≡ command = cc in subst IsFit same tt
op_fit (op.Connect info) command is at = cc

got_fit : (m n : ℕ) (found : Option Command) (command : Command) → ((given : Command) → found ≡ Some given → IsFit given)
    → peer.got_or_bad m found ≡ Got command n → IsFit command
got_fit m n None command are at = cc
got_fit m n (Some given) command are at = let same : given ≡ command = cc in subst IsFit same (are given refl)

client_fit : (found : ClientFront) (command : Command) (n : ℕ) → ((one : ClientOp) (m : ℕ) → found ≡ read.Got one m → IsRead one)
    → peer.of_client found ≡ Got command n → IsFit command
client_fit read.Unfinished command n are at = cc
client_fit read.Bad command n are at = cc
client_fit (read.Got one m) command n are at = got_fit m n (peer.command_of one) command (λ given found. op_fit one given (are one m refl) found) at

connect_fit : (found : Option Wishes) (given : Command) → option_map Connect found ≡ Some given → IsFit given
connect_fit None given at = cc
connect_fit (Some wishes) given at = let same : Connect wishes ≡ given = cc in subst IsFit same tt

by_fit : (behind : Option (List ℕ)) (text : List ℕ) (command : Command) (n : ℕ) → peer.front_by behind text ≡ Got command n → IsFit command
by_fit None text command n at = client_fit (front text) command n (λ one m found. front_is text one m found) at
by_fit (Some behind) text command n at =
    got_fit (length peer.connect_word + length behind + 2) n (option_map Connect (wishes_at behind)) command (λ given found. connect_fit (wishes_at behind) given found) at

pub reads_fit : ReadsFit
unfolding peer.peer_front
reads_fit text command n at = by_fit (peer.connect_text (cut_line text)) text command n at
