-- Where the payload of a message stands in the text that it is read from.
use Rattle.std.proofs.Common.{◌≡◌, ℕ, suc, ◌+◌, ◌-◌, ◌≤◌, Bool, true, false, List, [], ◌∷◌, length, take, drop, Option, Some, None, refl, ap, sym, subst, ◌∙◌, arith, length-drop, length-take-le, drop-drop}
use Rattle.std.specs.Prelude.{◌==◌, ◌&&◌, nat_lt, nat_eq, slice_range, if◌then◌else◌}
use Rattle.std.specs.Option.{option_map}
use Rattle.std.proofs.lemmas.Bool.{ltb-false, eqb-true, and_parts}
use Rattle.std.proofs.lemmas.List.{take_rest}
use Rattle.std.specs.List.{starts_with}
use Rattle.std.specs.Cmp.Lexicographic.{pointwise}
use Rattle.bytes.proofs.Ranges.{drop-take_less}
use Rattle.nats_names.specs.declared.server_error.ServerError.{ServerError}
use Rattle.nats_lines.specs.declared.word.Word.{Word}
use Rattle.nats_lines.specs.declared.word.Word.TheVariants as word
use Rattle.nats_lines.specs.Operations.{message, error_op, ok_op, ping_op, pong_op, Cut, onto_line, cut_line, word_of, Head, HeaderHead, message_of, OpText, plain, info_text, headed, less, whole, headed_text, message_or_bad, headed_or_bad, error_or_bad, head_of, header_head_of, error_of, sight_of_word, sight_of_cut, sight}
use Rattle.nats_decode.specs.Decoder.{EndsAt}
use Rattle.nats_lines.proofs.Fronts.{cut_length}
use Rattle.nats_lines.proofs.Words.{header_within}

rest_step : (test : Bool) (a b : ℕ) (rest : List ℕ) (inner : Option Cut) (cut : Cut)
    → ((c : Cut) → inner ≡ Some c → drop (length c.line + 2) (b ∷ rest) ≡ c.rest)
    → (if test then Some (record { line = []; rest = rest }) else option_map (onto_line a) inner) ≡ Some cut
    → drop (length cut.line + 2) (a ∷ b ∷ rest) ≡ cut.rest
rest_step true a b rest inner cut ih is =
    let e : record { line = []; rest = rest } ≡ cut = cc in
    subst (λ (c : Cut). drop (length c.line + 2) (a ∷ b ∷ rest) ≡ c.rest) e refl
rest_step false a b rest None cut ih is = cc
rest_step false a b rest (Some c) cut ih is =
    let e : onto_line a c ≡ cut = cc in
    let next : suc (length c.line) + 2 ≡ suc (length c.line + 2) = omega arith in
    subst (λ (c : Cut). drop (length c.line + 2) (a ∷ b ∷ rest) ≡ c.rest) e (rw next (ih c refl))

-- the rest of a cut text stands behind its line and CR LF
pub cut_rest : (bytes : List ℕ) (cut : Cut) → cut_line bytes ≡ Some cut → drop (length cut.line + 2) bytes ≡ cut.rest
cut_rest [] cut is = cc
cut_rest (a ∷ []) cut is = cc
cut_rest (a ∷ b ∷ rest) cut is = rest_step (a == 13 && b == 10) a b rest (cut_line (b ∷ rest)) cut (cut_rest (b ∷ rest)) is

ends_by : (bytes rest : List ℕ) (end skip len n : ℕ) → drop (end + 2) bytes ≡ rest → end + 2 + length rest ≡ length bytes
    → skip + len + 2 ≤ length rest → n ≡ end + (skip + len) + 4 → EndsAt bytes n (take len (drop skip rest))
ends_by bytes rest end skip len n behind sizes enough is =
    let size : length (take len (drop skip rest)) ≡ len = length-take-le len (drop skip rest) (omega (arith, length-drop skip rest)) in
    let place : n - 2 - len ≡ end + 2 + skip = omega arith in
    record {
      fits = omega (arith, size);
      within = omega arith;
      same = rw (size, place, sym (drop-drop skip (end + 2) bytes), behind) refl;
    }

-- the payload of the text of a message
abbrev pub payload_of : OpText → Option (List ℕ)
payload_of (plain (message sid m)) = Some m.payload
payload_of (plain operation) = None
payload_of (info_text text) = None
payload_of (headed sid m block) = Some m.payload

message_ends : (short : Bool) (bytes rest : List ℕ) (end : ℕ) (head : Head) (text : OpText) (n : ℕ) (payload : List ℕ)
    → drop (end + 2) bytes ≡ rest → end + 2 + length rest ≡ length bytes → nat_lt (length rest) (head.count + 2) ≡ short
    → (if short then less else whole (plain (message head.sid (message_of head (take head.count rest)))) (end + head.count + 4)) ≡ whole text n
    → payload_of text ≡ Some payload → EndsAt bytes n payload
message_ends true bytes rest end head text n payload behind sizes test is there = cc
message_ends false bytes rest end head text n payload behind sizes test is there =
    let enough : head.count + 2 ≤ length rest = ltb-false (length rest) (head.count + 2) test in
    let size : end + head.count + 4 ≡ n = cc in
    let same : take head.count rest ≡ payload = cc in
    subst (EndsAt bytes n) same (ends_by bytes rest end 0 head.count n behind sizes (omega arith) (omega arith))

headed_ends : (short : Bool) (bytes rest : List ℕ) (end : ℕ) (h : HeaderHead) (text : OpText) (n : ℕ) (payload : List ℕ)
    → drop (end + 2) bytes ≡ rest → end + 2 + length rest ≡ length bytes → h.block_len ≤ h.head.count
    → nat_lt (length rest) (h.head.count + 2) ≡ short
    → (if short then less else whole (headed_text h (take h.head.count rest)) (end + h.head.count + 4)) ≡ whole text n
    → payload_of text ≡ Some payload → EndsAt bytes n payload
headed_ends true bytes rest end h text n payload behind sizes within test is there = cc
headed_ends false bytes rest end h text n payload behind sizes within test is there =
    let enough : h.head.count + 2 ≤ length rest = ltb-false (length rest) (h.head.count + 2) test in
    let size : end + h.head.count + 4 ≡ n = cc in
    let same : drop h.block_len (take h.head.count rest) ≡ payload = cc in
    subst (EndsAt bytes n) (sym (drop-take_less rest h.block_len h.head.count within) ∙ same)
    (ends_by bytes rest end h.block_len (h.head.count - h.block_len) n behind sizes (omega arith) (omega arith))

line_ends : (first text : OpText) (m n : ℕ) (payload : List ℕ) (A : Type 0) → payload_of first ≡ None → whole first m ≡ whole text n
    → payload_of text ≡ Some payload → A
line_ends first text m n payload A none is there = cc

error_ends : (error : Option ServerError) (text : OpText) (m n : ℕ) (payload : List ℕ) (A : Type 0) → error_or_bad m error ≡ whole text n
    → payload_of text ≡ Some payload → A
error_ends None text m n payload A is there = cc
error_ends (Some error) text m n payload A is there = line_ends (plain (error_op error)) text m n payload A refl is there

message_found : (bytes rest : List ℕ) (end : ℕ) (head : Option Head) (text : OpText) (n : ℕ) (payload : List ℕ)
    → drop (end + 2) bytes ≡ rest → end + 2 + length rest ≡ length bytes → message_or_bad end rest head ≡ whole text n
    → payload_of text ≡ Some payload → EndsAt bytes n payload
message_found bytes rest end None text n payload behind sizes is there = cc
message_found bytes rest end (Some head) text n payload behind sizes is there =
    message_ends (nat_lt (length rest) (head.count + 2)) bytes rest end head text n payload behind sizes refl is there

headed_found : (bytes rest : List ℕ) (end : ℕ) (h : Option HeaderHead) (text : OpText) (n : ℕ) (payload : List ℕ)
    → drop (end + 2) bytes ≡ rest → end + 2 + length rest ≡ length bytes → ((x : HeaderHead) → h ≡ Some x → x.block_len ≤ x.head.count)
    → headed_or_bad end rest h ≡ whole text n → payload_of text ≡ Some payload → EndsAt bytes n payload
headed_found bytes rest end None text n payload behind sizes within is there = cc
headed_found bytes rest end (Some h) text n payload behind sizes within is there =
    headed_ends (nat_lt (length rest) (h.head.count + 2)) bytes rest end h text n payload behind sizes (within h refl) refl is there

word_ends : (begins : Word) (bytes line rest : List ℕ) (text : OpText) (n : ℕ) (payload : List ℕ)
    → drop (length line + 2) bytes ≡ rest → length line + 2 + length rest ≡ length bytes → sight_of_word begins line rest ≡ whole text n
    → payload_of text ≡ Some payload → EndsAt bytes n payload
word_ends word.Message bytes line rest text n payload behind sizes is there =
    message_found bytes rest (length line) (head_of (drop 4 line)) text n payload behind sizes is there
word_ends word.HeaderMessage bytes line rest text n payload behind sizes is there =
    headed_found bytes rest (length line) (header_head_of (drop 5 line)) text n payload behind sizes (header_within (drop 5 line)) is there
word_ends word.Info bytes line rest text n payload behind sizes is there = line_ends (info_text (drop 4 line)) text _ n payload _ refl is there
word_ends word.Error bytes line rest text n payload behind sizes is there = error_ends (error_of line) text _ n payload _ is there
word_ends word.Ok bytes line rest text n payload behind sizes is there = line_ends (plain ok_op) text _ n payload _ refl is there
word_ends word.Ping bytes line rest text n payload behind sizes is there = line_ends (plain ping_op) text _ n payload _ refl is there
word_ends word.Pong bytes line rest text n payload behind sizes is there = line_ends (plain pong_op) text _ n payload _ refl is there
word_ends word.Other bytes line rest text n payload behind sizes is there = cc

cut_ends : (bytes : List ℕ) (found : Option Cut) (text : OpText) (n : ℕ) (payload : List ℕ) → cut_line bytes ≡ found
    → sight_of_cut found ≡ whole text n → payload_of text ≡ Some payload → EndsAt bytes n payload
cut_ends bytes None text n payload cut is there = cc
cut_ends bytes (Some c) text n payload cut is there =
    word_ends (word_of c.line) bytes c.line c.rest text n payload (cut_rest bytes c cut) (cut_length bytes c cut) is there

-- the payload of a message ends two bytes before its text
pub payload_ends : (bytes : List ℕ) (text : OpText) (n : ℕ) (payload : List ℕ) → whole text n ≡ sight bytes
    → payload_of text ≡ Some payload → EndsAt bytes n payload
unfolding sight
payload_ends bytes text n payload is there = cut_ends bytes (cut_line bytes) text n payload refl (sym is) there

same_list : (p q : List ℕ) → pointwise nat_eq p q ≡ true → q ≡ p
same_list [] [] is = refl
same_list [] (y ∷ ys) is = cc
same_list (x ∷ xs) [] is = cc
same_list (x ∷ xs) (y ∷ ys) is =
    let parts = and_parts (nat_eq x y) (pointwise nat_eq xs ys) is in
    rw (eqb-true x y parts.0, same_list xs ys parts.1) refl

starts_there : (bytes text : List ℕ) (at : ℕ) → starts_with nat_eq (drop at bytes) text ≡ true → slice_range bytes at (at + length text) ≡ text
starts_there bytes text at is =
    let e : at + length text - at ≡ length text = omega arith in
    rw e (same_list text (take (length text) (drop at bytes)) is)

-- a part of a text that is tested to stand at a place is what was looked for
pub part_there : (bytes text shown needle part : List ℕ) (at len : ℕ) → shown ≡ bytes → needle ≡ text → len ≡ length text
    → starts_with nat_eq (take (length shown - at) (drop at shown)) needle ≡ true → part ≡ slice_range bytes at (at + len) → part ≡ text
part_there bytes text shown needle part at len seen sought size is cut =
    let there = rw (seen, sought, take_rest bytes at) at is in
    cut ∙ ap (λ n. slice_range bytes at (at + n)) size ∙ starts_there bytes text at there
