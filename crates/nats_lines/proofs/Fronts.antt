-- What stands at the front of a text stays there when the text grows.
use Rattle.std.proofs.Common.{◌≡◌, ℕ, zero, suc, ◌+◌, ◌<◌, ◌≤◌, Bool, true, false, List, [], ◌∷◌, ◌++◌, length, take, drop, Option, Some, None, refl, ap, sym, ◌∙◌, arith, length-append}
use Rattle.std.specs.Prelude.{◌==◌, ◌&&◌, nat_lt, if◌then◌else◌}
use Rattle.std.specs.Option.{option_map}
use Rattle.std.proofs.lemmas.List.{take-append-le, drop-append-le}
use Rattle.std.proofs.lemmas.Bool.{ltb-false, le-ltb}
use Rattle.nats_names.specs.declared.server_error.ServerError.{ServerError}
use Rattle.nats_lines.specs.Operations.{Operation, message, error_op, ok_op, ping_op, pong_op, Front, unfinished, got, fault, Cut, onto_line, cut_line, word_of, Head, HeaderHead, message_of, OpText, plain, info_text, headed, Sight, less, whole, bad, headed_text, message_or_bad, headed_or_bad, error_or_bad, head_of, header_head_of, error_of, sight_of_word, sight_of_cut, sight, op_of, lost_at, got_or_fault, front_of_sight, front, past, behind}
use Rattle.nats_lines.specs.declared.word.Word.{Word}
use Rattle.nats_lines.specs.declared.word.Word.TheVariants as word
use Rattle.nats_lines.specs.Laws.{IsGot, AllThere}

-- a cut of a longer text
abbrev pub grown : Cut → List ℕ → Cut
grown cut more = record { line = cut.line; rest = cut.rest ++ more }

-- one step of the cut, by its test
cut_step : (test : Bool) (a : ℕ) (rest more : List ℕ) (inner later : Option Cut) (cut : Cut)
    → ((c : Cut) → inner ≡ Some c → later ≡ Some (grown c more))
    → (if test then Some (record { line = []; rest = rest }) else option_map (onto_line a) inner) ≡ Some cut
    → (if test then Some (record { line = []; rest = rest ++ more }) else option_map (onto_line a) later) ≡ Some (grown cut more)
cut_step true a rest more inner later cut ih is = let e : record { line = []; rest = rest } ≡ cut = cc in ap (λ (c : Cut). Some (grown c more)) e
cut_step false a rest more None later cut ih is = cc
cut_step false a rest more (Some c) later cut ih is =
    let e : onto_line a c ≡ cut = cc in
    ap (option_map (onto_line a)) (ih c refl) ∙ ap (λ (c : Cut). Some (grown c more)) e

-- a text that is cut is cut at the same place when it grows
pub cut_more : (bytes more : List ℕ) (cut : Cut) → cut_line bytes ≡ Some cut → cut_line (bytes ++ more) ≡ Some (grown cut more)
cut_more [] more cut is = cc
cut_more (a ∷ []) more cut is = cc
cut_more (a ∷ b ∷ rest) more cut is = cut_step (a == 13 && b == 10) a rest more (cut_line (b ∷ rest)) (cut_line (b ∷ rest ++ more)) cut (cut_more (b ∷ rest) more) is

-- the bytes of a cut text are its line, CR LF, and the rest
cut_step_length : (test : Bool) (a b : ℕ) (rest : List ℕ) (inner : Option Cut) (cut : Cut)
    → ((c : Cut) → inner ≡ Some c → length c.line + 2 + length c.rest ≡ suc (length rest))
    → (if test then Some (record { line = []; rest = rest }) else option_map (onto_line a) inner) ≡ Some cut
    → length cut.line + 2 + length cut.rest ≡ suc (suc (length rest))
cut_step_length true a b rest inner cut ih is =
    let e : record { line = []; rest = rest } ≡ cut = cc in
    omega (arith, ap (λ (c : Cut). length c.line) e, ap (λ (c : Cut). length c.rest) e)
cut_step_length false a b rest None cut ih is = cc
cut_step_length false a b rest (Some c) cut ih is =
    let e : onto_line a c ≡ cut = cc in
    omega (arith, ih c refl, ap (λ (c : Cut). length c.line) e, ap (λ (c : Cut). length c.rest) e)

pub cut_length : (bytes : List ℕ) (cut : Cut) → cut_line bytes ≡ Some cut → length cut.line + 2 + length cut.rest ≡ length bytes
cut_length [] cut is = cc
cut_length (a ∷ []) cut is = cc
cut_length (a ∷ b ∷ rest) cut is =
    cut_step_length (a == 13 && b == 10) a b rest (cut_line (b ∷ rest)) cut (cut_length (b ∷ rest)) is

-- a body that is there is the same in a longer text
body_there : (short : Bool) (end count : ℕ) (rest more : List ℕ) (text_of : List ℕ → OpText) (text : OpText) (n : ℕ)
    → nat_lt (length rest) (count + 2) ≡ short
    → (if short then less else whole (text_of (take count rest)) (end + count + 4)) ≡ whole text n
    → ((if nat_lt (length (rest ++ more)) (count + 2) then less else whole (text_of (take count (rest ++ more))) (end + count + 4)) ≡ whole text n) × (n ≤ end + 2 + length rest) × (0 < n)
body_there true end count rest more text_of text n test is = cc
body_there false end count rest more text_of text n test is =
    let enough : count + 2 ≤ length rest = ltb-false (length rest) (count + 2) test in
    let within : count ≤ length rest = omega arith in
    let size : end + count + 4 ≡ n = cc in
    let later : nat_lt (length (rest ++ more)) (count + 2) ≡ false =
    le-ltb (length (rest ++ more)) (count + 2) (omega (arith, length-append rest more)) in (
      rw (later, take-append-le count rest more within) is,
      omega arith,
      omega arith,
    )

message_stays : (end : ℕ) (rest more : List ℕ) (head : Option Head) (text : OpText) (n : ℕ)
    → message_or_bad end rest head ≡ whole text n
    → (message_or_bad end (rest ++ more) head ≡ whole text n) × (n ≤ end + 2 + length rest) × (0 < n)
message_stays end rest more None text n is = cc
message_stays end rest more (Some head) text n is =
    body_there (nat_lt (length rest) (head.count + 2)) end head.count rest more (λ payload. plain (message head.sid (message_of head payload))) text n refl is

headed_stays : (end : ℕ) (rest more : List ℕ) (h : Option HeaderHead) (text : OpText) (n : ℕ)
    → headed_or_bad end rest h ≡ whole text n
    → (headed_or_bad end (rest ++ more) h ≡ whole text n) × (n ≤ end + 2 + length rest) × (0 < n)
headed_stays end rest more None text n is = cc
headed_stays end rest more (Some h) text n is =
    body_there (nat_lt (length rest) (h.head.count + 2)) end h.head.count rest more (headed_text h) text n refl is

-- a text that takes its line and CR LF
line_takes : (first text : OpText) (line rest : List ℕ) (n : ℕ) → whole first (length line + 2) ≡ whole text n
    → (n ≤ length line + 2 + length rest) × (0 < n)
line_takes first text line rest n is = let e : length line + 2 ≡ n = cc in (omega arith, omega arith)

error_takes : (line rest : List ℕ) (error : Option ServerError) (text : OpText) (n : ℕ)
    → error_or_bad (length line + 2) error ≡ whole text n → (n ≤ length line + 2 + length rest) × (0 < n)
error_takes line rest None text n is = cc
error_takes line rest (Some error) text n is = line_takes (plain (error_op error)) text line rest n is

with_takes : {A B C : Type 0} → A → B × C → A × B × C
with_takes a bc = (a, bc.0, bc.1)

word_stays : (word : Word) (line rest more : List ℕ) (text : OpText) (n : ℕ)
    → sight_of_word word line rest ≡ whole text n
    → (sight_of_word word line (rest ++ more) ≡ whole text n) × (n ≤ length line + 2 + length rest) × (0 < n)
word_stays word.Message line rest more text n is = message_stays (length line) rest more (head_of (drop 4 line)) text n is
word_stays word.HeaderMessage line rest more text n is =
    headed_stays (length line) rest more (header_head_of (drop 5 line)) text n is
word_stays word.Info line rest more text n is = with_takes is (line_takes (info_text (drop 4 line)) text line rest n is)
word_stays word.Error line rest more text n is = with_takes is (error_takes line rest (error_of line) text n is)
word_stays word.Ok line rest more text n is = with_takes is (line_takes (plain ok_op) text line rest n is)
word_stays word.Ping line rest more text n is = with_takes is (line_takes (plain ping_op) text line rest n is)
word_stays word.Pong line rest more text n is = with_takes is (line_takes (plain pong_op) text line rest n is)
word_stays word.Other line rest more text n is = cc

cut_stays : (bytes more : List ℕ) (found : Option Cut) (text : OpText) (n : ℕ)
    → cut_line bytes ≡ found → sight_of_cut found ≡ whole text n
    → (sight_of_cut (cut_line (bytes ++ more)) ≡ whole text n) × (n ≤ length bytes) × (0 < n)
cut_stays bytes more None text n cut is = cc
cut_stays bytes more (Some c) text n cut is =
    let stays = word_stays (word_of c.line) c.line c.rest more text n is in (
      rw (cut_more bytes more c cut) stays.0,
      omega (arith, cut_length bytes c cut, stays.1),
      stays.2,
    )

-- the text of an operation at the front of a text stands at the front of each longer one; it is nonempty and within
-- the text
whole_more : (bytes more : List ℕ) (text : OpText) (n : ℕ) → sight bytes ≡ whole text n
    → (sight (bytes ++ more) ≡ whole text n) × (n ≤ length bytes) × (0 < n)
unfolding sight
whole_more bytes more text n is = cut_stays bytes more (cut_line bytes) text n refl is

body_bad : (short : Bool) (text : OpText) (m n : ℕ) (A : Type 0) → (if short then less else whole text m) ≡ bad n → A
body_bad true text m n A is = cc
body_bad false text m n A is = cc

message_bad : (end : ℕ) (rest more : List ℕ) (head : Option Head) (n : ℕ)
    → message_or_bad end rest head ≡ bad n → (message_or_bad end (rest ++ more) head ≡ bad n) × (n ≤ end + 2)
message_bad end rest more None n is = (is, (let e : 0 ≡ n = cc in omega arith))
message_bad end rest more (Some head) n is =
    body_bad (nat_lt (length rest) (head.count + 2)) (plain (message head.sid (message_of head (take head.count rest)))) (end + head.count + 4) n _ is

headed_bad : (end : ℕ) (rest more : List ℕ) (h : Option HeaderHead) (n : ℕ)
    → headed_or_bad end rest h ≡ bad n → (headed_or_bad end (rest ++ more) h ≡ bad n) × (n ≤ end + 2)
headed_bad end rest more None n is = (is, (let e : 0 ≡ n = cc in omega arith))
headed_bad end rest more (Some h) n is =
    body_bad (nat_lt (length rest) (h.head.count + 2)) (headed_text h (take h.head.count rest)) (end + h.head.count + 4) n _ is

error_bad : (m : ℕ) (error : Option ServerError) (n : ℕ) → error_or_bad m error ≡ bad n → n ≤ m
error_bad m None n is = let e : 0 ≡ n = cc in omega arith
error_bad m (Some error) n is = cc

word_bad : (word : Word) (line rest more : List ℕ) (n : ℕ)
    → sight_of_word word line rest ≡ bad n
    → (sight_of_word word line (rest ++ more) ≡ bad n) × (n ≤ length line + 2)
word_bad word.Message line rest more n is = message_bad (length line) rest more (head_of (drop 4 line)) n is
word_bad word.HeaderMessage line rest more n is = headed_bad (length line) rest more (header_head_of (drop 5 line)) n is
word_bad word.Error line rest more n is = (is, error_bad (length line + 2) (error_of line) n is)
word_bad word.Info line rest more n is = cc
word_bad word.Ok line rest more n is = cc
word_bad word.Ping line rest more n is = cc
word_bad word.Pong line rest more n is = cc
word_bad word.Other line rest more n is = (is, (let e : length line + 2 ≡ n = cc in omega arith))

cut_bad : (bytes more : List ℕ) (found : Option Cut) (n : ℕ)
    → cut_line bytes ≡ found → sight_of_cut found ≡ bad n
    → (sight_of_cut (cut_line (bytes ++ more)) ≡ bad n) × (n ≤ length bytes)
cut_bad bytes more None n cut is = cc
cut_bad bytes more (Some c) n cut is =
    let stays = word_bad (word_of c.line) c.line c.rest more n is in (
      rw (cut_more bytes more c cut) stays.0,
      omega (arith, cut_length bytes c cut, stays.1),
    )

bad_more : (bytes more : List ℕ) (n : ℕ) → sight bytes ≡ bad n → (sight (bytes ++ more) ≡ bad n) × (n ≤ length bytes)
unfolding sight
bad_more bytes more n is = cut_bad bytes more (cut_line bytes) n refl is

-- an operation is read from a text of as many bytes
got_size : (m lost : ℕ) (found : Option Operation) (op : Operation) (n : ℕ) → got_or_fault m lost found ≡ got op n → m ≡ n
got_size m lost None op n is = cc
got_size m lost (Some found) op n is = cc

lost_size : (m lost : ℕ) (found : Option Operation) (n : ℕ) → got_or_fault m lost found ≡ fault n → lost ≡ n
lost_size m lost None n is = cc
lost_size m lost (Some found) n is = cc

lost_le : (text : OpText) (n : ℕ) → lost_at text n ≤ n
lost_le (plain op) n = omega arith
lost_le (info_text text) n = omega arith
lost_le (headed sid m block) n = omega arith

got_stays : (bytes more : List ℕ) (seen : Sight) (op : Operation) (n : ℕ)
    → sight bytes ≡ seen → front_of_sight seen ≡ got op n
    → (front_of_sight (sight (bytes ++ more)) ≡ got op n) × (n ≤ length bytes) × (0 < n)
got_stays bytes more less op n sees is = cc
got_stays bytes more (bad m) op n sees is = cc
got_stays bytes more (whole text m) op n sees is =
    let stays = whole_more bytes more text m sees in
    let size : m ≡ n = got_size m (lost_at text m) (op_of text) op n is in (
      rw stays.0 is,
      omega (arith, stays.1),
      omega (arith, stays.2),
    )

fault_stays : (bytes more : List ℕ) (seen : Sight) (n : ℕ)
    → sight bytes ≡ seen → front_of_sight seen ≡ fault n
    → (front_of_sight (sight (bytes ++ more)) ≡ fault n) × (n ≤ length bytes)
fault_stays bytes more less n sees is = cc
fault_stays bytes more (bad m) n sees is =
    let stays = bad_more bytes more m sees in
    let size : m ≡ n = cc in (
      rw stays.0 is,
      omega (arith, stays.1),
    )
fault_stays bytes more (whole text m) n sees is =
    let stays = whole_more bytes more text m sees in
    let size : lost_at text m ≡ n = lost_size m (lost_at text m) (op_of text) n is in (
      rw stays.0 is,
      omega (arith, stays.1, lost_le text m),
    )

-- an operation at the front of a text stands at the front of each longer one
pub front_more : (bytes more : List ℕ) (op : Operation) (n : ℕ) → front bytes ≡ got op n → front (bytes ++ more) ≡ got op n
unfolding front
front_more bytes more op n is = (got_stays bytes more (sight bytes) op n refl is).0

-- it takes no more bytes than there are
pub front_fits : (bytes : List ℕ) (op : Operation) (n : ℕ) → front bytes ≡ got op n → n ≤ length bytes
unfolding front
front_fits bytes op n is = (got_stays bytes [] (sight bytes) op n refl is).1

-- and one at least
pub front_takes : (bytes : List ℕ) (op : Operation) (n : ℕ) → front bytes ≡ got op n → 0 < n
unfolding front
front_takes bytes op n is = (got_stays bytes [] (sight bytes) op n refl is).2

-- a fault at the front of a text stands at the front of each longer one
pub fault_more : (bytes more : List ℕ) (n : ℕ) → front bytes ≡ fault n → front (bytes ++ more) ≡ fault n
unfolding front
fault_more bytes more n is = (fault_stays bytes more (sight bytes) n refl is).0

-- it takes no more bytes than there are
pub fault_fits : (bytes : List ℕ) (n : ℕ) → front bytes ≡ fault n → n ≤ length bytes
unfolding front
fault_fits bytes n is = (fault_stays bytes [] (sight bytes) n refl is).1

-- the place behind one more operation is that past the operation at the place before
pub behind_next : (count : ℕ) (bytes : List ℕ) → behind (suc count) bytes ≡ past (front (behind count bytes)) (behind count bytes)
behind_next zero bytes = refl
behind_next (suc count) bytes = behind_next count (past (front bytes) bytes)

-- what is past an operation grows as the text grows
past_step : (bytes more : List ℕ) (found : Front) → front bytes ≡ found → IsGot found
    → past (front (bytes ++ more)) (bytes ++ more) ≡ past found bytes ++ more
past_step bytes more (got op n) is there =
    rw (front_more bytes more op n is) (drop-append-le n bytes more (front_fits bytes op n is))
past_step bytes more unfinished is there = absurd there
past_step bytes more (fault n) is there = absurd there

pub past_more : (bytes more : List ℕ) → IsGot (front bytes)
    → past (front (bytes ++ more)) (bytes ++ more) ≡ past (front bytes) bytes ++ more
past_more bytes more there = past_step bytes more (front bytes) refl there

got_step : (bytes more : List ℕ) (found : Front) → front bytes ≡ found → IsGot found → IsGot (front (bytes ++ more))
got_step bytes more (got op n) is there = rw (front_more bytes more op n is) there
got_step bytes more unfinished is there = absurd there
got_step bytes more (fault n) is there = absurd there

pub got_more : (bytes more : List ℕ) → IsGot (front bytes) → IsGot (front (bytes ++ more))
got_more bytes more there = got_step bytes more (front bytes) refl there

-- what is behind operations that are there grows as the text grows
pub behind_more : (count : ℕ) (bytes more : List ℕ) → AllThere count bytes → behind count (bytes ++ more) ≡ behind count bytes ++ more
behind_more zero bytes more there = refl
behind_more (suc count) bytes more there =
    ap (behind count) (past_more bytes more there.0) ∙ behind_more count (past (front bytes) bytes) more there.1

-- operations that are there stay there
pub there_more : (count : ℕ) (bytes more : List ℕ) → AllThere count bytes → AllThere count (bytes ++ more)
there_more zero bytes more there = there
there_more (suc count) bytes more there = (
  got_more bytes more there.0,
  rw (past_more bytes more there.0) (there_more count (past (front bytes) bytes) more there.1),
)

-- and one more where one stands behind them
pub there_next : (count : ℕ) (bytes : List ℕ) → AllThere count bytes → IsGot (front (behind count bytes)) → AllThere (suc count) bytes
there_next zero bytes there next = (next, there)
there_next (suc count) bytes there next = (there.0, there_next count (past (front bytes) bytes) there.1 next)

-- what is seen at the front of a text, by its cut
pub sight_by_cut : (bytes : List ℕ) (found : Option Cut) → found ≡ cut_line bytes → sight bytes ≡ sight_of_cut found
unfolding sight
sight_by_cut bytes found is = ap sight_of_cut (sym is)

-- what stands there, by what is seen
pub front_by_sight : (bytes : List ℕ) (seen : Sight) → seen ≡ sight bytes → front bytes ≡ front_of_sight seen
unfolding front
front_by_sight bytes seen is = ap front_of_sight (sym is)
