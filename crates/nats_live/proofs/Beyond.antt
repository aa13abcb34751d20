-- An operation that stands at the front of a text only once more bytes came takes some of these.
use Rattle.std.proofs.Common.{◌≡◌, refl, sym, ap, ◌∙◌, ℕ, suc, ◌+◌, ◌<◌, ◌≤◌, arith, Bool, true, false, nat_lt, ltb-true, List, [], ◌∷◌, ◌++◌, length, take, drop, Option, Some, None}
use Rattle.std.specs.Prelude.{◌==◌, ◌&&◌, if◌then◌else◌}
use Rattle.std.specs.Option.{option_map}
use Rattle.nats_names.specs.declared.server_error.ServerError.{ServerError}
use Rattle.nats_lines.specs.Operations.{Operation, message, error_op, ok_op, ping_op, pong_op, unfinished, got, Cut, onto_line, cut_line, word_of, Head, HeaderHead, message_of, OpText, plain, info_text, headed_text, Sight, less, whole, bad, message_or_bad, headed_or_bad, error_or_bad, head_of, header_head_of, error_of, sight_of_word, sight_of_cut, sight, op_of, lost_at, got_or_fault, front_of_sight, front}
use Rattle.nats_lines.specs.declared.word.Word.{Word}
use Rattle.nats_lines.specs.declared.word.Word.TheVariants as word
use Rattle.nats_lines.proofs.Fronts.{cut_more, cut_length}

-- ---- the line

cut_step : (test : Bool) (a size : ℕ) (rest long : List ℕ) (inner later : Option Cut) (cut : Cut)
    → (inner ≡ None → (c : Cut) → later ≡ Some c → size < length c.line + 2)
    → (if test then Some (record { line = []; rest = rest }) else option_map (onto_line a) inner) ≡ None
    → (if test then Some (record { line = []; rest = long }) else option_map (onto_line a) later) ≡ Some cut
    → suc size < length cut.line + 2
cut_step true a size rest long inner later cut ih none is = cc
cut_step false a size rest long (Some x) later cut ih none is = cc
cut_step false a size rest long None None cut ih none is = cc
cut_step false a size rest long None (Some c) cut ih none is =
    let e : onto_line a c ≡ cut = cc in
    omega (arith, ih refl c refl, ap (λ (x : Cut). length x.line) e)

-- a line that ends only in a longer text ends behind it
cut_beyond : (bytes more : List ℕ) (cut : Cut) → cut_line bytes ≡ None → cut_line (bytes ++ more) ≡ Some cut
    → length bytes < length cut.line + 2
cut_beyond [] more cut none is = omega arith
cut_beyond (a ∷ []) more cut none is = omega arith
cut_beyond (a ∷ b ∷ rest) more cut none is =
    cut_step (a == 13 && b == 10) a (suc (length rest)) rest (rest ++ more) (cut_line (b ∷ rest))
    (cut_line (b ∷ rest ++ more)) cut
    (λ short c later. cut_beyond (b ∷ rest) more c short later) none is

-- ---- the body

-- an operation takes its line at least
body_least : (short : Bool) (end count : ℕ) (text other : OpText) (n : ℕ)
    → (if short then less else whole text (end + count + 4)) ≡ whole other n → end + 2 ≤ n
body_least true end count text other n is = cc
body_least false end count text other n is = let e : end + count + 4 ≡ n = cc in omega arith

message_least : (end : ℕ) (rest : List ℕ) (head : Option Head) (text : OpText) (n : ℕ)
    → message_or_bad end rest head ≡ whole text n → end + 2 ≤ n
message_least end rest None text n is = cc
message_least end rest (Some head) text n is =
    body_least (nat_lt (length rest) (head.count + 2)) end head.count
    (plain (message head.sid (message_of head (take head.count rest)))) text n is

headed_least : (end : ℕ) (rest : List ℕ) (h : Option HeaderHead) (text : OpText) (n : ℕ)
    → headed_or_bad end rest h ≡ whole text n → end + 2 ≤ n
headed_least end rest None text n is = cc
headed_least end rest (Some h) text n is =
    body_least (nat_lt (length rest) (h.head.count + 2)) end h.head.count
    (headed_text h (take h.head.count rest)) text n is

line_least : (first text : OpText) (m n : ℕ) → whole first m ≡ whole text n → m ≤ n
line_least first text m n is = let e : m ≡ n = cc in omega arith

error_least : (m : ℕ) (error : Option ServerError) (text : OpText) (n : ℕ) → error_or_bad m error ≡ whole text n
    → m ≤ n
error_least m None text n is = cc
error_least m (Some error) text n is = line_least (plain (error_op error)) text m n is

word_least : (word : Word) (line rest : List ℕ) (text : OpText) (n : ℕ) → sight_of_word word line rest ≡ whole text n
    → length line + 2 ≤ n
word_least word.Message line rest text n is = message_least (length line) rest (head_of (drop 4 line)) text n is
word_least word.HeaderMessage line rest text n is =
    headed_least (length line) rest (header_head_of (drop 5 line)) text n is
word_least word.Info line rest text n is = line_least (info_text (drop 4 line)) text (length line + 2) n is
word_least word.Error line rest text n is = error_least (length line + 2) (error_of line) text n is
word_least word.Ok line rest text n is = line_least (plain ok_op) text (length line + 2) n is
word_least word.Ping line rest text n is = line_least (plain ping_op) text (length line + 2) n is
word_least word.Pong line rest text n is = line_least (plain pong_op) text (length line + 2) n is
word_least word.Other line rest text n is = cc

-- a body that is there only in a longer text takes more than there was
body_beyond : (short later : Bool) (end count : ℕ) (rest : List ℕ) (text long other : OpText) (n : ℕ)
    → nat_lt (length rest) (count + 2) ≡ short
    → (if short then less else whole text (end + count + 4)) ≡ less
    → (if later then less else whole long (end + count + 4)) ≡ whole other n → end + 2 + length rest < n
body_beyond false later end count rest text long other n test sees is = cc
body_beyond true true end count rest text long other n test sees is = cc
body_beyond true false end count rest text long other n test sees is =
    let e : end + count + 4 ≡ n = cc in
    omega (arith, ltb-true (length rest) (count + 2) test)

message_beyond : (end : ℕ) (rest more : List ℕ) (head : Option Head) (text : OpText) (n : ℕ)
    → message_or_bad end rest head ≡ less → message_or_bad end (rest ++ more) head ≡ whole text n
    → end + 2 + length rest < n
message_beyond end rest more None text n sees is = cc
message_beyond end rest more (Some head) text n sees is =
    body_beyond (nat_lt (length rest) (head.count + 2)) (nat_lt (length (rest ++ more)) (head.count + 2)) end
    head.count rest
    (plain (message head.sid (message_of head (take head.count rest))))
    (plain (message head.sid (message_of head (take head.count (rest ++ more))))) text n refl sees is

headed_beyond : (end : ℕ) (rest more : List ℕ) (h : Option HeaderHead) (text : OpText) (n : ℕ)
    → headed_or_bad end rest h ≡ less → headed_or_bad end (rest ++ more) h ≡ whole text n → end + 2 + length rest < n
headed_beyond end rest more None text n sees is = cc
headed_beyond end rest more (Some h) text n sees is =
    body_beyond (nat_lt (length rest) (h.head.count + 2)) (nat_lt (length (rest ++ more)) (h.head.count + 2)) end
    h.head.count rest
    (headed_text h (take h.head.count rest)) (headed_text h (take h.head.count (rest ++ more))) text n refl sees is

error_not_less : (m : ℕ) (error : Option ServerError) (A : Type 0) → error_or_bad m error ≡ less → A
error_not_less m None A is = cc
error_not_less m (Some error) A is = cc

word_beyond : (word : Word) (line rest more : List ℕ) (text : OpText) (n : ℕ) → sight_of_word word line rest ≡ less
    → sight_of_word word line (rest ++ more) ≡ whole text n → length line + 2 + length rest < n
word_beyond word.Message line rest more text n sees is =
    message_beyond (length line) rest more (head_of (drop 4 line)) text n sees is
word_beyond word.HeaderMessage line rest more text n sees is =
    headed_beyond (length line) rest more (header_head_of (drop 5 line)) text n sees is
word_beyond word.Error line rest more text n sees is = error_not_less (length line + 2) (error_of line) _ sees
word_beyond word.Info line rest more text n sees is = cc
word_beyond word.Ok line rest more text n sees is = cc
word_beyond word.Ping line rest more text n sees is = cc
word_beyond word.Pong line rest more text n sees is = cc
word_beyond word.Other line rest more text n sees is = cc

-- ---- the whole

cut_sight : (bytes more : List ℕ) (found later : Option Cut) (text : OpText) (n : ℕ)
    → cut_line bytes ≡ found → cut_line (bytes ++ more) ≡ later
    → sight_of_cut found ≡ less → sight_of_cut later ≡ whole text n → length bytes < n
cut_sight bytes more None None text n cut long sees is = cc
cut_sight bytes more None (Some c) text n cut long sees is =
    omega (arith, cut_beyond bytes more c cut long, word_least (word_of c.line) c.line c.rest text n is)
cut_sight bytes more (Some c) later text n cut long sees is =
    let grows : later ≡ Some (record { line = c.line; rest = c.rest ++ more }) =
    sym long ∙ cut_more bytes more c cut in
    let here = ap sight_of_cut (sym grows) ∙ is in
    omega (arith, cut_length bytes c cut, word_beyond (word_of c.line) c.line c.rest more text n sees here)

sight_beyond : (bytes more : List ℕ) (text : OpText) (n : ℕ) → sight bytes ≡ less
    → sight (bytes ++ more) ≡ whole text n
    → length bytes < n
unfolding sight
sight_beyond bytes more text n sees is =
    cut_sight bytes more (cut_line bytes) (cut_line (bytes ++ more)) text n refl refl sees is

not_unfinished : (m lost : ℕ) (found : Option Operation) (A : Type 0) → got_or_fault m lost found ≡ unfinished → A
not_unfinished m lost None A is = cc
not_unfinished m lost (Some op) A is = cc

is_less : (s : Sight) → front_of_sight s ≡ unfinished → s ≡ less
is_less less is = refl
is_less (bad n) is = cc
is_less (whole text n) is = not_unfinished n (lost_at text n) (op_of text) _ is

of_whole : (m lost : ℕ) (found : Option Operation) (op : Operation) (n : ℕ) → got_or_fault m lost found ≡ got op n
    → m ≡ n
of_whole m lost None op n is = cc
of_whole m lost (Some found) op n is = cc

got_beyond : (bytes more : List ℕ) (s : Sight) (op : Operation) (n : ℕ) → sight bytes ≡ less
    → sight (bytes ++ more) ≡ s
    → front_of_sight s ≡ got op n → length bytes < n
got_beyond bytes more less op n sees long is = cc
got_beyond bytes more (bad m) op n sees long is = cc
got_beyond bytes more (whole text m) op n sees long is =
    omega (arith, sight_beyond bytes more text m sees long, of_whole m (lost_at text m) (op_of text) op n is)

pub front_beyond : (bytes more : List ℕ) (op : Operation) (n : ℕ) → front bytes ≡ unfinished
    → front (bytes ++ more) ≡ got op n
    → length bytes < n
unfolding front
front_beyond bytes more op n none is =
    got_beyond bytes more (sight (bytes ++ more)) op n (is_less (sight bytes) none) refl is
