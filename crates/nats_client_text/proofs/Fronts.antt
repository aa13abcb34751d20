-- What stands at the front of a text, by what is seen there.
use Rattle.std.proofs.Common.{◌≡◌, ℕ, ◌+◌, ◌<◌, ◌≤◌, Bool, true, false, List, length, take, drop, Option, Some, None, refl, ap, sym, ◌∙◌, arith}
use Rattle.std.specs.Prelude.{IsTrue, nat_lt, nat_eq, if◌then◌else◌}
use Rattle.std.specs.List.{starts_with}
use Rattle.std.proofs.lemmas.Bool.{ltb-false}
use Rattle.nats_lines.specs.Operations.{Cut, cut_line}
use Rattle.nats_commands.specs.Commands.{crlf}
use Rattle.nats_message.specs.declared.op.ClientOp.{ClientOp}
use Rattle.nats_lines.proofs.Fronts.{cut_length}
use Rattle.nats_client_text.specs.Grammar.{OpText, Publishes, Line, alone, counted, Body, short, torn, body, body_of, sight_of_body, Sight, less, whole, wrong, sight_of_line, line_of, sight_of_cut, sight, op_of, got_or_bad, front_of_sight, front, has_parts, memory_taken, takes_memory, is_whole, begins_whole}
use Rattle.nats_client_text.specs.declared.read.ClientFront.TheVariants.{Got, Unfinished, Bad}

-- what is seen, by the cut
pub sight_by_cut : (text : List ℕ) (found : Option Cut) → found ≡ cut_line text → sight text ≡ sight_of_cut found
unfolding sight
sight_by_cut text found is = ap sight_of_cut (sym is)

-- what stands there, by what is seen
pub front_by_sight : (text : List ℕ) (seen : Sight) → seen ≡ sight text → front text ≡ front_of_sight seen
unfolding front
front_by_sight text seen is = ap front_of_sight (sym is)

pub less_seen : (text : List ℕ) → less ≡ sight text → Unfinished ≡ front text
less_seen text sees = sym (front_by_sight text less sees)

pub wrong_seen : (text : List ℕ) → wrong ≡ sight text → Bad ≡ front text
wrong_seen text sees = sym (front_by_sight text wrong sees)

pub got_seen : (text : List ℕ) (seen : OpText) (n : ℕ) (op : ClientOp) → whole seen n ≡ sight text → Some op ≡ op_of seen
    → Got op n ≡ front text
got_seen text seen n op sees is = ap (got_or_bad n) is ∙ sym (front_by_sight text (whole seen n) sees)

pub none_seen : (text : List ℕ) (seen : OpText) (n : ℕ) → whole seen n ≡ sight text → None ≡ op_of seen → Bad ≡ front text
none_seen text seen n sees is = ap (got_or_bad n) is ∙ sym (front_by_sight text (whole seen n) sees)

pub parts_take : (text : List ℕ) (seen : OpText) (n : ℕ) → whole seen n ≡ sight text → IsTrue (has_parts seen) → IsTrue (takes_memory text)
parts_take text seen n sees parts = ap memory_taken (sym sees) ∙ parts

-- a body that is there lies within what follows the line
size_step : (few right : Bool) (count : ℕ) (rest bytes : List ℕ) → nat_lt (length rest) (count + 2) ≡ few
    → (if few then short else (if right then body (take count rest) else torn)) ≡ body bytes → count + 2 ≤ length rest
size_step true right count rest bytes test is = cc
size_step false right count rest bytes test is = ltb-false (length rest) (count + 2) test

body_size : (count : ℕ) (rest bytes : List ℕ) → body_of count rest ≡ body bytes → count + 2 ≤ length rest
body_size count rest bytes is =
    size_step (nat_lt (length rest) (count + 2)) (starts_with nat_eq (drop count rest) crlf) count rest bytes refl is

body_takes : (p : Publishes) (end : ℕ) (rest : List ℕ) (found : Body) (seen : OpText) (n : ℕ)
    → ((bytes : List ℕ) → found ≡ body bytes → p.count + 2 ≤ length rest) → sight_of_body p end found ≡ whole seen n
    → (0 < n) × (n ≤ end + length rest)
body_takes p end rest short seen n size is = cc
body_takes p end rest torn seen n size is = cc
body_takes p end rest (body bytes) seen n size is =
    let e : end + p.count + 2 ≡ n = cc in
    let fits : p.count + 2 ≤ length rest = size bytes refl in
    (omega arith, omega arith)

line_takes : (end : ℕ) (rest : List ℕ) (line : Option Line) (seen : OpText) (n : ℕ) → 0 < end → sight_of_line end rest line ≡ whole seen n
    → (0 < n) × (n ≤ end + length rest)
line_takes end rest None seen n some is = cc
line_takes end rest (Some (alone text)) seen n some is = let e : end ≡ n = cc in (omega arith, omega arith)
line_takes end rest (Some (counted p)) seen n some is =
    body_takes p end rest (body_of p.count rest) seen n (body_size p.count rest) is

cut_takes : (text : List ℕ) (found : Option Cut) (seen : OpText) (n : ℕ) → cut_line text ≡ found → sight_of_cut found ≡ whole seen n
    → (0 < n) × (n ≤ length text)
cut_takes text None seen n at is = cc
cut_takes text (Some cut) seen n at is =
    let takes = line_takes (length cut.line + 2) cut.rest (line_of cut.line) seen n (omega arith) is in
    (takes.0, omega (arith, takes.1, cut_length text cut at))

-- what is there whole has a byte and lies within the text
pub whole_takes : (text : List ℕ) (seen : OpText) (n : ℕ) → whole seen n ≡ sight text → (0 < n) × (n ≤ length text)
whole_takes text seen n sees =
    cut_takes text (cut_line text) seen n refl (sym (sight_by_cut text (cut_line text) refl) ∙ sym sees)

got_by : (text : List ℕ) (seen : OpText) (m : ℕ) (op : ClientOp) (n : ℕ) (found : Option ClientOp) → whole seen m ≡ sight text
    → got_or_bad m found ≡ Got op n → (0 < n) × (n ≤ length text) × IsTrue true
got_by text seen m op n None sees is = cc
got_by text seen m op n (Some other) sees is =
    let e : m ≡ n = cc in
    let takes = whole_takes text seen m sees in
    (omega (arith, takes.0), omega (arith, takes.1), refl)

seen_by : (text : List ℕ) (seen : Sight) (op : ClientOp) (n : ℕ) → seen ≡ sight text → front_of_sight seen ≡ Got op n
    → (0 < n) × (n ≤ length text) × IsTrue (is_whole seen)
seen_by text less op n sees is = cc
seen_by text wrong op n sees is = cc
seen_by text (whole seen m) op n sees is = got_by text seen m op n (op_of seen) sees is

-- and so does a command at the front
pub got_takes : (text : List ℕ) (op : ClientOp) (n : ℕ) → front text ≡ Got op n → (0 < n) × (n ≤ length text) × IsTrue (begins_whole text)
got_takes text op n is = seen_by text (sight text) op n refl (sym (front_by_sight text (sight text) refl) ∙ is)

memory_step : (seen : Sight) → IsTrue (memory_taken seen) → IsTrue (is_whole seen)
memory_step less is = cc
memory_step wrong is = cc
memory_step (whole text n) is = refl

-- memory is taken only where the text of a command is there whole
pub memory_begins : (text : List ℕ) → IsTrue (takes_memory text) → IsTrue (begins_whole text)
memory_begins text is = memory_step (sight text) is
