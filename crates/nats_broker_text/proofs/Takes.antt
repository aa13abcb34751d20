-- A command at the front of a peer's bytes has a byte, and lies within them.
use Rattle.std.proofs.Common.{◌≡◌, ℕ, zero, suc, ◌+◌, ◌<◌, ◌≤◌, Bool, true, false, List, [], ◌∷◌, length, take, drop, Option, Some, None, refl, ap, sym, ◌∙◌, arith, length-drop}
use Rattle.std.specs.Prelude.{nat_lt, nat_eq, ◌&&◌, option_map, if◌then◌else◌}
use Rattle.std.specs.List.{starts_with}
use Rattle.std.specs.Cmp.Lexicographic.{pointwise}
use Rattle.std.proofs.lemmas.List.{length-take}
use Rattle.std.proofs.lemmas.Bool.{false≢true, ltb-false}
use Rattle.nats_lines.specs.Operations.{Cut, cut_line}
use Rattle.nats_commands.specs.Commands.{crlf}
use Rattle.nats_message.specs.declared.op.ClientOp.{ClientOp}
use Rattle.nats_lines.proofs.Fronts.{cut_length}
use Rattle.nats_client_text.specs.Grammar as grammar
use Rattle.nats_client_text.specs.Grammar.{OpText, Publishes, Line, alone, counted, Body, short, torn, body, body_of, sight_of_body, Sight, less, whole, wrong, sight_of_line, line_of, sight_of_cut, sight, op_of, front_of_sight, front}
use Rattle.nats_client_text.specs.declared.read.ClientFront.{ClientFront}
use Rattle.nats_client_text.specs.declared.read.ClientFront.TheVariants as client
use Rattle.nats_broker_text.specs.declared.command.Command.{Command}
use Rattle.nats_broker_text.specs.declared.command.Command.TheVariants.{Connect}
use Rattle.nats_broker_text.specs.declared.command.PeerFront.TheVariants.{Got}
use Rattle.nats_broker_text.specs.Connect.{wishes_at}
use Rattle.nats_broker_text.specs.Commands.{behind_word, connect_text, connect_word, got_or_bad, command_of, of_client, front_by, peer_front, is_ready}
use Rattle.nats_broker_text.proofs.Fronts.{nothing_ready}

-- so many bytes, one at least, which lie within a text
abbrev pub IsWithin : ℕ → List ℕ → Type 0
IsWithin n text = (0 < n) × (n ≤ length text)

-- a body that is there lies within what follows the line
size_step : (few right : Bool) (count : ℕ) (rest bytes : List ℕ) → nat_lt (length rest) (count + 2) ≡ few
    → (if few then short else (if right then body (take count rest) else torn)) ≡ body bytes → count + 2 ≤ length rest
size_step true right count rest bytes test is = cc
size_step false right count rest bytes test is = ltb-false (length rest) (count + 2) test

body_size : (count : ℕ) (rest bytes : List ℕ) → body_of count rest ≡ body bytes → count + 2 ≤ length rest
body_size count rest bytes is =
    size_step (nat_lt (length rest) (count + 2)) (starts_with nat_eq (drop count rest) crlf) count rest bytes refl is

body_takes : (p : Publishes) (end : ℕ) (rest : List ℕ) (found : Body) (seen : OpText) (n : ℕ)
    → ((bytes : List ℕ) → found ≡ body bytes → p.count + 2 ≤ length rest) → sight_of_body p end found ≡ whole seen n
    → (0 < n) × (n ≤ end + length rest)
body_takes p end rest short seen n size is = cc
body_takes p end rest torn seen n size is = cc
body_takes p end rest (body bytes) seen n size is =
    let e : end + p.count + 2 ≡ n = cc in
    let fits : p.count + 2 ≤ length rest = size bytes refl in
    (omega arith, omega arith)

line_takes : (end : ℕ) (rest : List ℕ) (line : Option Line) (seen : OpText) (n : ℕ) → 0 < end → sight_of_line end rest line ≡ whole seen n
    → (0 < n) × (n ≤ end + length rest)
line_takes end rest None seen n some is = cc
line_takes end rest (Some (alone text)) seen n some is = let e : end ≡ n = cc in (omega arith, omega arith)
line_takes end rest (Some (counted p)) seen n some is =
    body_takes p end rest (body_of p.count rest) seen n (body_size p.count rest) is

cut_takes : (text : List ℕ) (found : Option Cut) (seen : OpText) (n : ℕ) → cut_line text ≡ found → sight_of_cut found ≡ whole seen n
    → (0 < n) × (n ≤ length text)
cut_takes text None seen n at is = cc
cut_takes text (Some cut) seen n at is =
    let takes = line_takes (length cut.line + 2) cut.rest (line_of cut.line) seen n (omega arith) is in
    (takes.0, omega (arith, takes.1, cut_length text cut at))

op_takes : (text : List ℕ) (m : ℕ) (found : Option ClientOp) (op : ClientOp) (n : ℕ) → IsWithin m text
    → grammar.got_or_bad m found ≡ client.Got op n → IsWithin n text
op_takes text m None op n takes is = cc
op_takes text m (Some other) op n takes is = let e : m ≡ n = cc in (omega (arith, e, takes.0), omega (arith, e, takes.1))

seen_takes : (text : List ℕ) (seen : Sight) (op : ClientOp) (n : ℕ) → sight_of_cut (cut_line text) ≡ seen → front_of_sight seen ≡ client.Got op n
    → IsWithin n text
seen_takes text less op n at is = cc
seen_takes text wrong op n at is = cc
seen_takes text (whole seen m) op n at is = op_takes text m (op_of seen) op n (cut_takes text (cut_line text) seen m refl at) is

client_takes : (text : List ℕ) (op : ClientOp) (n : ℕ) → front text ≡ client.Got op n → IsWithin n text
unfolding front sight
client_takes text op n is = seen_takes text (sight text) op n refl is

command_takes : (text : List ℕ) (m : ℕ) (made : Option Command) (command : Command) (n : ℕ) → IsWithin m text
    → got_or_bad m made ≡ Got command n → IsWithin n text
command_takes text m None command n takes is = cc
command_takes text m (Some made) command n takes is = let e : m ≡ n = cc in (omega (arith, e, takes.0), omega (arith, e, takes.1))

front_takes : (text : List ℕ) (found : ClientFront) (command : Command) (n : ℕ) → front text ≡ found → of_client found ≡ Got command n
    → IsWithin n text
front_takes text client.Unfinished command n at is = cc
front_takes text client.Bad command n at is = cc
front_takes text (client.Got op m) command n at is = command_takes text m (command_of op) command n (client_takes text op m at) is

second_holds : (one other : Bool) → (one && other) ≡ true → other ≡ true
second_holds true other holds = holds
second_holds false other holds = cc

same_length : (word text : List ℕ) → pointwise nat_eq word text ≡ true → length word ≡ length text
same_length [] [] is = refl
same_length [] (x ∷ text) is = cc
same_length (w ∷ word) [] is = cc
same_length (w ∷ word) (x ∷ text) is = ap suc (same_length word text (second_holds (nat_eq w x) (pointwise nat_eq word text) is))

word_fits : (text word : List ℕ) → starts_with nat_eq text word ≡ true → length word ≤ length text
word_fits text word is = omega (arith, same_length word (take (length word) text) is, length-take (length word) text)

behind_fits : (test : Bool) (line behind : List ℕ) → starts_with nat_eq line connect_word ≡ test
    → (if test then Some (drop (length connect_word) line) else None) ≡ Some behind → length connect_word + length behind ≤ length line
behind_fits true line behind starts is =
    let e : drop (length connect_word) line ≡ behind = cc in
    omega (arith, ap length e, length-drop (length connect_word) line, word_fits line connect_word starts)
behind_fits false line behind starts is = cc

connect_fits : (text : List ℕ) (found : Option Cut) (behind : List ℕ) → cut_line text ≡ found → connect_text found ≡ Some behind
    → length connect_word + length behind + 2 ≤ length text
connect_fits text None behind at is = cc
connect_fits text (Some cut) behind at is =
    omega (arith, behind_fits (starts_with nat_eq cut.line connect_word) cut.line behind refl is, cut_length text cut at)

by_takes : (text : List ℕ) (found : Option (List ℕ)) (command : Command) (n : ℕ) → connect_text (cut_line text) ≡ found
    → front_by found text ≡ Got command n → IsWithin n text
by_takes text (Some behind) command n at is =
    command_takes text (length connect_word + length behind + 2) (option_map Connect (wishes_at behind)) command n
    (omega arith, connect_fits text (cut_line text) behind refl at) is
by_takes text None command n at is = front_takes text (front text) command n refl is

-- it takes a byte at least, and bytes that are there
pub takes_within : (text : List ℕ) (command : Command) (n : ℕ) → peer_front text ≡ Got command n → (0 < n) × (n ≤ length text)
unfolding peer_front
takes_within text command n is = by_takes text (connect_text (cut_line text)) command n refl is

-- and nothing stands at the front of no bytes
pub ready_some : (text : List ℕ) → is_ready text ≡ true → 0 < length text
ready_some [] is = absurd (false≢true (sym (nothing_ready [] refl) ∙ is))
ready_some (byte ∷ bytes) is = omega arith
