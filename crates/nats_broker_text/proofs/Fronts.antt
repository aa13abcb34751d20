-- What stands at the front of a peer's bytes, and where their first line ends as they grow.
use Rattle.std.proofs.Common.{◌≡◌, ℕ, zero, suc, ◌+◌, ◌-◌, ◌≤◌, Bool, true, false, not, List, [], ◌∷◌, ◌++◌, length, drop, Option, Some, None, refl, ap, sym, ◌∙◌, arith}
use Rattle.std.specs.Prelude.{◌==◌, ◌&&◌, ◌||◌, is_some, option_map, if◌then◌else◌, IsTrue, OnErr, Result, Ok, Err}
use Rattle.std.specs.Bool.{OnFalse}
use Rattle.memchr.specs.Find.{FindsNeedle}
use Rattle.nats_lines.specs.Operations.{Cut, onto_line, cut_line}
use Rattle.nats_commands.specs.Commands.{crlf}
use Rattle.nats_message.specs.declared.op.ClientOp.{ClientOp}
use Rattle.nats_client_text.specs.Grammar as grammar
use Rattle.nats_client_text.specs.Grammar.{Sight, less, whole, wrong, sight, sight_of_cut, front_of_sight, front, op_of, memory_taken, takes_memory}
use Rattle.nats_broker_text.specs.Connect.{wishes_at}
use Rattle.nats_broker_text.specs.declared.command.Command.{Command}
use Rattle.nats_broker_text.specs.declared.command.Command.TheVariants.{Connect}
use Rattle.nats_broker_text.specs.declared.command.PeerFront.{PeerFront}
use Rattle.nats_broker_text.specs.Commands.{behind_word, connect_word, connect_text, connect_front, got_or_bad, command_of, of_client, front_by, peer_front, is_unfinished, is_ready}
use Rattle.nats_broker_text.specs.Lines.{has_line, Remembers}
use Rattle.nats_broker_text.proofs.Cuts.{cut_by_search}

-- what a search finds is where the first line ends
pub found_is_line : (bytes : List ℕ) (found : Option ℕ) → FindsNeedle bytes crlf 0 found → is_some found ≡ has_line bytes
found_is_line bytes None finds = sym (ap is_some (cut_by_search bytes None finds))
found_is_line bytes (Some k) finds = sym (ap is_some (cut_by_search bytes (Some k) finds))

pub by_line : (found : Option Cut) (line : List ℕ) → Some line ≡ option_map (λ (cut : Cut). cut.line) found
    → behind_word line ≡ connect_text found
by_line None line is = cc
by_line (Some cut) line is = let e : line ≡ cut.line = cc in ap behind_word e

pub no_line : (found : Option Cut) → None ≡ option_map (λ (cut : Cut). cut.line) found → None ≡ connect_text found
no_line None is = refl
no_line (Some cut) is = cc

-- a command that is whole is no beginning, and what is none neither
pub is_there : (n : ℕ) (command : Option Command) → is_unfinished (got_or_bad n command) ≡ false
is_there n None = refl
is_there n (Some command) = refl

op_there : (n : ℕ) (op : Option ClientOp) → is_unfinished (of_client (grammar.got_or_bad n op)) ≡ false
op_there n None = refl
op_there n (Some op) = is_there n (command_of op)

client_there : (s : Sight) → memory_taken s ≡ true → is_unfinished (of_client (front_of_sight s)) ≡ false
client_there less is = cc
client_there wrong is = refl
client_there (whole text n) is = op_there n (op_of text)

-- memory is taken only where a command is there whole
pub memory_there : (text : List ℕ) → IsTrue (takes_memory text) → is_unfinished (of_client (front text)) ≡ false
unfolding front
memory_there text is = client_there (sight text) is

-- nothing stands at the front of a text without a line's end
pub nothing_ready : (text : List ℕ) → cut_line text ≡ None → is_ready text ≡ false
unfolding is_ready peer_front front sight
nothing_ready text is =
    ap (λ found. not (is_unfinished (front_by (connect_text found) text))) is
    ∙ ap (λ found. not (is_unfinished (of_client (front_of_sight (sight_of_cut found))))) is

-- ---- a text that grows

some_kept : (a : ℕ) (found : Option Cut) → is_some (option_map (onto_line a) found) ≡ is_some found
some_kept a None = refl
some_kept a (Some cut) = refl

none_before : (a : ℕ) (found : Option Cut) → option_map (onto_line a) found ≡ None → found ≡ None
none_before a None is = refl
none_before a (Some cut) is = cc

tail_step : (test : Bool) (a : ℕ) (rest longer : List ℕ) (inner later : Option Cut) (there : Bool)
    → (if test then Some (record { line = []; rest = rest }) else option_map (onto_line a) inner) ≡ None
    → (inner ≡ None → is_some later ≡ there)
    → is_some (if test then Some (record { line = []; rest = longer }) else option_map (onto_line a) later) ≡ there
tail_step true a rest longer inner later there is goes_on = cc
tail_step false a rest longer inner later there is goes_on = some_kept a later ∙ goes_on (none_before a inner is)

behind_all_but_one : (a : ℕ) (rest more : List ℕ) → cut_line (a ∷ rest) ≡ None
    → has_line (a ∷ rest ++ more) ≡ has_line (drop (length rest) (a ∷ rest ++ more))
behind_all_but_one a [] more is = refl
behind_all_but_one a (b ∷ rest) more is =
    tail_step (a == 13 && b == 10) a rest (rest ++ more) (cut_line (b ∷ rest)) (cut_line (b ∷ rest ++ more))
    (has_line (drop (length rest) (b ∷ rest ++ more))) is (behind_all_but_one b rest more)

-- where no line's end stood before, one stands behind all of that but its last byte, or nowhere
line_behind : (old more : List ℕ) (from : ℕ) → from ≡ length old - 1 → cut_line old ≡ None
    → has_line (old ++ more) ≡ has_line (drop from (old ++ more))
line_behind [] more from is none = let e : from ≡ 0 = omega (arith, is) in rw e refl
line_behind (a ∷ rest) more from is none =
    let e : from ≡ length rest = omega (arith, is) in rw e (behind_all_but_one a rest more none)

none_of : (found : Option Cut) → is_some found ≡ false → found ≡ None
none_of None is = refl
none_of (Some cut) is = cc

-- what is remembered of bytes in which a line's end was looked for
remembered : (now : Bool) (bytes : List ℕ) → OnFalse now (cut_line bytes ≡ None) → Remembers now (now && is_ready bytes) bytes
remembered true bytes none = (none, refl)
remembered false bytes none = (none, sym (nothing_ready bytes none))

looked : (now : Bool) (bytes : List ℕ) → now ≡ has_line bytes → OnFalse now (cut_line bytes ≡ None)
looked true bytes is = tt
looked false bytes is = none_of (cut_line bytes) (sym is)

pub looked_for : (now : Bool) (bytes : List ℕ) → now ≡ has_line bytes → Remembers now (now && is_ready bytes) bytes
looked_for now bytes is = remembered now bytes (looked now bytes is)

fed_step : (ended now : Bool) (old more : List ℕ) (from : ℕ) → from ≡ length old - 1 → OnFalse ended (cut_line old ≡ None)
    → now ≡ (ended || has_line (drop from (old ++ more))) → OnFalse now (cut_line (old ++ more) ≡ None)
fed_step true true old more from place none is = tt
fed_step true false old more from place none is = cc
fed_step false now old more from place none is = looked now (old ++ more) (is ∙ sym (line_behind old more from place none))

-- and of bytes that grew
pub looked_on : (ended ready now : Bool) (old more : List ℕ) (from : ℕ) → from ≡ length old - 1 → Remembers ended ready old
    → now ≡ (ended || has_line (drop from (old ++ more))) → Remembers now (now && is_ready (old ++ more)) (old ++ more)
looked_on ended ready now old more from place before is =
    remembered now (old ++ more) (fed_step ended now old more from place before.0 is)

-- no bytes
pub remembers_none : Remembers false false []
remembers_none = (refl, sym (nothing_ready [] refl))

-- ---- what the reader answers

pub by_connect : (text behind : List ℕ) → Some behind ≡ connect_text (cut_line text) → peer_front text ≡ connect_front behind
unfolding peer_front
by_connect text behind is = ap (λ found. front_by found text) (sym is)

pub by_client : (text : List ℕ) → None ≡ connect_text (cut_line text) → peer_front text ≡ of_client (front text)
unfolding peer_front
by_client text is = ap (λ found. front_by found text) (sym is)

pub connect_there : (behind : List ℕ) → is_unfinished (connect_front behind) ≡ false
connect_there behind = is_there (length connect_word + length behind + 2) (option_map Connect (wishes_at behind))

pub ready_by : (text : List ℕ) (found : PeerFront) → found ≡ peer_front text → not (is_unfinished found) ≡ is_ready text
unfolding is_ready
ready_by text found is = ap (λ f. not (is_unfinished f)) is

pub ready_there : (text : List ℕ) → is_unfinished (peer_front text) ≡ false → true ≡ is_ready text
unfolding is_ready
ready_there text is = sym (ap not is)

pub where_refused : {A E P : Type 0} (result : Result A E) → P → OnErr result P
where_refused (Ok value) holds = tt
where_refused (Err error) holds = holds

-- ---- what is remembered, by the names of the code

pub looked_so : (now ready : Bool) (bytes one two : List ℕ) → now ≡ has_line one → one ≡ bytes → ready ≡ (now && is_ready two) → two ≡ bytes
    → Remembers now ready bytes
looked_so now ready bytes one two is same gives other = rw (gives, other) (looked_for now bytes (is ∙ ap has_line same))

pub looked_on_so : (ended ready now next : Bool) (old more new one two : List ℕ) (from : ℕ) → from ≡ length old - 1 → Remembers ended ready old
    → new ≡ old ++ more → now ≡ (ended || has_line (drop from one)) → one ≡ new → next ≡ (now && is_ready two) → two ≡ new
    → Remembers now next new
looked_on_so ended ready now next old more new one two from place before at is same gives other =
    rw (gives, other, at)
    (looked_on ended ready now old more from place before (is ∙ ap (λ bytes. ended || has_line (drop from bytes)) (same ∙ at)))

drop_whole : (bytes : List ℕ) → drop (length bytes) bytes ≡ []
drop_whole [] = refl
drop_whole (byte ∷ bytes) = drop_whole bytes

pub cleared : (bytes now : List ℕ) (n : ℕ) → now ≡ drop n bytes → n ≡ length bytes → Remembers false false now
cleared bytes now n is all = rw (is ∙ ap (λ k. drop k bytes) all ∙ drop_whole bytes) remembers_none
