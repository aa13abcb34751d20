-- The commands of a peer's bytes are those that the grammar of clients reads in them.
use Rattle.std.proofs.Common.{◌≡◌, ℕ, zero, suc, ◌+◌, ◌<◌, ◌≤◌, Bool, true, false, ◌&&◌, List, [], ◌∷◌, ◌++◌, length, take, drop, Option, Some, None, refl, sym, ◌∙◌, ap, subst, arith, length-append}
use Rattle.std.specs.Prelude.{nat_eq, if◌then◌else◌}
use Rattle.std.specs.List.{list_all, starts_with}
use Rattle.std.specs.Cmp.Lexicographic.{pointwise}
use Rattle.std.specs.Str.{is_utf8}
use Rattle.std.proofs.lemmas.Bool.{eqb-true}
use Rattle.nats_names.specs.Names.{is_publishable}
use Rattle.nats_lines.specs.Operations.{Cut, cut_line}
use Rattle.nats_message.specs.declared.op.ClientOp.{ClientOp}
use Rattle.nats_message.specs.declared.op.ClientOp.TheVariants as op
use Rattle.nats_client_text.specs.Pieces.{pieces_of}
use Rattle.nats_client_text.specs.Grammar.{line_of_pieces, line_of, sight_of_line, sight_of_cut, sight, front_of_sight, front, past, onto_read, read_within}
use Rattle.nats_client_text.specs.declared.read.ClientFront.{ClientFront}
use Rattle.nats_client_text.specs.declared.read.ClientFront.TheVariants as client
use Rattle.nats_client_text.specs.declared.read.ClientEnd.{ClientEnd}
use Rattle.nats_client_text.specs.declared.read.ClientEnd.TheVariants as end
use Rattle.nats_client_text.specs.declared.read.ClientRead.{ClientRead}
use Rattle.nats_broker_text.specs.declared.command.Command.{Command}
use Rattle.nats_broker_text.specs.declared.command.Command.TheVariants.{Subscribe, Unsubscribe, Publish, Ping, Pong, Connect}
use Rattle.nats_broker_text.specs.declared.command.PeerFront.{PeerFront}
use Rattle.nats_broker_text.specs.declared.command.PeerFront.TheVariants.{Unfinished, Bad, Got}
use Rattle.nats_broker_text.specs.Commands.{publish_of, command_of, got_or_bad, of_client, connect_word, connect_text, peer_front, is_unfinished}
use Rattle.nats_broker_text.proofs.Fronts.{by_client}
use Rattle.nats_broker_text.proofs.Growing.{drop_more, peer_stays}
use Rattle.nats_broker_text.proofs.Takes.{takes_within}
use Rattle.nats_broker_laws.specs.Order.{read_by, commands_of}
use Rattle.nats_server_laws.specs.Waiting.{asked_numbers}
use Rattle.nats_own_laws.specs.Own.{AreWithin}
use Rattle.nats_own_laws.proofs.Numbers.{IsOp, AreOps}

-- ---- a line of CONNECT is none of the grammar's

first_holds : (one other : Bool) → (one && other) ≡ true → one ≡ true
first_holds true other holds = refl
first_holds false other holds = cc

second_holds : (one other : Bool) → (one && other) ≡ true → other ≡ true
second_holds true other holds = holds
second_holds false other holds = cc

begins : (word line : List ℕ) → pointwise nat_eq word (take (length word) line) ≡ true → line ≡ word ++ drop (length word) line
begins [] line is = refl
begins (w ∷ word) [] is = cc
begins (w ∷ word) (x ∷ line) is =
    let same : w ≡ x = eqb-true w x (first_holds (nat_eq w x) (pointwise nat_eq word (take (length word) line)) is) in
    ap (λ y. y ∷ line) (sym same)
    ∙ ap (λ xs. w ∷ xs) (begins word line (second_holds (nat_eq w x) (pointwise nat_eq word (take (length word) line)) is))

none_there : (test : Bool) (rest : List ℕ) → (if test then line_of_pieces (pieces_of (connect_word ++ rest)) else None) ≡ None
none_there true rest = refl
none_there false rest = refl

no_line : (rest : List ℕ) → line_of (connect_word ++ rest) ≡ None
no_line rest = none_there (is_utf8 (connect_word ++ rest) && list_all is_publishable (pieces_of (connect_word ++ rest))) rest

line_none : (test : Bool) (line behind : List ℕ) → starts_with nat_eq line connect_word ≡ test
    → (if test then Some (drop (length connect_word) line) else None) ≡ Some behind → line_of line ≡ None
line_none true line behind starts is = ap line_of (begins connect_word line starts) ∙ no_line (drop (length connect_word) line)
line_none false line behind starts is = cc

cut_bad : (found : Option Cut) (behind : List ℕ) → connect_text found ≡ Some behind
    → front_of_sight (sight_of_cut found) ≡ client.Bad
cut_bad None behind is = cc
cut_bad (Some cut) behind is =
    ap (λ l. front_of_sight (sight_of_line (length cut.line + 2) cut.rest l))
    (line_none (starts_with nat_eq cut.line connect_word) cut.line behind refl is)

connect_bad : (text behind : List ℕ) → connect_text (cut_line text) ≡ Some behind → front text ≡ client.Bad
unfolding front sight
connect_bad text behind is = cut_bad (cut_line text) behind is

-- ---- one command

-- the next command as it is read, and what is read behind it
record Reads (whole : List ℕ) (ops : List ClientOp) (command : Command) (n : ℕ) : Type 0 where
  first : ClientOp
  more : List ClientOp
  left : ℕ
  are : ops ≡ first ∷ more
  says : command_of first ≡ Some command
  later : read_within left (drop n whole) ≡ record { ops = more; «end» = end.Whole }

by_command : (found : Option Command) (first : ClientOp) (taken n : ℕ) (command : Command) → command_of first ≡ found
    → got_or_bad taken found ≡ Got command n → (command_of first ≡ Some command) × (taken ≡ n)
by_command None first taken n command at is = cc
by_command (Some other) first taken n command at is =
    let same : other ≡ command = cc in
    let many : taken ≡ n = cc in
    (at ∙ ap Some same, many)

got_first : (whole : List ℕ) (found : Option (List ℕ)) (first : ClientOp) (taken n : ℕ) (command : Command)
    → found ≡ connect_text (cut_line whole) → front whole ≡ client.Got first taken → peer_front whole ≡ Got command n
    → (command_of first ≡ Some command) × (taken ≡ n)
got_first whole (Some behind) first taken n command at stands is =
    let bad : front whole ≡ client.Bad = connect_bad whole behind (sym at) in cc
got_first whole None first taken n command at stands is =
    by_command (command_of first) first taken n command refl
    (sym (by_client whole at ∙ ap of_client stands) ∙ is)

by_front : (whole : List ℕ) (left : ℕ) (found : ClientFront) (ops : List ClientOp) (command : Command) (n : ℕ)
    → front whole ≡ found → onto_read found (read_within left (past found whole)) ≡ record { ops = ops; «end» = end.Whole }
    → peer_front whole ≡ Got command n → Reads whole ops command n
by_front whole left client.Unfinished ops command n stands is at =
    let ended : end.Unfinished ≡ end.Whole = ap (λ (r : ClientRead). r.«end») is in cc
by_front whole left client.Bad ops command n stands is at = let ended : end.Bad ≡ end.Whole = ap (λ (r : ClientRead). r.«end») is in cc
by_front whole left (client.Got first taken) ops command n stands is at =
    let got = got_first whole (connect_text (cut_line whole)) first taken n command refl stands at in
    let rest : ClientRead = read_within left (drop taken whole) in
    let ended : rest.«end» ≡ end.Whole = ap (λ (r : ClientRead). r.«end») is in
    record {
      first = first;
      more = rest.ops;
      left = left;
      are = sym (ap (λ (r : ClientRead). r.ops) is);
      says = got.0;
      later = ap (λ k. read_within left (drop k whole)) (sym got.1)
          ∙ ap (λ (e : ClientEnd). record { ops = rest.ops; «end» = e }) ended;
    }

reads_next : (left : ℕ) (whole : List ℕ) (ops : List ClientOp) (command : Command) (n : ℕ)
    → peer_front whole ≡ Got command n → 0 < n → n ≤ length whole
    → read_within left whole ≡ record { ops = ops; «end» = end.Whole } → Reads whole ops command n
reads_next left [] ops command n at low high is = absurd (omega (arith, low, high))
reads_next zero (byte ∷ bytes) ops command n at low high is =
    let ended : end.Unfinished ≡ end.Whole = ap (λ (r : ClientRead). r.«end») is in cc
reads_next (suc left) (byte ∷ bytes) ops command n at low high is =
    by_front (byte ∷ bytes) left (front (byte ∷ bytes)) ops command n refl is at

-- ---- the numbers

pub both_within : (limit : ℕ) (some more : List ℕ) → AreWithin limit some → AreWithin limit more → AreWithin limit (some ++ more)
both_within limit [] more are others = others
both_within limit (n ∷ some) more are others = (are.0, both_within limit some more are.1 others)

publish_none : (test : Bool) (limit : ℕ) (publish command : Command) → (if test then None else Some publish) ≡ Some command
    → AreWithin limit (asked_numbers (publish ∷ [])) → AreWithin limit (asked_numbers (command ∷ []))
publish_none true limit publish command is are = cc
publish_none false limit publish command is are =
    let same : publish ≡ command = cc in subst (λ x. AreWithin limit (asked_numbers (x ∷ []))) same are

one_within : (limit : ℕ) (first : ClientOp) (command : Command) → command_of first ≡ Some command → IsOp limit first
    → AreWithin limit (asked_numbers (command ∷ []))
one_within limit (op.Subscribe sid subject group) command says is =
    let same : Subscribe sid subject group ≡ command = cc in
    subst (λ x. AreWithin limit (asked_numbers (x ∷ []))) same (is, tt)
one_within limit (op.Unsubscribe sid most) command says is =
    let same : Unsubscribe sid most ≡ command = cc in subst (λ x. AreWithin limit (asked_numbers (x ∷ []))) same tt
one_within limit (op.Publish subject payload respond headers) command says is =
    publish_none _ limit (publish_of subject payload respond headers) command says tt
one_within limit op.Ping command says is =
    let same : Ping ≡ command = cc in subst (λ x. AreWithin limit (asked_numbers (x ∷ []))) same tt
one_within limit op.Pong command says is =
    let same : Pong ≡ command = cc in subst (λ x. AreWithin limit (asked_numbers (x ∷ []))) same tt
one_within limit (op.Connect info) command says is = cc

first_more : (command : Command) (commands : List Command)
    → asked_numbers (command ∷ commands) ≡ asked_numbers (command ∷ []) ++ asked_numbers commands
first_more (Subscribe sid pattern group) commands = refl
first_more (Unsubscribe sid most) commands = refl
first_more (Publish m size) commands = refl
first_more Ping commands = refl
first_more Pong commands = refl
first_more (Connect wishes) commands = refl

on_within : (limit : ℕ) (command : Command) (commands : List Command) → AreWithin limit (asked_numbers (command ∷ []))
    → AreWithin limit (asked_numbers commands) → AreWithin limit (asked_numbers (command ∷ commands))
on_within limit command commands one more =
    subst (AreWithin limit) (sym (first_more command commands)) (both_within limit (asked_numbers (command ∷ [])) (asked_numbers commands) one more)

-- the commands of a beginning of a text that is read to its end
read_on : (limit most left : ℕ) (some more : List ℕ) (ops : List ClientOp) (found : PeerFront) → peer_front some ≡ found
    → read_within left (some ++ more) ≡ record { ops = ops; «end» = end.Whole } → AreOps limit ops
    → AreWithin limit (asked_numbers (read_by most some found).commands)
read_on limit zero left some more ops Unfinished at is own = tt
read_on limit (suc most) left some more ops Unfinished at is own = tt
read_on limit zero left some more ops Bad at is own = tt
read_on limit (suc most) left some more ops Bad at is own = tt
read_on limit zero left some more ops (Got command n) at is own = tt
read_on limit (suc most) left some more ops (Got command n) at is own =
    let stays : peer_front (some ++ more) ≡ Got command n = peer_stays some more (ap is_unfinished at) ∙ at in
    let within = takes_within some command n at in
    let next = reads_next left (some ++ more) ops command n stays within.0 (omega (arith, within.1, length-append some more)) is in
    let own_next : AreOps limit (next.first ∷ next.more) = subst (AreOps limit) next.are own in
    on_within limit command (read_by most (drop n some) (peer_front (drop n some))).commands
    (one_within limit next.first command next.says own_next.0)
    (read_on limit most next.left (drop n some) more next.more (peer_front (drop n some)) refl
    (ap (read_within next.left) (sym (drop_more n some more within.1)) ∙ next.later) own_next.1)

pub commands_within : (limit left : ℕ) (some more : List ℕ) (ops : List ClientOp)
    → read_within left (some ++ more) ≡ record { ops = ops; «end» = end.Whole } → AreOps limit ops
    → AreWithin limit (asked_numbers (commands_of some))
commands_within limit left some more ops is own = read_on limit (length some) left some more ops (peer_front some) refl is own
