-- What stands at the front of a peer's bytes stays as more come.
use Rattle.std.proofs.Common.{◌≡◌, ℕ, zero, suc, ◌+◌, ◌<◌, ◌≤◌, Bool, true, false, nat_lt, nat_eq, List, [], ◌∷◌, ◌++◌, length, take, drop, Option, Some, None, refl, ap, sym, ◌∙◌, arith, length-append, if◌then◌else◌}
use Rattle.std.proofs.lemmas.Bool.{false≢true, le-ltb, ltb-false}
use Rattle.std.specs.List.{starts_with}
use Rattle.nats_lines.specs.Operations.{Cut, cut_line}
use Rattle.nats_commands.specs.Commands.{crlf}
use Rattle.nats_lines.proofs.Fronts.{cut_more, grown}
use Rattle.nats_message.specs.declared.op.ClientOp.{ClientOp}
use Rattle.nats_broker_text.specs.Commands.{behind_word, connect_text, of_client, front_by, peer_front, is_unfinished}
use Rattle.nats_broker_text.specs.Laws.{FrontStays}
use Rattle.nats_client_text.specs.Grammar.{OpText, Line, alone, counted, Publishes, Body, short, torn, body, body_of, Sight, less, whole, wrong, sight_of_body, sight_of_line, sight_of_cut, sight, line_of, front_of_sight, front}
use Rattle.nats_client_text.specs.declared.read.ClientFront.{ClientFront}
use Rattle.nats_client_text.specs.declared.read.ClientFront.TheVariants.{Got, Unfinished, Bad}

pub drop_more : (n : ℕ) (xs more : List ℕ) → n ≤ length xs → drop n (xs ++ more) ≡ drop n xs ++ more
drop_more zero xs more within = refl
drop_more (suc n) [] more within = absurd (omega (arith, within))
drop_more (suc n) (x ∷ xs) more within = drop_more n xs more (omega (arith, within))

take_more : (n : ℕ) (xs more : List ℕ) → n ≤ length xs → take n (xs ++ more) ≡ take n xs
take_more zero xs more within = refl
take_more (suc n) [] more within = absurd (omega (arith, within))
take_more (suc n) (x ∷ xs) more within = ap (λ (ys : List ℕ). x ∷ ys) (take_more n xs more (omega (arith, within)))

drop_length : (n : ℕ) (xs : List ℕ) (m : ℕ) → n + m ≤ length xs → m ≤ length (drop n xs)
drop_length zero xs m within = omega (arith, within)
drop_length (suc n) [] m within = absurd (omega (arith, within))
drop_length (suc n) (x ∷ xs) m within = drop_length n xs m (omega (arith, within))

-- a body that is there stays
body_by : ℕ → List ℕ → Bool → Body
body_by count rest lacks = if lacks then short else (if starts_with nat_eq (drop count rest) crlf then body (take count rest) else torn)

is_short : Body → Bool
is_short short = true
is_short torn = false
is_short (body bytes) = false

is_less : Sight → Bool
is_less less = true
is_less wrong = false
is_less (whole text n) = false

same_body : (count : ℕ) (rest more : List ℕ) → count + 2 ≤ length rest
    → (if starts_with nat_eq (drop count (rest ++ more)) crlf then body (take count (rest ++ more)) else torn)
    ≡ (if starts_with nat_eq (drop count rest) crlf then body (take count rest) else torn)
same_body count rest more within =
    let fits : count ≤ length rest = omega (arith, within) in
    let ends : take 2 (drop count rest ++ more) ≡ take 2 (drop count rest) = take_more 2 (drop count rest) more (drop_length count rest 2 within) in
    rw (drop_more count rest more fits, take_more count rest more fits, ends) refl

-- enough bytes are there for a body
body_stays : (count : ℕ) (rest more : List ℕ) (lacks : Bool) → nat_lt (length rest) (count + 2) ≡ lacks → is_short (body_of count rest) ≡ false
    → body_of count (rest ++ more) ≡ body_of count rest
unfolding is_short
body_stays count rest more true is there = absurd (false≢true (sym there ∙ ap (λ b. is_short (if b then short else (if starts_with nat_eq (drop count rest) crlf then body (take count rest) else torn))) is))
body_stays count rest more false is there =
    let enough : count + 2 ≤ length rest = ltb-false (length rest) (count + 2) is in
    let later : nat_lt (length (rest ++ more)) (count + 2) ≡ false = le-ltb (length (rest ++ more)) (count + 2) (omega (arith, length-append rest more, enough)) in
    ap (λ b. if b then short else (if starts_with nat_eq (drop count (rest ++ more)) crlf then body (take count (rest ++ more)) else torn)) later
    ∙ same_body count rest more enough
    ∙ ap (λ b. if b then short else (if starts_with nat_eq (drop count rest) crlf then body (take count rest) else torn)) (sym is)

not_short : (p : Publishes) (end : ℕ) (b : Body) → is_less (sight_of_body p end b) ≡ false → is_short b ≡ false
unfolding is_short is_less
not_short p end short there = there
not_short p end torn there = refl
not_short p end (body bytes) there = refl

line_stays : (end : ℕ) (rest more : List ℕ) (line : Option Line) → is_less (sight_of_line end rest line) ≡ false
    → sight_of_line end (rest ++ more) line ≡ sight_of_line end rest line
line_stays end rest more None there = refl
line_stays end rest more (Some (alone text)) there = refl
line_stays end rest more (Some (counted p)) there =
    ap (sight_of_body p end) (body_stays p.count rest more (nat_lt (length rest) (p.count + 2)) refl (not_short p end (body_of p.count rest) there))

-- what is seen at the front stays, where it is something
sight_stays : (text more : List ℕ) (found : Option Cut) → cut_line text ≡ found → is_less (sight text) ≡ false → sight (text ++ more) ≡ sight text
unfolding is_less sight
sight_stays text more None is there = absurd (false≢true (sym there ∙ ap (λ cut. is_less (sight_of_cut cut)) is))
sight_stays text more (Some cut) is there =
    ap sight_of_cut (cut_more text more cut is)
    ∙ line_stays (length cut.line + 2) cut.rest more (line_of cut.line) (sym (ap (λ cut. is_less (sight_of_cut cut)) is) ∙ there)
    ∙ ap sight_of_cut (sym is)

is_there : ClientFront → Bool
is_there Unfinished = false
is_there (Got op n) = true
is_there Bad = true

seen : (s : Sight) → is_there (front_of_sight s) ≡ true → is_less s ≡ false
unfolding is_there is_less
seen less there = sym there
seen wrong there = refl
seen (whole text n) there = refl

front_stays : (text more : List ℕ) → is_there (front text) ≡ true → front (text ++ more) ≡ front text
unfolding front is_there
front_stays text more there = ap front_of_sight (sight_stays text more (cut_line text) refl (seen (sight text) there))

there_of : (found : ClientFront) → is_unfinished (of_client found) ≡ false → is_there found ≡ true
unfolding is_there
there_of Unfinished is = sym is
there_of (Got op n) is = refl
there_of Bad is = refl

by_text : (text more : List ℕ) (behind : Option (List ℕ)) → is_unfinished (front_by behind text) ≡ false
    → front_by behind (text ++ more) ≡ front_by behind text
by_text text more (Some behind) is = refl
by_text text more None is = ap of_client (front_stays text more (there_of (front text) is))

none_there : (text : List ℕ) → cut_line text ≡ None → is_unfinished (of_client (front text)) ≡ true
unfolding front sight
none_there text at = ap (λ found. is_unfinished (of_client (front_of_sight (sight_of_cut found)))) at

peer_step : (text more : List ℕ) (found : Option Cut) → cut_line text ≡ found → is_unfinished (front_by (connect_text found) text) ≡ false
    → front_by (connect_text (cut_line (text ++ more))) (text ++ more) ≡ front_by (connect_text found) text
peer_step text more None at is = absurd (false≢true (sym is ∙ none_there text at))
peer_step text more (Some cut) at is =
    ap (λ found. front_by (connect_text found) (text ++ more)) (cut_more text more cut at)
    ∙ by_text text more (behind_word cut.line) is

pub peer_stays : FrontStays
unfolding peer_front
peer_stays text more is = peer_step text more (cut_line text) refl is
