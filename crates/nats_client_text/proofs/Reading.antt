-- The commands of a text, one after another.
use Rattle.std.proofs.Common.{◌≡◌, ℕ, zero, suc, ◌+◌, ◌≤◌, List, [], ◌∷◌, ◌++◌, length, drop, refl, ap, sym, ◌∙◌, arith, length-drop, append_assoc}
use Rattle.std.specs.Prelude.{IsTrue, OnErr, Result, Ok, Err}
use Rattle.nats_message.specs.declared.op.ClientOp.{ClientOp}
use Rattle.nats_client_text.specs.Grammar.{front, past, onto_read, read_within, read_of, begins_whole}
use Rattle.nats_client_text.specs.declared.read.ClientFront.{ClientFront}
use Rattle.nats_client_text.specs.declared.read.ClientFront.TheVariants.{Got, Unfinished, Bad}
use Rattle.nats_client_text.specs.declared.read.ClientRead.{ClientRead}
use Rattle.nats_client_text.proofs.Fronts.{got_takes}

step_same : (text : List ℕ) (found : ClientFront) (most other : ℕ) → front text ≡ found → length text ≤ suc most → length text ≤ suc other
    → ((rest : List ℕ) → length rest ≤ most → length rest ≤ other → read_within most rest ≡ read_within other rest)
    → onto_read found (read_within most (past found text)) ≡ onto_read found (read_within other (past found text))
step_same text (Got op n) most other is low high same =
    let takes = got_takes text op n is in
    let less : length (drop n text) + 1 ≤ length text = omega (arith, length-drop n text, takes.0, takes.1) in
    ap (onto_read (Got op n)) (same (drop n text) (omega arith) (omega arith))
step_same text Unfinished most other is low high same = refl
step_same text Bad most other is low high same = refl

-- as many steps as there are bytes are enough
within_same : (most other : ℕ) (text : List ℕ) → length text ≤ most → length text ≤ other → read_within most text ≡ read_within other text
within_same zero zero [] low high = refl
within_same zero (suc other) [] low high = refl
within_same (suc most) zero [] low high = refl
within_same (suc most) (suc other) [] low high = refl
within_same zero other (byte ∷ bytes) low high = absurd (omega (arith, low))
within_same (suc most) zero (byte ∷ bytes) low high = absurd (omega (arith, high))
within_same (suc most) (suc other) (byte ∷ bytes) low high =
    step_same (byte ∷ bytes) (front (byte ∷ bytes)) most other refl low high (λ rest a b. within_same most other rest a b)

next_step : (byte : ℕ) (bytes : List ℕ) (found : ClientFront) → front (byte ∷ bytes) ≡ found
    → onto_read found (read_within (length bytes) (past found (byte ∷ bytes))) ≡ onto_read found (read_of (past found (byte ∷ bytes)))
next_step byte bytes (Got op n) is =
    let takes = got_takes (byte ∷ bytes) op n is in
    let less : length (drop n (byte ∷ bytes)) ≤ length bytes = omega (arith, length-drop n (byte ∷ bytes), takes.0, takes.1) in
    ap (onto_read (Got op n)) (within_same (length bytes) (length (drop n (byte ∷ bytes))) (drop n (byte ∷ bytes)) less (omega arith))
next_step byte bytes Unfinished is = refl
next_step byte bytes Bad is = refl

-- what a text that has a byte reads as, by what stands at its front
pub read_next : (byte : ℕ) (bytes : List ℕ) (found : ClientFront) → front (byte ∷ bytes) ≡ found
    → read_of (byte ∷ bytes) ≡ onto_read found (read_of (past found (byte ∷ bytes)))
read_next byte bytes found is =
    ap (λ found. onto_read found (read_within (length bytes) (past found (byte ∷ bytes)))) is ∙ next_step byte bytes found is

-- some commands, and then what is read behind them
abbrev pub all_onto : List ClientOp → ClientRead → ClientRead
all_onto ops later = record { ops = ops ++ later.ops; «end» = later.«end» }

pub read_got : (text : List ℕ) (op : ClientOp) (n : ℕ) → front text ≡ Got op n → read_of text ≡ onto_read (Got op n) (read_of (drop n text))
read_got [] op n is = let takes = got_takes [] op n is in absurd (omega (arith, takes.0, takes.1))
read_got (byte ∷ bytes) op n is = read_next byte bytes (Got op n) is

-- one more command
pub more_read : (text : List ℕ) (ops : List ClientOp) (op : ClientOp) (n : ℕ) → Got op n ≡ front text
    → all_onto (ops ++ op ∷ []) (read_of (drop n text)) ≡ all_onto ops (read_of text)
more_read text ops op n is =
    rw (read_got text op n (sym is)) (ap (λ all. record { ops = all; «end» = (read_of (drop n text)).«end» }) (append_assoc ops (op ∷ []) (read_of (drop n text)).ops))

-- while no command is read the text is left, and else it begins with one
abbrev pub Begun : List ClientOp → List ℕ → List ℕ → Type 0
Begun [] left text = left ≡ text
Begun (op ∷ ops) left text = IsTrue (begins_whole text)

-- where a command stands whole behind those that are read, one does at the front
pub begun_whole : (ops : List ClientOp) (left text : List ℕ) → Begun ops left text → IsTrue (begins_whole left) → IsTrue (begins_whole text)
begun_whole [] left text begun is = ap begins_whole (sym begun) ∙ is
begun_whole (op ∷ ops) left text begun is = begun

pub begun_more : (ops : List ClientOp) (op : ClientOp) (rest text : List ℕ) → IsTrue (begins_whole text) → Begun (ops ++ op ∷ []) rest text
begun_more [] op rest text is = is
begun_more (first ∷ ops) op rest text is = is

pub where_refused : {A E P : Type 0} (result : Result A E) → P → OnErr result P
where_refused (Ok value) holds = tt
where_refused (Err error) holds = holds
