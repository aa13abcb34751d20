-- A text is read on from where it was read before.
use Rattle.std.proofs.Common.{◌≡◌, ℕ, zero, suc, ◌≤◌, true, List, [], ◌∷◌, ◌++◌, length, drop, refl, ap, sym, ◌∙◌, arith, length-drop}
use Rattle.nats_broker_text.specs.declared.command.Command.{Command}
use Rattle.nats_broker_text.specs.declared.command.PeerFront.{PeerFront}
use Rattle.nats_broker_text.specs.declared.command.PeerFront.TheVariants.{Unfinished, Bad, Got}
use Rattle.nats_broker_text.specs.Commands.{peer_front, is_unfinished}
use Rattle.nats_broker_text.proofs.Takes.{takes_within}
use Rattle.nats_broker_text.proofs.Growing.{drop_more, peer_stays}
use Rattle.nats_broker_laws.specs.Order.{Reading, untaken, behind, read_by, read_all, commands_of, left_over}

-- as many commands as there are bytes are enough
enough : (most other : ℕ) (text : List ℕ) (found : PeerFront) → peer_front text ≡ found → length text ≤ most
    → length text ≤ other
    → read_by most text found ≡ read_by other text found
enough zero zero text found at low high = refl
enough zero (suc other) text Unfinished at low high = refl
enough zero (suc other) text Bad at low high = refl
enough zero (suc other) text (Got command n) at low high =
    let within = takes_within text command n at in
    absurd (omega (arith, within.0, within.1, low))
enough (suc most) zero text Unfinished at low high = refl
enough (suc most) zero text Bad at low high = refl
enough (suc most) zero text (Got command n) at low high =
    let within = takes_within text command n at in
    absurd (omega (arith, within.0, within.1, high))
enough (suc most) (suc other) text Unfinished at low high = refl
enough (suc most) (suc other) text Bad at low high = refl
enough (suc most) (suc other) text (Got command n) at low high =
    let within = takes_within text command n at in
    ap (behind (command ∷ []))
    (enough most other (drop n text) (peer_front (drop n text)) refl
    (omega (arith, length-drop n text, within.0, within.1, low))
    (omega (arith, length-drop n text, within.0, within.1, high)))

got_by : (left : ℕ) (text : List ℕ) (command : Command) (n : ℕ) → length text ≡ left → peer_front text ≡ Got command n
    → read_by left text (Got command n) ≡ behind (command ∷ []) (read_all (drop n text))
got_by zero text command n same at =
    let within = takes_within text command n at in
    absurd (omega (arith, within.0, within.1, same))
got_by (suc left) text command n same at =
    let within = takes_within text command n at in
    ap (behind (command ∷ []))
    (enough left (length (drop n text)) (drop n text) (peer_front (drop n text)) refl
    (omega (arith, length-drop n text, within.0, within.1, same)) (omega arith))

-- the command at the front is the first
pub read_got : (text : List ℕ) (command : Command) (n : ℕ) → peer_front text ≡ Got command n
    → read_all text ≡ behind (command ∷ []) (read_all (drop n text))
read_got text command n at = ap (read_by (length text) text) at ∙ got_by (length text) text command n refl at

none_by : (most : ℕ) (text : List ℕ) (found : PeerFront) → is_unfinished found ≡ true
    → read_by most text found ≡ untaken text
none_by zero text Unfinished is = refl
none_by (suc most) text Unfinished is = refl
none_by most text Bad is = cc
none_by most text (Got command n) is = cc

-- where none is there whole none is taken
pub read_none : (text : List ℕ) → is_unfinished (peer_front text) ≡ true → read_all text ≡ untaken text
read_none text is = none_by (length text) text (peer_front text) is

-- where a text was read, and more comes, reading goes on from what is left
abbrev goes_on : List ℕ → Reading → Reading
goes_on more reading = behind reading.commands (read_all (reading.left ++ more))

stopped : (text more : List ℕ) → read_all text ≡ untaken text → read_all (text ++ more) ≡ goes_on more (read_all text)
stopped text more at = sym (ap (goes_on more) at)

still : (most : ℕ) (text : List ℕ) → read_by most text Unfinished ≡ untaken text
still zero text = refl
still (suc most) text = refl

still_bad : (most : ℕ) (text : List ℕ) → read_by most text Bad ≡ untaken text
still_bad zero text = refl
still_bad (suc most) text = refl

more_by : (most : ℕ) (text more : List ℕ) (found : PeerFront) → peer_front text ≡ found → length text ≤ most
    → read_all (text ++ more) ≡ goes_on more (read_all text)
more_by most text more Unfinished at fits =
    stopped text more (ap (read_by (length text) text) at ∙ still (length text) text)
more_by most text more Bad at fits =
    stopped text more (ap (read_by (length text) text) at ∙ still_bad (length text) text)
more_by zero text more (Got command n) at fits =
    let within = takes_within text command n at in
    absurd (omega (arith, within.0, within.1, fits))
more_by (suc most) text more (Got command n) at fits =
    let within = takes_within text command n at in
    let later : peer_front (text ++ more) ≡ Got command n
    = peer_stays text more (ap is_unfinished at) ∙ at in
    read_got (text ++ more) command n later
    ∙ ap (λ rest. behind (command ∷ []) (read_all rest)) (drop_more n text more within.1)
    ∙ ap (behind (command ∷ [])) (more_by most (drop n text) more (peer_front (drop n text)) refl
    (omega (arith, length-drop n text, within.0, within.1, fits)))
    ∙ sym (ap (goes_on more) (read_got text command n at))

pub commands_more : (text more : List ℕ)
    → commands_of (text ++ more) ≡ commands_of text ++ commands_of (left_over text ++ more)
commands_more text more =
    ap (λ (r : Reading). r.commands) (more_by (length text) text more (peer_front text) refl (omega arith))

pub left_more : (text more : List ℕ) → left_over (text ++ more) ≡ left_over (left_over text ++ more)
left_more text more =
    ap (λ (r : Reading). r.left) (more_by (length text) text more (peer_front text) refl (omega arith))
