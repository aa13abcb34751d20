-- Writes behind turns that may each come where they stand: the first may come exactly where a link is up there.
use Rattle.std.proofs.Common.{◌≡◌, ◌≢◌, ℕ, zero, suc, ◌+◌, ◌<◌, ◌≤◌, Bool, true, false, cond, List, [], ◌∷◌, ◌++◌, length, take, Option, Some, None, Err, refl, sym, ◌∙◌, ap, subst, arith}
use Rattle.std.proofs.Math.Seq.{take-append_seam}
use Rattle.std.proofs.lemmas.Option.{none-some, same_Some}
use Rattle.nats_history.specs.declared.config.Config.{Config}
use Rattle.nats_history.specs.declared.turn.Turn.{Turn}
use Rattle.nats_history.specs.declared.transcript.RunError.{RunError}
use Rattle.nats_history.specs.declared.transcript.RunError.TheVariants.{OutOfTurn}
use Rattle.nats_history.specs.declared.transcript.Transcript.{Transcript}
use Rattle.nats_history.specs.History.{History, is_up}
use Rattle.nats_history.specs.Parts.{parts_of}
use Rattle.nats_history.specs.Schedule.{is_valid_turn, after_turn, steps_from, steps, out_of_turn_from, out_of_turn}
use Rattle.nats_history.specs.Transcripts.{Plays, transcript}
use Rattle.nats_worker_text.specs.Taken.{whole_write, writes, written_out, first_taken, taken_by, bytes_taken}

-- ---- turns behind others

behind : (c : Config) (place : ℕ) (turns more : List Turn) (h : History) → out_of_turn_from c place turns h ≡ None
    → out_of_turn_from c place (turns ++ more) h ≡ out_of_turn_from c (place + length turns) more (steps_from c place turns h)
behind c place [] more h none =
    let same : place ≡ place + 0 = omega arith in
    ap (λ n. out_of_turn_from c n more h) same
behind c place (turn ∷ turns) more h none =
    by (is_valid_turn (parts_of c h) turn) refl none (λ later. behind c (suc place) turns more (after_turn c place turn h) later)
  where
    by : (b : Bool) → is_valid_turn (parts_of c h) turn ≡ b → cond b (out_of_turn_from c (suc place) turns (after_turn c place turn h)) (Some place) ≡ None
        → (out_of_turn_from c (suc place) turns (after_turn c place turn h) ≡ None
        → out_of_turn_from c (suc place) (turns ++ more) (after_turn c place turn h) ≡ out_of_turn_from c (suc place + length turns) more (steps_from c (suc place) turns (after_turn c place turn h)))
        → cond (is_valid_turn (parts_of c h) turn) (out_of_turn_from c (suc place) (turns ++ more) (after_turn c place turn h)) (Some place)
        ≡ out_of_turn_from c (place + suc (length turns)) more (steps_from c (suc place) turns (after_turn c place turn h))
    by true is none later =
        let same : suc place + length turns ≡ place + suc (length turns) = omega arith in
        ap (λ b. cond b (out_of_turn_from c (suc place) (turns ++ more) (after_turn c place turn h)) (Some place)) is
        ∙ (later none ∙ ap (λ n. out_of_turn_from c n more (steps_from c (suc place) turns (after_turn c place turn h))) same)
    by false is none later = absurd (none-some place (sym none))

-- the first turn that may not come is none of those before
no_earlier : (c : Config) (place : ℕ) (turns : List Turn) (h : History) (found : ℕ) → out_of_turn_from c place turns h ≡ Some found → place ≤ found
no_earlier c place [] h found is = absurd (none-some found is)
no_earlier c place (turn ∷ turns) h found is =
    by (is_valid_turn (parts_of c h) turn) is (no_earlier c (suc place) turns (after_turn c place turn h) found)
  where
    by : (b : Bool) → cond b (out_of_turn_from c (suc place) turns (after_turn c place turn h)) (Some place) ≡ Some found
        → (out_of_turn_from c (suc place) turns (after_turn c place turn h) ≡ Some found → suc place ≤ found) → place ≤ found
    by true is later = omega (arith, later is)
    by false is later = omega (arith, same_Some place found is)

-- ---- writes

writes_first : (n : ℕ) → 0 < n → (rest : List Turn) × (writes n ≡ whole_write ∷ rest)
writes_first zero some = absurd (omega arith)
writes_first (suc zero) some = ([], refl)
writes_first (suc (suc n)) some =
    let one = writes_first (suc n) (omega arith) in
    (one.0 ++ whole_write ∷ [], ap (λ ws. ws ++ whole_write ∷ []) one.1)

-- what comes behind the first write, if that may come
record Follows (c : Config) (turns : List Turn) (n : ℕ) : Type 0 where
  next : Option ℕ
  is : out_of_turn c (turns ++ writes n) ≡ cond (is_up (steps c turns)) next (Some (1 + length turns))
  later : (place : ℕ) → next ≡ Some place → 1 + length turns < place

follows : (c : Config) (turns : List Turn) (n : ℕ) → out_of_turn c turns ≡ None → 0 < n → Follows c turns n
follows c turns n valid some =
    let one = writes_first n some in
    let place = 1 + length turns in
    let h = after_turn c place whole_write (steps c turns) in
    record {
      next = out_of_turn_from c (suc place) one.0 h;
      is = ap (λ ws. out_of_turn c (turns ++ ws)) one.1 ∙ behind c 1 turns (whole_write ∷ one.0) [] valid;
      later = λ found at. (let after = no_earlier c (suc place) one.0 h found at in omega (arith, after));
    }

-- where all may come, a link is up behind the turns
all_come : (c : Config) (turns : List Turn) (n : ℕ) → Follows c turns n → out_of_turn c (turns ++ writes n) ≡ None → written_out c n turns ≡ turns ++ writes n
all_come c turns n f none = by (is_up (steps c turns)) f.next (sym f.is ∙ none)
  where
    by : (b : Bool) (next : Option ℕ) → cond b next (Some (1 + length turns)) ≡ None → cond b (turns ++ writes n) turns ≡ turns ++ writes n
    by true next e = refl
    by false next e = absurd (none-some (1 + length turns) (sym e))

-- where the turn right behind them may not come, none is
next_out : (c : Config) (turns : List Turn) (n place : ℕ) → Follows c turns n → out_of_turn c (turns ++ writes n) ≡ Some place → place ≡ length turns + 1
    → written_out c n turns ≡ turns
next_out c turns n place f out here = by (is_up (steps c turns)) f.next (sym f.is ∙ out) (f.later place)
  where
    by : (b : Bool) (next : Option ℕ) → cond b next (Some (1 + length turns)) ≡ Some place → (next ≡ Some place → 1 + length turns < place)
        → cond b (turns ++ writes n) turns ≡ turns
    by true next e later = absurd (omega (arith, later e, here))
    by false next e later = refl

-- where a later one may not come, one is
later_out : (c : Config) (turns : List Turn) (n place : ℕ) → Follows c turns n → out_of_turn c (turns ++ writes n) ≡ Some place → place ≢ length turns + 1
    → written_out c n turns ≡ turns ++ writes n
later_out c turns n place f out apart = by (is_up (steps c turns)) f.next (sym f.is ∙ out)
  where
    by : (b : Bool) (next : Option ℕ) → cond b next (Some (1 + length turns)) ≡ Some place → cond b (turns ++ writes n) turns ≡ turns ++ writes n
    by true next e = refl
    by false next e = absurd (apart (let same : 1 + length turns ≡ place = same_Some (1 + length turns) place e in omega (arith, same)))

-- ---- bytes

-- what link 1 took in a transcript of turns
taken_of_all : (c : Config) (turns : List Turn) (t : Transcript) → (out_of_turn c turns ≡ None) × (t ≡ transcript c turns) → first_taken t.links ≡ bytes_taken c turns
taken_of_all c turns t plays =
    ap (λ (t : Transcript). first_taken t.links) plays.1 ∙ ap (λ o. taken_by o (transcript c turns).links) (sym plays.0)

none_taken : (c : Config) (turns : List Turn) (place : ℕ) → out_of_turn c turns ≡ Some place → 0 ≡ bytes_taken c turns
none_taken c turns place out = ap (λ o. taken_by o (transcript c turns).links) (sym out)

-- all may come
pub taken_up : (c : Config) (turns all : List Turn) (n : ℕ) (t : Transcript) → out_of_turn c turns ≡ None → 0 < n → all ≡ turns ++ writes n
    → (out_of_turn c all ≡ None) × (t ≡ transcript c all) → first_taken t.links ≡ bytes_taken c (written_out c n turns)
taken_up c turns all n t valid some is plays =
    taken_of_all c all t plays
    ∙ ap (bytes_taken c) (is ∙ sym (all_come c turns n (follows c turns n valid some) (ap (out_of_turn c) (sym is) ∙ plays.0)))

-- no link is up
pub taken_down : (c : Config) (turns all : List Turn) (n place taken : ℕ) → out_of_turn c turns ≡ None → 0 < n → all ≡ turns ++ writes n
    → out_of_turn c all ≡ Some place → place ≡ length turns + 1 → taken ≡ bytes_taken c turns → taken ≡ bytes_taken c (written_out c n turns)
taken_down c turns all n place taken valid some is out here played =
    played ∙ ap (bytes_taken c) (sym (next_out c turns n place (follows c turns n valid some) (ap (out_of_turn c) (sym is) ∙ out) here))

-- the link goes down meanwhile
pub taken_out : (c : Config) (turns all : List Turn) (n place : ℕ) → out_of_turn c turns ≡ None → 0 < n → all ≡ turns ++ writes n
    → out_of_turn c all ≡ Some place → place ≢ length turns + 1 → 0 ≡ bytes_taken c (written_out c n turns)
taken_out c turns all n place valid some is out apart =
    none_taken c all place out
    ∙ ap (bytes_taken c) (is ∙ sym (later_out c turns n place (follows c turns n valid some) (ap (out_of_turn c) (sym is) ∙ out) apart))

-- of a turn that may not come
pub told_out : (c : Config) (all : List Turn) (place : ℕ) (e : RunError) → e ≡ OutOfTurn place → Plays c all (Err e) → out_of_turn c all ≡ Some place
told_out c all place e is plays = subst (λ e. Plays c all (Err e)) is plays

-- the turns before the writes
pub before : (turns all : List Turn) (n : ℕ) → all ≡ turns ++ writes n → take (length turns) all ≡ turns
before turns all n is = ap (take (length turns)) is ∙ take-append_seam turns (writes n)
