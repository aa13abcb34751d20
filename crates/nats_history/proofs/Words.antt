-- Laws on the words that tell of a history: a count never passes what it counts, and each word after one more step.
use Rattle.std.proofs.Common.{◌≡◌, ℕ, suc, ◌+◌, ◌≤◌, cond, min, List, [], ◌∷◌, ◌++◌, length, drop, refl, sym, ◌∙◌, ap, arith}
use Rattle.std.proofs.lemmas.List.{append-nil, append_assoc, length-append, drop-append-le, drop-drop, drop_min}
use Rattle.std.proofs.Math.Nat.{min-le_right}
use Rattle.nats_lines.specs.Operations.{Front, got, unfinished, fault, front, past, behind}
use Rattle.nats_lines.specs.Laws.{AllThere}
use Rattle.nats_lines.proofs.Fronts.{behind_next, behind_more, there_more, there_next}
use Rattle.nats_history.specs.declared.call.Call.{Call}
use Rattle.nats_history.specs.declared.config.Config.{Config}
use Rattle.nats_history.specs.History.{opened, fed, read, taken, accepted, handled, closed, History, joined, is_got, reads, calls, handled_count, waiting_calls, texts, text_by, link_text, taken_count}
use Rattle.nats_history.specs.After.{write_all}
use Rattle.nats_commands.specs.Commands.{command_text}
use Rattle.nats_message.specs.declared.op.ClientOp.{ClientOp}

-- ---- lists

-- one more goes
pub drop_one_more : {A : Type 0} (n : ℕ) (xs : List A) → drop (min (suc n) (length xs)) xs ≡ drop 1 (drop n xs)
drop_one_more n xs =
    let e : suc n ≡ n + 1 = omega arith in
    drop_min (suc n) xs ∙ (ap (λ k. drop k xs) e ∙ sym (drop-drop 1 n xs))

-- that many more go
pub drop_more_of : {A : Type 0} (n more : ℕ) (xs : List A) → drop (min (n + more) (length xs)) xs ≡ drop more (drop n xs)
drop_more_of n more xs = drop_min (n + more) xs ∙ sym (drop-drop more n xs)

-- ---- calls

pub handled_fits : (h : History) → handled_count h ≤ length (calls h)
handled_fits [] = omega arith
handled_fits ((place, accepted call) ∷ h) = omega (arith, handled_fits h, length-append (calls h) (call ∷ []))
handled_fits ((place, handled call) ∷ h) = min-le_right (suc (handled_count h)) (length (calls h))
handled_fits ((place, closed) ∷ h) = omega arith
handled_fits ((place, step) ∷ h) = handled_fits h

pub calls_accepted : (h : History) (call : Call) → drop (handled_count h) (calls h ++ call ∷ []) ≡ waiting_calls h ++ call ∷ []
calls_accepted h call = drop-append-le (handled_count h) (calls h) (call ∷ []) (handled_fits h)

-- ---- the link's bytes

pub reads_are_there : (h : History) → AllThere (reads h) (joined h)
reads_are_there [] = tt
reads_are_there ((place, opened info) ∷ h) = tt
reads_are_there ((place, fed bytes) ∷ h) = there_more (reads h) (joined h) bytes (reads_are_there h)
reads_are_there ((place, read operation) ∷ h) =
    read_there (front (behind (reads h) (joined h))) (reads h) (joined h) refl (reads_are_there h)
  where
    read_there : (f : Front) (r : ℕ) (bytes : List ℕ) → front (behind r bytes) ≡ f → AllThere r bytes → AllThere (cond (is_got f) (suc r) r) bytes
    read_there (got operation n) r bytes e there = there_next r bytes there (rw e tt)
    read_there unfinished r bytes e there = there
    read_there (fault n) r bytes e there = there
reads_are_there ((place, step) ∷ h) = reads_are_there h

-- the unread bytes after a read
pub unread_read : (f : Front) (r : ℕ) (bytes : List ℕ) → front (behind r bytes) ≡ f → behind (cond (is_got f) (suc r) r) bytes ≡ past f (behind r bytes)
unread_read (got operation n) r bytes e = behind_next r bytes ∙ ap (λ f. past f (behind r bytes)) e
unread_read unfinished r bytes e = refl
unread_read (fault n) r bytes e = refl

pub unread_fed : (h : History) (bytes : List ℕ) → behind (reads h) (joined h ++ bytes) ≡ behind (reads h) (joined h) ++ bytes
unread_fed h bytes = behind_more (reads h) (joined h) bytes (reads_are_there h)

-- ---- the link's text

pub taken_fits : (c : Config) (h : History) → taken_count c h ≤ length (link_text c h)
taken_fits c [] = omega arith
taken_fits c ((place, opened info) ∷ h) = omega arith
taken_fits c ((place, taken n) ∷ h) =
    rw append-nil (min-le_right (taken_count c h + n) (length (link_text c h)))
taken_fits c ((place, step) ∷ h) =
    omega (arith, taken_fits c h, length-append (link_text c h) (text_by c h step))

-- bytes join those that wait
pub waiting_more : (c : Config) (h : History) (more : List ℕ) → drop (taken_count c h) (link_text c h ++ more) ≡ drop (taken_count c h) (link_text c h) ++ more
waiting_more c h more =
    drop-append-le (taken_count c h) (link_text c h) more (taken_fits c h)

-- commands one by one are their texts as one
pub written_all : (commands : List ClientOp) (waiting : List ℕ) → waiting ++ texts commands ≡ write_all commands waiting
written_all [] waiting = append-nil waiting
written_all (command ∷ more) waiting =
    sym (append_assoc waiting (command_text command) (texts more)) ∙ written_all more (waiting ++ command_text command)
