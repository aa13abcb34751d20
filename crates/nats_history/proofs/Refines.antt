-- The parts after one more step: what the words on the longer history give is what the step makes of the parts.
use Rattle.std.proofs.Common.{◌≡◌, ℕ, suc, ◌+◌, Bool, true, false, cond, min, List, [], ◌∷◌, ◌++◌, length, drop, refl, sym, ◌∙◌, ap}
use Rattle.std.proofs.lemmas.List.{append-nil, length-map}
use Rattle.std.proofs.Math.Seq.{drop-nil}
use Rattle.nats_message.specs.declared.op.ClientOp.{ClientOp}
use Rattle.nats_lines.specs.Operations.{Front, got, unfinished, fault, front, past, behind}
use Rattle.nats_history.specs.declared.config.Config.{Config}
use Rattle.nats_history.specs.History.{Step, opened, fed, read, taken, accepted, handled, link_end, History, is_up, requested, joined, is_got, reads, unread, calls, handled_count, waiting_calls, at_of, given, numbers, told, sub_of, kept, rows_of, commands, texts, text_by, link_text, taken_count, waiting_bytes}
use Rattle.nats_history.specs.Parts.{parts_of}
use Rattle.nats_history.specs.After.{written, bytes_after, unread_after, calls_after, after}
use Rattle.nats_history.proofs.Words.{drop_one_more, drop_more_of, calls_accepted, unread_read, unread_fed, waiting_more, written_all}
use Rattle.nats_tables.proofs.Numbers.{length-count_from}
use Rattle.nats_history.proofs.Rows.{rows_told}

pub length-rows : (c : Config) (h : History) → length (rows_of c h) ≡ given h
length-rows c h = length-map (numbers h) (λ s. kept (sub_of (told c s h))) ∙ length-count_from 1 (given h)

-- ---- the link's bytes

past_nil : (f : Front) → past f [] ≡ []
past_nil (got operation n) = drop-nil n
past_nil unfinished = refl
past_nil (fault n) = refl

fed_unread : (up : Bool) (xs ys zs : List ℕ) → xs ≡ ys ++ zs → cond up xs [] ≡ cond up (cond up ys [] ++ zs) []
fed_unread true xs ys zs e = e
fed_unread false xs ys zs e = refl

read_unread : (up : Bool) (r : ℕ) (bytes : List ℕ) → cond up (behind (cond (is_got (front (behind r bytes))) (suc r) r) bytes) [] ≡ past (front (cond up (behind r bytes) [])) (cond up (behind r bytes) [])
read_unread true r bytes = unread_read (front (behind r bytes)) r bytes refl
read_unread false r bytes = sym (past_nil (front []))

unread_next : (h : History) (place : ℕ) (step : Step) → unread ((place, step) ∷ h) ≡ unread_after (is_up h) step (unread h)
unread_next h place (opened info) = refl
unread_next h place (link_end word) = refl
unread_next h place (fed bytes) = fed_unread (is_up h) _ (behind (reads h) (joined h)) bytes (unread_fed h bytes)
unread_next h place (read operation) = read_unread (is_up h) (reads h) (joined h)
unread_next h place step = refl

taken_bytes : (up : Bool) (t n : ℕ) (text : List ℕ) → cond up (drop (min (t + n) (length text)) (text ++ [])) [] ≡ drop n (cond up (drop t text) [])
taken_bytes true t n text = ap (drop (min (t + n) (length text))) (append-nil text) ∙ drop_more_of t n text
taken_bytes false t n text = sym (drop-nil n)

written_bytes : (up : Bool) (commands : List ClientOp) (all waiting : List ℕ) → all ≡ waiting ++ texts commands → cond up all [] ≡ written up commands (cond up waiting [])
written_bytes true [] all waiting e = e ∙ append-nil waiting
written_bytes false [] all waiting e = refl
written_bytes true (command ∷ more) all waiting e = e ∙ written_all (command ∷ more) waiting
written_bytes false (command ∷ more) all waiting e = refl

pub bytes_next : (c : Config) (h : History) (place : ℕ) (step : Step) → waiting_bytes c ((place, step) ∷ h) ≡ bytes_after (is_up h) (commands c (requested h) (at_of h) (rows_of c h) step) step (waiting_bytes c h)
bytes_next c h place (opened info) = written_all (commands c (requested h) (at_of h) (rows_of c h) (opened info)) []
bytes_next c h place (link_end word) = refl
bytes_next c h place (taken n) = taken_bytes (is_up h) (taken_count c h) n (link_text c h)
bytes_next c h place step =
    written_bytes (is_up h) (commands c (requested h) (at_of h) (rows_of c h) step) _ (drop (taken_count c h) (link_text c h)) (waiting_more c h (text_by c h step))

-- ---- calls

calls_next : (h : History) (place : ℕ) (step : Step) → waiting_calls ((place, step) ∷ h) ≡ calls_after step (waiting_calls h)
calls_next h place (accepted call) = calls_accepted h call
calls_next h place (handled call) = drop_one_more (handled_count h) (calls h)
calls_next h place step = refl

-- ---- the whole

pub parts_after : (c : Config) (h : History) (place : ℕ) (step : Step) → parts_of c ((place, step) ∷ h) ≡ after (parts_of c h) step
parts_after c h place step =
    rw (unread_next h place step, bytes_next c h place step, calls_next h place step, rows_told c place step h) refl
