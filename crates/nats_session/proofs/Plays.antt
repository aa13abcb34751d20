-- Playing over parts and a sheet is playing over histories.
use Rattle.std.proofs.Common.{◌≡◌, ℕ, zero, suc, ◌≤◌, Bool, true, false, cond, nat_le, List, [], ◌∷◌, ◌++◌, length, Option, Some, None, is_some, refl, sym, ap, subst, arith}
use Rattle.std.proofs.lemmas.List.{append-nil, append_assoc}
use Rattle.std.proofs.lemmas.Option.{none-some}
use Rattle.std.proofs.lemmas.Bool.{false≢true}
use Rattle.nats_lines.specs.Operations.{front}
use Rattle.nats_history.specs.declared.config.Config.{Config}
use Rattle.nats_history.specs.declared.call.Call.{Call}
use Rattle.nats_history.specs.declared.call.CallReply.{CallReply}
use Rattle.nats_history.specs.declared.call.TakeReply.{TakeReply}
use Rattle.nats_history.specs.declared.call.TakeReply.TheVariants as takes
use Rattle.nats_history.specs.declared.transcript.LinkWord.{LinkWord}
use Rattle.nats_history.specs.declared.transcript.LinkWord.TheVariants as word
use Rattle.nats_history.specs.declared.turn.Turn.{Turn}
use Rattle.nats_history.specs.declared.turn.Turn.TheVariants.{Up, Piece, Write, Tick, Lost, GiveUp, Hangup, Do, Take, Deadline}
use Rattle.nats_tables.specs.Numbers.{item_of}
use Rattle.nats_history.specs.History.{Step, read, ticked, link_end, closed, handled, passed, History, ticks, lets_go, Sub, at_of, given}
use Rattle.nats_history.specs.Tickets.{is_unsettled}
use Rattle.nats_history.specs.Parts.{Parts, parts_of}
use Rattle.nats_history.specs.Schedule.{refusal, take_reply, is_there, is_valid_turn, closes, closing, ending, ends_link, read_end, tick_limit, chain, accepted_step, gone_step, took_step, own_steps, due_by, due, most_due, put_steps, after_turn, steps_from, steps, out_of_turn_from, out_of_turn}
use Rattle.nats_history.specs.Transcripts.{Answer, answer_of, answers_from, answers, transcript}
use Rattle.nats_history.specs.After.{after, after_all, due_steps_within, due_steps}
use Rattle.nats_history.proofs.Rows.{given_grows}
use Rattle.nats_history.proofs.Refines.{length-rows}
use Rattle.nats_history.proofs.Plays.{same_turn}
use Rattle.nats_session.specs.Handler.{idle}
use Rattle.nats_session.specs.Sheet.{Sheet, empty_sheet, finished, Tells}
use Rattle.nats_session.specs.Machine.{sheet_noted, sheet_recorded, answer_at, own_parts, turn_parts, turn_sheet, played_parts, played_sheet, first_out_of_turn}
use Rattle.nats_session.proofs.Sheets.{EndsUp, IsGiven, tells_step, tells_answer, tells_finished, tells_nothing}

-- ---- steps

-- each end of a link among the steps comes while it is up
abbrev pub AllEndUp : List Step → Parts → Type 0
AllEndUp [] p = Unit {0}
AllEndUp (step ∷ steps) p = EndsUp p.link.is_up step × AllEndUp steps (after p step)

tells_steps : (c : Config) (h : History) (answers : List (ℕ × Answer)) (place : ℕ) (steps : List Step) (p : Parts) (sheet : Sheet) → Tells c h answers p sheet → AllEndUp steps p
    → Tells c (put_steps place steps h) answers (after_all p steps) (sheet_recorded place steps p sheet)
tells_steps c h answers place [] p sheet tells up = tells
tells_steps c h answers place (step ∷ steps) p sheet tells up =
    tells_steps c ((place, step) ∷ h) answers place steps (after p step) (sheet_noted place step p sheet) (tells_step c h answers place step p sheet tells up.0) up.1

end_up_append : (xs ys : List Step) (p : Parts) → AllEndUp xs p → AllEndUp ys (after_all p xs) → AllEndUp (xs ++ ys) p
end_up_append [] ys p a b = b
end_up_append (x ∷ xs) ys p a b = (a.0, end_up_append xs ys (after p x) a.1 b)

-- what follows an end at once ends no link
closing_ends_up : (b : Bool) (p : Parts) → AllEndUp (closing b) p
closing_ends_up true p = (tt, tt)
closing_ends_up false p = tt

ending_ends_up : (drained : Bool) (end : Option LinkWord) (p : Parts) → p.link.is_up ≡ true → AllEndUp (ending drained end) p
ending_ends_up drained None p up = tt
ending_ends_up drained (Some end) p up = (up, closing_ends_up (closes drained end) (after p (link_end end)))

chain_ends_up : (p : Parts) (step : Step) → p.link.is_up ≡ true → AllEndUp (chain p step) p
chain_ends_up p (link_end end) up = (up, closing_ends_up (closes p.drain.is_handled end) (after p (link_end end)))
chain_ends_up p (handled call) up = (tt, ending_ends_up p.drain.is_handled (ends_link call) (after p (handled call)) up)
chain_ends_up p (read operation) up = (tt, ending_ends_up p.drain.is_handled (read_end p.link.pings operation) (after p (read operation)) up)
chain_ends_up p step up = (tt, tt)

-- ---- due steps

due_while_up : (p : Parts) (step : Step) → due p ≡ Some step → p.link.is_up ≡ true
due_while_up p step e = by_up p.link.is_up e
  where
    by_up : (up : Bool) → cond up (due_by (front p.link.wire.unread) p) None ≡ Some step → up ≡ true
    by_up true e = refl
    by_up false e = absurd (none-some step e)

within_end_up : (n : ℕ) (next : Option Step) (p : Parts) → due p ≡ next → AllEndUp (due_steps_within n next p) p
within_end_up n None p is = tt
within_end_up zero (Some step) p is = tt
within_end_up (suc n) (Some step) p is =
    let more = after_all p (chain p step) in
    end_up_append (chain p step) (due_steps_within n (due more) more) p (chain_ends_up p step (due_while_up p step is)) (within_end_up n (due more) more refl)

all_end_up : (p : Parts) → AllEndUp (due_steps p) p
all_end_up p = within_end_up (most_due p) (due p) p refl

-- ---- turns

took_ends_up : (sid : ℕ) (reply : TakeReply) (p : Parts) → AllEndUp (took_step sid reply) p
took_ends_up sid (takes.Message m) p = (tt, tt)
took_ends_up sid takes.Empty p = tt
took_ends_up sid takes.Ended p = tt

call_ends_up : (refused : Option CallReply) (call : Call) (name : Option ℕ) (p : Parts) → AllEndUp (accepted_step refused call ++ gone_step name) p
call_ends_up None call None p = (tt, tt)
call_ends_up None call (Some s) p = (tt, (tt, tt))
call_ends_up (Some reply) call None p = tt
call_ends_up (Some reply) call (Some s) p = (tt, tt)

hangup_ends_up : (up : Bool) (p : Parts) → p.link.is_up ≡ up → AllEndUp (cond up (chain p (link_end word.Hangup)) (chain p closed)) p
hangup_ends_up true p is = chain_ends_up p (link_end word.Hangup) is
hangup_ends_up false p is = (tt, tt)

tick_ends_up : (last : Bool) (p : Parts) → p.link.is_up ≡ true → AllEndUp (cond last (chain p (link_end word.Ticks)) (chain p ticked)) p
tick_ends_up true p up = chain_ends_up p (link_end word.Ticks) up
tick_ends_up false p up = (tt, tt)

deadline_ends_up : (p : Parts) (ticket : ℕ) (unsettled : Bool) → AllEndUp (cond unsettled (chain p (passed ticket)) []) p
deadline_ends_up p ticket true = (tt, tt)
deadline_ends_up p ticket false = tt

own_end_up : (turn : Turn) (p : Parts) → is_valid_turn p turn ≡ true → AllEndUp (own_steps p turn) p
own_end_up (Up info) p valid = (tt, tt)
own_end_up (Piece bytes) p valid = (tt, tt)
own_end_up (Write n) p valid = (tt, tt)
own_end_up Tick p valid = tick_ends_up (nat_le tick_limit (ticks p.link.pings)) p valid
own_end_up Lost p valid = chain_ends_up p (link_end word.Lost) valid
own_end_up GiveUp p valid = (tt, tt)
own_end_up Hangup p valid = hangup_ends_up p.link.is_up p refl
own_end_up (Do call) p valid = call_ends_up (refusal p call) call (lets_go call) p
own_end_up (Take sid) p valid = took_ends_up sid (take_reply p sid) p
own_end_up (Deadline ticket) p valid = deadline_ends_up p ticket (is_unsettled ticket p.tickets)

-- ---- a whole turn

answer_is : (c : Config) (h : History) (turn : Turn) → answer_at (parts_of c h) turn ≡ answer_of c h turn
answer_is c h (Do call) = refl
answer_is c h (Take sid) = refl
answer_is c h (Up info) = refl
answer_is c h (Piece bytes) = refl
answer_is c h (Write n) = refl
answer_is c h Tick = refl
answer_is c h Lost = refl
answer_is c h GiveUp = refl
answer_is c h Hangup = refl
answer_is c h (Deadline ticket) = refl

item_within : {A : Type 0} (xs : List A) (k : ℕ) → is_some (item_of k xs) ≡ true → k ≤ length xs
item_within xs zero e = omega arith
item_within [] (suc i) e = absurd (false≢true e)
item_within (x ∷ xs) (suc zero) e = omega arith
item_within (x ∷ xs) (suc (suc i)) e = let rest = item_within xs (suc i) e in omega arith

some_there : (row : Option Sub) → is_there row ≡ true → is_some row ≡ true
some_there None e = absurd (false≢true e)
some_there (Some sub) e = refl

given_put : (place : ℕ) (steps : List Step) (h : History) → given h ≤ given (put_steps place steps h)
given_put place [] h = omega arith
given_put place (step ∷ steps) h =
    omega (arith, given_grows step (at_of h), given_put place steps ((place, step) ∷ h))

answer_given : (c : Config) (h : History) (place : ℕ) (turn : Turn) (steps : List Step) → is_valid_turn (parts_of c h) turn ≡ true → IsGiven (put_steps place steps h) (answer_of c h turn)
answer_given c h place (Take sid) steps valid =
    omega (arith, item_within (parts_of c h).subs.rows sid (some_there (item_of sid (parts_of c h).subs.rows) valid), length-rows c h, given_put place steps h)
answer_given c h place (Up info) steps valid = tt
answer_given c h place (Piece bytes) steps valid = tt
answer_given c h place (Write n) steps valid = tt
answer_given c h place Tick steps valid = tt
answer_given c h place Lost steps valid = tt
answer_given c h place GiveUp steps valid = tt
answer_given c h place Hangup steps valid = tt
answer_given c h place (Deadline ticket) steps valid = tt
answer_given c h place (Do call) steps valid = tt

-- at the parts of the history itself
tells_turn_of : (c : Config) (h : History) (answers : List (ℕ × Answer)) (place : ℕ) (turn : Turn) (sheet : Sheet) → Tells c h answers (parts_of c h) sheet → is_valid_turn (parts_of c h) turn ≡ true
    → Tells c (after_turn c place turn h) (answers ++ (place, answer_of c h turn) ∷ []) (turn_parts turn (parts_of c h)) (turn_sheet place turn (parts_of c h) sheet)
tells_turn_of c h answers place turn sheet tells valid =
    let p = parts_of c h in
    let own = own_steps p turn in
    let first = tells_steps c h answers place own p sheet tells (own_end_up turn p valid) in
    let here : answer_at p turn ≡ answer_of c h turn = answer_is c h turn in
    let given_here : IsGiven (put_steps place own h) (answer_at p turn) =
    subst (IsGiven (put_steps place own h)) (sym here) (answer_given c h place turn own valid)
    in
    let second = tells_answer c (put_steps place own h) answers place (answer_at p turn) (own_parts turn p) _ first given_here in
    let third = tells_steps c (put_steps place own h) _ place (due_steps (own_parts turn p)) (own_parts turn p) _ second (all_end_up (own_parts turn p)) in
    subst (λ k. Tells c k (answers ++ (place, answer_of c h turn) ∷ []) (turn_parts turn p) (turn_sheet place turn p sheet)) (sym (same_turn c place turn h)) (subst (λ a. Tells c (put_steps place (due_steps (own_parts turn p)) (put_steps place own h)) (answers ++ (place, a) ∷ []) (turn_parts turn p) (turn_sheet place turn p sheet)) here third)

tells_turn : (c : Config) (h : History) (answers : List (ℕ × Answer)) (place : ℕ) (turn : Turn) (p : Parts) (sheet : Sheet) → Tells c h answers p sheet → is_valid_turn (parts_of c h) turn ≡ true
    → Tells c (after_turn c place turn h) (answers ++ (place, answer_of c h turn) ∷ []) (turn_parts turn p) (turn_sheet place turn p sheet)
tells_turn c h answers place turn p sheet tells valid =
    let told : Tells c h answers (parts_of c h) sheet =
    record { parts = refl; written = tells.written; given_numbers = tells.given_numbers }
    in
    subst (λ q. Tells c (after_turn c place turn h) (answers ++ (place, answer_of c h turn) ∷ []) (turn_parts turn q) (turn_sheet place turn q sheet)) (sym tells.parts) (tells_turn_of c h answers place turn sheet told valid)

-- ---- a list of turns

same_validity : (c : Config) (h : History) (answers : List (ℕ × Answer)) (turn : Turn) (p : Parts) (sheet : Sheet) → Tells c h answers p sheet → is_valid_turn p turn ≡ is_valid_turn (parts_of c h) turn
same_validity c h answers turn p sheet tells = ap (λ q. is_valid_turn q turn) tells.parts

pub same_first : (c : Config) (h : History) (answers : List (ℕ × Answer)) (place : ℕ) (turns : List Turn) (p : Parts) (sheet : Sheet) → Tells c h answers p sheet
    → first_out_of_turn place turns p ≡ out_of_turn_from c place turns h
same_first c h answers place [] p sheet tells = refl
same_first c h answers place (turn ∷ turns) p sheet tells =
    by_valid (is_valid_turn (parts_of c h) turn) refl (same_validity c h answers turn p sheet tells) (λ is. same_first c (after_turn c place turn h) (answers ++ (place, answer_of c h turn) ∷ []) (suc place) turns (turn_parts turn p) (turn_sheet place turn p sheet) (tells_turn c h answers place turn p sheet tells is))
  where
    by_valid : (b : Bool) → is_valid_turn (parts_of c h) turn ≡ b → is_valid_turn p turn ≡ is_valid_turn (parts_of c h) turn
        → (is_valid_turn (parts_of c h) turn ≡ true → first_out_of_turn (suc place) turns (turn_parts turn p) ≡ out_of_turn_from c (suc place) turns (after_turn c place turn h))
        → first_out_of_turn place (turn ∷ turns) p ≡ out_of_turn_from c place (turn ∷ turns) h
    by_valid true is same later = rw (same, is) (later is)
    by_valid false is same later = rw (same, is) refl

pub tells_played : (c : Config) (h : History) (before : List (ℕ × Answer)) (place : ℕ) (turns : List Turn) (p : Parts) (sheet : Sheet) → Tells c h before p sheet → out_of_turn_from c place turns h ≡ None
    → Tells c (steps_from c place turns h) (before ++ answers_from c place turns h) (played_parts turns p) (played_sheet place turns p sheet)
tells_played c h before place [] p sheet tells none =
    subst (λ a. Tells c h a p sheet) (sym (append-nil before)) tells
tells_played c h before place (turn ∷ turns) p sheet tells none =
    by_valid (is_valid_turn (parts_of c h) turn) refl none (λ is later. tells_played c (after_turn c place turn h) (before ++ (place, answer_of c h turn) ∷ []) (suc place) turns (turn_parts turn p) (turn_sheet place turn p sheet) (tells_turn c h before place turn p sheet tells is) later)
  where
    by_valid : (b : Bool) → is_valid_turn (parts_of c h) turn ≡ b → cond b (out_of_turn_from c (suc place) turns (after_turn c place turn h)) (Some place) ≡ None
        → (is_valid_turn (parts_of c h) turn ≡ true → out_of_turn_from c (suc place) turns (after_turn c place turn h) ≡ None
        → Tells c (steps_from c (suc place) turns (after_turn c place turn h)) ((before ++ (place, answer_of c h turn) ∷ []) ++ answers_from c (suc place) turns (after_turn c place turn h)) (played_parts turns (turn_parts turn p)) (played_sheet (suc place) turns (turn_parts turn p) (turn_sheet place turn p sheet)))
        → Tells c (steps_from c place (turn ∷ turns) h) (before ++ answers_from c place (turn ∷ turns) h) (played_parts (turn ∷ turns) p) (played_sheet place (turn ∷ turns) p sheet)
    by_valid true is none later =
        subst (λ a. Tells c (steps_from c place (turn ∷ turns) h) a (played_parts (turn ∷ turns) p) (played_sheet place (turn ∷ turns) p sheet)) (append_assoc before ((place, answer_of c h turn) ∷ []) (answers_from c (suc place) turns (after_turn c place turn h))) (later is none)
    by_valid false is none later = absurd (none-some place (sym none))

-- ---- from the beginning

pub first_from_idle : (c : Config) (turns : List Turn) → first_out_of_turn 1 turns (idle c) ≡ out_of_turn c turns
first_from_idle c turns = same_first c [] [] 1 turns (idle c) empty_sheet (tells_nothing c)

pub transcript_from_idle : (c : Config) (turns : List Turn) → out_of_turn c turns ≡ None → finished (played_parts turns (idle c)) (played_sheet 1 turns (idle c) empty_sheet) ≡ transcript c turns
transcript_from_idle c turns none =
    tells_finished c (steps c turns) (answers c turns) _ _ (tells_played c [] [] 1 turns (idle c) empty_sheet (tells_nothing c) none)
