-- The sheet after one more step, and after one more answer.
use Rattle.std.proofs.Common.{◌≡◌, ℕ, suc, ◌+◌, ◌≤◌, Bool, true, false, cond, not, eqb, ◌&&◌, min, List, [], ◌∷◌, ◌++◌, length, take, drop, map, Option, Some, None, zero, refl, sym, ◌∙◌, ap, subst, arith}
use Rattle.std.proofs.lemmas.List.{append-nil, append_assoc, take-append-le, take_min}
use Rattle.std.proofs.Math.Seq.{take-add}
use Rattle.std.proofs.lemmas.Bool.{ne_eqb, le-ltb, ltb-true, ltb-false, false≢true}
use Rattle.nats_names.specs.declared.event.Event.{Event}
use Rattle.nats_message.specs.declared.message.Message.{Message}
use Rattle.nats_lines.specs.Operations.{message}
use Rattle.nats_history.specs.declared.config.Config.{Config}
use Rattle.nats_history.specs.declared.call.Call.{Call}
use Rattle.nats_history.specs.declared.stage.Stage.{Stage}
use Rattle.nats_history.specs.declared.stage.Stage.TheVariants.{Asked, Open, Ended}
use Rattle.nats_history.specs.declared.call.TakeReply.{TakeReply}
use Rattle.nats_history.specs.declared.call.CallReply.{CallReply}
use Rattle.nats_history.specs.declared.transcript.LinkWord.{LinkWord}
use Rattle.nats_history.specs.declared.transcript.LinkWord.TheVariants as word
use Rattle.nats_history.specs.declared.transcript.LinkRow.{LinkRow}
use Rattle.nats_history.specs.declared.transcript.SubRow.{SubRow}
use Rattle.nats_subs.specs.declared.subs.subscription.Delivery.{Delivery}
use Rattle.nats_subs.specs.declared.subs.subscription.Delivery.TheVariants.{Put, Dropped, Unwanted, Ignored}
use Rattle.nats_tables.specs.Numbers.{is_about, at_number, item_of, count_from}
use Rattle.nats_history.specs.History.{Step, opened, read, taken, accepted, link_end, History, is_up, subscribes, given_after, at_after, at_of, given, numbers, about, is_given, concerns, Told, nothing_told, Sub, sub_of, is_open, is_ended, has_room, is_over, forgotten, kept, told_after, told, rows_of, link_text, taken_count, waiting_bytes, text_by, events}
use Rattle.nats_history.specs.Tickets.{ticket_rows}
use Rattle.nats_history.specs.Parts.{Parts, parts_of}
use Rattle.nats_history.specs.After.{after}
use Rattle.nats_subs.specs.Delivery.{delivery, delivery_at}
use Rattle.nats_history.specs.Transcripts.{Answer, nothing, called, asked, link_row, ended_links, reply_to, take_replies, call_replies, sub_row, sub_rows, shown}
use Rattle.nats_session.specs.Sheet.{Sheet, empty_sheet, sheet_of, finished, AreGiven, Tells, new_row, write_put, write_drop, write_take, write_delivery, write_answer}
use Rattle.nats_session.specs.Machine.{sheet_noted}
use Rattle.nats_session.specs.Handler.{idle}
use Rattle.nats_history.proofs.Words.{taken_fits}
use Rattle.nats_tables.proofs.Numbers.{numbered, one_more, same_table, same_up_to, at_number_same, item_there, item_missing}
use Rattle.nats_history.proofs.Rows.{given_grows, is_given_to, told_nothing, both_true, ended_is}
use Rattle.nats_history.proofs.Refines.{parts_after}

-- ---- rows

abbrev row_of : List (ℕ × Message) → List (ℕ × Message) → List (ℕ × TakeReply) → SubRow
row_of puts drops takes = record { puts = puts; drops = drops; takes = takes }

abbrev Takes : Type 0
Takes = List (ℕ × TakeReply)

row_same : (b : Bool) (t u : Told) (takes : Takes) → u.puts ≡ t.puts → u.drops ≡ t.drops → sub_row (cond b u t) takes ≡ sub_row t takes
row_same true t u takes p d = rw (p, d) refl
row_same false t u takes p d = refl

-- a step that gives no number, puts nothing and drops nothing leaves the rows
rows_kept : (c : Config) (h : History) (answers : List (ℕ × Answer)) (place : ℕ) (step : Step) → given_after step (at_of h) ≡ given h
    → ((t : Told) → (told_after c place step t).puts ≡ t.puts) → ((t : Told) → (told_after c place step t).drops ≡ t.drops)
    → sub_rows c ((place, step) ∷ h) answers ≡ sub_rows c h answers
rows_kept c h answers place step e puts drops =
    ap (λ n. map (λ s. sub_row (told c s ((place, step) ∷ h)) (take_replies s answers)) (count_from 1 n)) e ∙ same_table _ _ (numbers h) (λ s. row_same (concerns s (at_of h) step) (told c s h) (told_after c place step (told c s h)) (take_replies s answers) (puts (told c s h)) (drops (told c s h)))

-- what a message writes into one row
abbrev write_one : ℕ → Message → Delivery → SubRow → SubRow
write_one place m Put row = write_put place m row
write_one place m Dropped row = write_drop place m row
write_one place m Unwanted row = row
write_one place m Ignored row = row

row_read : (c : Config) (place sid : ℕ) (m : Message) (t : Told) (takes : Takes) → sub_row (told_after c place (read (message sid m)) t) takes ≡ write_one place m (delivery c (sub_of t)) (sub_row t takes)
row_read c place sid m t takes = by_case t.stage t.is_shut (has_room c (sub_of t))
  where
    listening : Stage → Bool → Bool
    listening stage shut = is_open stage && not shut

    by_case : (stage : Stage) (shut room : Bool)
        → row_of (t.puts ++ cond (listening stage shut && room) ((place, m) ∷ []) []) (t.drops ++ cond (listening stage shut && not room) ((place, m) ∷ []) []) takes
        ≡ write_one place m (cond (is_open stage) (cond shut Unwanted (cond room Put Dropped)) Ignored) (row_of t.puts t.drops takes)
    by_case Asked shut room = rw (append-nil t.puts, append-nil t.drops) refl
    by_case Ended shut room = rw (append-nil t.puts, append-nil t.drops) refl
    by_case Open true room = rw (append-nil t.puts, append-nil t.drops) refl
    by_case Open false true = ap (λ xs. row_of (t.puts ++ (place, m) ∷ []) xs takes) (append-nil t.drops)
    by_case Open false false = ap (λ xs. row_of xs (t.drops ++ (place, m) ∷ []) takes) (append-nil t.puts)

-- what is forgotten takes in no message, and what is over takes in none
delivery_kept : (c : Config) (sub : Sub) → delivery c (kept sub) ≡ delivery c sub
delivery_kept c sub = by_over (is_over sub) refl
  where
    by_over : (b : Bool) → is_over sub ≡ b → delivery c (cond b forgotten sub) ≡ delivery c sub
    by_over true over =
        let both = both_true sub.is_gone (is_ended sub.stage) over in
        sym (ap (λ s. cond (is_open s) (cond sub.is_shut Unwanted (cond (has_room c sub) Put Dropped)) Ignored) (ended_is sub.stage both.1))
    by_over false over = refl

-- what becomes of a message hangs on what is told of its number, also of one that was not given
delivery_is : (c : Config) (h : History) (sid : ℕ) → delivery_at c (item_of sid (rows_of c h)) ≡ delivery c (sub_of (told c sid h))
delivery_is c h sid = by_given (is_given sid (at_of h)) refl
  where
    there : (s : ℕ) → is_given s (at_of h) ≡ true → item_of s (rows_of c h) ≡ Some (kept (sub_of (told c s h)))
    there zero e = absurd (false≢true e)
    there (suc k) e =
        let less = ltb-true k (given h) e in
        item_there (λ s. kept (sub_of (told c s h))) (given h) (suc k) (omega arith) (omega (arith, less))

    missing : (s : ℕ) → is_given s (at_of h) ≡ false → item_of s (rows_of c h) ≡ None
    missing zero e = refl
    missing (suc k) e =
        let past = ltb-false k (given h) e in
        item_missing (λ s. kept (sub_of (told c s h))) (given h) (suc k) (omega (arith, past))

    by_given : (b : Bool) → is_given sid (at_of h) ≡ b → delivery_at c (item_of sid (rows_of c h)) ≡ delivery c (sub_of (told c sid h))
    by_given true e = ap (delivery_at c) (there sid e) ∙ delivery_kept c (sub_of (told c sid h))
    by_given false e =
        ap (delivery_at c) (missing sid e) ∙ sym (ap (λ t. delivery c (sub_of t)) (told_nothing c sid h e))

delivery_rows : (place sid : ℕ) (m : Message) (d : Delivery) (rows : List SubRow) → at_number sid (write_one place m d) rows ≡ write_delivery place sid m d rows
delivery_rows place sid m Put rows = refl
delivery_rows place sid m Dropped rows = refl
delivery_rows place sid m Unwanted rows = at_number_same sid rows
delivery_rows place sid m Ignored rows = at_number_same sid rows

-- what is told of one number after a step, where it was given
one_told : (c : Config) (place : ℕ) (step : Step) (h : History) (s : ℕ) (takes : Takes) → is_given s (at_after step (at_of h)) ≡ true
    → sub_row (told c s ((place, step) ∷ h)) takes ≡ sub_row (cond (is_about s (about (at_of h) step)) (told_after c place step (told c s h)) (told c s h)) takes
one_told c place step h s takes there = by_about (is_about s (about (at_of h) step)) _ there
  where
    by_about : (a b : Bool) → b ≡ true → sub_row (cond (a && b) (told_after c place step (told c s h)) (told c s h)) takes ≡ sub_row (cond a (told_after c place step (told c s h)) (told c s h)) takes
    by_about true b e = ap (λ x. sub_row (cond x (told_after c place step (told c s h)) (told c s h)) takes) e
    by_about false b e = refl

rows_told : (c : Config) (h : History) (answers : List (ℕ × Answer)) (place : ℕ) (step : Step)
    → sub_rows c ((place, step) ∷ h) answers ≡ map (λ s. sub_row (cond (is_about s (about (at_of h) step)) (told_after c place step (told c s h)) (told c s h)) (take_replies s answers)) (count_from 1 (given_after step (at_of h)))
rows_told c h answers place step =
    same_up_to _ _ (given_after step (at_of h)) (λ s low high. one_told c place step h s (take_replies s answers) (is_given_to s (at_after step (at_of h)) low high))

rows_read : (c : Config) (h : History) (answers : List (ℕ × Answer)) (place sid : ℕ) (m : Message)
    → sub_rows c ((place, read (message sid m)) ∷ h) answers ≡ write_delivery place sid m (delivery_at c (item_of sid (rows_of c h))) (sub_rows c h answers)
rows_read c h answers place sid m =
    let d = delivery c (sub_of (told c sid h)) in
    rows_told c h answers place (read (message sid m)) ∙ (numbered (λ s t. sub_row t (take_replies s answers)) (write_one place m d) (λ s. told_after c place (read (message sid m)) (told c s h)) (λ s. told c s h) (given h) sid (row_read c place sid m (told c sid h) (take_replies sid answers)) ∙ (delivery_rows place sid m d (sub_rows c h answers) ∙ sym (ap (λ e. write_delivery place sid m e (sub_rows c h answers)) (delivery_is c h sid))))

rows_accepted : (c : Config) (h : History) (answers : List (ℕ × Answer)) (place : ℕ) (call : Call) → AreGiven h answers
    → sub_rows c ((place, accepted call) ∷ h) answers ≡ cond (subscribes call) (sub_rows c h answers ++ new_row ∷ []) (sub_rows c h answers)
rows_accepted c h answers place call named =
    same_table _ _ _ (λ s. row_same (concerns s (at_of h) (accepted call)) (told c s h) (told_after c place (accepted call) (told c s h)) (take_replies s answers) (append-nil (told c s h).puts) (append-nil (told c s h).drops)) ∙ by_call (subscribes call)
  where
    not_yet : is_given (suc (given h)) (at_of h) ≡ false
    not_yet = le-ltb (given h) (given h) (omega arith)

    by_call : (b : Bool) → map (λ s. sub_row (told c s h) (take_replies s answers)) (count_from 1 (cond b (suc (given h)) (given h))) ≡ cond b (sub_rows c h answers ++ new_row ∷ []) (sub_rows c h answers)
    by_call true =
        one_more (λ s. sub_row (told c s h) (take_replies s answers)) (given h) new_row (ap (λ t. sub_row t (take_replies (suc (given h)) answers)) (told_nothing c (suc (given h)) h not_yet) ∙ ap (λ takes. sub_row nothing_told takes) (named (suc (given h)) (omega arith)))
    by_call false = refl

-- ---- the bytes that the link took

more_taken : (b : Bool) (t n : ℕ) (text : List ℕ) → cond b (take (min (t + n) (length text)) (text ++ [])) [] ≡ cond b (cond b (take t text) [] ++ take n (cond b (drop t text) [])) []
more_taken true t n text =
    ap (take (min (t + n) (length text))) (append-nil text) ∙ (take_min (t + n) text ∙ take-add t n text)
more_taken false t n text = refl

none_taken : (b : Bool) (t : ℕ) (text more : List ℕ) → t ≤ length text → cond b (take t (text ++ more)) [] ≡ cond b (take t text) []
none_taken true t text more fits = take-append-le t text more fits
none_taken false t text more fits = refl

taken_kept : (c : Config) (h : History) (more : List ℕ) → cond (is_up h) (take (taken_count c h) (link_text c h ++ more)) [] ≡ cond (is_up h) (take (taken_count c h) (link_text c h)) []
taken_kept c h more = none_taken (is_up h) (taken_count c h) (link_text c h) more (taken_fits c h)

-- ---- the sheet after one more step

abbrev Tickets : Type 0
Tickets = List (Option (ℕ × CallReply))

abbrev sheet_with : List LinkRow → List ℕ → List SubRow → List (ℕ × Event) → List (ℕ × CallReply) → Tickets → Sheet
sheet_with ls ts ss es cs ks = record { links = ls; taken = ts; subs = ss; events = es; calls = cs; tickets = ks }

same_sheet : (ls ls' : List LinkRow) (ts ts' : List ℕ) (ss ss' : List SubRow) (es : List (ℕ × Event)) (cs : List (ℕ × CallReply)) (ks : Tickets)
    → ls ≡ ls' → ts ≡ ts' → ss ≡ ss' → sheet_with ls ts ss es cs ks ≡ sheet_with ls' ts' ss' es cs ks
same_sheet ls ls' ts ts' ss ss' es cs ks a b d = rw (a, b, d) refl

ended_row : (c : Config) (end : LinkWord) (h : History) → is_up h ≡ true → link_row c end h ≡ record { end = end; taken = cond (is_up h) (take (taken_count c h) (link_text c h)) []; left = waiting_bytes c h }
ended_row c end h up = rw up refl

-- a link ends only while it is up
abbrev pub EndsUp : Bool → Step → Type 0
EndsUp up (link_end end) = up ≡ true
EndsUp up step = Unit {0}

sheet_after : (c : Config) (h : History) (answers : List (ℕ × Answer)) (place : ℕ) (step : Step) → AreGiven h answers → EndsUp (is_up h) step
    → sheet_of c ((place, step) ∷ h) answers ≡ sheet_noted place step (parts_of c h) (sheet_of c h answers)
sheet_after c h answers place (opened info) named up =
    same_sheet _ _ _ _ _ _ _ _ _ refl refl (rows_kept c h answers place (opened info) refl (λ t. append-nil t.puts) (λ t. append-nil t.drops))
sheet_after c h answers place (link_end end) named up =
    same_sheet _ _ _ _ _ _ _ _ _ (ap (λ row. ended_links c h ++ row ∷ []) (ended_row c end h up)) refl (rows_kept c h answers place (link_end end) refl (λ t. append-nil t.puts) (λ t. append-nil t.drops))
sheet_after c h answers place (read (message sid m)) named up =
    same_sheet _ _ _ _ _ _ _ _ _ refl (taken_kept c h (text_by c h (read (message sid m)))) (rows_read c h answers place sid m)
sheet_after c h answers place (read operation) named up =
    same_sheet _ _ _ _ _ _ _ _ _ refl (taken_kept c h (text_by c h (read operation))) (rows_kept c h answers place (read operation) refl (λ t. append-nil t.puts) (λ t. append-nil t.drops))
sheet_after c h answers place (taken k) named up =
    same_sheet _ _ _ _ _ _ _ _ _ refl (more_taken (is_up h) (taken_count c h) k (link_text c h)) (rows_kept c h answers place (taken k) refl (λ t. append-nil t.puts) (λ t. append-nil t.drops))
sheet_after c h answers place (accepted call) named up =
    same_sheet _ _ _ _ _ _ _ _ _ refl (taken_kept c h (text_by c h (accepted call))) (rows_accepted c h answers place call named)
sheet_after c h answers place step named up =
    same_sheet _ _ _ _ _ _ _ _ _ refl (taken_kept c h (text_by c h step)) (rows_kept c h answers place step refl (λ t. append-nil t.puts) (λ t. append-nil t.drops))

pub tells_step : (c : Config) (h : History) (answers : List (ℕ × Answer)) (place : ℕ) (step : Step) (p : Parts) (sheet : Sheet) → Tells c h answers p sheet → EndsUp p.link.is_up step
    → Tells c ((place, step) ∷ h) answers (after p step) (sheet_noted place step p sheet)
tells_step c h answers place step p sheet tells up =
    let up_there : EndsUp (is_up h) step =
    subst (λ (q : Parts). EndsUp q.link.is_up step) tells.parts up
    in
    record {
      parts = ap (λ q. after q step) tells.parts ∙ sym (parts_after c h place step);
      written = ap (λ q. sheet_noted place step q sheet) tells.parts ∙ (ap (sheet_noted place step (parts_of c h)) tells.written ∙ sym (sheet_after c h answers place step tells.given_numbers up_there));
      given_numbers = λ s past. tells.given_numbers s (omega (arith, past, given_grows step (at_of h)));
    }

-- ---- the sheet after one more answer

takes_append : (s : ℕ) (xs ys : List (ℕ × Answer)) → take_replies s (xs ++ ys) ≡ take_replies s xs ++ take_replies s ys
takes_append s [] ys = refl
takes_append s ((place, asked sid reply) ∷ xs) ys =
    ap (λ zs. reply_to s place sid reply ++ zs) (takes_append s xs ys) ∙ sym (append_assoc (reply_to s place sid reply) (take_replies s xs) (take_replies s ys))
takes_append s ((place, nothing) ∷ xs) ys = takes_append s xs ys
takes_append s ((place, called reply) ∷ xs) ys = takes_append s xs ys

calls_append : (xs ys : List (ℕ × Answer)) → call_replies (xs ++ ys) ≡ call_replies xs ++ call_replies ys
calls_append [] ys = refl
calls_append ((place, called reply) ∷ xs) ys = ap (λ zs. (place, reply) ∷ zs) (calls_append xs ys)
calls_append ((place, nothing) ∷ xs) ys = calls_append xs ys
calls_append ((place, asked sid reply) ∷ xs) ys = calls_append xs ys

rows_asked : (c : Config) (h : History) (answers : List (ℕ × Answer)) (place sid : ℕ) (reply : TakeReply)
    → sub_rows c h (answers ++ (place, asked sid reply) ∷ []) ≡ at_number sid (write_take place reply) (sub_rows c h answers)
rows_asked c h answers place sid reply =
    same_table _ _ (numbers h) (λ s. ap (sub_row (told c s h)) (takes_append s answers ((place, asked sid reply) ∷ []) ∙ by_number (eqb s sid) (take_replies s answers))) ∙ numbered (λ s takes. sub_row (told c s h) takes) (write_take place reply) (λ s. take_replies s answers ++ (place, reply) ∷ []) (λ s. take_replies s answers) (given h) sid refl
  where
    by_number : (b : Bool) (takes : Takes) → takes ++ (cond b ((place, reply) ∷ []) [] ++ []) ≡ cond b (takes ++ (place, reply) ∷ []) takes
    by_number true takes = refl
    by_number false takes = append-nil takes

rows_other : (c : Config) (h : History) (answers more : List (ℕ × Answer)) → ((s : ℕ) → take_replies s more ≡ []) → sub_rows c h (answers ++ more) ≡ sub_rows c h answers
rows_other c h answers more none =
    same_table _ _ (numbers h) (λ s. ap (sub_row (told c s h)) (takes_append s answers more ∙ (ap (λ xs. take_replies s answers ++ xs) (none s) ∙ append-nil (take_replies s answers))))

-- an answer to a take is of a number that was given
abbrev pub IsGiven : History → Answer → Type 0
IsGiven h (asked sid reply) = sid ≤ given h
IsGiven h answer = Unit {0}

sheet_answered : (c : Config) (h : History) (answers : List (ℕ × Answer)) (place : ℕ) (answer : Answer) → sheet_of c h (answers ++ (place, answer) ∷ []) ≡ write_answer place answer (sheet_of c h answers)
sheet_answered c h answers place nothing =
    rw (rows_other c h answers ((place, nothing) ∷ []) (λ s. refl), calls_append answers ((place, nothing) ∷ []), append-nil (call_replies answers)) refl
sheet_answered c h answers place (called reply) =
    rw (rows_other c h answers ((place, called reply) ∷ []) (λ s. refl), calls_append answers ((place, called reply) ∷ [])) refl
sheet_answered c h answers place (asked sid reply) =
    rw (rows_asked c h answers place sid reply, calls_append answers ((place, asked sid reply) ∷ []), append-nil (call_replies answers)) refl

given_still : (h : History) (answers : List (ℕ × Answer)) (place : ℕ) (answer : Answer) → AreGiven h answers → IsGiven h answer → AreGiven h (answers ++ (place, answer) ∷ [])
given_still h answers place (asked sid reply) named there s past =
    takes_append s answers ((place, asked sid reply) ∷ []) ∙ (ap (λ xs. xs ++ (reply_to s place sid reply ++ [])) (named s past) ∙ ap (λ b. cond b ((place, reply) ∷ []) [] ++ []) (ne_eqb s sid (λ e. omega (arith, e, there, past))))
given_still h answers place nothing named there s past =
    takes_append s answers ((place, nothing) ∷ []) ∙ ap (λ xs. xs ++ []) (named s past)
given_still h answers place (called reply) named there s past =
    takes_append s answers ((place, called reply) ∷ []) ∙ ap (λ xs. xs ++ []) (named s past)

pub tells_answer : (c : Config) (h : History) (answers : List (ℕ × Answer)) (place : ℕ) (answer : Answer) (p : Parts) (sheet : Sheet) → Tells c h answers p sheet → IsGiven h answer
    → Tells c h (answers ++ (place, answer) ∷ []) p (write_answer place answer sheet)
tells_answer c h answers place answer p sheet tells there = record {
  parts = tells.parts;
  written = ap (write_answer place answer) tells.written ∙ sym (sheet_answered c h answers place answer);
  given_numbers = given_still h answers place answer tells.given_numbers there;
}

-- ---- the end

abbrev link_with : List ℕ → List ℕ → LinkRow
link_with bytes text = record { end = word.Up; taken = bytes; left = text }

last_link : (up : Bool) (bytes text : List ℕ) → cond up (link_with (cond up bytes []) (cond up text []) ∷ []) [] ≡ cond up (link_with bytes text ∷ []) []
last_link true bytes text = refl
last_link false bytes text = refl

pub tells_finished : (c : Config) (h : History) (answers : List (ℕ × Answer)) (p : Parts) (sheet : Sheet) → Tells c h answers p sheet → finished p sheet ≡ shown c h answers
tells_finished c h answers p sheet tells =
    rw (tells.parts, tells.written) (ap (λ last. record { links = ended_links c h ++ last; subs = sub_rows c h answers; events = events c h; calls = call_replies answers; tickets = ticket_rows c h }) (last_link (is_up h) (take (taken_count c h) (link_text c h)) (drop (taken_count c h) (link_text c h))))

pub tells_nothing : (c : Config) → Tells c [] [] (idle c) empty_sheet
tells_nothing c = record { parts = refl; written = refl; given_numbers = λ s past. refl }
