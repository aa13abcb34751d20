-- The messages that were read are the first of those in the joined bytes.
use Rattle.std.proofs.Common.{◌≡◌, ℕ, zero, suc, Bool, true, false, cond, List, [], ◌∷◌, ◌++◌, length, Option, Some, None, refl, sym, ◌∙◌, ap, append_assoc, append-nil, subst}
use Rattle.std.specs.Prelude.{nat_lt, slice_get, if◌then◌else◌}
use Rattle.std.proofs.lemmas.Bool.{false≢true}
use Rattle.nats_lines.specs.Operations.{Operation, message, Front, front, got, unfinished, fault, behind, operations}
use Rattle.nats_lines.proofs.Reading.{operation_at, operations_cut}
use Rattle.nats_history.specs.declared.config.Config.{Config}
use Rattle.nats_history.specs.declared.call.Call.{Call}
use Rattle.nats_history.specs.declared.transcript.LinkWord.TheVariants as word
use Rattle.nats_history.specs.declared.turn.Turn.{Turn}
use Rattle.nats_history.specs.declared.turn.Turn.TheVariants.{Up, Piece, Write, Take}
use Rattle.nats_history.specs.History.{Step, opened, fed, read, handled, link_end, History, is_got, is_up, reads, joined}
use Rattle.nats_history.specs.Parts.{Parts, parts_of}
use Rattle.nats_history.specs.Schedule.{followers, chain, own_steps, due_call, due_by, due, put_steps, most_due, write_limit, settled_within, settled, after_turn, steps_from, steps}
use Rattle.nats_history.proofs.Words.{reads_are_there}
use Rattle.nats_heard.proofs.Steps.{Passes, AreAll, followers_all, own_all}
use Rattle.nats_heard.specs.Heard.{message_of, messages_read, message_in, messages_in, NoneUp, ReadOfJoined}

-- the operations that were read
abbrev read_in : History → List Operation
read_in [] = []
read_in ((place, read operation) ∷ h) = read_in h ++ operation ∷ []
read_in (e ∷ h) = read_in h

-- they are the first of the joined bytes
record Reads (h : History) : Type 0 where
  rest : List Operation
  are : operations (joined h) ≡ read_in h ++ rest
  many : reads h ≡ length (read_in h)

-- what stands behind some items is the first of the others
item_behind : {A : Type 0} (some rest : List A) (x : A) → slice_get (some ++ rest) (length some) ≡ Some x
    → (more : List A) × (rest ≡ x ∷ more)
item_behind [] [] x is = cc
item_behind [] (y ∷ rest) x is = let same : y ≡ x = cc in (rest, ap (λ z. z ∷ rest) same)
item_behind (y ∷ some) rest x is = item_behind some rest x is

fed_reads : (place : ℕ) (bytes : List ℕ) (h : History) → Reads h → Reads ((place, fed bytes) ∷ h)
fed_reads place bytes h r =
    let more = operations (behind (length (operations (joined h))) (joined h) ++ bytes) in
    record {
      rest = r.rest ++ more;
      are = operations_cut (joined h) bytes ∙ ap (λ ops. ops ++ more) r.are ∙ append_assoc (read_in h) r.rest more;
      many = r.many;
    }

one_longer : (ops : List Operation) (op : Operation) → suc (length ops) ≡ length (ops ++ op ∷ [])
one_longer [] op = refl
one_longer (first ∷ ops) op = ap suc (one_longer ops op)

read_reads : (place : ℕ) (operation : Operation) (n : ℕ) (h : History) → front (behind (reads h) (joined h)) ≡ got operation n
    → Reads h → Reads ((place, read operation) ∷ h)
read_reads place operation n h stands r =
    let at = subst (λ k. slice_get (operations (joined h)) k ≡ Some operation) r.many (operation_at (reads h) (joined h) operation n (reads_are_there h) stands) in
    let found = item_behind (read_in h) r.rest operation (sym (ap (λ ops. slice_get ops (length (read_in h))) r.are) ∙ at) in
    record {
      rest = found.0;
      are = r.are ∙ ap (λ ops. read_in h ++ ops) found.1 ∙ sym (append_assoc (read_in h) (operation ∷ []) found.0);
      many = ap (λ f. cond (is_got f) (suc (reads h)) (reads h)) stands ∙ ap suc r.many ∙ one_longer (read_in h) operation;
    }

-- a step that joins no bytes, reads nothing and opens no link
abbrev pub is_mild : Step → Bool
is_mild (opened info) = false
is_mild (fed bytes) = false
is_mild (read operation) = false
is_mild step = true

mild_reads : (place : ℕ) (step : Step) (h : History) → is_mild step ≡ true → Reads h → Reads ((place, step) ∷ h)
mild_reads place (opened info) h mild r = absurd (false≢true mild)
mild_reads place (read operation) h mild r = absurd (false≢true mild)
mild_reads place (fed bytes) h mild r = absurd (false≢true mild)
mild_reads place step h mild r = record { rest = r.rest; are = r.are; many = r.many }

pub mild_passes : Passes is_mild
mild_passes = record {
  ticks = refl;
  accepts = λ call. refl;
  goes = λ sid. refl;
  passes = λ ticket. refl;
  ends = λ end. refl;
  closes = refl;
}

all_mild : (place : ℕ) (steps : List Step) (h : History) → AreAll is_mild steps → Reads h → Reads (put_steps place steps h)
all_mild place [] h mild r = r
all_mild place (step ∷ steps) h mild r = all_mild place steps ((place, step) ∷ h) mild.1 (mild_reads place step h mild.0 r)

-- what follows a step at once
pub followers_mild : (p : Parts) (step : Step) → AreAll is_mild (followers p step)
followers_mild p step = followers_all is_mild mild_passes p step

others_none : (turn : Turn) (turns : List Turn) → NoneUp (turn ∷ turns) → NoneUp turns
others_none (Up info) turns none = absurd none
others_none turn turns none = none

-- a step that is due reads what stands at the front, if it reads
due_reads : (c : Config) (place : ℕ) (step : Step) (h : History) → Some step ≡ due (parts_of c h) → Reads h → Reads ((place, step) ∷ h)
due_reads c place step h is r = by_up (is_up h) is
  where
    alike : (other : Step) → step ≡ other → Reads ((place, other) ∷ h) → Reads ((place, step) ∷ h)
    alike other same later = subst (λ (s : Step). Reads ((place, s) ∷ h)) (sym same) later

    by_call : (b : Bool) (calls : List Call) → Some step ≡ due_call b calls → Reads ((place, step) ∷ h)
    by_call true [] e = cc
    by_call true (call ∷ more) e = let same : step ≡ handled call = cc in alike (handled call) same (mild_reads place (handled call) h refl r)
    by_call false calls e = cc

    by_front : (found : Front) → front (behind (reads h) (joined h)) ≡ found → Some step ≡ due_by found (parts_of c h) → Reads ((place, step) ∷ h)
    by_front (got operation n) stands e = let same : step ≡ read operation = cc in alike (read operation) same (read_reads place operation n h stands r)
    by_front (fault n) stands e = let same : step ≡ link_end word.Fault = cc in alike (link_end word.Fault) same (mild_reads place (link_end word.Fault) h refl r)
    by_front unfinished stands e = by_call (nat_lt (length (parts_of c h).link.wire.waiting) write_limit) (parts_of c h).calls e

    by_up : (up : Bool) → Some step ≡ (if up then due_by (front (if up then behind (reads h) (joined h) else [])) (parts_of c h) else None)
        → Reads ((place, step) ∷ h)
    by_up true e = by_front (front (behind (reads h) (joined h))) refl e
    by_up false e = cc

within_reads : (c : Config) (place most : ℕ) (next : Option Step) (h : History) → next ≡ due (parts_of c h) → Reads h
    → Reads (settled_within c place most next h)
within_reads c place most None h is r = r
within_reads c place zero (Some step) h is r = r
within_reads c place (suc most) (Some step) h is r =
    let more = put_steps place (chain (parts_of c h) step) h in
    within_reads c place most (due (parts_of c more)) more refl
    (all_mild place (followers (parts_of c h) step) ((place, step) ∷ h) (followers_mild (parts_of c h) step) (due_reads c place step h is r))

settled_reads : (c : Config) (place : ℕ) (h : History) → Reads h → Reads (settled c place h)
settled_reads c place h r = within_reads c place (most_due (parts_of c h)) (due (parts_of c h)) h refl r

-- a turn by which no link comes up
own_read : (c : Config) (place : ℕ) (turn : Turn) (turns : List Turn) (h : History) → NoneUp (turn ∷ turns) → Reads h
    → Reads (put_steps place (own_steps (parts_of c h) turn) h)
own_read c place (Up info) turns h none r = absurd none
own_read c place (Piece bytes) turns h none r =
    all_mild place (followers (parts_of c h) (fed bytes)) ((place, fed bytes) ∷ h) (followers_mild (parts_of c h) (fed bytes)) (fed_reads place bytes h r)
own_read c place (Write n) turns h none r =
    all_mild place (own_steps (parts_of c h) (Write n)) h (own_all is_mild mild_passes (parts_of c h) (Write n) (λ m. refl)) r
own_read c place (Take sid) turns h none r =
    all_mild place (own_steps (parts_of c h) (Take sid)) h (own_all is_mild mild_passes (parts_of c h) (Take sid) refl) r
own_read c place turn turns h none r =
    all_mild place (own_steps (parts_of c h) turn) h (own_all is_mild mild_passes (parts_of c h) turn tt) r

turns_read : (c : Config) (place : ℕ) (turns : List Turn) (h : History) → NoneUp turns → Reads h → Reads (steps_from c place turns h)
turns_read c place [] h none r = r
turns_read c place (turn ∷ turns) h none r =
    turns_read c (suc place) turns (after_turn c place turn h) (others_none turn turns none)
    (settled_reads c place (put_steps place (own_steps (parts_of c h) turn) h) (own_read c place turn turns h none r))

-- ---- their messages

same_message : (s : ℕ) (operation : Operation) → message_of s (read operation) ≡ message_in s operation
same_message s (message sid m) = refl
same_message s operation = refl

pub messages_both : (s : ℕ) (some more : List Operation) → messages_in s (some ++ more) ≡ messages_in s some ++ messages_in s more
messages_both s [] more = refl
messages_both s (operation ∷ some) more =
    ap (λ ms. message_in s operation ++ ms) (messages_both s some more) ∙ sym (append_assoc (message_in s operation) (messages_in s some) (messages_in s more))

read_one : (s : ℕ) (operation : Operation) (h : History) → messages_read s h ≡ messages_in s (read_in h)
    → messages_read s h ++ message_of s (read operation) ≡ messages_in s (read_in h ++ operation ∷ [])
read_one s operation h before =
    ap (λ ms. ms ++ message_of s (read operation)) before
    ∙ ap (λ ms. messages_in s (read_in h) ++ ms) (same_message s operation ∙ sym (append-nil (message_in s operation)))
    ∙ sym (messages_both s (read_in h) (operation ∷ []))

all_read : (s : ℕ) (h : History) → messages_read s h ≡ messages_in s (read_in h)
all_read s [] = refl
all_read s ((place, read operation) ∷ h) = read_one s operation h (all_read s h)
all_read s ((place, step) ∷ h) = append-nil (messages_read s h) ∙ all_read s h

pub read_of_joined : ReadOfJoined
read_of_joined c s info turns none =
    let begun : Reads ((1, opened info) ∷ []) = record { rest = []; are = refl; many = refl } in
    let h = steps c (Up info ∷ turns) in
    let r = turns_read c 2 turns (after_turn c 1 (Up info) []) none (settled_reads c 1 ((1, opened info) ∷ []) begun) in (
      messages_in s r.rest,
      ap (messages_in s) r.are ∙ messages_both s (read_in h) r.rest ∙ ap (λ ms. ms ++ messages_in s r.rest) (sym (all_read s h)),
    )
