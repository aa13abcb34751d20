-- Each turn of the list leaves the parts such that each of its turns may come.
use Rattle.std.proofs.Common.{◌≡◌, ℕ, zero, suc, Bool, true, false, cond, not, ◌&&◌, List, [], ◌∷◌, ◌++◌, length, drop, map, min, nat_lt, Option, Some, None, refl, sym, ◌∙◌, ap, subst}
use Rattle.std.specs.Prelude.{◌==◌, codes}
use Rattle.std.specs.Fmt.{decimal}
use Rattle.std.specs.List.{slice_get}
use Rattle.std.proofs.lemmas.Bool.{false≢true}
use Rattle.std.proofs.lemmas.Option.{none-some, same_Some}
use Rattle.nats_lines.specs.Operations.{message, unfinished, past, front, sight}
use Rattle.nats_history.specs.declared.config.Config.{Config}
use Rattle.nats_history.specs.declared.call.Call.{Call}
use Rattle.nats_history.specs.declared.call.Call.TheVariants.{Publish, Flush}
use Rattle.nats_history.specs.declared.call.CallReply.{CallReply}
use Rattle.nats_history.specs.declared.call.TakeReply.{TakeReply}
use Rattle.nats_history.specs.declared.call.TakeReply.TheVariants as takes
use Rattle.nats_history.specs.declared.turn.Turn.{Turn}
use Rattle.nats_history.specs.declared.turn.Turn.TheVariants.{Piece, Write, Do, Take}
use Rattle.nats_history.specs.declared.transcript.LinkWord.{LinkWord}
use Rattle.nats_history.specs.History.{Step, fed, read, taken, accepted, handled, took, History, At, subscribes, Sub, up_after, gone_after, about, is_ended, kept, forgotten}
use Rattle.nats_history.specs.Parts.{Parts, parts_of, at_in}
use Rattle.nats_history.specs.Schedule.{is_there, is_valid_turn, refusal, take_reply, accepted_step, took_step, own_steps, ends_link, ending, chain, due_call, due_by, due, most_due, after_turn, put_steps, out_of_turn_from}
use Rattle.nats_history.specs.After.{new_sub, changed_sub, sub_after, grown, rows_after, calls_after, unread_after, after, after_all, due_steps_within, due_steps}
use Rattle.nats_history.proofs.Dues.{one_due, after_append}
use Rattle.nats_history.proofs.Plays.{parts_after_all, same_turn}
use Rattle.nats_tables.specs.Numbers.{About, nobody, everyone, only, at_index, item_of, change}
use Rattle.nats_bulk.specs.Generated.{publishing, message_of, turn_by}
use Rattle.nats_bulk.proofs.Messages.{IsMessage, text_with, message_a, message_b}

-- ---- subscriptions that are there stay there

-- a subscription that its user did not let go stays so
abbrev Holds : (Sub → Sub) → Type 0
Holds f = (sub : Sub) → sub.is_gone ≡ false → (f sub).is_gone ≡ false

not_gone : (b : Bool) → not b ≡ true → b ≡ false
not_gone false is = refl
not_gone true is = absurd (false≢true is)

there_then : (f : Sub → Sub) → Holds f → (sub : Sub) → is_there (Some sub) ≡ true → is_there (Some (f sub)) ≡ true
there_then f holds sub is = ap not (holds sub (not_gone sub.is_gone is))

there_at : (i k : ℕ) (f : Sub → Sub) → Holds f → (rows : List Sub) → is_there (slice_get rows k) ≡ true
    → is_there (slice_get (at_index i f rows) k) ≡ true
there_at i k f holds [] is = is
there_at zero zero f holds (sub ∷ rows) is = there_then f holds sub is
there_at zero (suc k) f holds (sub ∷ rows) is = is
there_at (suc i) zero f holds (sub ∷ rows) is = is
there_at (suc i) (suc k) f holds (sub ∷ rows) is = there_at i k f holds rows is

there_all : (k : ℕ) (f : Sub → Sub) → Holds f → (rows : List Sub) → is_there (slice_get rows k) ≡ true → is_there (slice_get (map f rows) k) ≡ true
there_all k f holds [] is = is
there_all zero f holds (sub ∷ rows) is = there_then f holds sub is
there_all (suc k) f holds (sub ∷ rows) is = there_all k f holds rows is

there_change : (a : About) (k : ℕ) (f : Sub → Sub) → Holds f → (rows : List Sub) → is_there (slice_get rows k) ≡ true
    → is_there (slice_get (change a f rows) k) ≡ true
there_change nobody k f holds rows is = is
there_change everyone k f holds rows is = there_all k f holds rows is
there_change (only zero) k f holds rows is = is
there_change (only (suc i)) k f holds rows is = there_at i k f holds rows is

there_append : (k : ℕ) (rows more : List Sub) → is_there (slice_get rows k) ≡ true → is_there (slice_get (rows ++ more) k) ≡ true
there_append k [] more is = absurd (false≢true is)
there_append zero (sub ∷ rows) more is = is
there_append (suc k) (sub ∷ rows) more is = there_append k rows more is

there_if : (b : Bool) (k : ℕ) (rows more : List Sub) → is_there (slice_get rows k) ≡ true → is_there (slice_get (cond b (rows ++ more) rows) k) ≡ true
there_if true k rows more is = there_append k rows more is
there_if false k rows more is = is

there_grown : (step : Step) (k : ℕ) (rows : List Sub) → is_there (slice_get rows k) ≡ true → is_there (slice_get (grown step rows) k) ≡ true
there_grown (accepted call) k rows is = there_if (subscribes call) k rows (new_sub ∷ []) is
there_grown step k rows is = is

kept_there : (sub : Sub) → sub.is_gone ≡ false → (kept sub).is_gone ≡ false
kept_there sub is = ap (λ b. (cond (b && is_ended sub.stage) forgotten sub).is_gone) is ∙ is

holds_after : (c : Config) (step : Step) → gone_after step false ≡ false → Holds (sub_after c step)
holds_after c step stays sub is = kept_there (changed_sub c step sub) (ap (gone_after step) is ∙ stays)

there_after : (c : Config) (at : At) (step : Step) (rows : List Sub) (k : ℕ) → gone_after step false ≡ false → is_there (slice_get rows k) ≡ true
    → is_there (slice_get (rows_after c at step rows) k) ≡ true
there_after c at step rows k stays is =
    there_change (about at step) k (sub_after c step) (holds_after c step stays) (grown step rows) (there_grown step k rows is)

-- ---- between turns

-- no waiting call ends the link
abbrev AreCalm : List Call → Type 0
AreCalm [] = Unit {0}
AreCalm (call ∷ calls) = (ends_link call ≡ None) × AreCalm calls

calm_push : (calls : List Call) (call : Call) → ends_link call ≡ None → AreCalm calls → AreCalm (calls ++ call ∷ [])
calm_push [] call is are = (is, tt)
calm_push (first ∷ calls) call is are = (are.0, calm_push calls call is are.1)

-- a link is up with these unread bytes, no waiting call ends it, and the first two subscriptions are there
pub record Steady (unread : List ℕ) (p : Parts) : Type 0 where
  pub up : p.link.is_up ≡ true
  pub unread_is : p.link.wire.unread ≡ unread
  pub calm : AreCalm p.calls
  pub one : is_there (slice_get p.subs.rows 0) ≡ true
  pub two : is_there (slice_get p.subs.rows 1) ≡ true

steady_after : (p : Parts) (step : Step) (unread next : List ℕ) → gone_after step false ≡ false → up_after step true ≡ true
    → unread_after true step unread ≡ next → AreCalm (calls_after step p.calls) → Steady unread p → Steady next (after p step)
steady_after p step unread next stays up reads calm s = record {
  up = ap (up_after step) s.up ∙ up;
  unread_is = ap (λ b. unread_after b step p.link.wire.unread) s.up ∙ (ap (unread_after true step) s.unread_is ∙ reads);
  calm = calm;
  one = there_after p.config (at_in p) step p.subs.rows 0 stays s.one;
  two = there_after p.config (at_in p) step p.subs.rows 1 stays s.two;
}

-- ---- due steps

pub nothing_there : front [] ≡ unfinished
unfolding front sight
nothing_there = refl

abbrev Goes : Parts → Step → Type 0
Goes p step = Steady [] (after_all p (chain p step))

handled_goes : (p : Parts) (call : Call) (more : List Call) → p.calls ≡ call ∷ more → Steady [] p → Goes p (handled call)
handled_goes p call more is s =
    let calm : AreCalm (call ∷ more) = subst AreCalm is s.calm in
    let next : Steady [] (after p (handled call)) =
    steady_after p (handled call) [] [] refl refl refl (subst AreCalm (sym (ap (drop 1) is)) calm.1) s in
    subst (λ (end : Option LinkWord). Steady [] (after_all p (handled call ∷ ending p.drain.is_handled end))) (sym calm.0) next

due_goes : (p : Parts) (step : Step) → Steady [] p → due p ≡ Some step → Goes p step
due_goes p step s is = by_call (nat_lt (length p.link.wire.waiting) 65535) p.calls refl (sym seen ∙ is)
  where
    seen : due p ≡ due_call (nat_lt (length p.link.wire.waiting) 65535) p.calls
    seen = ap (λ b. cond b (due_by (front p.link.wire.unread) p) None) s.up ∙ ap (λ f. due_by f p) (ap front s.unread_is ∙ nothing_there)

    by_call : (room : Bool) (calls : List Call) → p.calls ≡ calls → due_call room calls ≡ Some step → Goes p step
    by_call true (call ∷ more) calls is = subst (Goes p) (same_Some (handled call) step is) (handled_goes p call more calls s)
    by_call true [] calls is = absurd (none-some step is)
    by_call false more calls is = absurd (none-some step is)

settles_within : (n : ℕ) (next : Option Step) (p : Parts) → due p ≡ next → Steady [] p → Steady [] (after_all p (due_steps_within n next p))
settles_within n None p is s = s
settles_within zero (Some step) p is s = s
settles_within (suc n) (Some step) p is s =
    let more = after_all p (chain p step) in
    subst (Steady []) (sym (after_append (chain p step) (due_steps_within n (due more) more) p))
    (settles_within n (due more) more refl (due_goes p step s is))

-- the parts after an own step of a turn and all that is due
pub settles : (p : Parts) → Steady [] p → Steady [] (after_all p (due_steps p))
settles p s = settles_within (most_due p) (due p) p refl s

-- the same where a message is unread
pub settles_message : (p : Parts) (text : List ℕ) → IsMessage text → Steady text p → Steady [] (after_all p (due_steps p))
settles_message p text msg s =
    let step : Step = read (message msg.sid msg.m) in
    let is : due p ≡ Some step =
    ap (λ b. cond b (due_by (front p.link.wire.unread) p) None) s.up ∙ ap (λ f. due_by f p) (ap front s.unread_is ∙ msg.is) in
    let next : Steady [] (after p step) =
    steady_after p step text [] refl refl (ap (λ f. past f text) msg.is ∙ msg.ends) s.calm s in
    subst (λ steps. Steady [] (after_all p steps)) (sym (one_due p step is)) (settles (after p step) next)

-- ---- turns

-- the parts after a turn
pub turned : Parts → Turn → Parts
turned p turn = let q = after_all p (own_steps p turn) in after_all q (due_steps q)

pub turned_to : (p : Parts) (turn : Turn) → turned p turn ≡ after_all (after_all p (own_steps p turn)) (due_steps (after_all p (own_steps p turn)))
unfolding turned
turned_to p turn = refl

pub turned_steady : (p : Parts) (turn : Turn) → Steady [] (after_all (after_all p (own_steps p turn)) (due_steps (after_all p (own_steps p turn))))
    → Steady [] (turned p turn)
turned_steady p turn s = subst (Steady []) (sym (turned_to p turn)) s

-- a turn may come, and leaves the parts as they were in this
pub record Passes (p : Parts) (turn : Turn) : Type 0 where
  pub valid : is_valid_turn p turn ≡ true
  pub next : Steady [] (turned p turn)

call_goes : (p : Parts) (call : Call) (reply : Option CallReply) → ends_link call ≡ None → Steady [] p
    → Steady [] (after_all p (accepted_step reply call ++ []))
call_goes p call None is s = steady_after p (accepted call) [] [] refl refl refl (calm_push p.calls call is s.calm) s
call_goes p call (Some refused) is s = s

publish_passes : (p : Parts) (k : ℕ) → Steady [] p → Passes p (publishing k)
publish_passes p k s =
    let call : Call = Publish (record { subject = codes "bulk.a"; reply = None; payload = decimal k; headers = None }) in
    record {
      valid = refl;
      next = turned_steady p (Do call) (settles (after_all p (own_steps p (Do call))) (call_goes p call (refusal p call) refl s));
    }

flush_passes : (p : Parts) → Steady [] p → Passes p (Do Flush)
flush_passes p s = record {
  valid = refl;
  next = turned_steady p (Do Flush) (settles (after_all p (own_steps p (Do Flush))) (call_goes p Flush (refusal p Flush) refl s));
}

piece_passes : (p : Parts) (text : List ℕ) → IsMessage text → Steady [] p → Passes p (Piece text)
piece_passes p text msg s = record {
  valid = s.up;
  next = turned_steady p (Piece text) (settles_message (after p (fed text)) text msg (steady_after p (fed text) [] text refl refl refl s.calm s));
}

write_passes : (p : Parts) (n : ℕ) → Steady [] p → Passes p (Write n)
write_passes p n s =
    let step : Step = taken (min n (length p.link.wire.waiting)) in
    record {
      valid = s.up;
      next = turned_steady p (Write n) (settles (after p step) (steady_after p step [] [] refl refl refl s.calm s));
    }

took_goes : (p : Parts) (sid : ℕ) (reply : TakeReply) → Steady [] p → Steady [] (after_all p (took_step sid reply))
took_goes p sid (takes.Message m) s = steady_after p (took sid) [] [] refl refl refl s.calm s
took_goes p sid takes.Empty s = s
took_goes p sid takes.Ended s = s

take_passes : (p : Parts) (sid : ℕ) → is_there (item_of sid p.subs.rows) ≡ true → Steady [] p → Passes p (Take sid)
take_passes p sid there s = record {
  valid = there;
  next = turned_steady p (Take sid) (settles (after_all p (own_steps p (Take sid))) (took_goes p sid (take_reply p sid) s));
}

chosen : (p : Parts) (b : Bool) (x y : Turn) → Passes p x → Passes p y → Passes p (cond b x y)
chosen p true x y px py = px
chosen p false x y px py = py

-- the turns that come round, from the second kind on
abbrev from_7 : ℕ → Turn
from_7 r = cond (r == 7) (Take 2) (Write 1000000)

abbrev from_6 : ℕ → Turn
from_6 r = cond (r == 6) (Do Flush) (from_7 r)

abbrev from_5 : ℕ → Turn
from_5 r = cond (r == 5) (Write 64) (from_6 r)

abbrev from_4 : ℕ → ℕ → Turn
from_4 r k = cond (r == 4) (message_of (codes "MSG bulk.b 2 ") k) (from_5 r)

abbrev from_3 : ℕ → ℕ → Turn
from_3 r k = cond (r == 3) (Take 1) (from_4 r k)

abbrev from_2 : ℕ → ℕ → Turn
from_2 r k = cond (r == 2) (message_of (codes "MSG bulk.a 1 ") k) (from_3 r k)

later_passes : (p : Parts) (r : ℕ) → Steady [] p → Passes p (from_5 r)
later_passes p r s =
    chosen p (r == 5) (Write 64) (from_6 r) (write_passes p 64 s)
    (chosen p (r == 6) (Do Flush) (from_7 r) (flush_passes p s)
    (chosen p (r == 7) (Take 2) (Write 1000000) (take_passes p 2 s.two s) (write_passes p 1000000 s)))

second_passes : (p : Parts) (r k : ℕ) → Steady [] p → Passes p (from_4 r k)
second_passes p r k s =
    chosen p (r == 4) (message_of (codes "MSG bulk.b 2 ") k) (from_5 r)
    (piece_passes p (text_with (codes "MSG bulk.b 2 ") (decimal k)) (message_b k) s) (later_passes p r s)

first_passes : (p : Parts) (r k : ℕ) → Steady [] p → Passes p (from_2 r k)
first_passes p r k s =
    chosen p (r == 2) (message_of (codes "MSG bulk.a 1 ") k) (from_3 r k)
    (piece_passes p (text_with (codes "MSG bulk.a 1 ") (decimal k)) (message_a k) s)
    (chosen p (r == 3) (Take 1) (from_4 r k) (take_passes p 1 s.one s) (second_passes p r k s))

-- whichever kind of turn comes round
pub turn_passes : (p : Parts) (r k : ℕ) → Steady [] p → Passes p (turn_by r k)
turn_passes p r k s = chosen p (r == 1) (publishing k) (from_2 r k) (publish_passes p k s) (first_passes p r k s)

-- ---- lists of turns

-- each turn may come where it stands, and so may each turn of the rule behind the last
abbrev pub Comes : Parts → List Turn → Type 0
Comes p [] = Steady [] p
Comes p (turn ∷ turns) = (is_valid_turn p turn ≡ true) × Comes (turned p turn) turns

pub one_more : (turns : List Turn) (turn : Turn) (p : Parts) → ((q : Parts) → Steady [] q → Passes q turn) → Comes p turns → Comes p (turns ++ turn ∷ [])
one_more [] turn p passes s = ((passes p s).valid, (passes p s).next)
one_more (first ∷ turns) turn p passes come = (come.0, one_more turns turn (turned p first) passes come.1)

turn_parts : (c : Config) (place : ℕ) (turn : Turn) (h : History) → parts_of c (after_turn c place turn h) ≡ turned (parts_of c h) turn
turn_parts c place turn h =
    let own = own_steps (parts_of c h) turn in
    let q = after_all (parts_of c h) own in
    ap (parts_of c) (same_turn c place turn h)
    ∙ (parts_after_all c (put_steps place own h) place (due_steps q) ∙ (ap (λ p. after_all p (due_steps q)) (parts_after_all c h place own) ∙ sym (turned_to (parts_of c h) turn)))

pub in_turn_from : (c : Config) (place : ℕ) (turns : List Turn) (h : History) → Comes (parts_of c h) turns → out_of_turn_from c place turns h ≡ None
in_turn_from c place [] h come = refl
in_turn_from c place (turn ∷ turns) h come =
    ap (λ b. cond b (out_of_turn_from c (suc place) turns (after_turn c place turn h)) (Some place)) come.0
    ∙ in_turn_from c (suc place) turns (after_turn c place turn h) (subst (λ p. Comes p turns) (sym (turn_parts c place turn h)) come.1)
