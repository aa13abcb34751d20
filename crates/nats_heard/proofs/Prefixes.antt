-- What was put and dropped is the beginning of what was read.
use Rattle.std.proofs.Common.{◌≡◌, ℕ, Bool, true, false, not, ◌&&◌, ◌||◌, ◌==◌, cond, List, [], ◌∷◌, ◌++◌, map, is_some, refl, sym, ◌∙◌, ap, append_assoc, subst, if◌then◌else◌}
use Rattle.std.proofs.lemmas.List.{append-nil}
use Rattle.std.proofs.lemmas.Bool.{false≢true, eqb-true}
use Rattle.nats_message.specs.declared.message.Message.{Message}
use Rattle.nats_lines.specs.Operations.{message}
use Rattle.nats_history.specs.declared.config.Config.{Config}
use Rattle.nats_history.specs.declared.stage.Stage.{Stage}
use Rattle.nats_history.specs.declared.stage.Stage.TheVariants.{Asked, Open, Ended}
use Rattle.nats_history.specs.History.{Step, read, History, second, concerns, at_of, Told, sub_of, is_open, listens, has_room, ends, opens, open_if, end_if, shut_after, accepted, gone, shuts, is_given, puts_by, drops_by, told_after, told}
use Rattle.nats_history.proofs.Rows.{told_nothing}
use Rattle.nats_heard.specs.Heard.{messages_read, heard, is_asked, ComesBegun, ComeBegun, PrefixHeard}

Prefix : List Message → List Message → Type 0
Prefix xs all = (rest : List Message) × (all ≡ xs ++ rest)

-- what a subscription heard beside what was read of its number, by its stage and by whether it is shut
pub record Follows (stage : Stage) (shut : Bool) (xs all : List Message) : Type 0 where
  pub rest : List Message
  pub prefix : all ≡ xs ++ rest
  pub while_asked : is_asked stage ≡ true → all ≡ []
  pub while_listens : (is_open stage && not shut) ≡ true → all ≡ xs

none_before : (xs rest : List Message) → [] ≡ xs ++ rest → xs ≡ []
none_before [] rest is = refl
none_before (x ∷ xs) rest is = cc

pub asked_still : (a b : Bool) (stage : Stage) → is_asked (end_if a (open_if b stage)) ≡ true → is_asked stage ≡ true
asked_still a b Asked is = refl
asked_still true true Open is = is
asked_still true false Open is = is
asked_still false true Open is = is
asked_still false false Open is = is
asked_still true true Ended is = is
asked_still true false Ended is = is
asked_still false true Ended is = is
asked_still false false Ended is = is

-- one that is open was, or was asked for
pub opened_by : (a b : Bool) (stage : Stage) → is_open (end_if a (open_if b stage)) ≡ true → (is_open stage || is_asked stage) ≡ true
opened_by a b Asked is = refl
opened_by a b Open is = refl
opened_by true true Ended is = is
opened_by true false Ended is = is
opened_by false true Ended is = is
opened_by false false Ended is = is

pub both : (a b : Bool) → (a && b) ≡ true → (a ≡ true) × (b ≡ true)
both true true e = (refl, refl)
both true false e = absurd (false≢true e)
both false b e = absurd (false≢true e)

not_true : (b : Bool) → not b ≡ true → b ≡ false
not_true false e = refl
not_true true e = absurd (false≢true e)

listened : {xs all : List Message} (stage : Stage) (shut : Bool) → Follows stage shut xs all
    → (is_open stage || is_asked stage) ≡ true → shut ≡ false → all ≡ xs
listened {xs} {all} Open shut f begun is = f.while_listens (ap not is)
listened {xs} {all} Asked shut f begun is =
    let none = f.while_asked refl in
    none ∙ sym (none_before xs f.rest (sym none ∙ f.prefix))
listened Ended shut f begun is = absurd (false≢true begun)

-- nothing is read, put or dropped, whatever becomes of the subscription
pub moved : {xs all : List Message} (a b : Bool) (stage : Stage) (shut later : Bool) → (later ≡ false → shut ≡ false)
    → Follows stage shut xs all → Follows (end_if a (open_if b stage)) later xs all
moved a b stage shut later stays f = record {
  rest = f.rest;
  prefix = f.prefix;
  while_asked = λ is. f.while_asked (asked_still a b stage is);
  while_listens = λ is.
      let parts = both (is_open (end_if a (open_if b stage))) (not later) is in
      listened stage shut f (opened_by a b stage parts.0) (stays (not_true later parts.1));
}

either_false : (a b : Bool) → (a || b) ≡ false → b ≡ false
either_false false b e = e
either_false true b e = absurd (false≢true (sym e))

pub shut_stays : (step : Step) (shut : Bool) → shut_after step shut ≡ false → shut ≡ false
shut_stays (accepted call) shut e = either_false (is_some (shuts call)) shut e
shut_stays (gone sid) shut e = absurd (false≢true (sym e))
shut_stays step shut e = e

open_before : (a : Bool) (stage : Stage) → is_open (end_if a (open_if false stage)) ≡ true → is_open stage ≡ true
open_before true Asked is = is
open_before false Asked is = is
open_before a Open is = refl
open_before true Ended is = is
open_before false Ended is = is

listening : (stage : Stage) (shut : Bool) → is_open stage ≡ true → not shut ≡ true → (is_open stage && not shut) ≡ true
listening Open shut opened is = is
listening Asked shut opened is = absurd (false≢true opened)
listening Ended shut opened is = absurd (false≢true opened)

module _ (c : Config) (s place : ℕ) where
  -- a step that puts and drops nothing
  unheard : (step : Step) (b : Bool) (t : Told) {xs all : List Message} → Follows t.stage t.is_shut xs all
      → Follows (cond b (told_after c place step t) t).stage (cond b (told_after c place step t) t).is_shut xs all
  unheard step false t f = f
  unheard step true t f = moved (ends c (sub_of t) step) (opens step) t.stage t.is_shut (shut_after step t.is_shut) (shut_stays step t.is_shut) f

  one_heard : (t : Told) (sid : ℕ) (m : Message) (room : Bool) → (b : Bool) → b ≡ true
      → map second ((if b && room then (place, m) ∷ [] else []) ++ (if b && not room then (place, m) ∷ [] else [])) ≡ m ∷ []
  one_heard t sid m true true is = refl
  one_heard t sid m false true is = refl
  one_heard t sid m room false is = absurd (false≢true is)

  none_heard : (m : Message) (room : Bool) → (b : Bool) → b ≡ false
      → map second ((if b && room then (place, m) ∷ [] else []) ++ (if b && not room then (place, m) ∷ [] else [])) ≡ []
  none_heard m room false is = refl
  none_heard m room true is = absurd (false≢true (sym is))

  -- a message of its number is read, once its subscribe was handled
  message_heard : (sid : ℕ) (m : Message) (t : Told) {xs all : List Message} → is_asked t.stage ≡ false → Follows t.stage t.is_shut xs all
      → (b : Bool) → listens (sub_of t) ≡ b
      → Follows (told_after c place (read (message sid m)) t).stage t.is_shut
      (xs ++ map second (puts_by c place (sub_of t) (read (message sid m)) ++ drops_by c place (sub_of t) (read (message sid m)))) (all ++ m ∷ [])
  message_heard sid m t {xs} {all} begun f true hears =
      let told : map second (puts_by c place (sub_of t) (read (message sid m)) ++ drops_by c place (sub_of t) (read (message sid m))) ≡ m ∷ [] =
      one_heard t sid m (has_room c (sub_of t)) (listens (sub_of t)) hears in
      let same : all ++ m ∷ [] ≡ xs ++ map second (puts_by c place (sub_of t) (read (message sid m)) ++ drops_by c place (sub_of t) (read (message sid m))) =
      ap (λ ys. ys ++ m ∷ []) (f.while_listens hears) ∙ ap (λ ys. xs ++ ys) (sym told) in
      record {
        rest = [];
        prefix = same ∙ sym (append-nil _);
        while_asked = λ is. absurd (false≢true (sym begun ∙ asked_still (ends c (sub_of t) (read (message sid m))) false t.stage is));
        while_listens = λ is. same;
      }
  message_heard sid m t {xs} {all} begun f false hears =
      let told : map second (puts_by c place (sub_of t) (read (message sid m)) ++ drops_by c place (sub_of t) (read (message sid m))) ≡ [] =
      none_heard m (has_room c (sub_of t)) (listens (sub_of t)) hears in
      record {
        rest = f.rest ++ m ∷ [];
        prefix = ap (λ ys. ys ++ m ∷ []) f.prefix ∙ append_assoc xs f.rest (m ∷ []) ∙ ap (λ ys. ys ++ (f.rest ++ m ∷ [])) (sym (ap (λ ys. xs ++ ys) told ∙ append-nil xs));
        while_asked = λ is. absurd (false≢true (sym begun ∙ asked_still (ends c (sub_of t) (read (message sid m))) false t.stage is));
        while_listens = λ is.
            let parts = both (is_open (end_if (ends c (sub_of t) (read (message sid m))) (open_if false t.stage))) (not t.is_shut) is in
            absurd (false≢true (sym hears ∙ listening t.stage t.is_shut (open_before (ends c (sub_of t) (read (message sid m))) t.stage parts.0) parts.1));
      }

  by_given : (sid : ℕ) (m : Message) (h : History) {xs all : List Message} → is_asked (told c s h).stage ≡ false → Follows (told c s h).stage (told c s h).is_shut xs all
      → (g : Bool) → is_given s (at_of h) ≡ g
      → Follows (cond g (told_after c place (read (message sid m)) (told c s h)) (told c s h)).stage (cond g (told_after c place (read (message sid m)) (told c s h)) (told c s h)).is_shut
      (xs ++ (if g then map second (puts_by c place (sub_of (told c s h)) (read (message sid m)) ++ drops_by c place (sub_of (told c s h)) (read (message sid m))) else [])) (all ++ m ∷ [])
  by_given sid m h begun f true is = message_heard sid m (told c s h) begun f (listens (sub_of (told c s h))) refl
  by_given sid m h begun f false is = absurd (false≢true (sym begun ∙ ap (λ (t : Told). is_asked t.stage) (told_nothing c s h is)))

nothing_more : (stage : Stage) (shut : Bool) (xs all ys zs : List Message) → Follows stage shut xs all → ys ≡ [] → zs ≡ []
    → Follows stage shut (xs ++ ys) (all ++ zs)
nothing_more stage shut xs all ys zs f heard none =
    subst (λ (ws : List Message). Follows stage shut (xs ++ ys) ws) (sym (ap (λ ws. all ++ ws) none ∙ append-nil all))
    (subst (λ (ws : List Message). Follows stage shut ws all) (sym (ap (λ ws. xs ++ ws) heard ∙ append-nil xs)) f)

abbrev no_message : List Message
no_message = []

empty_by : (b : Bool) → (if b then no_message else no_message) ≡ no_message
empty_by true = refl
empty_by false = refl

-- one more step
step_follows : (c : Config) (s place : ℕ) (step : Step) (h : History) → ComesBegun c s h step
    → Follows (told c s h).stage (told c s h).is_shut (heard c s h) (messages_read s h)
    → Follows (told c s ((place, step) ∷ h)).stage (told c s ((place, step) ∷ h)).is_shut (heard c s ((place, step) ∷ h)) (messages_read s ((place, step) ∷ h))
step_follows c s place (read (message sid m)) h comes f = by (s == sid) refl
  where
    by : (b : Bool) → (s == sid) ≡ b
        → Follows (cond (b && is_given s (at_of h)) (told_after c place (read (message sid m)) (told c s h)) (told c s h)).stage
        (cond (b && is_given s (at_of h)) (told_after c place (read (message sid m)) (told c s h)) (told c s h)).is_shut
        (heard c s h ++ (if b && is_given s (at_of h) then map second (puts_by c place (sub_of (told c s h)) (read (message sid m)) ++ drops_by c place (sub_of (told c s h)) (read (message sid m))) else []))
        (messages_read s h ++ (if b then m ∷ [] else []))
    by true e = by_given c s place sid m h (comes (eqb-true s sid e)) f (is_given s (at_of h)) refl
    by false e = nothing_more (told c s h).stage (told c s h).is_shut (heard c s h) (messages_read s h) [] [] f refl refl
step_follows c s place step h comes f =
    nothing_more _ _ (heard c s h) (messages_read s h) _ _ (unheard c s place step (concerns s (at_of h) step) (told c s h) f) (empty_by (concerns s (at_of h) step)) refl

follows : (c : Config) (s : ℕ) (h : History) → ComeBegun c s h
    → Follows (told c s h).stage (told c s h).is_shut (heard c s h) (messages_read s h)
follows c s [] come = record { rest = []; prefix = refl; while_asked = λ is. refl; while_listens = λ is. refl }
follows c s ((place, step) ∷ h) come = step_follows c s place step h come.0 (follows c s h come.1)

pub prefix_heard : PrefixHeard
prefix_heard c s h come = let f = follows c s h come in (f.rest, f.prefix)
