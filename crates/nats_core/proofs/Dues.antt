-- Laws on due steps as a session is seen.
use Rattle.std.proofs.Common.{◌≡◌, ℕ, zero, suc, ◌<◌, Bool, true, false, not, is_some, cond, List, [], ◌∷◌, ◌++◌, length, nat_lt, Option, Some, None, refl, sym, ◌∙◌, ap, subst}
use Rattle.std.proofs.lemmas.Bool.{false≢true}
use Rattle.std.proofs.lemmas.Option.{none-some, same_Some}
use Rattle.nats_message.specs.declared.message.Message.{Message}
use Rattle.nats_lines.specs.Operations.{Operation, message, Front, got, unfinished, fault, front}
use Rattle.nats_history.specs.declared.call.Call.{Call}
use Rattle.nats_history.specs.declared.transcript.LinkWord.{LinkWord}
use Rattle.nats_history.specs.declared.transcript.LinkWord.TheVariants as word
use Rattle.nats_history.specs.declared.turn.Due.{Due}
use Rattle.nats_history.specs.History.{Step, read, handled, link_end}
use Rattle.nats_history.specs.Parts.{Parts}
use Rattle.nats_history.specs.Schedule.{chain, due_call, due_by, due, due_chain, most_due}
use Rattle.nats_history.specs.After.{after_all, due_steps}
use Rattle.nats_history.proofs.Dues.{bound_falls, none_due, one_due, none_left}
use Rattle.nats_subs.specs.declared.subs.subscription.Delivery.{Delivery}
use Rattle.nats_subs.specs.declared.subs.subscription.Delivery.TheVariants.{Put, Dropped, Unwanted, Ignored}
use Rattle.nats_session.specs.Handler.{Seen, seen_after, seen_all, delivery_name, delivery_of, end_in, ended_or, own_name, name_of, Advances}
use Rattle.nats_session.proofs.Handlers.{seen_append}
use Rattle.nats_core.specs.Journal.{is_nothing, due_round, due_rounds, all_due}

-- the parts that are seen after some steps
pub parts_all : (seen : Seen) (steps : List Step) → (seen_all seen steps).parts ≡ after_all seen.parts steps
parts_all seen [] = refl
parts_all seen (step ∷ steps) = parts_all (seen_after seen step) steps

-- a session's settings stay
pub config_all : (seen : Seen) (steps : List Step) → (seen_all seen steps).parts.config ≡ seen.parts.config
config_all seen [] = refl
config_all seen (step ∷ steps) = config_all (seen_after seen step) steps

pub config_round : (seen : Seen) → (due_round seen).parts.config ≡ seen.parts.config
config_round seen = config_all seen (due_chain seen.parts (due seen.parts))

pub config_rounds : (rounds : ℕ) (seen : Seen) → (due_rounds rounds seen).parts.config ≡ seen.parts.config
config_rounds zero seen = refl
config_rounds (suc rounds) seen = config_round (due_rounds rounds seen) ∙ config_rounds rounds seen

-- where none is due nothing is played
pub none_played : (seen : Seen) → due seen.parts ≡ None → all_due seen ≡ seen
none_played seen none = ap (seen_all seen) (none_due seen.parts none)

pub none_round : (seen : Seen) → due seen.parts ≡ None → due_round seen ≡ seen
none_round seen none = ap (λ next. seen_all seen (due_chain seen.parts next)) none

-- the first of all due steps, and then the others
some_round : (seen : Seen) (step : Step) → due seen.parts ≡ Some step → all_due (due_round seen) ≡ all_due seen
some_round seen step some =
    let steps = chain seen.parts step in
    ap (λ next. all_due (seen_all seen (due_chain seen.parts next))) some
    ∙ (ap (λ q. seen_all (seen_all seen steps) (due_steps q)) (parts_all seen steps)
    ∙ (sym (seen_append seen steps (due_steps (after_all seen.parts steps)))
    ∙ ap (seen_all seen) (sym (one_due seen.parts step some))))

pub round_on_the_way : (seen : Seen) → all_due (due_round seen) ≡ all_due seen
round_on_the_way seen = by (due seen.parts) refl
  where
    by : (next : Option Step) → due seen.parts ≡ next → all_due (due_round seen) ≡ all_due seen
    by None is = ap all_due (none_round seen is)
    by (Some step) is = some_round seen step is

pub rounds_on_the_way : (rounds : ℕ) (seen : Seen) → all_due (due_rounds rounds seen) ≡ all_due seen
rounds_on_the_way zero seen = refl
rounds_on_the_way (suc rounds) seen = round_on_the_way (due_rounds rounds seen) ∙ rounds_on_the_way rounds seen

-- as many rounds as leave nothing due are all that are due
pub rounds_enough : (rounds : ℕ) (seen : Seen) → due (due_rounds rounds seen).parts ≡ None → due_rounds rounds seen ≡ all_due seen
rounds_enough rounds seen none = sym (none_played (due_rounds rounds seen) none) ∙ rounds_on_the_way rounds seen

-- and then none is due
pub none_after_all : (seen : Seen) → due (all_due seen).parts ≡ None
none_after_all seen = ap due (parts_all seen (due_steps seen.parts)) ∙ none_left seen.parts

-- each round brings the end nearer
pub round_falls : (seen : Seen) (step : Step) → due seen.parts ≡ Some step → most_due (due_round seen).parts < most_due seen.parts
round_falls seen step some =
    subst (λ q. most_due q < most_due seen.parts) (sym (ap (λ next. (seen_all seen (due_chain seen.parts next)).parts) some ∙ parts_all seen (chain seen.parts step))) (bound_falls seen.parts step some)

-- ---- a step that is due has a name

abbrev IsNamed : Parts → Step → Type 0
IsNamed p step = is_nothing (name_of p step) ≡ false

by_end : (end : Option LinkWord) (name : Due) → is_nothing name ≡ false → is_nothing (ended_or end name) ≡ false
by_end None name is = is
by_end (Some end) name is = refl

by_delivery : (sid : ℕ) (m : Message) (d : Delivery) → is_nothing (delivery_name sid m d) ≡ false
by_delivery sid m Put = refl
by_delivery sid m Dropped = refl
by_delivery sid m Unwanted = refl
by_delivery sid m Ignored = refl

own_read : (p : Parts) (operation : Operation) → is_nothing (own_name p (read operation)) ≡ false
own_read p (message sid m) = by_delivery sid m (delivery_of p sid)
own_read p operation = refl

read_named : (p : Parts) (operation : Operation) → IsNamed p (read operation)
read_named p operation = by_end (end_in (chain p (read operation))) (own_name p (read operation)) (own_read p operation)

handled_named : (p : Parts) (call : Call) → IsNamed p (handled call)
handled_named p call = by_end (end_in (chain p (handled call))) (own_name p (handled call)) refl

named : (p : Parts) (step : Step) → due p ≡ Some step → IsNamed p step
named p step e = by_up p.link.is_up e
  where
    by_call : (room : Bool) (calls : List Call) → due_call room calls ≡ Some step → IsNamed p step
    by_call true (call ∷ more) e = subst (IsNamed p) (same_Some (handled call) step e) (handled_named p call)
    by_call true [] e = absurd (none-some step e)
    by_call false calls e = absurd (none-some step e)

    by_front : (f : Front) → due_by f p ≡ Some step → IsNamed p step
    by_front (got operation n) e = subst (IsNamed p) (same_Some (read operation) step e) (read_named p operation)
    by_front (fault n) e = subst (IsNamed p) (same_Some (link_end word.Fault) step e) refl
    by_front unfinished e = by_call (nat_lt (length p.link.wire.waiting) 65535) p.calls e

    by_up : (up : Bool) → cond up (due_by (front p.link.wire.unread) p) None ≡ Some step → IsNamed p step
    by_up true e = by_front (front p.link.wire.unread) e
    by_up false e = absurd (none-some step e)

-- ---- one due step is played

pub advances_round : (old new : Seen) (name : Due) → Advances (due old.parts) old name new → new ≡ due_round old
advances_round old new name plays = by (due old.parts) refl plays
  where
    by : (next : Option Step) → due old.parts ≡ next → Advances next old name new → new ≡ due_round old
    by None is plays = plays.1 ∙ sym (none_round old is)
    by (Some step) is plays = plays.1 ∙ ap (λ next. seen_all old (due_chain old.parts next)) (sym is)

pub tells_some : (old new : Seen) (name : Due) → Advances (due old.parts) old name new → not (is_nothing name) ≡ is_some (due old.parts)
tells_some old new name plays = by (due old.parts) refl plays
  where
    by : (next : Option Step) → due old.parts ≡ next → Advances next old name new → not (is_nothing name) ≡ is_some (due old.parts)
    by None is plays = ap (λ n. not (is_nothing n)) plays.0 ∙ sym (ap is_some is)
    by (Some step) is plays =
        ap (λ n. not (is_nothing n)) plays.0 ∙ (ap not (named old.parts step is) ∙ sym (ap is_some is))

-- a round where something was due brings the end nearer, and one where nothing was is the end
pub round_nearer : (old new : Seen) → new ≡ due_round old → is_some (due old.parts) ≡ true → most_due new.parts < most_due old.parts
round_nearer old new round some = by (due old.parts) refl
  where
    by : (next : Option Step) → due old.parts ≡ next → most_due new.parts < most_due old.parts
    by None is = absurd (false≢true (sym (ap is_some is) ∙ some))
    by (Some step) is = subst (λ (s : Seen). most_due s.parts < most_due old.parts) (sym round) (round_falls old step is)

pub round_ends : (old new : Seen) → new ≡ due_round old → is_some (due old.parts) ≡ false → due new.parts ≡ None
round_ends old new round none = by (due old.parts) refl
  where
    by : (next : Option Step) → due old.parts ≡ next → due new.parts ≡ None
    by None is = ap (λ (s : Seen). due s.parts) (round ∙ none_round old is) ∙ is
    by (Some step) is = absurd (false≢true (sym none ∙ ap is_some is))
