-- A journal that is right stays right with one more turn that may come, and what stands for it goes on to do so.
use Rattle.std.proofs.Common.{◌≡◌, ℕ, zero, suc, ◌+◌, Bool, true, false, cond, List, [], ◌∷◌, ◌++◌, length, Option, Some, None, refl, sym, ◌∙◌, ap, subst, arith}
use Rattle.std.proofs.lemmas.List.{length-append}
use Rattle.std.proofs.lemmas.Option.{none-some}
use Rattle.nats_history.specs.declared.config.Config.{Config}
use Rattle.nats_history.specs.declared.turn.Turn.{Turn}
use Rattle.nats_history.specs.History.{Step, History}
use Rattle.nats_history.specs.Parts.{Parts, parts_of}
use Rattle.nats_history.specs.Schedule.{is_valid_turn, own_steps, chain, due, due_chain, put_steps, settled, after_turn, steps_from, steps, out_of_turn_from, out_of_turn}
use Rattle.nats_history.specs.After.{after_all, due_steps}
use Rattle.nats_history.proofs.Dues.{none_due, one_due}
use Rattle.nats_history.proofs.Plays.{parts_after_all, put_append, same_settled}
use Rattle.nats_session.specs.Handler.{Seen, HandedOut, StandsFor, seen_all}
use Rattle.nats_session.proofs.Handlers.{leads}
use Rattle.nats_core.specs.declared.entry.StepReply.{StepReply}
use Rattle.nats_core.specs.declared.entry.Entry.{Entry}
use Rattle.nats_core.specs.Journal.{turns_of, replies_of, reply_to, replies_from, IsRight, StandsForTurns, StandsForAll, due_round, due_rounds, entry_of}

-- ---- one more turn

turns_more : (journal : List Entry) (e : Entry) → turns_of (journal ++ e ∷ []) ≡ turns_of journal ++ e.turn ∷ []
turns_more [] e = refl
turns_more (x ∷ journal) e = ap (λ ts. x.turn ∷ ts) (turns_more journal e)

replies_more : (journal : List Entry) (e : Entry) → replies_of (journal ++ e ∷ []) ≡ replies_of journal ++ e.reply ∷ []
replies_more [] e = refl
replies_more (x ∷ journal) e = ap (λ rs. x.reply ∷ rs) (replies_more journal e)

steps_more : (c : Config) (place : ℕ) (turns : List Turn) (t : Turn) (h : History)
    → steps_from c place (turns ++ t ∷ []) h ≡ after_turn c (place + length turns) t (steps_from c place turns h)
steps_more c place [] t h = let same : place ≡ place + 0 = omega arith in ap (λ n. after_turn c n t h) same
steps_more c place (turn ∷ turns) t h =
    let same : suc place + length turns ≡ place + suc (length turns) = omega arith in
    steps_more c (suc place) turns t (after_turn c place turn h)
    ∙ ap (λ n. after_turn c n t (steps_from c (suc place) turns (after_turn c place turn h))) same

replies_from_more : (c : Config) (place : ℕ) (turns : List Turn) (t : Turn) (h : History)
    → replies_from c place (turns ++ t ∷ []) h ≡ replies_from c place turns h ++ reply_to (parts_of c (steps_from c place turns h)) t ∷ []
replies_from_more c place [] t h = refl
replies_from_more c place (turn ∷ turns) t h =
    ap (λ rs. reply_to (parts_of c h) turn ∷ rs) (replies_from_more c (suc place) turns t (after_turn c place turn h))

valid_more : (c : Config) (place : ℕ) (turns : List Turn) (t : Turn) (h : History) → out_of_turn_from c place turns h ≡ None
    → is_valid_turn (parts_of c (steps_from c place turns h)) t ≡ true → out_of_turn_from c place (turns ++ t ∷ []) h ≡ None
valid_more c place [] t h none valid = ap (λ b. cond b None (Some place)) valid
valid_more c place (turn ∷ turns) t h none valid =
    by (is_valid_turn (parts_of c h) turn) refl none (λ later. valid_more c (suc place) turns t (after_turn c place turn h) later valid)
  where
    by : (b : Bool) → is_valid_turn (parts_of c h) turn ≡ b → cond b (out_of_turn_from c (suc place) turns (after_turn c place turn h)) (Some place) ≡ None
        → (out_of_turn_from c (suc place) turns (after_turn c place turn h) ≡ None → out_of_turn_from c (suc place) (turns ++ t ∷ []) (after_turn c place turn h) ≡ None)
        → cond (is_valid_turn (parts_of c h) turn) (out_of_turn_from c (suc place) (turns ++ t ∷ []) (after_turn c place turn h)) (Some place) ≡ None
    by true is none later = ap (λ b. cond b (out_of_turn_from c (suc place) (turns ++ t ∷ []) (after_turn c place turn h)) (Some place)) is ∙ later none
    by false is none later = absurd (none-some place (sym none))

pub right_more : (c : Config) (journal : List Entry) (t : Turn) (p : Parts) → IsRight c journal → parts_of c (steps c (turns_of journal)) ≡ p → is_valid_turn p t ≡ true
    → IsRight c (journal ++ entry_of p t ∷ [])
right_more c journal t p right is valid =
    let e = entry_of p t in
    record {
      valid = ap (out_of_turn c) (turns_more journal e) ∙ valid_more c 1 (turns_of journal) t [] right.valid (ap (λ q. is_valid_turn q t) is ∙ valid);
      replied = replies_more journal e
          ∙ (ap (λ rs. rs ++ reply_to p t ∷ []) right.replied
          ∙ (ap (λ q. replies_from c 1 (turns_of journal) [] ++ reply_to q t ∷ []) (sym is)
          ∙ (sym (replies_from_more c 1 (turns_of journal) t [])
          ∙ ap (λ ts. replies_from c 1 ts []) (sym (turns_more journal e)))));
    }

-- ---- what stands for some turns

-- where no step is due, a history is settled
settled_none : (c : Config) (place : ℕ) (h : History) → due (parts_of c h) ≡ None → settled c place h ≡ h
settled_none c place h none = same_settled c place h ∙ ap (λ steps. put_steps place steps h) (none_due (parts_of c h) none)

settled_some : (c : Config) (place : ℕ) (h : History) (step : Step) → due (parts_of c h) ≡ Some step
    → settled c place (put_steps place (chain (parts_of c h) step) h) ≡ settled c place h
settled_some c place h step some =
    let p = parts_of c h in
    let now = chain p step in
    same_settled c place (put_steps place now h)
    ∙ (ap (λ q. put_steps place (due_steps q) (put_steps place now h)) (parts_after_all c h place now)
    ∙ (sym (put_append place now (due_steps (after_all p now)) h)
    ∙ (ap (λ steps. put_steps place steps h) (sym (one_due p step some)) ∙ sym (same_settled c place h))))

settled_round : (c : Config) (place : ℕ) (h : History) → settled c place (put_steps place (due_chain (parts_of c h) (due (parts_of c h))) h) ≡ settled c place h
settled_round c place h = by (due (parts_of c h)) refl
  where
    by : (next : Option Step) → due (parts_of c h) ≡ next → settled c place (put_steps place (due_chain (parts_of c h) (due (parts_of c h))) h) ≡ settled c place h
    by None is = ap (λ o. settled c place (put_steps place (due_chain (parts_of c h) o) h)) is
    by (Some step) is = ap (λ o. settled c place (put_steps place (due_chain (parts_of c h) o) h)) is ∙ settled_some c place h step is

-- a due step is played
stands_round : (c : Config) (turns : List Turn) (seen : Seen) → StandsForTurns c turns seen → StandsForTurns c turns (due_round seen)
stands_round c turns seen stands =
    let h = stands.history in
    let now = due_chain seen.parts (due seen.parts) in
    record {
      out = stands.out;
      history = put_steps (length turns) now h;
      stands = leads seen now (due_round seen) refl c stands.out h (length turns) stands.stands;
      rest = ap (λ q. settled c (length turns) (put_steps (length turns) (due_chain q (due q)) h)) stands.stands.parts
          ∙ (settled_round c (length turns) h ∙ stands.rest);
    }

pub stands_rounds : (c : Config) (turns : List Turn) (rounds : ℕ) (seen : Seen) → StandsForTurns c turns seen → StandsForTurns c turns (due_rounds rounds seen)
stands_rounds c turns zero seen stands = stands
stands_rounds c turns (suc rounds) seen stands = stands_round c turns (due_rounds rounds seen) (stands_rounds c turns rounds seen stands)

-- where no step is due, all steps were played
pub history_is : (c : Config) (turns : List Turn) (seen : Seen) (stands : StandsForTurns c turns seen) → due seen.parts ≡ None → stands.history ≡ steps c turns
history_is c turns seen stands none =
    sym (settled_none c (length turns) stands.history (ap due (sym stands.stands.parts) ∙ none)) ∙ stands.rest

pub stands_whole : (c : Config) (turns : List Turn) (seen : Seen) → StandsForTurns c turns seen → due seen.parts ≡ None → StandsForAll c turns seen
stands_whole c turns seen stands none = record {
  out = stands.out;
  stands = subst (λ h. StandsFor c stands.out h seen) (history_is c turns seen stands none) stands.stands;
}

pub parts_are : (c : Config) (turns : List Turn) (seen : Seen) → StandsForTurns c turns seen → due seen.parts ≡ None → parts_of c (steps c turns) ≡ seen.parts
parts_are c turns seen stands none = ap (parts_of c) (sym (history_is c turns seen stands none)) ∙ sym stands.stands.parts

-- one more turn's own steps are played
own_more : (c : Config) (turns : List Turn) (t : Turn) (seen : Seen) (h : History) → h ≡ steps c turns → seen.parts ≡ parts_of c h
    → settled c (suc (length turns)) (put_steps (suc (length turns)) (own_steps seen.parts t) h) ≡ steps c (turns ++ t ∷ [])
own_more c turns t seen h is parts =
    let place : 1 + length turns ≡ suc (length turns) = omega arith in
    ap (λ q. settled c (suc (length turns)) (put_steps (suc (length turns)) (own_steps q t) h)) parts
    ∙ (ap (after_turn c (suc (length turns)) t) is
    ∙ sym (steps_more c 1 turns t [] ∙ ap (λ n. after_turn c n t (steps c turns)) place))

pub stands_more : (c : Config) (turns : List Turn) (t : Turn) (seen : Seen) → StandsForTurns c turns seen → due seen.parts ≡ None
    → StandsForTurns c (turns ++ t ∷ []) (seen_all seen (own_steps seen.parts t))
stands_more c turns t seen stands none =
    let own = own_steps seen.parts t in
    let place : length (turns ++ t ∷ []) ≡ suc (length turns) = omega (arith, length-append turns (t ∷ [])) in
    record {
      out = stands.out;
      history = put_steps (suc (length turns)) own stands.history;
      stands = leads seen own (seen_all seen own) refl c stands.out stands.history (suc (length turns)) stands.stands;
      rest = ap (λ n. settled c n (put_steps (suc (length turns)) own stands.history)) place
          ∙ own_more c turns t seen stands.history (history_is c turns seen stands none) stands.stands.parts;
    }

pub stands_entry : (c : Config) (journal : List Entry) (t : Turn) (seen : Seen) → StandsForTurns c (turns_of journal) seen → due seen.parts ≡ None
    → StandsForTurns c (turns_of (journal ++ entry_of seen.parts t ∷ [])) (seen_all seen (own_steps seen.parts t))
stands_entry c journal t seen stands none =
    subst (λ turns. StandsForTurns c turns (seen_all seen (own_steps seen.parts t))) (sym (turns_more journal (entry_of seen.parts t))) (stands_more c (turns_of journal) t seen stands none)
