-- What a core keeps through a turn, and that the journal by seats goes on to be its journal.
use Rattle.std.proofs.Common.{◌≡◌, ℕ, Bool, true, false, List, [], ◌∷◌, ◌++◌, map, Option, None, Result, Ok, Err, refl, sym, ◌∙◌, ap, subst}
use Rattle.nats_history.specs.declared.config.Config.{Config}
use Rattle.nats_history.specs.declared.turn.Turn.{Turn}
use Rattle.nats_history.specs.Parts.{Parts, parts_of}
use Rattle.nats_history.specs.Schedule.{is_valid_turn, own_steps, due, steps}
use Rattle.nats_history.specs.After.{due_steps}
use Rattle.nats_session.specs.Handler.{Seen}
use Rattle.nats_core.specs.declared.answers.StepError.{StepError}
use Rattle.nats_core.specs.declared.answers.StepError.TheVariants.{OutOfTurn, LinkGone, NoMemory}
use Rattle.nats_core.specs.declared.entry.Entry.{Entry}
use Rattle.nats_core.specs.declared.entry.StepReply.{StepReply}
use Rattle.nats_core.specs.Journal.{IsRight, StandsForAll, Logged, config_of, journal_turns, turns_of, reply_to, all_due, caught_up, entries_with, entry_of, played}
use Rattle.nats_core.specs.Calls.{parts_in, PlaysDue, Steps}
use Rattle.nats_core.proofs.Dues.{config_all, config_rounds, none_played}
use Rattle.nats_core.proofs.Journals.{right_more}
use Rattle.nats_desk.specs.declared.entry.SeatEntry.{SeatEntry}
use Rattle.nats_desk.specs.Journal.{IsRightBySeat, IsNoted, entry, plain_entry, plain, parts_at, may_come, reply_at}

-- ---- what a core keeps

pub config_due : (old new : Logged) → PlaysDue old new → config_of new ≡ config_of old
config_due old new plays = ap config_of plays.same ∙ config_rounds plays.rounds old.session

kept_due : (old new : Logged) → PlaysDue old new → new.is_kept ≡ old.is_kept
kept_due old new plays = ap (λ (core : Logged). core.is_kept) plays.same

config_caught : (core : Logged) → config_of (caught_up core) ≡ config_of core
config_caught core = config_all core.session (due_steps core.session.parts)

config_played : (core : Logged) (t : Turn) → config_of (played t core) ≡ config_of core
config_played core t = config_all core.session (own_steps core.session.parts t)

pub kept_steps : (old new : Logged) (t : Turn) (r : Result StepReply StepError) → Steps old t r new → new.is_kept ≡ old.is_kept
kept_steps old new t (Ok reply) plays = kept_due (played t (caught_up old)) new plays.2
kept_steps old new t (Err OutOfTurn) plays = ap (λ (core : Logged). core.is_kept) plays.1
kept_steps old new t (Err (LinkGone current)) plays = absurd plays
kept_steps old new t (Err NoMemory) plays = kept_due old new plays.0

pub config_steps : (old new : Logged) (t : Turn) (r : Result StepReply StepError) → Steps old t r new → config_of new ≡ config_of old
config_steps old new t (Ok reply) plays =
    config_due (played t (caught_up old)) new plays.2 ∙ (config_played (caught_up old) t ∙ config_caught old)
config_steps old new t (Err OutOfTurn) plays = ap config_of plays.1 ∙ config_caught old
config_steps old new t (Err (LinkGone current)) plays = absurd plays
config_steps old new t (Err NoMemory) plays = config_due old new plays.0

-- where no step is due, the reply is that of the parts as they are
pub reply_steps : (old new : Logged) (t : Turn) (reply : StepReply) → due (parts_in old) ≡ None → Steps old t (Ok reply) new → reply ≡ reply_to (parts_in old) t
reply_steps old new t reply none plays =
    plays.1 ∙ ap (λ (seen : Seen). reply_to seen.parts t) (none_played old.session none)

pub entries_kept : (kept : Bool) (entries more : List Entry) (e : Entry) → kept ≡ true → more ≡ entries_with kept e entries → more ≡ entries ++ e ∷ []
entries_kept kept entries more e is noted = noted ∙ ap (λ b. entries_with b e entries) is

-- ---- the journal by seats

pub noted_due : (old new : Logged) (journal : List SeatEntry) → PlaysDue old new → IsNoted old journal → IsNoted new journal
noted_due old new journal plays noted = record {
  kept = kept_due old new plays ∙ noted.kept;
  same = ap (λ (core : Logged). core.entries) plays.same ∙ noted.same;
  right = subst (λ c. IsRightBySeat c journal) (sym (config_due old new plays)) noted.right;
}

-- the parts that the journal makes are those of a session that stands for all its steps
pub parts_are_at : (core : Logged) (journal : List SeatEntry) → IsNoted core journal
    → StandsForAll (config_of core) (journal_turns core) core.session
    → parts_at (config_of core) journal ≡ parts_in core
unfolding parts_at
parts_are_at core journal noted stands =
    ap (λ es. parts_of (config_of core) (steps (config_of core) (turns_of es))) (sym noted.same) ∙ sym stands.stands.parts

plain_more : (journal : List SeatEntry) (e : SeatEntry) → plain (journal ++ e ∷ []) ≡ plain journal ++ plain_entry e ∷ []
plain_more [] e = refl
plain_more (x ∷ journal) e = ap (λ es. plain_entry x ∷ es) (plain_more journal e)

right_after : (core : Logged) (journal : List SeatEntry) (seat : ℕ) (t : Turn) → IsNoted core journal
    → StandsForAll (config_of core) (journal_turns core) core.session → is_valid_turn (parts_in core) t ≡ true
    → IsRightBySeat (config_of core) (journal ++ entry seat t (reply_to (parts_in core) t) ∷ [])
unfolding IsRightBySeat
right_after core journal seat t noted stands valid =
    let right : IsRight (config_of core) core.entries = subst (IsRight (config_of core)) (sym noted.same) noted.right in
    let more = right_more (config_of core) core.entries t (parts_in core) right (sym stands.stands.parts) valid in
    subst (IsRight (config_of core))
    (ap (λ es. es ++ entry_of (parts_in core) t ∷ []) noted.same ∙ sym (plain_more journal (entry seat t (reply_to (parts_in core) t)))) more

-- a turn that may come was played and noted
pub noted_more : (old new : Logged) (journal more : List SeatEntry) (seat : ℕ) (t : Turn) (reply : StepReply) → IsNoted old journal
    → StandsForAll (config_of old) (journal_turns old) old.session → is_valid_turn (parts_in old) t ≡ true
    → reply ≡ reply_to (parts_in old) t → more ≡ journal ++ entry seat t reply ∷ []
    → new.entries ≡ old.entries ++ plain_entry (entry seat t reply) ∷ []
    → new.is_kept ≡ old.is_kept → config_of new ≡ config_of old → IsNoted new more
noted_more old new journal more seat t reply noted stands valid replied more_is entries kept config = record {
  kept = kept ∙ noted.kept;
  same = entries
      ∙ (ap (λ es. es ++ plain_entry (entry seat t reply) ∷ []) noted.same
      ∙ (sym (plain_more journal (entry seat t reply)) ∙ ap plain (sym more_is)));
  right = subst (λ c. IsRightBySeat c more) (sym config)
      (subst (IsRightBySeat (config_of old)) (sym more_is)
      (subst (λ r. IsRightBySeat (config_of old) (journal ++ entry seat t r ∷ [])) (sym replied)
      (right_after old journal seat t noted stands valid)));
}

-- nothing of the journal changed
pub noted_same : (old new : Logged) (journal more : List SeatEntry) → IsNoted old journal → more ≡ journal → new.entries ≡ old.entries
    → new.is_kept ≡ old.is_kept → config_of new ≡ config_of old → IsNoted new more
noted_same old new journal more noted same entries kept config = record {
  kept = kept ∙ noted.kept;
  same = entries ∙ (noted.same ∙ ap plain (sym same));
  right = subst (λ c. IsRightBySeat c more) (sym config) (subst (IsRightBySeat (config_of old)) (sym same) noted.right);
}

-- the same of the parts that the journal makes
pub may_come_is : (core : Logged) (journal : List SeatEntry) (t : Turn) (valid : Bool) → IsNoted core journal
    → StandsForAll (config_of core) (journal_turns core) core.session → is_valid_turn (parts_in core) t ≡ valid
    → may_come (config_of core) journal t ≡ valid
unfolding may_come
may_come_is core journal t valid noted stands is = ap (λ p. is_valid_turn p t) (parts_are_at core journal noted stands) ∙ is

pub reply_at_is : (core : Logged) (journal : List SeatEntry) (t : Turn) (reply : StepReply) → IsNoted core journal
    → StandsForAll (config_of core) (journal_turns core) core.session → reply ≡ reply_to (parts_in core) t
    → reply ≡ reply_at (config_of core) journal t
unfolding reply_at
reply_at_is core journal t reply noted stands is = is ∙ ap (λ p. reply_to p t) (sym (parts_are_at core journal noted stands))
