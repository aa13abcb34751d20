-- A turn on a core, and what its journal comes to.
use Rattle.std.proofs.Common.{◌≡◌, Bool, true, false, List, [], ◌∷◌, ◌++◌, None, Result, Ok, Err, IsErr, IfOk, ℕ, ◌+◌, refl, sym, ◌∙◌, ap, subst, arith}
use Rattle.std.proofs.lemmas.Bool.{false≢true}
use Rattle.nats_history.specs.declared.config.Config.{Config}
use Rattle.nats_history.specs.declared.turn.Turn.{Turn}
use Rattle.nats_history.specs.Parts.{parts_of}
use Rattle.nats_history.specs.Schedule.{is_valid_turn, own_steps, due, steps}
use Rattle.nats_history.specs.After.{due_steps}
use Rattle.nats_session.specs.Handler.{Seen}
use Rattle.nats_core.specs.declared.answers.StepError.{StepError}
use Rattle.nats_core.specs.declared.answers.StepError.TheVariants.{OutOfTurn, LinkGone, NoMemory as Wanting}
use Rattle.nats_core.specs.declared.entry.Entry.{Entry}
use Rattle.nats_core.specs.declared.entry.StepReply.{StepReply}
use Rattle.nats_core.specs.Journal.{Logged, config_of, journal_turns, turns_of, entries_with, StandsForAll, caught_up, played}
use Rattle.nats_core.specs.Calls.{parts_in, PlaysDue, Steps}
use Rattle.nats_core.proofs.Cores.{none_caught_up}
use Rattle.nats_core.proofs.Dues.{config_all, config_rounds, none_played}
use Rattle.nats_names.specs.declared.failed.NoMemory.{NoMemory}
use Rattle.nats_history.specs.declared.turn.Turn.TheVariants as turns
use Rattle.nats_moves.specs.Mesh.{Member}
use Rattle.nats_mesh.specs.Cores.{Keeps, PlaysTurn, TellsPlayed}
use Rattle.nats_mesh.specs.Clients.{member_of, Stepped}

keeps_on : (old mid new : Logged) → Keeps old mid → Keeps mid new → Keeps old new
keeps_on old mid new first second = (second.0 ∙ first.0, second.1 ∙ first.1)

pub due_keeps : (old new : Logged) → PlaysDue old new → Keeps old new
due_keeps old new plays =
    (ap (λ (x : Logged). x.is_kept) plays.same, ap config_of plays.same ∙ config_rounds plays.rounds old.session)

caught_keeps : (old new : Logged) → new ≡ caught_up old → Keeps old new
caught_keeps old new is = (ap (λ (x : Logged). x.is_kept) is, ap config_of is ∙ config_all old.session (due_steps old.session.parts))

played_keeps : (core : Logged) (t : Turn) → Keeps core (played t core)
played_keeps core t = (refl, config_all core.session (own_steps core.session.parts t))

steps_keep : (old new : Logged) (t : Turn) (r : Result StepReply StepError) → Steps old t r new → Keeps old new
steps_keep old new t (Ok reply) is =
    keeps_on old (caught_up old) new (caught_keeps old (caught_up old) refl)
    (keeps_on (caught_up old) (played t (caught_up old)) new (played_keeps (caught_up old) t) (due_keeps (played t (caught_up old)) new is.2))
steps_keep old new t (Err OutOfTurn) is = caught_keeps old new is.1
steps_keep old new t (Err (LinkGone current)) is = absurd is
steps_keep old new t (Err Wanting) is = due_keeps old new is.0

pub both_keep : (old mid new : Logged) (t : Turn) (r : Result StepReply StepError) → PlaysDue old mid → Steps mid t r new → Keeps old new
both_keep old mid new t r due is = keeps_on old mid new (due_keeps old mid due) (steps_keep mid new t r is)

-- ---- a turn

-- once no step is due a session stands for all steps of its turns
abbrev pub IsWhole : Logged → Type 0
IsWhole core = core.is_kept ≡ true → due (parts_in core) ≡ None → StandsForAll (config_of core) (journal_turns core) core.session

parts_now : (old mid : Logged) → mid ≡ caught_up old → IsWhole mid → old.is_kept ≡ true
    → parts_in (caught_up mid) ≡ parts_of (config_of old) (steps (config_of old) (journal_turns old))
parts_now old mid is whole kept =
    let none = none_caught_up old mid is in
    let keeps = caught_keeps old mid is in
    let stands = whole (keeps.0 ∙ kept) none in
    ap (λ (s : Seen). s.parts) (none_played mid.session none) ∙ stands.stands.parts
    ∙ ap (λ c. parts_of c (steps c (journal_turns mid))) keeps.1
    ∙ ap (λ ts. parts_of (config_of old) (steps (config_of old) ts)) (ap journal_turns is)

turns_more : (journal : List Entry) (e : Entry) → turns_of (journal ++ e ∷ []) ≡ turns_of journal ++ e.turn ∷ []
turns_more [] e = refl
turns_more (x ∷ journal) e = ap (λ ts. x.turn ∷ ts) (turns_more journal e)

plays_ok : (old mid new : Logged) (t : Turn) (reply : StepReply) → PlaysDue old mid → mid ≡ caught_up old → IsWhole mid
    → Steps mid t (Ok reply) new → new.entries ≡ entries_with mid.is_kept (record { turn = t; reply = reply }) mid.entries
    → PlaysTurn old t (Ok true) new
plays_ok old mid new t reply due is whole plays noted = (
  both_keep old mid new t (Ok reply) due plays,
  λ kept. (
    ap (λ p. is_valid_turn p t) (sym (parts_now old mid is whole kept)) ∙ plays.0,
    ap turns_of (noted
        ∙ ap (λ k. entries_with k (record { turn = t; reply = reply }) mid.entries) (ap (λ (x : Logged). x.is_kept) is ∙ kept)
        ∙ ap (λ es. es ++ record { turn = t; reply = reply } ∷ []) (ap (λ (x : Logged). x.entries) is))
        ∙ turns_more old.entries (record { turn = t; reply = reply }),
  ),
)

wanting : (old new : Logged) (t : Turn) (r : Result Bool NoMemory) → IsErr r → Keeps old new → PlaysTurn old t r new
wanting old new t (Ok done) is keeps = absurd (false≢true is)
wanting old new t (Err e) is keeps = (keeps, tt)

pub plays_by : (old mid new : Logged) (t : Turn) (step : Result StepReply StepError) (r : Result Bool NoMemory) → PlaysDue old mid
    → mid ≡ caught_up old → IsWhole mid → Steps mid t step new
    → IfOk step (λ reply. new.entries ≡ entries_with mid.is_kept (record { turn = t; reply = reply }) mid.entries)
    → TellsPlayed step r → PlaysTurn old t r new
plays_by old mid new t (Ok reply) r due is whole plays noted told =
    subst (λ x. PlaysTurn old t x new) (sym told) (plays_ok old mid new t reply due is whole plays noted)
plays_by old mid new t (Err OutOfTurn) r due is whole plays noted told =
    subst (λ x. PlaysTurn old t x new) (sym told) (
      both_keep old mid new t (Err OutOfTurn) due plays,
      λ kept. (
        ap (λ p. is_valid_turn p t) (sym (parts_now old mid is whole kept)) ∙ plays.0,
        ap journal_turns plays.1 ∙ ap journal_turns is,
      ),
    )
plays_by old mid new t (Err (LinkGone current)) r due is whole plays noted told = absurd plays
plays_by old mid new t (Err Wanting) r due is whole plays noted told = wanting old new t r told (both_keep old mid new t (Err Wanting) due plays)

pub plays_wanting : (old mid : Logged) (t : Turn) (r : Result Bool NoMemory) → IsErr r → PlaysDue old mid → PlaysTurn old t r mid
plays_wanting old mid t r is due = wanting old mid t r is (due_keeps old mid due)

-- ---- a client

abbrev member : Config → List Turn → ℕ → Member
member c turns brought = record { config = c; turns = turns; brought = brought }

same_member : (c d : Config) (turns others : List Turn) (n m : ℕ) → c ≡ d → turns ≡ others → n ≡ m
    → member c turns n ≡ member d others m
same_member c d turns others n m one two three =
    ap (λ k. member k turns n) one ∙ ap (λ ts. member d ts n) two ∙ ap (λ k. member d others k) three

pub stepped : (old new : Logged) (brought : ℕ) (t : Turn) (r : Result Bool NoMemory) → old.is_kept ≡ true → PlaysTurn old t r new
    → Stepped (member_of old brought) t r (member_of new brought)
stepped old new brought t (Ok true) kept plays =
    let played = plays.1 kept in
    let none : brought ≡ brought + 0 = omega arith in (
      played.0,
      same_member (config_of new) (config_of old) (journal_turns new) (journal_turns old ++ t ∷ []) brought (brought + 0) plays.0.1 played.1 none,
    )
stepped old new brought t (Ok false) kept plays =
    let played = plays.1 kept in
    (played.0, same_member (config_of new) (config_of old) (journal_turns new) (journal_turns old) brought brought plays.0.1 played.1 refl)
stepped old new brought t (Err e) kept plays = tt

-- ---- a client as it is seen

-- ---- the transcript
