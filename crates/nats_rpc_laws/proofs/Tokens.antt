-- What token an attempt has, and that its reply has that.
use Rattle.std.proofs.Common.{◌≡◌, ℕ, zero, suc, ◌⊎◌, inl, inr, List, [], ◌∷◌, ◌++◌, Option, Some, None, Ok, Result, refl, sym, ◌∙◌, ap, subst, append_assoc}
use Rattle.std.proofs.lemmas.Option.{same_Some}
use Rattle.nats_names.specs.declared.failed.NoMemory.{NoMemory}
use Rattle.nats_message.specs.declared.message.Message.{Message}
use Rattle.nats_history.specs.declared.config.Config.{Config}
use Rattle.nats_history.specs.declared.call.Call.{Call}
use Rattle.nats_history.specs.declared.call.Call.TheVariants.{Request}
use Rattle.nats_history.specs.declared.call.CallReply.{CallReply}
use Rattle.nats_history.specs.declared.call.CallReply.TheVariants as replies
use Rattle.nats_history.specs.declared.turn.Turn.TheVariants as turns
use Rattle.nats_history.specs.History.{Step, accepted, History, inbox_of}
use Rattle.nats_history.specs.Schedule.{accepted_step, gone_step, refusal, call_reply, accepted_reply, due, due_chain, put_steps}
use Rattle.nats_history.specs.After.{due_steps}
use Rattle.nats_session.specs.Handler.{Seen, seen_all, HandedOut, StandsFor}
use Rattle.nats_session.proofs.Handlers.{leads}
use Rattle.nats_core.specs.Journal.{Logged, due_rounds, caught_up, played}
use Rattle.nats_core.specs.Calls.{parts_in, PlaysDue, Submits}
use Rattle.nats_ask_laws.specs.Settled.{WasReplied}
use Rattle.nats_ask_laws.specs.Given.{WasGiven, InOrder, reply_of}
use Rattle.nats_ask_laws.proofs.Given.{given_for_good, replied_as_given}
use Rattle.nats_rpc.specs.declared.outcome.Outcome.{Outcome}
use Rattle.nats_rpc.specs.declared.outcome.Outcome.TheVariants as outcomes
use Rattle.nats_rpc.specs.declared.asked.Attempt.{Attempt}
use Rattle.nats_rpc.specs.declared.asked.Stage.{Stage}
use Rattle.nats_rpc.specs.declared.asked.Stage.TheVariants as stages
use Rattle.nats_rpc.specs.declared.asked.Asked.{Asked}
use Rattle.nats_rpc.specs.declared.terms.Terms.{Terms}
use Rattle.nats_rpc.specs.Calls.{token_of, request_of, outcome_of, settled_as, rested, answered}
use Rattle.nats_rpc.specs.Polling.{Sends, Tries, spent, unnumbered, sent, unsent, Waits, settles, waits, over, unended, MovesFrom, Moves}
use Rattle.nats_rpc_laws.specs.Attempts.{IsLive}
use Rattle.nats_rpc_laws.specs.Tokens.{MadeBySending, SentIn, SentAs, SubjectOfAttempt}
use Rattle.nats_rpc_laws.proofs.Growing.{not_refused, number_by, same_number}

-- ---- histories that get longer

-- what is seen stands for a longer history
abbrev pub Longer : Config → HandedOut → History → Seen → Type 0
Longer c out h seen = (later : History) × StandsFor c out (later ++ h) seen

put_more : (place : ℕ) (steps : List Step) (h : History) → (later : History) × (put_steps place steps h ≡ later ++ h)
put_more place [] h = ([], refl)
put_more place (step ∷ steps) h = by (put_more place steps ((place, step) ∷ h))
  where
    by : (later : History) × (put_steps place steps ((place, step) ∷ h) ≡ later ++ (place, step) ∷ h)
        → (later : History) × (put_steps place steps ((place, step) ∷ h) ≡ later ++ h)
    by (later, is) = (later ++ (place, step) ∷ [], is ∙ sym (append_assoc later ((place, step) ∷ []) h))

longer : (c : Config) (out : HandedOut) (h : History) (old new : Seen) (steps : List Step) → new ≡ seen_all old steps
    → StandsFor c out h old → Longer c out h new
longer c out h old new steps is stands = by (put_more 0 steps h)
  where
    by : (later : History) × (put_steps 0 steps h ≡ later ++ h) → Longer c out h new
    by (later, so) =
        (later, subst (λ (l : History). StandsFor c out l new) so (leads old steps new is c out h 0 stands))

-- one stretch behind another
both : (c : Config) (out : HandedOut) (h : History) (mid new : Seen) → Longer c out h mid
    → ((l : History) → StandsFor c out l mid → Longer c out l new) → Longer c out h new
both c out h mid new (later, stands) on = by (on (later ++ h) stands)
  where
    by : Longer c out (later ++ h) new → Longer c out h new
    by (more, so) =
        (more ++ later, subst (λ (l : History). StandsFor c out l new) (sym (append_assoc more later h)) so)

rounds_on : (c : Config) (out : HandedOut) (rounds : ℕ) (h : History) (seen : Seen) → StandsFor c out h seen
    → Longer c out h (due_rounds rounds seen)
rounds_on c out zero h seen stands = ([], stands)
rounds_on c out (suc rounds) h seen stands =
    let mid = due_rounds rounds seen in
    both c out h mid (due_rounds (suc rounds) seen) (rounds_on c out rounds h seen stands)
    (λ l so. longer c out l mid (due_rounds (suc rounds) seen) (due_chain mid.parts (due mid.parts)) refl so)

-- ---- the request that was sent

-- it was accepted, and then due steps were played
given_there : (c : Config) (out : HandedOut) (h : History) (mid : Logged) (new : Logged) (subject payload token : List ℕ)
    (ticket : ℕ) → refusal (parts_in mid) (Request subject payload None token) ≡ None
    → ticket ≡ suc (parts_in mid).tickets.given
    → PlaysDue (played (turns.Do (Request subject payload None token)) mid) new → StandsFor c out h mid.session
    → (later : History) × StandsFor c out (later ++ h) new.session
    × WasGiven c ticket (Request subject payload None token) (later ++ h)
given_there c out h mid new subject payload token ticket free number plays stands =
    let call = Request subject payload None token in
    let seen = seen_all mid.session (accepted call ∷ []) in
    let one : StandsFor c out ((0, accepted call) ∷ h) seen =
    leads mid.session (accepted call ∷ []) seen refl c out h 0 stands in
    let same : (played (turns.Do call) mid).session ≡ seen =
    ap (λ (refused : Option CallReply). seen_all mid.session (accepted_step refused call ++ [])) free in
    by (rounds_on c out plays.rounds ((0, accepted call) ∷ h) seen one) same
  where
    by : Longer c out ((0, accepted (Request subject payload None token)) ∷ h)
        (due_rounds plays.rounds (seen_all mid.session (accepted (Request subject payload None token) ∷ [])))
        → (played (turns.Do (Request subject payload None token)) mid).session
        ≡ seen_all mid.session (accepted (Request subject payload None token) ∷ [])
        → (later : History) × StandsFor c out (later ++ h) new.session
        × WasGiven c ticket (Request subject payload None token) (later ++ h)
    by (more, so) same =
        let call = Request subject payload None token in
        let is : more ++ (0, accepted call) ∷ h ≡ (more ++ (0, accepted call) ∷ []) ++ h =
        sym (append_assoc more ((0, accepted call) ∷ []) h) in
        let session : new.session ≡ due_rounds plays.rounds (seen_all mid.session (accepted call ∷ [])) =
        ap (λ (core : Logged). core.session) plays.same ∙ ap (due_rounds plays.rounds) same in (
          more ++ (0, accepted call) ∷ [],
          subst (λ (l : History). StandsFor c out l new.session) is
              (subst (λ (s : Seen). StandsFor c out (more ++ (0, accepted call) ∷ h) s) (sym session) so),
          subst (λ (l : History). WasGiven c ticket call l) is
              (given_for_good c ((0, accepted call) ∷ h) more ticket call
              (inl (refl, refl, number ∙ ap suc (ap (λ t. t.given) (ap (λ p. p.tickets) stands.parts))))),
        )

resting_live : (attempt : Attempt) → stages.Resting ≡ stages.Live attempt → ⊥
resting_live attempt is = let no : ⊥ = cc in no

settled_live : (attempt : Attempt) (outcome : Outcome) → stages.Settled outcome ≡ stages.Live attempt → ⊥
settled_live attempt outcome is = let no : ⊥ = cc in no

-- an attempt waits only behind a number
live_reply : (now : ℕ) (asked : Asked) (attempt : Attempt) (reply : CallReply) → asked.stage ≡ stages.Resting
    → (answered now reply asked).stage ≡ stages.Live attempt → reply ≡ replies.Numbered attempt.ticket
live_reply now asked attempt (replies.Numbered ticket) rests live = ap replies.Numbered (same_ticket live)
  where
    same_ticket : stages.Live (record { ticket = ticket; start = now }) ≡ stages.Live attempt → ticket ≡ attempt.ticket
    same_ticket e = cc
live_reply now asked attempt replies.Full rests live =
    let no : stages.Resting ≡ stages.Live attempt = sym rests ∙ live in absurd (resting_live attempt no)
live_reply now asked attempt replies.Accepted rests live = absurd (settled_live attempt (outcomes.Refused replies.Accepted) live)
live_reply now asked attempt replies.Flushed rests live = absurd (settled_live attempt (outcomes.Refused replies.Flushed) live)
live_reply now asked attempt (replies.Replied m) rests live = absurd (settled_live attempt (outcomes.Refused (replies.Replied m)) live)
live_reply now asked attempt replies.InvalidSubject rests live = absurd (settled_live attempt (outcomes.Refused replies.InvalidSubject) live)
live_reply now asked attempt replies.InvalidQueueName rests live = absurd (settled_live attempt (outcomes.Refused replies.InvalidQueueName) live)
live_reply now asked attempt (replies.MaxPayloadExceeded limit size) rests live = absurd (settled_live attempt (outcomes.Refused (replies.MaxPayloadExceeded limit size)) live)
live_reply now asked attempt replies.Closed rests live = absurd (settled_live attempt (outcomes.Refused replies.Closed) live)
live_reply now asked attempt replies.NoNumber rests live = absurd (settled_live attempt (outcomes.Refused replies.NoNumber) live)
live_reply now asked attempt replies.FlushFailed rests live = absurd (settled_live attempt (outcomes.Refused replies.FlushFailed) live)
live_reply now asked attempt replies.NoResponders rests live = absurd (settled_live attempt (outcomes.Refused replies.NoResponders) live)
live_reply now asked attempt replies.TimedOut rests live = absurd (settled_live attempt (outcomes.Refused replies.TimedOut) live)
live_reply now asked attempt replies.Dropped rests live = absurd (settled_live attempt (outcomes.Refused replies.Dropped) live)

-- a request that was numbered was given that ticket
numbered_there : (c : Config) (out : HandedOut) (h : History) (old new : Logged) (subject payload token : List ℕ)
    (ticket : ℕ) → Submits old (Request subject payload None token) (Ok (replies.Numbered ticket)) new
    → StandsFor c out h old.session
    → (later : History) × StandsFor c out (later ++ h) new.session
    × WasGiven c ticket (Request subject payload None token) (later ++ h)
numbered_there c out h old new subject payload token ticket submits stands =
    let call = Request subject payload None token in
    let mid = caught_up old in
    let numbered = number_by (refusal (parts_in mid) call) (replies.Numbered (suc (parts_in mid).tickets.given)) ticket
    (not_refused (parts_in mid) call ticket) (sym submits.0) in
    by (longer c out h old.session mid.session (due_steps old.session.parts) refl stands) numbered.0
    (sym (same_number (suc (parts_in mid).tickets.given) ticket numbered.1))
  where
    on : (later : History) → (more : History) × StandsFor c out (more ++ (later ++ h)) new.session
        × WasGiven c ticket (Request subject payload None token) (more ++ (later ++ h))
        → (l : History) × StandsFor c out (l ++ h) new.session
        × WasGiven c ticket (Request subject payload None token) (l ++ h)
    on later (more, so, given) = (
      more ++ later,
      subst (λ (l : History). StandsFor c out l new.session) (sym (append_assoc more later h)) so,
      subst (λ (l : History). WasGiven c ticket (Request subject payload None token) l)
          (sym (append_assoc more later h)) given,
    )

    by : Longer c out h (caught_up old).session
        → refusal (parts_in (caught_up old)) (Request subject payload None token) ≡ None
        → ticket ≡ suc (parts_in (caught_up old)).tickets.given
        → (later : History) × StandsFor c out (later ++ h) new.session
        × WasGiven c ticket (Request subject payload None token) (later ++ h)
    by (later, so) free number =
        on later (given_there c out (later ++ h) (caught_up old) new subject payload token ticket free number submits.1 so)

pub sent_as : SentAs
sent_as terms now numbers asked old numbers' asked' new attempt c out h rests sends live stands =
    let is = live_reply now asked attempt sends.reply rests (sym (ap (λ (a : Asked). a.stage) sends.call) ∙ live) in
    numbered_there c out h old new asked.subject asked.payload (token_of terms.name (suc numbers)) attempt.ticket
    (subst (λ (reply : CallReply). Submits old (request_of terms (suc numbers) asked) (Ok reply) new) is sends.submits)
    stands

pub subject_of_attempt : SubjectOfAttempt
subject_of_attempt terms now numbers asked old numbers' asked' new attempt c out h rests sends live stands =
    by (sent_as terms now numbers asked old numbers' asked' new attempt c out h rests sends live stands)
  where
    by : SentIn terms (suc numbers) asked attempt.ticket new c out h
        → (later : History) × StandsFor c out (later ++ h) new.session
        × ((more : History) (m : Message) → InOrder (more ++ (later ++ h))
        → WasReplied c attempt.ticket m (more ++ (later ++ h))
        → m.subject ≡ inbox_of c (token_of terms.name (suc numbers)))
    by (later, so, given) = (
      later,
      so,
      λ more m order replied.
          sym (same_Some (inbox_of c (token_of terms.name (suc numbers))) m.subject
          (replied_as_given c (more ++ (later ++ h)) attempt.ticket (request_of terms (suc numbers) asked) m order
          (given_for_good c (later ++ h) more attempt.ticket (request_of terms (suc numbers) asked) given) replied)),
    )

-- ---- which attempts are sent

rested_same : (asked : Asked) → asked.stage ≡ stages.Resting → asked ≡ rested asked
rested_same asked is = ap (λ (stage : Stage). record asked { stage = stage }) is

stage_of : (asked asked' : Asked) (attempt : Attempt) → asked' ≡ asked → IsLive attempt asked' → IsLive attempt asked
stage_of asked asked' attempt is live = sym (ap (λ (a : Asked). a.stage) is) ∙ live

tried_sends : (terms : Terms) (now numbers : ℕ) (asked : Asked) (old : Logged) (r : Result (Unit {0}) NoMemory)
    (numbers' : ℕ) (asked' : Asked) (new : Logged) (attempt : Attempt) → asked.stage ≡ stages.Resting
    → Tries terms now numbers asked old r numbers' asked' new → IsLive attempt asked'
    → (mid : Logged) × Sends terms now numbers asked mid numbers' asked' new
tried_sends terms now numbers asked old r numbers' asked' new attempt rests (spent none ok is used same) live =
    absurd (settled_live attempt outcomes.TimedOut (stage_of (settled_as outcomes.TimedOut asked) asked' attempt is live))
tried_sends terms now numbers asked old r numbers' asked' new attempt rests (unnumbered some last ok is used same) live =
    absurd (settled_live attempt (outcomes.Refused replies.NoNumber)
    (stage_of (settled_as (outcomes.Refused replies.NoNumber) asked) asked' attempt is live))
tried_sends terms now numbers asked old r numbers' asked' new attempt rests (sent some below ok sends) live = (old, sends)
tried_sends terms now numbers asked old r numbers' asked' new attempt rests (unsent some below err is used plays) live =
    absurd (resting_live attempt (sym rests ∙ stage_of asked asked' attempt is live))

waited_sends : (terms : Terms) (now : ℕ) (one : Attempt) (numbers : ℕ) (asked : Asked) (old : Logged)
    (r : Result (Unit {0}) NoMemory) (numbers' : ℕ) (asked' : Asked) (new : Logged) (attempt : Attempt)
    → Waits terms now one numbers asked old r numbers' asked' new → IsLive attempt asked'
    → IsLive attempt asked ⊎ ((mid : Logged) × Sends terms now numbers (rested asked) mid numbers' asked' new)
waited_sends terms now one numbers asked old r numbers' asked' new attempt (settles reply ready ok is used taken) live =
    absurd (settled_live attempt (outcome_of reply)
    (stage_of (settled_as (outcome_of reply) asked) asked' attempt is live))
waited_sends terms now one numbers asked old r numbers' asked' new attempt (waits ready early ok is used same) live =
    inl (stage_of asked asked' attempt is live)
waited_sends terms now one numbers asked old r numbers' asked' new attempt (over ready late mid expires tries) live =
    inr (tried_sends terms now numbers (rested asked) mid r numbers' asked' new attempt refl tries live)
waited_sends terms now one numbers asked old r numbers' asked' new attempt (unended ready late err is used steps) live =
    inl (stage_of asked asked' attempt is live)

pub made_by_sending : MadeBySending
made_by_sending terms now numbers asked old r numbers' asked' new attempt moves live = by asked.stage refl moves
  where
    by : (stage : Stage) → asked.stage ≡ stage → MovesFrom stage terms now numbers asked old r numbers' asked' new
        → IsLive attempt asked ⊎ ((mid : Logged) × Sends terms now numbers (rested asked) mid numbers' asked' new)
    by (stages.Settled outcome) is moved = inl (stage_of asked asked' attempt moved.1 live)
    by (stages.Live one) is moved = waited_sends terms now one numbers asked old r numbers' asked' new attempt moved live
    by stages.Resting is moved =
        inr (subst (λ (a : Asked). (mid : Logged) × Sends terms now numbers a mid numbers' asked' new)
        (rested_same asked is) (tried_sends terms now numbers asked old r numbers' asked' new attempt is moved live))
