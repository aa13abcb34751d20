-- What settles a call.
use Rattle.std.proofs.Common.{◌≡◌, ℕ, Bool, true, false, cond, ◌⊎◌, inl, inr, Option, Some, None, Result, refl, sym, ◌∙◌, ap, subst}
use Rattle.std.proofs.lemmas.Option.{none-some, same_Some}
use Rattle.nats_names.specs.declared.failed.NoMemory.{NoMemory}
use Rattle.nats_message.specs.declared.message.Message.{Message}
use Rattle.nats_history.specs.declared.config.Config.{Config}
use Rattle.nats_history.specs.declared.call.CallReply.{CallReply}
use Rattle.nats_history.specs.declared.call.CallReply.TheVariants as replies
use Rattle.nats_history.specs.History.{History}
use Rattle.nats_tickets.specs.Kept.{reply_in}
use Rattle.nats_session.specs.Handler.{HandedOut, settled_tickets, StandsFor}
use Rattle.nats_core.specs.Journal.{Logged}
use Rattle.nats_ask_laws.specs.Settled.{WasReplied}
use Rattle.nats_ask_laws.proofs.Settling.{first_reply, held_reply}
use Rattle.nats_rpc.specs.declared.outcome.Outcome.{Outcome}
use Rattle.nats_rpc.specs.declared.outcome.Outcome.TheVariants as outcomes
use Rattle.nats_rpc.specs.declared.asked.Attempt.{Attempt}
use Rattle.nats_rpc.specs.declared.asked.Stage.{Stage}
use Rattle.nats_rpc.specs.declared.asked.Stage.TheVariants as stages
use Rattle.nats_rpc.specs.declared.asked.Asked.{Asked}
use Rattle.nats_rpc.specs.declared.terms.Terms.{Terms}
use Rattle.nats_rpc.specs.Calls.{outcome_of, rested, answered}
use Rattle.nats_rpc.specs.Polling.{Sends, Tries, spent, unnumbered, sent, unsent, Waits, settles, waits, over, unended, MovesFrom}
use Rattle.nats_rpc_laws.specs.Attempts.{IsReplied, IsLive, RepliedSo, RepliedOnlySo, RepliedWhere, RepliedStays}

abbrev replied_stage : Message → Stage
replied_stage m = stages.Settled (outcomes.Replied m)

-- ---- a next attempt replies nothing

not_answered : (now : ℕ) (reply : CallReply) (asked : Asked) (m : Message) → (IsReplied m asked → ⊥)
    → IsReplied m (answered now reply asked) → ⊥
not_answered now (replies.Numbered ticket) asked m none is = let no : ⊥ = cc in no
not_answered now replies.Full asked m none is = none is
not_answered now reply asked m none is = let no : ⊥ = cc in no

pub not_tried : (terms : Terms) (now numbers : ℕ) (asked : Asked) (old : Logged) (r : Result (Unit {0}) NoMemory)
    (numbers' : ℕ) (asked' : Asked) (new : Logged) (m : Message)
    → Tries terms now numbers asked old r numbers' asked' new → (IsReplied m asked → ⊥) → IsReplied m asked' → ⊥
not_tried terms now numbers asked old r numbers' asked' new m (spent left ok same used still) none is =
    let timed : stages.Settled outcomes.TimedOut ≡ replied_stage m = ap (λ (a : Asked). a.stage) (sym same) ∙ is in
    let no : ⊥ = cc in no
not_tried terms now numbers asked old r numbers' asked' new m (unnumbered left last ok same used still) none is =
    let refused : stages.Settled (outcomes.Refused replies.NoNumber) ≡ replied_stage m = ap (λ (a : Asked). a.stage)
    (sym same) ∙ is in
    let no : ⊥ = cc in no
not_tried terms now numbers asked old r numbers' asked' new m (sent left some ok sends) none is =
    not_answered now sends.reply asked m none (ap (λ (a : Asked). a.stage) (sym sends.call) ∙ is)
not_tried terms now numbers asked old r numbers' asked' new m (unsent left some err same used due) none is =
    none (ap (λ (a : Asked). a.stage) (sym same) ∙ is)

pub not_resting : (m : Message) → stages.Resting ≡ replied_stage m → ⊥
not_resting m e = let no : ⊥ = cc in no

pub not_live : (attempt : Attempt) (m : Message) → stages.Live attempt ≡ replied_stage m → ⊥
not_live attempt m e = let no : ⊥ = cc in no

-- ---- an attempt that waits

reply_of_outcome : (reply : CallReply) (m : Message) → outcome_of reply ≡ outcomes.Replied m → reply ≡ replies.Replied m
reply_of_outcome (replies.Replied came) m e = let same : came ≡ m = cc in ap replies.Replied same
reply_of_outcome replies.NoResponders m e = absurd (let no : ⊥ = cc in no)
reply_of_outcome reply m e = absurd (let no : ⊥ = cc in no)

settled_outcome : (o : Outcome) (m : Message) → stages.Settled o ≡ replied_stage m → o ≡ outcomes.Replied m
settled_outcome o m e = cc

waits_reply : (terms : Terms) (now : ℕ) (attempt : Attempt) (numbers : ℕ) (asked : Asked) (old : Logged)
    (r : Result (Unit {0}) NoMemory) (numbers' : ℕ) (asked' : Asked) (new : Logged) (m : Message)
    → Waits terms now attempt numbers asked old r numbers' asked' new → (IsReplied m asked → ⊥) → IsReplied m asked'
    → reply_in attempt.ticket old.session.ready ≡ Some (replies.Replied m)
waits_reply terms now attempt numbers asked old r numbers' asked' new m (settles reply there ok same used taken) none
    is =
    there ∙ ap Some (reply_of_outcome reply m
    (settled_outcome (outcome_of reply) m (ap (λ (a : Asked). a.stage) (sym same) ∙ is)))
waits_reply terms now attempt numbers asked old r numbers' asked' new m (waits none_there early ok same used still)
    none is =
    absurd (none (ap (λ (a : Asked). a.stage) (sym same) ∙ is))
waits_reply terms now attempt numbers asked old r numbers' asked' new m (over none_there late mid expires tries) none
    is =
    absurd (not_tried terms now numbers (rested asked) mid r numbers' asked' new m tries (not_resting m) is)
waits_reply terms now attempt numbers asked old r numbers' asked' new m (unended none_there late err same used steps)
    none is =
    absurd (none (ap (λ (a : Asked). a.stage) (sym same) ∙ is))

waits_settles : (terms : Terms) (now : ℕ) (attempt : Attempt) (numbers : ℕ) (asked : Asked) (old : Logged)
    (r : Result (Unit {0}) NoMemory) (numbers' : ℕ) (asked' : Asked) (new : Logged) (m : Message)
    → Waits terms now attempt numbers asked old r numbers' asked' new
    → reply_in attempt.ticket old.session.ready ≡ Some (replies.Replied m) → IsReplied m asked'
waits_settles terms now attempt numbers asked old r numbers' asked' new m (settles reply there ok same used taken) is =
    ap (λ (a : Asked). a.stage) same
    ∙ ap (λ x. stages.Settled (outcome_of x)) (same_Some reply (replies.Replied m) (sym there ∙ is))
waits_settles terms now attempt numbers asked old r numbers' asked' new m (waits none_there early ok same used still)
    is =
    absurd (none-some (replies.Replied m) (sym none_there ∙ is))
waits_settles terms now attempt numbers asked old r numbers' asked' new m (over none_there late mid expires tries) is =
    absurd (none-some (replies.Replied m) (sym none_there ∙ is))
waits_settles terms now attempt numbers asked old r numbers' asked' new m
    (unended none_there late err same used steps) is =
    absurd (none-some (replies.Replied m) (sym none_there ∙ is))

-- ---- a call

moved_by : (stage : Stage) (terms : Terms) (now numbers : ℕ) (asked : Asked) (old : Logged)
    (r : Result (Unit {0}) NoMemory) (numbers' : ℕ) (asked' : Asked) (new : Logged)
    (c : Config) (out : HandedOut) (h : History) (m : Message) → asked.stage ≡ stage
    → MovesFrom stage terms now numbers asked old r numbers' asked' new → StandsFor c out h old.session
    → IsReplied m asked' → IsReplied m asked ⊎ RepliedSo c h m asked
moved_by (stages.Settled outcome) terms now numbers asked old r numbers' asked' new c out h m at moves stands is =
    inl (ap (λ (a : Asked). a.stage) (sym moves.1) ∙ is)
moved_by stages.Resting terms now numbers asked old r numbers' asked' new c out h m at moves stands is =
    absurd (not_tried terms now numbers asked old r numbers' asked' new m moves (λ e. not_resting m (sym at ∙ e)) is)
moved_by (stages.Live attempt) terms now numbers asked old r numbers' asked' new c out h m at moves stands is =
    let there = waits_reply terms now attempt numbers asked old r numbers' asked' new m moves
    (λ e. not_live attempt m (sym at ∙ e)) is in
    inr (record {
      attempt = attempt;
      live = at;
      first = first_reply c h attempt.ticket m ((held_reply c out h old.session attempt.ticket (replies.Replied m)
          stands).0 there);
    })

pub replied_only_so : RepliedOnlySo
replied_only_so terms now numbers asked old r numbers' asked' new c out h m moves stands is =
    moved_by asked.stage terms now numbers asked old r numbers' asked' new c out h m refl moves stands is

moved_where : (stage : Stage) (attempt : Attempt) (terms : Terms) (now numbers : ℕ) (asked : Asked) (old : Logged)
    (r : Result (Unit {0}) NoMemory) (numbers' : ℕ) (asked' : Asked) (new : Logged) (m : Message)
    → stage ≡ stages.Live attempt → MovesFrom stage terms now numbers asked old r numbers' asked' new
    → reply_in attempt.ticket old.session.ready ≡ Some (replies.Replied m) → IsReplied m asked'
moved_where (stages.Live here) attempt terms now numbers asked old r numbers' asked' new m at moves is =
    let same : attempt ≡ here = cc in
    waits_settles terms now here numbers asked old r numbers' asked' new m moves
    (subst (λ (a : Attempt). reply_in a.ticket old.session.ready ≡ Some (replies.Replied m)) same is)
moved_where stages.Resting attempt terms now numbers asked old r numbers' asked' new m at moves is = absurd
    (let no : ⊥ = cc in no)
moved_where (stages.Settled outcome) attempt terms now numbers asked old r numbers' asked' new m at moves is = absurd
    (let no : ⊥ = cc in no)

pub replied_where : RepliedWhere
replied_where terms now numbers asked old r numbers' asked' new c out h m attempt moves stands live none settled =
    moved_where asked.stage attempt terms now numbers asked old r numbers' asked' new m live moves
    ((held_reply c out h old.session attempt.ticket (replies.Replied m) stands).1 none settled)

moved_stays : (stage : Stage) (terms : Terms) (now numbers : ℕ) (asked : Asked) (old : Logged)
    (r : Result (Unit {0}) NoMemory) (numbers' : ℕ) (asked' : Asked) (new : Logged) (m : Message)
    → asked.stage ≡ stage → MovesFrom stage terms now numbers asked old r numbers' asked' new → IsReplied m asked
    → IsReplied m asked'
moved_stays (stages.Settled outcome) terms now numbers asked old r numbers' asked' new m at moves is =
    ap (λ (a : Asked). a.stage) moves.1 ∙ is
moved_stays stages.Resting terms now numbers asked old r numbers' asked' new m at moves is =
    absurd (not_resting m (sym at ∙ is))
moved_stays (stages.Live attempt) terms now numbers asked old r numbers' asked' new m at moves is =
    absurd (not_live attempt m (sym at ∙ is))

pub replied_stays : RepliedStays
replied_stays terms now numbers asked old r numbers' asked' new m moves is =
    moved_stays asked.stage terms now numbers asked old r numbers' asked' new m refl moves is
