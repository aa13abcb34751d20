-- What a call of a service comes to, by what its parts came to.
use Rattle.std.specs.Borrow.{Bor}
use Rattle.std.specs.Fn.{Mut, CalledAt}
use Rattle.std.specs.Prelude.{IsErr}
use Rattle.std.proofs.Common.{◌≡◌, ℕ, Bool, true, false, cond, List, Option, Some, None, is_some, Result, Ok, Err, refl, sym, ◌∙◌, ap, subst}
use Rattle.std.proofs.lemmas.Bool.{false≢true}
use Rattle.std.proofs.lemmas.Option.{same_Some}
use Rattle.nats_names.specs.declared.failed.NoMemory.{NoMemory}
use Rattle.nats_message.specs.declared.message.Message.{Message}
use Rattle.nats_history.specs.declared.call.CallReply.{CallReply}
use Rattle.nats_history.specs.declared.turn.Turn.TheVariants as turns
use Rattle.nats_core.specs.declared.answers.StepError.TheVariants as refused
use Rattle.nats_core.specs.Journal.{Logged}
use Rattle.nats_core.specs.Calls.{PlaysDue, Steps, Submits}
use Rattle.nats_rpc.specs.declared.answering.Kept.{Kept}
use Rattle.nats_rpc.specs.declared.answering.Served.{Served}
use Rattle.nats_rpc.specs.declared.answering.Asking.{Asking}
use Rattle.nats_rpc.specs.declared.answering.Asking.TheVariants as asking
use Rattle.nats_rpc.specs.Serving.{Serving, serving_of, TakesIn, publish_of, served_by, is_done, kept_after, event_of, SendsAnswer, submits, wants, ServesAs, again, answers, tells, untaken, Serves, SendsOne, SendsKept}

none_kept : (o : Option Kept) → is_some o ≡ false → o ≡ None
none_kept None e = refl
none_kept (Some k) e = absurd (false≢true (sym e))

-- what is told of a publish that was submitted
abbrev pub Told : Kept → Logged → Served → Bool → Logged → Type 0
Told kept old told done new =
    (reply : CallReply) × Submits old (publish_of kept) (Ok reply) new × (told ≡ served_by reply)
    × (done ≡ is_done reply)

sent_one : {F : Type 0} (kept : Kept) (service service' : Serving F) (old new : Logged) (told : Served) (done : Bool)
    → Told kept old told done new → service'.kept ≡ cond done None (Some kept) → service'.number ≡ service.number
    → service'.answer ≡ service.answer → SendsOne kept service old (Ok told) service' new
sent_one kept service service' old new told done by left number answer = record {
  told = Some (kept, by.0);
  sends = submits by.0 refl by.1 (ap Ok by.2) (left ∙ ap (λ (d : Bool). cond d None (Some kept)) by.3);
  number = number;
  answer = answer;
}

-- the answer that is kept was submitted, and is kept on
pub sends_still : {F : Type 0} (number : ℕ) (was : Option Kept) (answer : F) (service : Serving F) (kept : Kept)
    (old new : Logged) (told : Served) (done : Bool) → serving_of number was answer ≡ service → was ≡ Some kept
    → Told kept old told done new → done ≡ false → SendsKept service old (Ok told) service new
sends_still number was answer service kept old new told done view is by no_end =
    let kept_so : service.kept ≡ Some kept = ap (λ (s : Serving _). s.kept) (sym view) ∙ is in
    record {
      kept = kept;
      was = kept_so;
      one = sent_one kept service service old new told done by
          (kept_so ∙ sym (ap (λ (d : Bool). cond d None (Some kept)) no_end)) refl refl;
    }

-- or it is done with
pub sends_done : {F : Type 0} (number : ℕ) (was left : Option Kept) (answer : F) (service : Serving F) (kept : Kept)
    (old new : Logged) (told : Served) (done : Bool) → serving_of number was answer ≡ service → was ≡ Some kept
    → Told kept old told done new → done ≡ true → left ≡ None
    → SendsKept service old (Ok told) (serving_of number left answer) new
sends_done number was left answer service kept old new told done view is by end none =
    subst (λ s. SendsKept s old (Ok told) (serving_of number left answer) new) view (record {
      kept = kept;
      was = is;
      one = sent_one kept (serving_of number was answer) (serving_of number left answer) old new told done by
          (none ∙ sym (ap (λ (d : Bool). cond d None (Some kept)) end)) refl refl;
    })

-- memory was wanting for it
pub sends_not : {F : Type 0} (number : ℕ) (was : Option Kept) (answer : F) (service : Serving F) (kept : Kept)
    (old new : Logged) (result : Result Served NoMemory) → serving_of number was answer ≡ service → was ≡ Some kept
    → PlaysDue old new → IsErr result → SendsKept service old result service new
sends_not number was answer service kept old new result view is due err =
    let kept_so : service.kept ≡ Some kept = ap (λ (s : Serving _). s.kept) (sym view) ∙ is in
    record {
      kept = kept;
      was = kept_so;
      one = record { told = None; sends = wants refl due err kept_so; number = refl; answer = refl };
    }

-- an answer was kept first
pub sends_new : {F : Type 0} (kept : Kept) (service between service' : Serving F) (old new : Logged)
    (result : Result Served NoMemory) → between.kept ≡ Some kept → between.number ≡ service.number
    → between.answer ≡ service.answer → SendsKept between old result service' new
    → SendsOne kept service old result service' new
sends_new kept service between service' old new result is number answer sends =
    let same : sends.kept ≡ kept = same_Some sends.kept kept (sym sends.was ∙ is) in
    record {
      told = sends.one.told;
      sends = subst (λ k. SendsAnswer k old sends.one.told result new service'.kept) same sends.one.sends;
      number = sends.one.number ∙ number;
      answer = sends.one.answer ∙ answer;
    }

-- ---- one call

pub serves_again : {F V : Type 0} (g : Mut F (Bor Message × Unit {0}) V) (items : V → List ℕ)
    (service service' : Serving F) (old new : Logged) (result : Result Served NoMemory)
    → SendsKept service old result service' new → Serves g items service old result service' new
serves_again g items service service' old new result sends = record {
  event = event_of None sends.one.told;
  as' = again sends.kept sends.was refl sends.one.sends sends.one.number sends.one.answer;
}

pub serves_new : {F V : Type 0} (g : Mut F (Bor Message × Unit {0}) V) (items : V → List ℕ)
    (number : ℕ) (was : Option Kept) (answer answer' : F) (service between service' : Serving F) (kept : Kept)
    (old mid new : Logged) (result : Result Served NoMemory)
    → serving_of number was answer ≡ service → is_some was ≡ false
    → TakesIn g items number old answer (asking.Kept kept) mid answer' → serving_of number was answer' ≡ between
    → SendsOne kept between mid result service' new → Serves g items service old result service' new
serves_new g items number was answer answer' service between service' kept old mid new result view none taken then one =
    subst (λ s. Serves g items s old result service' new) view (record {
      event = event_of (Some kept) one.told;
      as' = answers kept mid (none_kept was none)
          (subst (λ f. TakesIn g items number old answer (asking.Kept kept) mid f)
          (ap (λ (s : Serving _). s.answer) then ∙ sym one.answer) taken)
          refl one.sends (one.number ∙ sym (ap (λ (s : Serving _). s.number) then));
    })

pub serves_told : {F V : Type 0} (g : Mut F (Bor Message × Unit {0}) V) (items : V → List ℕ)
    (number : ℕ) (was : Option Kept) (answer answer' : F) (service service' : Serving F) (told : Served)
    (old new : Logged) → serving_of number was answer ≡ service → is_some was ≡ false
    → TakesIn g items number old answer (asking.Told told) new answer' → serving_of number was answer' ≡ service'
    → Serves g items service old (Ok told) service' new
serves_told g items number was answer answer' service service' told old new view none taken then =
    subst (λ s. Serves g items s old (Ok told) service' new) view
    (subst (λ s. Serves g items (serving_of number was answer) old (Ok told) s new) then (record {
      event = event_of None None;
      as' = tells told (none_kept was none) taken refl refl refl (none_kept was none) refl;
    }))

pub serves_not : {F V : Type 0} (g : Mut F (Bor Message × Unit {0}) V) (items : V → List ℕ)
    (number : ℕ) (was : Option Kept) (answer answer' : F) (service service' : Serving F) (old new : Logged)
    (result : Result Served NoMemory) → serving_of number was answer ≡ service → is_some was ≡ false
    → Steps old (turns.Take number) (Err refused.NoMemory) new → answer' ≡ answer
    → serving_of number was answer' ≡ service' → IsErr result → Serves g items service old result service' new
serves_not g items number was answer answer' service service' old new result view none steps same then err =
    subst (λ s. Serves g items s old result service' new) view (record {
      event = event_of None None;
      as' = untaken (none_kept was none) steps refl refl err
          (sym then ∙ ap (λ f. serving_of number was f) same);
    })
