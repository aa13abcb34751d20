-- Whole runs of a service: what it was asked, what it published.
use Rattle.std.specs.Prelude.{◌≡◌, ℕ, true, false, Bool, List, [], ◌∷◌, ◌++◌, Option, Some, None, Result, if◌then◌else◌}
use Rattle.std.specs.Borrow.{Bor}
use Rattle.std.specs.Fn.{Mut}
use Rattle.nats_names.specs.declared.failed.NoMemory.{NoMemory}
use Rattle.nats_message.specs.declared.message.Message.{Message}
use Rattle.nats_history.specs.declared.call.CallReply.{CallReply}
use Rattle.nats_history.specs.declared.call.CallReply.TheVariants as replies
use Rattle.nats_core.specs.Journal.{Logged}
use Rattle.nats_rpc.specs.declared.answering.Kept.{Kept}
use Rattle.nats_rpc.specs.declared.answering.Served.{Served}
use Rattle.nats_rpc.specs.Serving.{Serving, serving_of, is_done, Event, ServesAs}

-- a service as it can come to be, and what its calls did so far, the latest first: it is opened, and serves over any
-- core as that stands at each call
pub data ServiceRun {F V : Type 0} (g : Mut F (Bor Message × Unit {0}) V) (items : V → List ℕ)
    : List Event → Serving F → Type 0 where
  opens : (number : ℕ) (answer : F) → ServiceRun g items [] (serving_of number None answer)
  serves : (events : List Event) (event : Event) (service service' : Serving F) (old new : Logged)
      (result : Result Served NoMemory) → ServiceRun g items events service
      → ServesAs g items event service old result service' new → ServiceRun g items (event ∷ events) service'

abbrev pub one_of : {A : Type 0} → Option A → List A
one_of None = []
one_of (Some x) = x ∷ []

-- the answers that its function gave, in order: one for each message that was taken and has a reply
abbrev pub answers_in : List Event → List Kept
answers_in [] = []
answers_in (event ∷ events) = answers_in events ++ one_of event.asked

-- an answer whose publish was accepted, and one that is done with
abbrev pub is_accepted : CallReply → Bool
is_accepted replies.Accepted = true
is_accepted reply = false

abbrev pub told_if : (CallReply → Bool) → Option (Kept × CallReply) → List Kept
told_if test None = []
told_if test (Some (kept, reply)) = if test reply then kept ∷ [] else []

-- the answers whose publish was accepted, in order, and those that are done with: accepted, or given up
abbrev pub told_in : (CallReply → Bool) → List Event → List Kept
told_in test [] = []
told_in test (event ∷ events) = told_in test events ++ told_if test event.told

-- the answers that are done with are those that the function gave, in order, less the one that is kept
abbrev pub AnswersInOrder : {F V : Type 0} → Mut F (Bor Message × Unit {0}) V → (V → List ℕ) → Type 0
AnswersInOrder {F} {V} g items =
    (events : List Event) (service : Serving F) → ServiceRun g items events service
    → answers_in events ≡ told_in is_done events ++ one_of service.kept
