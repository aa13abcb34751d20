-- What a service does to its core, and what it asks of its function.
use Rattle.std.specs.Prelude.{◌≡◌, ℕ, Bool, true, false, ◌⊎◌, List, [], ◌∷◌, ◌++◌, Option, Some, None, Result, Ok, Err, IsErr, if◌then◌else◌}
use Rattle.std.specs.Borrow.{Bor}
use Rattle.std.specs.Fn.{Mut, CalledAt}
use Rattle.nats_names.specs.declared.failed.NoMemory.{NoMemory}
use Rattle.nats_message.specs.declared.message.Message.{Message}
use Rattle.nats_history.specs.declared.call.Call.{Call}
use Rattle.nats_history.specs.declared.call.Call.TheVariants.{Publish, Subscribe}
use Rattle.nats_history.specs.declared.call.CallReply.{CallReply}
use Rattle.nats_history.specs.declared.call.CallReply.TheVariants as replies
use Rattle.nats_history.specs.declared.call.TakeReply.{TakeReply}
use Rattle.nats_history.specs.declared.call.TakeReply.TheVariants as takes
use Rattle.nats_history.specs.declared.turn.Turn.TheVariants as turns
use Rattle.nats_core.specs.declared.answers.StepError.TheVariants as refused
use Rattle.nats_core.specs.declared.entry.StepReply.TheVariants as steps
use Rattle.nats_core.specs.Journal.{Logged}
use Rattle.nats_core.specs.Calls.{PlaysDue, Steps, Submits}
use Rattle.nats_rpc.specs.declared.answering.Kept.{Kept}
use Rattle.nats_rpc.specs.declared.answering.Served.{Served}
use Rattle.nats_rpc.specs.declared.answering.Served.TheVariants as served
use Rattle.nats_rpc.specs.declared.answering.OpenError.{OpenError}
use Rattle.nats_rpc.specs.declared.answering.OpenError.TheVariants as unopened
use Rattle.nats_rpc.specs.declared.answering.Asking.{Asking}
use Rattle.nats_rpc.specs.declared.answering.Asking.TheVariants as asking

-- ---- a service as it is seen

-- the number of its subscription, the answer that is not published yet, and its function
pub record Serving (F : Type 0) : Type 0 where
  pub number : ℕ
  pub kept : Option Kept
  pub answer : F

abbrev pub serving_of : {F : Type 0} → ℕ → Option Kept → F → Serving F
serving_of number kept answer = record { number = number; kept = kept; answer = answer }

-- ---- opening

-- a call that subscribes was submitted, and given a number; or it was refused by its reply; or memory was wanting
abbrev pub Subscribes : List ℕ → Option (List ℕ) → Logged → Result ℕ OpenError → Logged → Type 0
Subscribes subject group old (Ok number) new =
    Submits old (Subscribe subject group) (Ok (replies.Numbered number)) new
Subscribes subject group old (Err (unopened.Refused reply)) new =
    ((number : ℕ) → reply ≡ replies.Numbered number → ⊥) × Submits old (Subscribe subject group) (Ok reply) new
Subscribes subject group old (Err unopened.NoMemory) new = PlaysDue old new

-- the same, and a service keeps no answer yet; where none was opened its function comes back
abbrev pub Opens : {F : Type 0} → List ℕ → Option (List ℕ) → F → Logged → Result (Serving F) (OpenError × F) → Logged
    → Type 0
Opens subject group answer old (Ok service) new =
    Subscribes subject group old (Ok service.number) new × (service.kept ≡ None) × (service.answer ≡ answer)
Opens subject group answer old (Err (error, back)) new =
    Subscribes subject group old (Err error) new × (back ≡ answer)

-- ---- taking a message

-- the oldest message of a subscription was taken, or none waits; where its user let it go, it ended
abbrev pub Takes : ℕ → Logged → Result TakeReply NoMemory → Logged → Type 0
Takes number old (Ok reply) new =
    Steps old (turns.Take number) (Ok (steps.Take reply)) new
    ⊎ ((reply ≡ takes.Ended) × Steps old (turns.Take number) (Err refused.OutOfTurn) new)
Takes number old (Err wanting) new = Steps old (turns.Take number) (Err refused.NoMemory) new

-- the answer to a message with a reply is what the function gives as it is called once at the message, and it goes to
-- that reply; a message without one asks nothing
pub data Asks {F V : Type 0} (g : Mut F (Bor Message × Unit {0}) V) (items : V → List ℕ) (m : Message) (f : F)
    (r : Option Kept) (f' : F) : Type 0 where
  plain : m.reply ≡ None → r ≡ None → f' ≡ f → Asks g items m f r f'
  answered : (kept : Kept) (given : V) → m.reply ≡ Some kept.reply → CalledAt g f m given f' → kept.answer ≡ items given
      → r ≡ Some kept → Asks g items m f r f'

-- what was taken: a message whose answer is to be published, or what is told at once
pub data TakesIn {F V : Type 0} (g : Mut F (Bor Message × Unit {0}) V) (items : V → List ℕ) (number : ℕ) (old : Logged)
    (f : F) (r : Asking) (new : Logged) (f' : F) : Type 0 where
  message : (m : Message) (kept : Kept) → Takes number old (Ok (takes.Message m)) new → Asks g items m f (Some kept) f'
      → r ≡ asking.Kept kept → TakesIn g items number old f r new f'
  plain_message : (m : Message) → Takes number old (Ok (takes.Message m)) new → Asks g items m f None f'
      → r ≡ asking.Told served.NoReply → TakesIn g items number old f r new f'
  empty : Takes number old (Ok takes.Empty) new → r ≡ asking.Told served.Empty → f' ≡ f
      → TakesIn g items number old f r new f'
  ended : Takes number old (Ok takes.Ended) new → r ≡ asking.Told served.Ended → f' ≡ f
      → TakesIn g items number old f r new f'

-- or memory was wanting, and nothing was taken or asked
abbrev pub MayTakeIn : {F V : Type 0} → Mut F (Bor Message × Unit {0}) V → (V → List ℕ) → ℕ → Logged → F
    → Result Asking NoMemory → Logged → F → Type 0
MayTakeIn g items number old f (Ok r) new f' = TakesIn g items number old f r new f'
MayTakeIn g items number old f (Err wanting) new f' = Takes number old (Err wanting) new × (f' ≡ f)

-- ---- publishing an answer

-- the publish of an answer
abbrev pub publish_of : Kept → Call
publish_of kept = Publish (record { subject = kept.reply; reply = None; payload = kept.answer; headers = None })

abbrev pub served_by : CallReply → Served
served_by replies.Accepted = served.Answered
served_by reply = served.Refused reply

-- the answer of a publish with this reply is done with: it was sent, or it is given up
abbrev pub is_done : CallReply → Bool
is_done replies.Full = false
is_done reply = true

abbrev pub kept_after : CallReply → Kept → Option Kept
kept_after reply kept = if is_done reply then None else Some kept

-- an answer was submitted, and that reply is told; or memory was wanting for it
abbrev pub Publishes : Kept → Logged → Result (Served × Bool) NoMemory → Logged → Type 0
Publishes kept old (Ok (told, done)) new =
    (reply : CallReply) × Submits old (publish_of kept) (Ok reply) new × (told ≡ served_by reply)
    × (done ≡ is_done reply)
Publishes kept old (Err wanting) new = PlaysDue old new

-- ---- one call

-- what a call did: the answer that it asked its function for, and the answer that it submitted with the reply of that
pub record Event : Type 0 where
  pub asked : Option Kept
  pub told : Option (Kept × CallReply)

abbrev pub event_of : Option Kept → Option (Kept × CallReply) → Event
event_of asked told = record { asked = asked; told = told }

-- an answer that is kept was submitted: the reply is told, and the answer is kept on where the client is full; or
-- memory was wanting, and it is kept
pub data SendsAnswer (kept : Kept) (old : Logged) (told : Option (Kept × CallReply)) (result : Result Served NoMemory)
    (new : Logged) (kept' : Option Kept) : Type 0 where
  submits : (reply : CallReply) → told ≡ Some (kept, reply) → Submits old (publish_of kept) (Ok reply) new
      → result ≡ Ok (served_by reply) → kept' ≡ kept_after reply kept → SendsAnswer kept old told result new kept'
  wants : told ≡ None → PlaysDue old new → IsErr result → kept' ≡ Some kept
      → SendsAnswer kept old told result new kept'

pub data ServesAs {F V : Type 0} (g : Mut F (Bor Message × Unit {0}) V) (items : V → List ℕ) (event : Event)
    (service : Serving F) (old : Logged) (result : Result Served NoMemory) (service' : Serving F) (new : Logged)
    : Type 0 where
  -- an answer is kept: it is submitted, and nothing is taken
  again : (kept : Kept) → service.kept ≡ Some kept → event.asked ≡ None
      → SendsAnswer kept old event.told result new service'.kept → service'.number ≡ service.number
      → service'.answer ≡ service.answer → ServesAs g items event service old result service' new
  -- a message is taken, its answer is asked for, and submitted
  answers : (kept : Kept) (mid : Logged) → service.kept ≡ None
      → TakesIn g items service.number old service.answer (asking.Kept kept) mid service'.answer
      → event.asked ≡ Some kept → SendsAnswer kept mid event.told result new service'.kept
      → service'.number ≡ service.number → ServesAs g items event service old result service' new
  -- nothing is to be answered
  tells : (told : Served) → service.kept ≡ None
      → TakesIn g items service.number old service.answer (asking.Told told) new service'.answer
      → event.asked ≡ None → event.told ≡ None → result ≡ Ok told → service'.kept ≡ None
      → service'.number ≡ service.number → ServesAs g items event service old result service' new
  -- memory is wanting for the take
  untaken : service.kept ≡ None → Steps old (turns.Take service.number) (Err refused.NoMemory) new
      → event.asked ≡ None → event.told ≡ None → IsErr result → service' ≡ service
      → ServesAs g items event service old result service' new

pub record Serves {F V : Type 0} (g : Mut F (Bor Message × Unit {0}) V) (items : V → List ℕ)
    (service : Serving F) (old : Logged) (result : Result Served NoMemory) (service' : Serving F) (new : Logged)
    : Type 0 where
  pub event : Event
  pub as' : ServesAs g items event service old result service' new

-- a service submitted an answer, and nothing else of it changed
pub record SendsOne {F : Type 0} (kept : Kept) (service : Serving F) (old : Logged) (result : Result Served NoMemory)
    (service' : Serving F) (new : Logged) : Type 0 where
  pub told : Option (Kept × CallReply)
  pub sends : SendsAnswer kept old told result new service'.kept
  pub number : service'.number ≡ service.number
  pub answer : service'.answer ≡ service.answer

-- it is the one that the service kept
pub record SendsKept {F : Type 0} (service : Serving F) (old : Logged) (result : Result Served NoMemory)
    (service' : Serving F) (new : Logged) : Type 0 where
  pub kept : Kept
  pub was : service.kept ≡ Some kept
  pub one : SendsOne kept service old result service' new
