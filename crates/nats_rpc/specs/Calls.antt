-- One call of a caller: how far it is, and what a reply makes of it.
use Rattle.std.specs.Prelude.{ℕ, suc, ◌+◌, Bool, true, false, nat_le, List, ◌++◌, None}
use Rattle.std.specs.Fmt.{decimal}
use Rattle.nats_history.specs.declared.call.Call.{Call}
use Rattle.nats_history.specs.declared.call.Call.TheVariants.{Request}
use Rattle.nats_history.specs.declared.call.CallReply.{CallReply}
use Rattle.nats_history.specs.declared.call.CallReply.TheVariants as replies
use Rattle.nats_rpc.specs.declared.outcome.Outcome.{Outcome}
use Rattle.nats_rpc.specs.declared.outcome.Outcome.TheVariants as outcomes
use Rattle.nats_rpc.specs.declared.asked.Attempt.{Attempt}
use Rattle.nats_rpc.specs.declared.asked.Stage.{Stage}
use Rattle.nats_rpc.specs.declared.asked.Stage.TheVariants as stages
use Rattle.nats_rpc.specs.declared.asked.Phase.{Phase}
use Rattle.nats_rpc.specs.declared.asked.Phase.TheVariants as phases
use Rattle.nats_rpc.specs.declared.asked.Asked.{Asked}
use Rattle.nats_rpc.specs.declared.terms.Terms.{Terms}

-- the token of an attempt: the caller's name, and the attempt's number in decimal
abbrev pub token_of : List ℕ → ℕ → List ℕ
token_of name number = name ++ decimal number

-- the request of the attempt of a number
abbrev pub request_of : Terms → ℕ → Asked → Call
request_of terms number asked = Request asked.subject asked.payload None (token_of terms.name number)

-- an attempt waited as long as it may
abbrev pub is_over : ℕ → Attempt → ℕ → Bool
is_over patience attempt now = nat_le (attempt.start + patience) now

-- what a call comes to by the reply of an attempt's ticket
abbrev pub outcome_of : CallReply → Outcome
outcome_of (replies.Replied m) = outcomes.Replied m
outcome_of replies.NoResponders = outcomes.NoResponders
outcome_of reply = outcomes.Refused reply

-- what a poll answers of a call
abbrev pub outcome_in : Stage → Outcome
outcome_in (stages.Settled outcome) = outcome
outcome_in stage = outcomes.Waiting

-- a copy of it takes memory: it holds a message or a reply
abbrev pub takes_memory : Outcome → Bool
takes_memory (outcomes.Replied m) = true
takes_memory (outcomes.Refused reply) = true
takes_memory outcome = false

-- how far a call is, but for what it came to
abbrev pub phase_of : Stage → Phase
phase_of stages.Resting = phases.Resting
phase_of (stages.Live attempt) = phases.Live attempt
phase_of (stages.Settled outcome) = phases.Settled

-- it came to this
abbrev pub settled_as : Outcome → Asked → Asked
settled_as outcome asked = record asked { stage = stages.Settled outcome }

-- no attempt of it waits
abbrev pub rested : Asked → Asked
rested asked = record asked { stage = stages.Resting }

-- one more attempt of it waits, with this ticket and from this time on
abbrev pub live_at : ℕ → ℕ → Asked → Asked
live_at ticket start asked = record asked {
  tried = suc asked.tried;
  stage = stages.Live (record { ticket = ticket; start = start });
}

-- a request was accepted
abbrev pub is_numbered : CallReply → Bool
is_numbered (replies.Numbered ticket) = true
is_numbered reply = false

-- a call after its request was answered at this time: accepted, it waits; where the client is full nothing changed;
-- else it is refused
abbrev pub answered : ℕ → CallReply → Asked → Asked
answered now (replies.Numbered ticket) asked = live_at ticket now asked
answered now replies.Full asked = asked
answered now reply asked = settled_as (outcomes.Refused reply) asked
