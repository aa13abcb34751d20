-- What holds of each step of a turn that has one of the steps that only some turns have.
use Rattle.std.proofs.Common.{◌≡◌, ℕ, Bool, true, false, min, List, [], ◌∷◌, ◌++◌, length, Option, Some, None}
use Rattle.std.specs.Prelude.{nat_le, if◌then◌else◌}
use Rattle.nats_history.specs.declared.call.Call.{Call}
use Rattle.nats_history.specs.declared.call.CallReply.{CallReply}
use Rattle.nats_history.specs.declared.call.TakeReply.{TakeReply}
use Rattle.nats_history.specs.declared.call.TakeReply.TheVariants as takes
use Rattle.nats_history.specs.declared.transcript.LinkWord.{LinkWord}
use Rattle.nats_history.specs.declared.transcript.LinkWord.TheVariants as word
use Rattle.nats_history.specs.declared.turn.Turn.{Turn}
use Rattle.nats_history.specs.declared.turn.Turn.TheVariants.{Up, Piece, Write, Tick, Lost, GiveUp, Hangup, Do, Take, Deadline}
use Rattle.nats_history.specs.History.{Step, opened, fed, ticked, taken, accepted, took, gone, passed, link_end, closed, lets_go, ticks}
use Rattle.nats_history.specs.Parts.{Parts}
use Rattle.nats_history.specs.Tickets.{is_unsettled}
use Rattle.nats_history.specs.Schedule.{followers, closing, closes, ending, end_after, chain, accepted_step, took_step, gone_step, own_steps, refusal, take_reply, tick_limit}

-- a test that every step passes but those by which a link comes up, bytes come or go, something is read or taken
pub record Passes (test : Step → Bool) : Type 0 where
  pub ticks : test ticked ≡ true
  pub accepts : (call : Call) → test (accepted call) ≡ true
  pub goes : (sid : ℕ) → test (gone sid) ≡ true
  pub passes : (ticket : ℕ) → test (passed ticket) ≡ true
  pub ends : (end : LinkWord) → test (link_end end) ≡ true
  pub closes : test closed ≡ true

module _ (test : Step → Bool) where
  abbrev pub AreAll : List Step → Type 0
  AreAll [] = Unit {0}
  AreAll (step ∷ steps) = (test step ≡ true) × AreAll steps

  both_all : (some more : List Step) → AreAll some → AreAll more → AreAll (some ++ more)
  both_all [] more are others = others
  both_all (step ∷ some) more are others = (are.0, both_all some more are.1 others)

  either_all : (b : Bool) (some more : List Step) → AreAll some → AreAll more → AreAll (if b then some else more)
  either_all true some more are others = are
  either_all false some more are others = others

  module _ (p : Passes test) where
    closing_all : (b : Bool) → AreAll (closing b)
    closing_all true = (p.closes, tt)
    closing_all false = tt

    ending_all : (drained : Bool) (end : Option LinkWord) → AreAll (ending drained end)
    ending_all drained None = tt
    ending_all drained (Some end) = (p.ends end, closing_all (closes drained end))

    pub followers_all : (parts : Parts) (step : Step) → AreAll (followers parts step)
    followers_all parts (link_end end) = closing_all (closes parts.drain.is_handled end)
    followers_all parts step = ending_all parts.drain.is_handled (end_after parts step)

    chain_all : (parts : Parts) (step : Step) → test step ≡ true → AreAll (chain parts step)
    chain_all parts step is = (is, followers_all parts step)

    accepted_all : (refused : Option CallReply) (call : Call) → AreAll (accepted_step refused call)
    accepted_all None call = (p.accepts call, tt)
    accepted_all (Some reply) call = tt

    gone_all : (sid : Option ℕ) → AreAll (gone_step sid)
    gone_all None = tt
    gone_all (Some sid) = (p.goes sid, tt)

    took_all : (sid : ℕ) (reply : TakeReply) → test (took sid) ≡ true → AreAll (took_step sid reply)
    took_all sid (takes.Message m) is = (is, tt)
    took_all sid takes.Empty is = tt
    took_all sid takes.Ended is = tt

    -- the steps that only some turns have
    abbrev pub OwnPasses : Turn → Type 0
    OwnPasses (Up info) = test (opened info) ≡ true
    OwnPasses (Piece bytes) = test (fed bytes) ≡ true
    OwnPasses (Write n) = (m : ℕ) → test (taken m) ≡ true
    OwnPasses (Take sid) = test (took sid) ≡ true
    OwnPasses turn = Unit {0}

    pub own_all : (parts : Parts) (turn : Turn) → OwnPasses turn → AreAll (own_steps parts turn)
    own_all parts (Up info) is = chain_all parts (opened info) is
    own_all parts (Piece bytes) is = chain_all parts (fed bytes) is
    own_all parts (Write n) is =
        chain_all parts (taken (min n (length parts.link.wire.waiting))) (is (min n (length parts.link.wire.waiting)))
    own_all parts Tick is =
        either_all (nat_le tick_limit (ticks parts.link.pings)) (chain parts (link_end word.Ticks)) (chain parts ticked)
        (chain_all parts (link_end word.Ticks) (p.ends word.Ticks)) (chain_all parts ticked p.ticks)
    own_all parts Lost is = chain_all parts (link_end word.Lost) (p.ends word.Lost)
    own_all parts GiveUp is = chain_all parts closed p.closes
    own_all parts Hangup is =
        either_all parts.link.is_up (chain parts (link_end word.Hangup)) (chain parts closed)
        (chain_all parts (link_end word.Hangup) (p.ends word.Hangup)) (chain_all parts closed p.closes)
    own_all parts (Do call) is =
        both_all (accepted_step (refusal parts call) call) (gone_step (lets_go call)) (accepted_all (refusal parts call) call)
        (gone_all (lets_go call))
    own_all parts (Take sid) is = took_all sid (take_reply parts sid) is
    own_all parts (Deadline ticket) is =
        either_all (is_unsettled ticket parts.tickets) (chain parts (passed ticket)) [] (chain_all parts (passed ticket) (p.passes ticket)) tt
