-- No ticket is taken back, and each request that is accepted gets a new one.
use Rattle.std.proofs.Common.{◌≡◌, ℕ, zero, suc, ◌+◌, ◌≤◌, ◌<◌, Bool, true, false, cond, not, nat_lt, List, [], ◌∷◌, ◌++◌, length, Option, Some, None, Ok, refl, sym, ◌∙◌, ap, subst, arith}
use Rattle.nats_history.specs.declared.config.Config.{Config}
use Rattle.nats_history.specs.declared.call.Call.{Call}
use Rattle.nats_history.specs.declared.call.Call.TheVariants.{Flush, Request}
use Rattle.nats_history.specs.declared.call.CallReply.{CallReply}
use Rattle.nats_history.specs.declared.call.CallReply.TheVariants as replies
use Rattle.nats_history.specs.declared.turn.Turn.{Turn}
use Rattle.nats_history.specs.declared.turn.Turn.TheVariants as turns
use Rattle.nats_history.specs.declared.waits.Waits.{Waits}
use Rattle.nats_history.specs.declared.waits.Waits.TheVariants as waits
use Rattle.nats_history.specs.Queue.{first}
use Rattle.nats_history.specs.History.{Step, accepted, handled, takes_ticket, inbox_of}
use Rattle.nats_history.specs.Tickets.{Tickets, flush_handled, request_handled, ticket_handled, tickets_after}
use Rattle.nats_history.specs.Parts.{Parts}
use Rattle.nats_history.specs.Schedule.{own_steps, accepted_step, reply_by, refusal, has_subjects, has_group, size_of, takes_no_call, has_no_number, is_full, due, due_chain}
use Rattle.nats_history.specs.After.{due_steps}
use Rattle.nats_session.specs.Handler.{Seen, seen_after, seen_all}
use Rattle.nats_core.specs.Journal.{Logged, due_round, due_rounds, caught_up, played}
use Rattle.nats_core.specs.Calls.{parts_in, PlaysDue, Submits}
use Rattle.nats_rpc_laws.specs.Runs.{tickets_given}

-- ---- steps

handled_gives : (c : Config) (waiting : ℕ) (call : Call) (t : Tickets)
    → (ticket_handled c waiting call t).given ≡ t.given
handled_gives c waiting Flush t = by (first t.queued)
  where
    by : (next : Option Waits) → (flush_handled waiting next t).given ≡ t.given
    by (Some waits.Flush) = refl
    by (Some waits.Request) = refl
    by (Some waits.Late) = refl
    by None = refl
handled_gives c waiting (Request subject payload headers token) t = by (first t.queued)
  where
    by : (next : Option Waits) → (request_handled (inbox_of c token) next t).given ≡ t.given
    by (Some waits.Flush) = refl
    by (Some waits.Request) = refl
    by (Some waits.Late) = refl
    by None = refl
handled_gives c waiting call t = refl

accepted_gives : (takes : Bool) (given : ℕ) → given ≤ cond takes (suc given) given
accepted_gives true given =
    let less : given ≤ suc given = omega arith in
    less
accepted_gives false given =
    let less : given ≤ given = omega arith in
    less

pub at_most : (a b c : ℕ) → a ≤ b → b ≤ c → a ≤ c
at_most a b c less more = omega arith

same_most : (a b : ℕ) → b ≡ a → a ≤ b
same_most a b is = omega arith

step_gives : (c : Config) (waiting : ℕ) (step : Step) (t : Tickets) → t.given ≤ (tickets_after c waiting step t).given
step_gives c waiting (accepted call) t = accepted_gives (takes_ticket call) t.given
step_gives c waiting (handled call) t =
    same_most t.given (ticket_handled c waiting call t).given (handled_gives c waiting call t)
step_gives c waiting step t = same_most t.given t.given refl

steps_give : (seen : Seen) (steps : List Step) → seen.parts.tickets.given ≤ (seen_all seen steps).parts.tickets.given
steps_give seen [] = same_most seen.parts.tickets.given seen.parts.tickets.given refl
steps_give seen (step ∷ steps) =
    at_most seen.parts.tickets.given (seen_after seen step).parts.tickets.given
    (seen_all (seen_after seen step) steps).parts.tickets.given
    (step_gives seen.parts.config (length seen.parts.link.wire.waiting) step seen.parts.tickets)
    (steps_give (seen_after seen step) steps)

rounds_give : (rounds : ℕ) (seen : Seen) → seen.parts.tickets.given ≤ (due_rounds rounds seen).parts.tickets.given
rounds_give zero seen = same_most seen.parts.tickets.given seen.parts.tickets.given refl
rounds_give (suc rounds) seen =
    at_most seen.parts.tickets.given (due_rounds rounds seen).parts.tickets.given
    (due_round (due_rounds rounds seen)).parts.tickets.given
    (rounds_give rounds seen)
    (steps_give (due_rounds rounds seen)
    (due_chain (due_rounds rounds seen).parts (due (due_rounds rounds seen).parts)))

pub due_gives : (old new : Logged) → PlaysDue old new → tickets_given old ≤ tickets_given new
due_gives old new plays =
    subst (λ (core : Logged). tickets_given old ≤ tickets_given core) (sym plays.same)
    (rounds_give plays.rounds old.session)

pub caught_gives : (core : Logged) → tickets_given core ≤ tickets_given (caught_up core)
caught_gives core = steps_give core.session (due_steps core.session.parts)

pub turn_gives : (turn : Turn) (core : Logged) → tickets_given core ≤ tickets_given (played turn core)
turn_gives turn core = steps_give core.session (own_steps core.session.parts turn)

-- ---- a request

-- a refusal is no number
refused_so : (a b c d e f : Bool) (limit size n : ℕ)
    → cond a (Some replies.InvalidSubject) (cond b (Some replies.InvalidQueueName)
    (cond c (Some (replies.MaxPayloadExceeded limit size)) (cond d (Some replies.Closed)
    (cond e (Some replies.NoNumber) (cond f (Some replies.Full) None))))) ≡ Some (replies.Numbered n) → ⊥
refused_so true b c d e f limit size n is = let no : ⊥ = cc in no
refused_so false true c d e f limit size n is = let no : ⊥ = cc in no
refused_so false false true d e f limit size n is = let no : ⊥ = cc in no
refused_so false false false true e f limit size n is = let no : ⊥ = cc in no
refused_so false false false false true f limit size n is = let no : ⊥ = cc in no
refused_so false false false false false true limit size n is = let no : ⊥ = cc in no
refused_so false false false false false false limit size n is = let no : ⊥ = cc in no

pub not_refused : (p : Parts) (call : Call) (n : ℕ) → refusal p call ≡ Some (replies.Numbered n) → ⊥
not_refused p call n is =
    refused_so (not (has_subjects p.config call)) (not (has_group call)) (nat_lt p.link.max_payload (size_of call))
    (takes_no_call p) (has_no_number p call) (is_full p) p.link.max_payload (size_of call) n is

-- a reply that is a number is of a call that is accepted
pub number_by : (refused : Option CallReply) (reply : CallReply) (n : ℕ) → (refused ≡ Some (replies.Numbered n) → ⊥)
    → reply_by refused reply ≡ replies.Numbered n → (refused ≡ None) × (reply ≡ replies.Numbered n)
number_by None reply n none is = (refl, is)
number_by (Some other) reply n none is = absurd (none (ap Some is))

pub same_number : (a b : ℕ) → replies.Numbered a ≡ replies.Numbered b → a ≡ b
same_number a b is = cc

-- where a request is accepted one more ticket is given
accepted_given : (mid : Logged) (subject payload token : List ℕ)
    → refusal (parts_in mid) (Request subject payload None token) ≡ None
    → tickets_given (played (turns.Do (Request subject payload None token)) mid) ≡ suc (tickets_given mid)
accepted_given mid subject payload token is =
    ap (λ (refused : Option CallReply).
    (seen_all mid.session (accepted_step refused (Request subject payload None token) ++ [])).parts.tickets.given) is

-- and that is its number
pub request_gives : (old new : Logged) (subject payload token : List ℕ) (n : ℕ)
    → Submits old (Request subject payload None token) (Ok (replies.Numbered n)) new
    → (tickets_given (caught_up old) < n) × (n ≤ tickets_given new)
request_gives old new subject payload token n submits =
    let numbered =
    number_by (refusal (parts_in (caught_up old)) (Request subject payload None token))
    (replies.Numbered (suc (tickets_given (caught_up old)))) n
    (not_refused (parts_in (caught_up old)) (Request subject payload None token) n) (sym submits.0) in
    between (tickets_given (caught_up old)) n
    (tickets_given (played (turns.Do (Request subject payload None token)) (caught_up old))) (tickets_given new)
    (same_number (suc (tickets_given (caught_up old))) n numbered.1)
    (accepted_given (caught_up old) subject payload token numbered.0)
    (due_gives (played (turns.Do (Request subject payload None token)) (caught_up old)) new submits.1)
  where
    between : (a n b c : ℕ) → suc a ≡ n → b ≡ suc a → b ≤ c → (a < n) × (n ≤ c)
    between a n b c next is more = (omega arith, omega arith)
