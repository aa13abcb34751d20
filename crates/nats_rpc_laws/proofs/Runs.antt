-- Whole runs of a caller.
use Rattle.std.proofs.Common.{◌≡◌, ℕ, zero, suc, ◌+◌, ◌-◌, ◌≤◌, ◌<◌, ◌⊎◌, inl, inr, List, [], ◌∷◌, ◌++◌, length, slice_index_or, slice_set, Option, Some, None, Result, Ok, Err, refl, sym, ◌∙◌, ap, subst, arith}
use Rattle.std.proofs.lemmas.Option.{none-some, same_Some}
use Rattle.nats_names.specs.declared.failed.NoMemory.{NoMemory}
use Rattle.nats_message.specs.declared.message.Message.{Message}
use Rattle.nats_lines.specs.Operations.{message}
use Rattle.nats_history.specs.declared.config.Config.{Config}
use Rattle.nats_history.specs.declared.call.CallReply.{CallReply}
use Rattle.nats_history.specs.declared.call.CallReply.TheVariants as replies
use Rattle.nats_history.specs.History.{Step, read, History}
use Rattle.nats_history.specs.declared.turn.Turn.TheVariants as turns
use Rattle.nats_session.specs.Handler.{HandedOut, StandsFor}
use Rattle.nats_core.specs.Journal.{Logged, caught_up, played}
use Rattle.nats_core.specs.Calls.{Submits}
use Rattle.nats_ask_laws.specs.Asked.{WasAsked}
use Rattle.nats_ask_laws.specs.Settled.{IsFirstReply, WasReplied}
use Rattle.nats_ask_laws.proofs.Asking.{one_asked}
use Rattle.nats_rpc.specs.declared.outcome.Outcome.{Outcome}
use Rattle.nats_rpc.specs.declared.outcome.Outcome.TheVariants as outcomes
use Rattle.nats_rpc.specs.declared.asked.Attempt.{Attempt}
use Rattle.nats_rpc.specs.declared.asked.Stage.{Stage}
use Rattle.nats_rpc.specs.declared.asked.Stage.TheVariants as stages
use Rattle.nats_rpc.specs.declared.asked.Asked.{Asked}
use Rattle.nats_rpc.specs.declared.terms.Terms.{Terms}
use Rattle.nats_rpc.specs.Calls.{token_of, request_of, rested, answered}
use Rattle.nats_rpc.specs.Polling.{taken_out, PlaysDeadline, Expires, Sends, Tries, spent, unnumbered, sent, unsent, Waits, settles, waits, over, unended, MovesFrom, Moves, Calling, new_call, MovesCall, Polls, behind, polled}
use Rattle.nats_rpc_laws.specs.Attempts.{IsReplied, IsLive, RepliedSo}
use Rattle.nats_rpc_laws.specs.Runs.{tickets_given, Poll, poll_of, Run, begins, takes_in, elsewhere, moves_on, StandsBehind, IsCall, ticket_in, WaitsWith, Settles, WasSettled, LetsGo, WasLetGo, PollGoesOn, RepliedBy, FirstOfAttempt, OneCall, NoneLate}
use Rattle.nats_rpc_laws.proofs.Growing.{at_most, due_gives, caught_gives, turn_gives, request_gives}
use Rattle.nats_rpc_laws.proofs.Attempts.{not_tried, not_resting, not_live, replied_only_so}

-- ---- the attempt after a poll: the one before, or a new one

-- no ticket is taken back, and an attempt that waited after it waited before, or its ticket is new
record Renews (old : Logged) (asked : Asked) (asked' : Asked) (new : Logged) : Type 0 where
  more : tickets_given old ≤ tickets_given new
  newer : (ticket : ℕ) → WaitsWith ticket asked'
      → WaitsWith ticket asked ⊎ ((tickets_given old < ticket) × (ticket ≤ tickets_given new))

none_waits : (ticket : ℕ) (asked asked' : Asked) → ticket_in asked'.stage ≡ None → WaitsWith ticket asked' → ⊥
none_waits ticket asked asked' none is = none-some ticket (sym none ∙ is)

waits_still : (ticket : ℕ) (asked asked' : Asked) → asked' ≡ asked → WaitsWith ticket asked' → WaitsWith ticket asked
waits_still ticket asked asked' same is = ap (λ (a : Asked). ticket_in a.stage) (sym same) ∙ is

stays : (asked asked' : Asked) (old new : Logged) → asked' ≡ asked → tickets_given old ≤ tickets_given new
    → Renews old asked asked' new
stays asked asked' old new same more = record {
  more = more;
  newer = λ ticket is. inl (waits_still ticket asked asked' same is);
}

rests : (asked asked' : Asked) (old new : Logged) → ticket_in asked'.stage ≡ None
    → tickets_given old ≤ tickets_given new → Renews old asked asked' new
rests asked asked' old new none more = record {
  more = more;
  newer = λ ticket is. absurd (none_waits ticket asked asked' none is);
}

same_given : (old new : Logged) → new ≡ old → tickets_given old ≤ tickets_given new
same_given old new is =
    let same : tickets_given new ≡ tickets_given old = ap tickets_given is in
    omega (arith, same)

answer_renews : (reply : CallReply) (now ticket : ℕ) (asked : Asked) → WaitsWith ticket (answered now reply asked)
    → WaitsWith ticket asked ⊎ (reply ≡ replies.Numbered ticket)
answer_renews (replies.Numbered n) now ticket asked is = inr (ap replies.Numbered (same_Some n ticket is))
answer_renews replies.Full now ticket asked is = inl is
answer_renews reply now ticket asked is = absurd (none-some ticket is)

sent_gives : (old new : Logged) (terms : Terms) (number : ℕ) (asked : Asked) (reply : CallReply)
    → Submits old (request_of terms number asked) (Ok reply) new → tickets_given old ≤ tickets_given new
sent_gives old new terms number asked reply submits =
    at_most (tickets_given old) (tickets_given (caught_up old)) (tickets_given new) (caught_gives old)
    (at_most (tickets_given (caught_up old))
    (tickets_given (played (turns.Do (request_of terms number asked)) (caught_up old))) (tickets_given new)
    (turn_gives (turns.Do (request_of terms number asked)) (caught_up old))
    (due_gives (played (turns.Do (request_of terms number asked)) (caught_up old)) new submits.1))

sent_renews : (terms : Terms) (now numbers : ℕ) (asked : Asked) (old : Logged) (numbers' : ℕ) (asked' : Asked)
    (new : Logged) → Sends terms now numbers asked old numbers' asked' new → Renews old asked asked' new
sent_renews terms now numbers asked old numbers' asked' new sends = record {
  more = sent_gives old new terms (suc numbers) asked sends.reply sends.submits;
  newer = λ ticket is. by ticket
      (answer_renews sends.reply now ticket asked (ap (λ (a : Asked). ticket_in a.stage) (sym sends.call) ∙ is));
}
  where
    fresh : (ticket : ℕ) → (tickets_given (caught_up old) < ticket) × (ticket ≤ tickets_given new)
        → (tickets_given old < ticket) × (ticket ≤ tickets_given new)
    fresh ticket given = (omega (arith, caught_gives old, given.0), given.1)

    by : (ticket : ℕ) → WaitsWith ticket asked ⊎ (sends.reply ≡ replies.Numbered ticket)
        → WaitsWith ticket asked ⊎ ((tickets_given old < ticket) × (ticket ≤ tickets_given new))
    by ticket (inl before) = inl before
    by ticket (inr is) =
        inr (fresh ticket (request_gives old new asked.subject asked.payload (token_of terms.name (suc numbers)) ticket
        (subst (λ reply. Submits old (request_of terms (suc numbers) asked) (Ok reply) new) is sends.submits)))

tries_renews : (terms : Terms) (now numbers : ℕ) (asked : Asked) (old : Logged) (r : Result (Unit {0}) NoMemory)
    (numbers' : ℕ) (asked' : Asked) (new : Logged) → Tries terms now numbers asked old r numbers' asked' new
    → Renews old asked asked' new
tries_renews terms now numbers asked old r numbers' asked' new (spent left ok same used still) =
    rests asked asked' old new (ap (λ (a : Asked). ticket_in a.stage) same) (same_given old new still)
tries_renews terms now numbers asked old r numbers' asked' new (unnumbered left last ok same used still) =
    rests asked asked' old new (ap (λ (a : Asked). ticket_in a.stage) same) (same_given old new still)
tries_renews terms now numbers asked old r numbers' asked' new (sent left some ok sends) =
    sent_renews terms now numbers asked old numbers' asked' new sends
tries_renews terms now numbers asked old r numbers' asked' new (unsent left some err same used due) =
    stays asked asked' old new same (due_gives old new due)

-- ---- an attempt that waited

taken_gives : (ticket : ℕ) (old new : Logged) → new ≡ taken_out ticket old → tickets_given old ≤ tickets_given new
taken_gives ticket old new taken =
    let same : tickets_given new ≡ tickets_given old = ap tickets_given taken in
    omega (arith, same)

deadline_gives : (ticket : ℕ) (old new : Logged) → PlaysDeadline ticket old new
    → tickets_given old ≤ tickets_given new
deadline_gives ticket old new (inl steps) =
    at_most (tickets_given old) (tickets_given (caught_up old)) (tickets_given new) (caught_gives old)
    (at_most (tickets_given (caught_up old)) (tickets_given (played (turns.Deadline ticket) (caught_up old)))
    (tickets_given new) (turn_gives (turns.Deadline ticket) (caught_up old))
    (due_gives (played (turns.Deadline ticket) (caught_up old)) new steps.2))
deadline_gives ticket old new (inr steps) =
    at_most (tickets_given old) (tickets_given (caught_up old)) (tickets_given new) (caught_gives old)
    (same_given (caught_up old) new steps.1)

expires_gives : (ticket : ℕ) (old new : Logged) → Expires ticket old new → tickets_given old ≤ tickets_given new
expires_gives ticket old new expires =
    at_most (tickets_given old) (tickets_given expires.mid) (tickets_given new)
    (deadline_gives ticket old expires.mid expires.steps) (taken_gives ticket expires.mid new expires.taken)

over_renews : (asked asked' : Asked) (old mid new : Logged) → tickets_given old ≤ tickets_given mid
    → Renews mid (rested asked) asked' new → Renews old asked asked' new
over_renews asked asked' old mid new less renews = record {
  more = at_most (tickets_given old) (tickets_given mid) (tickets_given new) less renews.more;
  newer = λ ticket is. by ticket (renews.newer ticket is);
}
  where
    by : (ticket : ℕ) → WaitsWith ticket (rested asked) ⊎ ((tickets_given mid < ticket) × (ticket ≤ tickets_given new))
        → WaitsWith ticket asked ⊎ ((tickets_given old < ticket) × (ticket ≤ tickets_given new))
    by ticket (inl before) = absurd (none-some ticket before)
    by ticket (inr given) = inr (omega (arith, less, given.0), given.1)

waits_renews : (terms : Terms) (now : ℕ) (attempt : Attempt) (numbers : ℕ) (asked : Asked) (old : Logged)
    (r : Result (Unit {0}) NoMemory) (numbers' : ℕ) (asked' : Asked) (new : Logged)
    → Waits terms now attempt numbers asked old r numbers' asked' new → Renews old asked asked' new
waits_renews terms now attempt numbers asked old r numbers' asked' new (settles reply there ok same used taken) =
    rests asked asked' old new (ap (λ (a : Asked). ticket_in a.stage) same) (taken_gives attempt.ticket old new taken)
waits_renews terms now attempt numbers asked old r numbers' asked' new (waits none early ok same used still) =
    stays asked asked' old new same (same_given old new still)
waits_renews terms now attempt numbers asked old r numbers' asked' new (over none late mid expires tries) =
    over_renews asked asked' old mid new (expires_gives attempt.ticket old mid expires)
    (tries_renews terms now numbers (rested asked) mid r numbers' asked' new tries)
waits_renews terms now attempt numbers asked old r numbers' asked' new (unended none late err same used steps) =
    stays asked asked' old new same (due_gives old new steps.0)

moves_renews : (stage : Stage) (terms : Terms) (now numbers : ℕ) (asked : Asked) (old : Logged)
    (r : Result (Unit {0}) NoMemory) (numbers' : ℕ) (asked' : Asked) (new : Logged)
    → MovesFrom stage terms now numbers asked old r numbers' asked' new → Renews old asked asked' new
moves_renews (stages.Settled outcome) terms now numbers asked old r numbers' asked' new moves =
    stays asked asked' old new moves.1 (same_given old new moves.3)
moves_renews stages.Resting terms now numbers asked old r numbers' asked' new moves =
    tries_renews terms now numbers asked old r numbers' asked' new moves
moves_renews (stages.Live attempt) terms now numbers asked old r numbers' asked' new moves =
    waits_renews terms now attempt numbers asked old r numbers' asked' new moves

caught_renews : (asked asked' : Asked) (old new : Logged) → Renews (caught_up old) asked asked' new
    → Renews old asked asked' new
caught_renews asked asked' old new renews = record {
  more =
      at_most (tickets_given old) (tickets_given (caught_up old)) (tickets_given new) (caught_gives old) renews.more;
  newer = λ ticket is. by ticket (renews.newer ticket is);
}
  where
    by : (ticket : ℕ)
        → WaitsWith ticket asked ⊎ ((tickets_given (caught_up old) < ticket) × (ticket ≤ tickets_given new))
        → WaitsWith ticket asked ⊎ ((tickets_given old < ticket) × (ticket ≤ tickets_given new))
    by ticket (inl before) = inl before
    by ticket (inr given) = inr (omega (arith, caught_gives old, given.0), given.1)

call_renews : (call now : ℕ) (caller : Calling) (core : Logged) (asked : Asked) (r : Result (Unit {0}) NoMemory)
    (asked' : Asked) (caller' : Calling) (core' : Logged)
    → MovesCall call now caller core asked r asked' caller' core' → Renews core asked asked' core'
call_renews call now caller core asked r asked' caller' core' moves =
    caught_renews asked asked' core core'
    (moves_renews asked.stage caller.terms now caller.numbers asked (caught_up core) r caller'.numbers asked' core'
    moves.moves)

-- ---- the calls by their places

behind_pushed : (place : ℕ) (asked : Asked) (calls : List Asked) (next : Asked)
    → StandsBehind place asked (calls ++ next ∷ []) → StandsBehind place asked calls ⊎ (asked ≡ next)
behind_pushed zero asked [] next is = inr is
behind_pushed (suc place) asked [] next none = absurd none
behind_pushed zero asked (x ∷ xs) next is = inl is
behind_pushed (suc place) asked (x ∷ xs) next is = behind_pushed place asked xs next is

-- what stands there once the call at a place was moved on
abbrev Moved : ℕ → ℕ → Asked → Asked → List Asked → Type 0
Moved place at asked next calls =
    ((place ≡ at) × (asked ≡ next)) ⊎ ((place ≡ at → ⊥) × StandsBehind place asked calls)

behind_set : (place at : ℕ) (asked next : Asked) (calls : List Asked)
    → StandsBehind place asked (slice_set calls at next) → Moved place at asked next calls
behind_set place at asked next [] none = absurd none
behind_set zero zero asked next (x ∷ xs) is = inl (refl, is)
behind_set zero (suc at) asked next (x ∷ xs) is = inr (λ e. let no : ⊥ = omega (arith, e) in no, is)
behind_set (suc place) zero asked next (x ∷ xs) is = inr (λ e. let no : ⊥ = omega (arith, e) in no, is)
behind_set (suc place) (suc at) asked next (x ∷ xs) is = by (behind_set place at asked next xs is)
  where
    by : Moved place at asked next xs → Moved (suc place) (suc at) asked next (x ∷ xs)
    by (inl both) = inl (ap suc both.0, both.1)
    by (inr other) = inr (λ e. other.0 (omega (arith, e)), other.1)

behind_index : (at : ℕ) (asked : Asked) (calls : List Asked) → at < length calls
    → asked ≡ slice_index_or calls at asked → StandsBehind at asked calls
behind_index at asked [] less is = absurd (let no : ⊥ = omega (arith, less) in no)
behind_index zero asked (x ∷ xs) less is = is
behind_index (suc at) asked (x ∷ xs) less is = behind_index at asked xs (omega (arith, less)) is

-- ---- whose attempt a ticket is of

-- the attempt of a ticket waited behind a poll of a call
abbrev WasLive : ℕ → ℕ → List Poll → Type 0
WasLive call ticket [] = ⊥
WasLive call ticket (poll ∷ polls) = ((poll.call ≡ call) × WaitsWith ticket poll.after) ⊎ WasLive call ticket polls

-- each attempt that waited, or that a poll let go, is of one call, and its ticket was given
record Tied (polls : List Poll) (calls : List Asked) (given : ℕ) : Type 0 where
  owned : (place ticket : ℕ) (asked : Asked) → StandsBehind place asked calls → WaitsWith ticket asked
      → WasLive (suc place) ticket polls
  known : (call ticket : ℕ) → WasLive call ticket polls → ticket ≤ given
  one : (call other ticket : ℕ) → WasLive call ticket polls → WasLive other ticket polls → call ≡ other
  gone : (ticket : ℕ) → WasLetGo ticket polls → ticket ≤ given
  ended : (ticket place : ℕ) (asked : Asked) → WasLetGo ticket polls → StandsBehind place asked calls
      → WaitsWith ticket asked → ⊥

tied_new : (given : ℕ) → Tied [] [] given
tied_new given = record {
  owned = λ place ticket asked none waited. absurd none;
  known = λ call ticket none. absurd none;
  one = λ call other ticket none both. absurd none;
  gone = λ ticket none. absurd none;
  ended = λ ticket place asked none stands waited. none;
}

tied_more : (polls : List Poll) (calls : List Asked) (given given' : ℕ) → given ≤ given' → Tied polls calls given
    → Tied polls calls given'
tied_more polls calls given given' more tied = record {
  owned = tied.owned;
  known = λ call ticket live. at_most ticket given given' (tied.known call ticket live) more;
  one = tied.one;
  gone = λ ticket lets. at_most ticket given given' (tied.gone ticket lets) more;
  ended = tied.ended;
}

tied_pushed : (polls : List Poll) (calls : List Asked) (next : Asked) (given : ℕ) → ticket_in next.stage ≡ None
    → Tied polls calls given → Tied polls (calls ++ next ∷ []) given
tied_pushed polls calls next given none tied = record {
  owned = λ place ticket asked stands waited. before place ticket asked waited
      (behind_pushed place asked calls next stands);
  known = tied.known;
  one = tied.one;
  gone = tied.gone;
  ended = λ ticket place asked lets stands waited.
      after ticket place asked lets waited (behind_pushed place asked calls next stands);
}
  where
    idle : (ticket : ℕ) (asked : Asked) → asked ≡ next → WaitsWith ticket asked → ⊥
    idle ticket asked is waited =
        none-some ticket (sym none ∙ ap (λ (a : Asked). ticket_in a.stage) (sym is) ∙ waited)

    before : (place ticket : ℕ) (asked : Asked) → WaitsWith ticket asked
        → StandsBehind place asked calls ⊎ (asked ≡ next) → WasLive (suc place) ticket polls
    before place ticket asked waited (inl stands) = tied.owned place ticket asked stands waited
    before place ticket asked waited (inr is) = absurd (idle ticket asked is waited)

    after : (ticket place : ℕ) (asked : Asked) → WasLetGo ticket polls → WaitsWith ticket asked
        → StandsBehind place asked calls ⊎ (asked ≡ next) → ⊥
    after ticket place asked lets waited (inl stands) = tied.ended ticket place asked lets stands waited
    after ticket place asked lets waited (inr is) = idle ticket asked is waited

less_one : (a b : ℕ) → suc a ≡ suc b → a ≡ b
less_one a b is = omega (arith, is)

-- the call at a place was moved on
tied_moved : (polls : List Poll) (calls : List Asked) (at : ℕ) (core old new : Logged) (asked asked' : Asked)
    → StandsBehind at asked calls → Renews old asked asked' new → Tied polls calls (tickets_given old)
    → Tied (poll_of (suc at) core asked asked' ∷ polls) (slice_set calls at asked') (tickets_given new)
tied_moved polls calls at core old new asked asked' there renews tied = record {
  owned = λ place ticket a stands waited. owner place ticket a waited (behind_set place at a asked' calls stands);
  known = λ call ticket live. give call ticket live;
  one = λ call other ticket first second. same call other ticket first second;
  gone = λ ticket lets. lost ticket lets;
  ended = λ ticket place a lets stands waited. never ticket place a lets waited
      (behind_set place at a asked' calls stands);
}
  where
    -- the attempt after the poll is an older one of this call, or its ticket is past all that were given
    held_by : (ticket : ℕ)
        → WaitsWith ticket asked ⊎ ((tickets_given old < ticket) × (ticket ≤ tickets_given new))
        → WasLive (suc at) ticket polls ⊎ (tickets_given old < ticket)
    held_by ticket (inl waited) = inl (tied.owned at ticket asked there waited)
    held_by ticket (inr given) = inr given.0

    held : (ticket : ℕ) → WaitsWith ticket asked' → WasLive (suc at) ticket polls ⊎ (tickets_given old < ticket)
    held ticket waited = held_by ticket (renews.newer ticket waited)

    known_by : (ticket : ℕ)
        → WaitsWith ticket asked ⊎ ((tickets_given old < ticket) × (ticket ≤ tickets_given new))
        → ticket ≤ tickets_given new
    known_by ticket (inl waited) =
        at_most ticket (tickets_given old) (tickets_given new)
        (tied.known (suc at) ticket (tied.owned at ticket asked there waited)) renews.more
    known_by ticket (inr given) = given.1

    known_new : (ticket : ℕ) → WaitsWith ticket asked' → ticket ≤ tickets_given new
    known_new ticket waited = known_by ticket (renews.newer ticket waited)

    owner : (place ticket : ℕ) (a : Asked) → WaitsWith ticket a → Moved place at a asked' calls
        → ((suc at ≡ suc place) × WaitsWith ticket asked') ⊎ WasLive (suc place) ticket polls
    owner place ticket a waited (inl both) =
        inl (ap suc (sym both.0), ap (λ (x : Asked). ticket_in x.stage) (sym both.1) ∙ waited)
    owner place ticket a waited (inr other) = inr (tied.owned place ticket a other.1 waited)

    give : (call ticket : ℕ) → ((suc at ≡ call) × WaitsWith ticket asked') ⊎ WasLive call ticket polls
        → ticket ≤ tickets_given new
    give call ticket (inl here) = known_new ticket here.1
    give call ticket (inr live) =
        at_most ticket (tickets_given old) (tickets_given new) (tied.known call ticket live) renews.more

    past : (call ticket : ℕ) → WasLive call ticket polls → tickets_given old < ticket → ⊥
    past call ticket live less =
        let known = tied.known call ticket live in
        let no : ⊥ = omega (arith, known, less) in no

    alike : (other ticket : ℕ) → WasLive (suc at) ticket polls ⊎ (tickets_given old < ticket)
        → WasLive other ticket polls → suc at ≡ other
    alike other ticket (inl mine) live = tied.one (suc at) other ticket mine live
    alike other ticket (inr less) live = absurd (past other ticket live less)

    same : (call other ticket : ℕ) → ((suc at ≡ call) × WaitsWith ticket asked') ⊎ WasLive call ticket polls
        → ((suc at ≡ other) × WaitsWith ticket asked') ⊎ WasLive other ticket polls → call ≡ other
    same call other ticket (inl first) (inl second) = sym first.0 ∙ second.0
    same call other ticket (inl first) (inr live) = sym first.0 ∙ alike other ticket (held ticket first.1) live
    same call other ticket (inr live) (inl second) =
        sym (alike call ticket (held ticket second.1) live) ∙ second.0
    same call other ticket (inr first) (inr second) = tied.one call other ticket first second

    lost : (ticket : ℕ) → LetsGo ticket (poll_of (suc at) core asked asked') ⊎ WasLetGo ticket polls
        → ticket ≤ tickets_given new
    lost ticket (inl lets) =
        at_most ticket (tickets_given old) (tickets_given new)
        (tied.known (suc at) ticket (tied.owned at ticket asked there lets.waited)) renews.more
    lost ticket (inr lets) =
        at_most ticket (tickets_given old) (tickets_given new) (tied.gone ticket lets) renews.more

    again : (ticket : ℕ) → WasLetGo ticket polls
        → WaitsWith ticket asked ⊎ ((tickets_given old < ticket) × (ticket ≤ tickets_given new)) → ⊥
    again ticket lets (inl before) = tied.ended ticket at asked lets there before
    again ticket lets (inr given) =
        let known = tied.gone ticket lets in
        let no : ⊥ = omega (arith, known, given.0) in no

    never : (ticket place : ℕ) (a : Asked)
        → LetsGo ticket (poll_of (suc at) core asked asked') ⊎ WasLetGo ticket polls → WaitsWith ticket a
        → Moved place at a asked' calls → ⊥
    never ticket place a (inl lets) waited (inl both) =
        lets.gone (ap (λ (x : Asked). ticket_in x.stage) (sym both.1) ∙ waited)
    never ticket place a (inl lets) waited (inr other) =
        other.0 (less_one place at (tied.one (suc place) (suc at) ticket (tied.owned place ticket a other.1 waited)
        (tied.owned at ticket asked there lets.waited)))
    never ticket place a (inr lets) waited (inl both) =
        again ticket lets
        (renews.newer ticket (ap (λ (x : Asked). ticket_in x.stage) (sym both.1) ∙ waited))
    never ticket place a (inr lets) waited (inr other) = tied.ended ticket place a lets other.1 waited

-- ---- runs

one_back : (call : ℕ) → 0 < call → suc (call - 1) ≡ call
one_back call some = omega (arith, some)

within : (call count : ℕ) → 0 < call → call ≤ count → call - 1 < count
within call count some given = omega (arith, some, given)

moved_there : (call now : ℕ) (caller : Calling) (core : Logged) (asked : Asked) (r : Result (Unit {0}) NoMemory)
    (asked' : Asked) (caller' : Calling) (core' : Logged) → 0 < call → call ≤ length caller.calls
    → MovesCall call now caller core asked r asked' caller' core' → StandsBehind (call - 1) asked caller.calls
moved_there call now caller core asked r asked' caller' core' some given moves =
    behind_index (call - 1) asked caller.calls (within call (length caller.calls) some given) moves.at

tied_all : (polls : List Poll) (caller : Calling) (core : Logged) → Run polls caller core
    → Tied polls caller.calls (tickets_given core)
tied_all polls caller core (begins name tries patience start) = tied_new (tickets_given start)
tied_all polls caller core (takes_in earlier before at subject payload run) =
    tied_pushed earlier before.calls (new_call subject payload) (tickets_given at) refl (tied_all earlier before at run)
tied_all polls caller core (elsewhere earlier before old new run more) =
    tied_more earlier before.calls (tickets_given old) (tickets_given new) more (tied_all earlier before old run)
tied_all polls caller core (moves_on earlier call now before old asked r asked' next new run some given moves) =
    subst (λ number. Tied (poll_of number (caught_up old) asked asked' ∷ earlier) next.calls (tickets_given new))
    (one_back call some)
    (subst (λ calls. Tied (poll_of (suc (call - 1)) (caught_up old) asked asked' ∷ earlier) calls (tickets_given new))
    (sym moves.calls)
    (tied_moved earlier before.calls (call - 1) (caught_up old) old new asked asked'
    (moved_there call now before old asked r asked' next new some given moves)
    (call_renews call now before old asked r asked' next new moves) (tied_all earlier before old run)))

pub none_late : NoneLate
none_late polls caller core ticket zero asked run lets stands waited = stands
none_late polls caller core ticket (suc place) asked run lets stands waited =
    (tied_all polls caller core run).ended ticket place asked lets stands waited

-- ---- what settles a call

abbrev WasSettledSo : ℕ → Message → List Poll → Type 0
WasSettledSo call m polls = (ticket : ℕ) × WasSettled call ticket m polls

one_more : (call : ℕ) (m : Message) (poll : Poll) (polls : List Poll) → WasSettledSo call m polls
    → WasSettledSo call m (poll ∷ polls)
one_more call m poll polls was = (was.0, inr was.1)

-- what a poll answers of a call by a message comes from its attempt
replied_by_poll : (stage : Stage) (terms : Terms) (now numbers : ℕ) (asked : Asked) (old : Logged)
    (r : Result (Unit {0}) NoMemory) (numbers' : ℕ) (asked' : Asked) (new : Logged) (m : Message) → asked.stage ≡ stage
    → MovesFrom stage terms now numbers asked old r numbers' asked' new → IsReplied m asked'
    → IsReplied m asked ⊎ ((attempt : Attempt) × IsLive attempt asked)
replied_by_poll (stages.Settled outcome) terms now numbers asked old r numbers' asked' new m at moves is =
    inl (ap (λ (a : Asked). a.stage) (sym moves.1) ∙ is)
replied_by_poll stages.Resting terms now numbers asked old r numbers' asked' new m at moves is =
    absurd (not_tried terms now numbers asked old r numbers' asked' new m moves (λ e. not_resting m (sym at ∙ e)) is)
replied_by_poll (stages.Live attempt) terms now numbers asked old r numbers' asked' new m at moves is =
    inr (attempt, at)

replied_all : (polls : List Poll) (caller : Calling) (core : Logged) (place : ℕ) (asked : Asked) (m : Message)
    → Run polls caller core → StandsBehind place asked caller.calls → IsReplied m asked
    → WasSettledSo (suc place) m polls
replied_all polls caller core place asked m (begins name tries patience start) stands is = absurd stands
replied_all polls caller core place asked m (takes_in earlier before at subject payload run) stands is =
    by (behind_pushed place asked before.calls (new_call subject payload) stands)
    (λ there. replied_all earlier before at place asked m run there is)
  where
    by : StandsBehind place asked before.calls ⊎ (asked ≡ new_call subject payload)
        → (StandsBehind place asked before.calls → WasSettledSo (suc place) m earlier)
        → WasSettledSo (suc place) m earlier
    by (inl there) so = so there
    by (inr new) so = absurd (not_resting m (ap (λ (a : Asked). a.stage) (sym new) ∙ is))
replied_all polls caller core place asked m (elsewhere earlier before old new run more) stands is =
    replied_all earlier before old place asked m run stands is
replied_all polls caller core place asked m
    (moves_on earlier call now before old was r moved next new run some given moves) stands is =
    by (behind_set place (call - 1) asked moved before.calls
    (subst (λ calls. StandsBehind place asked calls) moves.calls stands))
    (λ there. replied_all earlier before old place asked m run there is)
    (λ there before_too. replied_all earlier before old place was m run there before_too)
  where
    number : place ≡ call - 1 → call ≡ suc place
    number e = omega (arith, e, some)

    found : place ≡ call - 1 → IsReplied m moved → IsReplied m was ⊎ ((attempt : Attempt) × IsLive attempt was)
        → (StandsBehind place was before.calls → IsReplied m was → WasSettledSo (suc place) m earlier)
        → WasSettledSo (suc place) m (poll_of call (caught_up old) was moved ∷ earlier)
    found e replied (inl before_too) so =
        one_more (suc place) m (poll_of call (caught_up old) was moved) earlier
        (so (subst (λ at. StandsBehind at was before.calls) (sym e)
        (moved_there call now before old was r moved next new some given moves)) before_too)
    found e replied (inr live) so =
        (live.0.ticket, inl (number e, record { waited = ap ticket_in live.1; replied = replied }))

    by : Moved place (call - 1) asked moved before.calls
        → (StandsBehind place asked before.calls → WasSettledSo (suc place) m earlier)
        → (StandsBehind place was before.calls → IsReplied m was → WasSettledSo (suc place) m earlier)
        → WasSettledSo (suc place) m (poll_of call (caught_up old) was moved ∷ earlier)
    by (inr other) here so =
        one_more (suc place) m (poll_of call (caught_up old) was moved) earlier (here other.1)
    by (inl both) here so =
        let replied : IsReplied m moved = ap (λ (a : Asked). a.stage) (sym both.1) ∙ is in
        found both.0 replied
        (replied_by_poll was.stage before.terms now before.numbers was (caught_up old) r next.numbers moved new m refl
        moves.moves replied) so

pub replied_by : RepliedBy
replied_by polls caller core zero asked m run stands is = absurd stands
replied_by polls caller core (suc place) asked m run stands is =
    replied_all polls caller core place asked m run stands is

-- ---- the reply

record LiveAttempt (stage : Stage) (ticket : ℕ) : Type 0 where
  attempt : Attempt
  live : stage ≡ stages.Live attempt

live_attempt : (stage : Stage) (ticket : ℕ) → ticket_in stage ≡ Some ticket → LiveAttempt stage ticket
live_attempt (stages.Live attempt) ticket is = record { attempt = attempt; live = refl }
live_attempt stages.Resting ticket is = absurd (none-some ticket is)
live_attempt (stages.Settled outcome) ticket is = absurd (none-some ticket is)

live_not_replied : (attempt : Attempt) (asked : Asked) (m : Message) → IsLive attempt asked → IsReplied m asked → ⊥
live_not_replied attempt asked m live is = not_live attempt m (sym live ∙ is)

abbrev FoundFirst : ℕ → Message → Logged → Type 0
FoundFirst ticket m core =
    (c : Config) (out : HandedOut) (h : History) → StandsFor c out h core.session → WasReplied c ticket m h

first_by : (c : Config) (h : History) (asked : Asked) (ticket : ℕ) (m : Message) → WaitsWith ticket asked
    → LiveAttempt asked.stage ticket → IsReplied m asked ⊎ RepliedSo c h m asked → WasReplied c ticket m h
first_by c h asked ticket m waited live (inl is) = absurd (live_not_replied live.attempt asked m live.live is)
first_by c h asked ticket m waited live (inr so) =
    subst (λ t. WasReplied c t m h)
    (same_Some so.attempt.ticket ticket (sym (ap ticket_in so.live) ∙ waited)) so.first

found_first : (call now : ℕ) (caller : Calling) (core : Logged) (asked : Asked) (r : Result (Unit {0}) NoMemory)
    (asked' : Asked) (caller' : Calling) (core' : Logged) (ticket : ℕ) (m : Message)
    → MovesCall call now caller core asked r asked' caller' core' → WaitsWith ticket asked → IsReplied m asked'
    → FoundFirst ticket m (caught_up core)
found_first call now caller core asked r asked' caller' core' ticket m moves waited replied c out h stands =
    first_by c h asked ticket m waited (live_attempt asked.stage ticket waited)
    (replied_only_so caller.terms now caller.numbers asked (caught_up core) r caller'.numbers asked' core' c out h m
    moves.moves stands replied)

abbrev FirstIn : ℕ → ℕ → Message → Type 0
FirstIn call ticket m =
    (poll : Poll) × (poll.call ≡ call) × Settles ticket m poll × FoundFirst ticket m poll.core

first_in : (polls : List Poll) (caller : Calling) (core : Logged) (call ticket : ℕ) (m : Message)
    → Run polls caller core → WasSettled call ticket m polls → FirstIn call ticket m
first_in polls caller core call ticket m (begins name tries patience start) was = absurd was
first_in polls caller core call ticket m (takes_in earlier before at subject payload run) was =
    first_in earlier before at call ticket m run was
first_in polls caller core call ticket m (elsewhere earlier before old new run more) was =
    first_in earlier before old call ticket m run was
first_in polls caller core call ticket m
    (moves_on earlier number now before old asked r asked' next new run some given moves) was =
    by was (λ there. first_in earlier before old call ticket m run there)
  where
    by : ((number ≡ call) × Settles ticket m (poll_of number (caught_up old) asked asked'))
        ⊎ WasSettled call ticket m earlier
        → (WasSettled call ticket m earlier → FirstIn call ticket m) → FirstIn call ticket m
    by (inl here) so = (
      poll_of number (caught_up old) asked asked',
      here.0,
      here.1,
      found_first number now before old asked r asked' next new ticket m moves here.1.waited here.1.replied,
    )
    by (inr there) so = so there

pub first_of_attempt : FirstOfAttempt
first_of_attempt polls caller core call ticket m run was = first_in polls caller core call ticket m run was

-- ---- one call

-- a poll that found the attempt of a ticket settled looked at a call whose attempt it was
settled_lived : (polls : List Poll) (caller : Calling) (core : Logged) (call ticket : ℕ) (m : Message)
    → Run polls caller core → WasSettled call ticket m polls → WasLive call ticket polls
settled_lived polls caller core call ticket m (begins name tries patience start) was = absurd was
settled_lived polls caller core call ticket m (takes_in earlier before at subject payload run) was =
    settled_lived earlier before at call ticket m run was
settled_lived polls caller core call ticket m (elsewhere earlier before old new run more) was =
    settled_lived earlier before old call ticket m run was
settled_lived polls caller core call ticket m
    (moves_on earlier number now before old asked r asked' next new run some given moves) was =
    by was (λ there. settled_lived earlier before old call ticket m run there)
  where
    by : ((number ≡ call) × Settles ticket m (poll_of number (caught_up old) asked asked'))
        ⊎ WasSettled call ticket m earlier
        → (WasSettled call ticket m earlier → WasLive call ticket earlier)
        → ((number ≡ call) × WaitsWith ticket asked') ⊎ WasLive call ticket earlier
    by (inl here) so =
        inr (subst (λ n. WasLive n ticket earlier) (one_back number some ∙ here.0)
        ((tied_all earlier before old run).owned (number - 1) ticket asked
        (moved_there number now before old asked r asked' next new some given moves) here.1.waited))
    by (inr there) so = inr (so there)

one_ticket : (c : Config) (h : History) (step : Step) (ticket other : ℕ) (m n : Message)
    → IsFirstReply c ticket m h step → IsFirstReply c other n h step → ticket ≡ other
one_ticket c h (read (message sid came)) ticket other m n first second =
    one_asked c h ticket other m.subject first.2
    (subst (λ (x : Message). WasAsked c other x.subject h) (sym second.1 ∙ first.1) second.2)
one_ticket c h step ticket other m n first second = absurd first

pub one_call : OneCall
one_call polls caller core call other ticket late m n c h step run was too first second =
    (tied_all polls caller core run).one call other ticket
    (settled_lived polls caller core call ticket m run was)
    (subst (λ t. WasLive other t polls) (sym (one_ticket c h step ticket late m n first second))
    (settled_lived polls caller core other late n run too))

-- ---- a poll is a step of a run

pub poll_goes_on : PollGoesOn
poll_goes_on polls call now caller core result caller' core' run some given
    (behind err same plays due) =
    ([], subst (λ k. Run polls k core') (sym same) (elsewhere polls caller core core' run (due_gives core core' plays)))
poll_goes_on polls call now caller core result caller' core' run some given (polled asked asked' r moves told) = (
  poll_of call (caught_up core) asked asked' ∷ [],
  moves_on polls call now caller core asked r asked' caller' core' run some given moves,
)
