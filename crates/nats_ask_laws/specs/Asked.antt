-- Which request waits for a reply to a subject, and since when.
use Rattle.std.specs.Prelude.{◌≡◌, ℕ, suc, Bool, true, false, ◌⊎◌, List, [], ◌∷◌, Option, Some}
use Rattle.nats_lines.specs.Operations.{message}
use Rattle.nats_history.specs.declared.config.Config.{Config}
use Rattle.nats_history.specs.declared.call.Call.TheVariants.{Request}
use Rattle.nats_history.specs.declared.waits.Waits.{Waits}
use Rattle.nats_history.specs.declared.waits.Waits.TheVariants as waits
use Rattle.nats_history.specs.Queue.{first}
use Rattle.nats_history.specs.History.{Step, read, handled, passed, closed, History, inbox_of}
use Rattle.nats_history.specs.Tickets.{Tickets, tickets}

-- the request of a ticket waits for a reply to a subject
abbrev pub WaitsAt : ℕ → List ℕ → List (ℕ × List ℕ) → Type 0
WaitsAt ticket subject [] = ⊥
WaitsAt ticket subject (request ∷ more) =
    ((ticket ≡ request.0) × (subject ≡ request.1)) ⊎ WaitsAt ticket subject more

-- the oldest ticket whose call waits is of a request, whether its deadline came or not
abbrev pub is_of_asking : Option Waits → Bool
is_of_asking (Some waits.Request) = true
is_of_asking (Some waits.Late) = true
is_of_asking next = false

-- a step handles the request of a ticket, whose reply is to come to a subject: from then on it waits
abbrev pub Asks : Config → ℕ → List ℕ → Tickets → Step → Type 0
Asks c ticket subject t (handled (Request to payload headers token)) =
    (first t.queued ≡ Some waits.Request) × (inbox_of c token ≡ subject) × (ticket ≡ suc t.handled)
Asks c ticket subject t step = ⊥

-- a step leaves a waiting request alone: it reads no message to number 0 with the subject of its reply, handles no
-- other request whose reply is to come there, is not its deadline, and does not close the session
abbrev pub LeavesAlone : Config → ℕ → List ℕ → Tickets → Step → Type 0
LeavesAlone c ticket subject t (read (message sid m)) = sid ≡ 0 → m.subject ≡ subject → ⊥
LeavesAlone c ticket subject t (handled (Request to payload headers token)) =
    is_of_asking (first t.queued) ≡ true → inbox_of c token ≡ subject → ⊥
LeavesAlone c ticket subject t (passed other) = other ≡ ticket → ⊥
LeavesAlone c ticket subject t closed = ⊥
LeavesAlone c ticket subject t step = Unit {0}

-- a history, newest first, handles the request of a ticket whose reply is to come to a subject, and each step since
-- leaves it alone
abbrev pub WasAsked : Config → ℕ → List ℕ → History → Type 0
WasAsked c ticket subject [] = ⊥
WasAsked c ticket subject ((place, step) ∷ h) =
    Asks c ticket subject (tickets c h) step
    ⊎ (LeavesAlone c ticket subject (tickets c h) step × WasAsked c ticket subject h)
