-- Sentences about the words on histories and what steps make of parts.
use Rattle.std.specs.Prelude.{◌≡◌, ℕ, ◌≤◌, ◌<◌, ◌^◌, true, false, List, [], ◌∷◌, ◌++◌, length, map, max, Some, None}
use Rattle.std.specs.List.{filter}
use Rattle.nats_message.specs.declared.message.Message.{Message}
use Rattle.nats_lines.specs.Operations.{message, pong_op}
use Rattle.nats_history.specs.declared.config.Config.{Config}
use Rattle.nats_history.specs.declared.turn.Turn.{Turn}
use Rattle.nats_history.specs.declared.turn.Turn.TheVariants.{Piece}
use Rattle.nats_history.specs.declared.call.Call.TheVariants.{Limit, Drain}
use Rattle.nats_history.specs.declared.ping.Ping.TheVariants as pinged
use Rattle.nats_history.specs.Queue.{first}
use Rattle.nats_history.specs.History.{Step, came, opened, fed, read, handled, link_end, closed, History, concerns, at_of, pings, sub_of, is_open, has_room, call_ends, ends, told}
use Rattle.nats_history.specs.Tickets.{reaches, flushed_by, ticket_of, tickets}
use Rattle.nats_history.specs.Parts.{Parts, parts_of}
use Rattle.nats_history.specs.Schedule.{due, put_steps, settled, after_turn, steps, out_of_turn}
use Rattle.nats_history.specs.After.{after, after_all, due_steps}

-- what the words on a longer history give is what its newest step makes of the parts before it
abbrev pub PartsAfter : Type 0
PartsAfter =
    (c : Config) (h : History) (place : ℕ) (step : Step) → parts_of c ((place, step) ∷ h) ≡ after (parts_of c h) step

-- settling a history puts the steps that are due at its parts
abbrev pub SameSettled : Type 0
SameSettled = (c : Config) (place : ℕ) (h : History) → settled c place h ≡ put_steps place (due_steps (parts_of c h)) h

-- behind all due steps none is due
abbrev pub NoneLeft : Type 0
NoneLeft = (p : Parts) → due (after_all p (due_steps p)) ≡ None

-- after a turn none is due
abbrev pub NoneAfterTurn : Type 0
NoneAfterTurn =
    (c : Config) (place : ℕ) (turn : Turn) (h : History) → due (parts_of c (after_turn c place turn h)) ≡ None

-- none of these steps handles a limit of subscription s
abbrev pub NoLimit : ℕ → History → Type 0
NoLimit s [] = Unit {0}
NoLimit s ((place, handled (Limit k n)) ∷ later) = (s ≡ k → ⊥) × NoLimit s later
NoLimit s (e ∷ later) = NoLimit s later

-- once a limit n is handled for a subscription that is open, its puts never pass the greater of n and the puts
-- then, over any links, until another limit is handled for it
abbrev pub LimitHolds : Type 0
LimitHolds =
    (c : Config) (h : History) (place s n : ℕ) (later : History) → is_open (told c s h).stage ≡ true → n < 2 ^ 64
    → NoLimit s later
    → length (told c s (later ++ (place, handled (Limit s n)) ∷ h)).puts ≤ max n (length (told c s h).puts)

-- a step by which a drained subscription s goes on: it is no PONG of its drain, its link stays, and the step is no
-- end of s of another kind
abbrev pub GoesOn : Config → ℕ → History → Step → Type 0
GoesOn c s h (opened info) = ⊥
GoesOn c s h (link_end end) = ⊥
GoesOn c s h closed = ⊥
GoesOn c s h (read pong_op) = first (pings h) ≡ Some (pinged.Drain s) → ⊥
GoesOn c s h (read (message sid m)) = s ≡ sid → ends c (sub_of (told c s h)) (read (message sid m)) ≡ false
GoesOn c s h (handled (Drain k)) = Unit {0}
GoesOn c s h (handled call) = concerns s (at_of h) (handled call) ≡ true → call_ends call (sub_of (told c s h)) ≡ false
GoesOn c s h step = Unit {0}

-- the same of each of these steps, behind h
abbrev pub AllGoOn : Config → ℕ → History → History → Type 0
AllGoOn c s h [] = Unit {0}
AllGoOn c s h ((place, step) ∷ later) = GoesOn c s (later ++ h) step × AllGoOn c s h later

-- a subscription that is open is put each message of its number that is read on its link before the PONG of its
-- drain, also after its drain was handled, where its queue has room, it is not shut and it has no earlier end
abbrev pub DrainPuts : Type 0
DrainPuts =
    (c : Config) (h : History) (s place : ℕ) (m : Message) (later : History) → is_open (told c s h).stage ≡ true
    → AllGoOn c s h later
    → (told c s (later ++ h)).is_shut ≡ false → has_room c (sub_of (told c s (later ++ h))) ≡ true
    → (told c s ((place, came s m) ∷ later ++ h)).puts ≡ (told c s (later ++ h)).puts ++ (place, m) ∷ []

-- the flushes that n more bytes settle are all those that await no more: they stand in order
abbrev pub FlushesReached : Type 0
FlushesReached =
    (c : Config) (h : History) (n : ℕ) → flushed_by n (tickets c h).flushing
    ≡ map ticket_of (filter (reaches n) (tickets c h).flushing)

-- ---- cutting

abbrev pub onto_piece : List ℕ → List Turn → List Turn
onto_piece bytes (Piece more ∷ turns) = Piece (bytes ++ more) ∷ turns
onto_piece bytes turns = Piece bytes ∷ turns

-- a list of turns with the bytes of all pieces that stand side by side as one piece
abbrev pub uncut : List Turn → List Turn
uncut [] = []
uncut (Piece bytes ∷ turns) = onto_piece bytes (uncut turns)
uncut (turn ∷ turns) = turn ∷ uncut turns

-- two lists of turns differ only in how pieces that stand side by side cut the same bytes
abbrev pub CutAlike : List Turn → List Turn → Type 0
CutAlike turns others = uncut turns ≡ uncut others

abbrev pub onto_unfed : Step → List Step → List Step
onto_unfed (fed bytes) steps = steps
onto_unfed step steps = step ∷ steps

-- the steps of a history, newest first, without their places and without those by which bytes joined a link
abbrev pub unfed : History → List Step
unfed [] = []
unfed ((place, step) ∷ h) = onto_unfed step (unfed h)

-- two valid lists of turns that differ only in how pieces that stand side by side cut the same bytes make the same
-- happen
abbrev pub CutAnyhow : Type 0
CutAnyhow =
    (c : Config) (turns others : List Turn) → out_of_turn c turns ≡ None → out_of_turn c others ≡ None
    → CutAlike turns others
    → unfed (steps c turns) ≡ unfed (steps c others)

-- a valid list is valid uncut
abbrev pub UncutInTurn : Type 0
UncutInTurn = (c : Config) (turns : List Turn) → out_of_turn c turns ≡ None → out_of_turn c (uncut turns) ≡ None
