-- One client of a broker, and the clients by their numbers.
use Rattle.std.specs.Prelude.{◌≡◌, ℕ, ◌+◌, Bool, true, false, List, [], ◌∷◌, ◌++◌, length, take, drop, Option, Some, None, Result, Ok, Err}
use Rattle.nats_names.specs.declared.failed.NoMemory.{NoMemory}
use Rattle.nats_info.specs.declared.info.ServerInfo.{ServerInfo}
use Rattle.nats_history.specs.declared.config.Config.{Config}
use Rattle.nats_history.specs.declared.turn.Turn.{Turn}
use Rattle.nats_history.specs.declared.turn.Turn.TheVariants.{Up, Piece}
use Rattle.nats_outboxes.specs.Outboxes.{item_of, at_number}
use Rattle.nats_core.specs.Journal.{Logged, config_of, journal_turns}
use Rattle.nats_moves.specs.Mesh.{Member, may_play}
use Rattle.nats_mesh.specs.Cores.{left_bytes}

-- a core with its journal, and how many bytes it was brought
abbrev pub member_of : Logged → ℕ → Member
member_of core brought = record { config = config_of core; turns = journal_turns core; brought = brought }

abbrev pub came_up : Config → ServerInfo → Member
came_up config told = record { config = config; turns = Up told ∷ []; brought = 0 }

-- ---- one client

-- a turn more, and so many bytes that were brought
abbrev pub with_turn : Turn → ℕ → Member → Member
with_turn turn count member = record {
  config = member.config;
  turns = member.turns ++ turn ∷ [];
  brought = member.brought + count;
}

-- a turn that may come is played; whether it may come is answered
abbrev pub Stepped : Member → Turn → Result Bool NoMemory → Member → Type 0
Stepped old turn (Ok true) new = (may_play old turn ≡ true) × (new ≡ with_turn turn 0 old)
Stepped old turn (Ok false) new = (may_play old turn ≡ false) × (new ≡ old)
Stepped old turn (Err e) new = Unit {0}

-- so many of the bytes of a text that were not brought yet, or all
abbrev pub next_of : List ℕ → ℕ → Member → List ℕ
next_of text n member = take n (drop member.brought text)

abbrev pub with_next : List ℕ → ℕ → Member → Member
with_next text n member = with_turn (Piece (next_of text n member)) (length (next_of text n member)) member

abbrev pub Brought : List ℕ → ℕ → Member → Result Bool NoMemory → Member → Type 0
Brought text n old (Ok true) new = (may_play old (Piece (next_of text n old)) ≡ true) × (new ≡ with_next text n old)
Brought text n old (Ok false) new = (may_play old (Piece (next_of text n old)) ≡ false) × (new ≡ old)
Brought text n old (Err e) new = Unit {0}

-- what waits for the link
abbrev pub left_of : Member → List ℕ
left_of member = left_bytes member.config member.turns

-- ---- by numbers

abbrev pub may_step : Turn → Option Member → Bool
may_step turn None = false
may_step turn (Some member) = may_play member turn

abbrev pub SteppedAt : ℕ → Turn → List Member → Result Bool NoMemory → List Member → Type 0
SteppedAt i turn old (Ok true) new = (may_step turn (item_of i old) ≡ true) × (new ≡ at_number i (with_turn turn 0) old)
SteppedAt i turn old (Ok false) new = (may_step turn (item_of i old) ≡ false) × (new ≡ old)
SteppedAt i turn old (Err e) new = Unit {0}

abbrev pub may_bring : List ℕ → ℕ → Option Member → Bool
may_bring text n None = false
may_bring text n (Some member) = may_play member (Piece (next_of text n member))

abbrev pub BroughtAt : ℕ → List ℕ → ℕ → List Member → Result Bool NoMemory → List Member → Type 0
BroughtAt i text n old (Ok true) new = (may_bring text n (item_of i old) ≡ true) × (new ≡ at_number i (with_next text n) old)
BroughtAt i text n old (Ok false) new = (may_bring text n (item_of i old) ≡ false) × (new ≡ old)
BroughtAt i text n old (Err e) new = Unit {0}

abbrev pub left_at : ℕ → Option Member → List ℕ
left_at n None = []
left_at n (Some member) = take n (left_of member)
