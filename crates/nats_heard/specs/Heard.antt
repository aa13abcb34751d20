-- What a subscription was put and dropped, beside all that was read of its number.
use Rattle.std.specs.Prelude.{◌≡◌, ℕ, Bool, true, false, not, ◌==◌, nat_lt, List, [], ◌∷◌, ◌++◌, filter, map, if◌then◌else◌}
use Rattle.nats_message.specs.declared.message.Message.{Message}
use Rattle.nats_lines.specs.Operations.{Operation, message, operations}
use Rattle.nats_history.specs.declared.config.Config.{Config}
use Rattle.nats_history.specs.declared.stage.Stage.{Stage}
use Rattle.nats_history.specs.declared.stage.Stage.TheVariants.{Asked, Open, Ended}
use Rattle.nats_history.specs.declared.turn.Turn.{Turn}
use Rattle.nats_history.specs.declared.turn.Turn.TheVariants.{Up}
use Rattle.nats_info.specs.declared.info.ServerInfo.{ServerInfo}
use Rattle.nats_history.specs.History.{Step, read, History, second, joined, concerns, at_of, sub_of, puts_by, drops_by, told}
use Rattle.nats_history.specs.Schedule.{steps}

abbrev pub message_of : ℕ → Step → List Message
message_of s (read (message sid m)) = if s == sid then m ∷ [] else []
message_of s step = []

-- the messages of a number that were read
abbrev pub messages_read : ℕ → History → List Message
messages_read s [] = []
messages_read s ((place, step) ∷ h) = messages_read s h ++ message_of s step

abbrev pub heard_by : Config → ℕ → ℕ → History → Step → List Message
heard_by c s place h step =
    if concerns s (at_of h) step
    then map second (puts_by c place (sub_of (told c s h)) step ++ drops_by c place (sub_of (told c s h)) step) else []

-- those of them that were put or dropped, in the order of reading
abbrev pub heard : Config → ℕ → History → List Message
heard c s [] = []
heard c s ((place, step) ∷ h) = heard c s h ++ heard_by c s place h step

abbrev pub is_asked : Stage → Bool
is_asked Asked = true
is_asked Open = false
is_asked Ended = false

-- a message of the number comes only once its subscribe was handled
abbrev pub ComesBegun : Config → ℕ → History → Step → Type 0
ComesBegun c s h (read (message sid m)) = s ≡ sid → is_asked (told c s h).stage ≡ false
ComesBegun c s h step = Unit {0}

abbrev pub ComeBegun : Config → ℕ → History → Type 0
ComeBegun c s [] = Unit {0}
ComeBegun c s ((place, step) ∷ h) = ComesBegun c s h step × ComeBegun c s h

-- then what was put and dropped is a beginning of what was read
abbrev pub PrefixHeard : Type 0
PrefixHeard = (c : Config) (s : ℕ) (h : History) → ComeBegun c s h
    → (rest : List Message) × (messages_read s h ≡ heard c s h ++ rest)

abbrev pub is_before : ℕ → ℕ × Message → Bool
is_before place row = nat_lt row.0 place

abbrev pub is_from : ℕ → ℕ × Message → Bool
is_from place row = not (nat_lt row.0 place)

-- puts and drops by their places, puts first where these are equal
abbrev pub by_place : List (ℕ × Message) → List (ℕ × Message) → List Message
by_place [] drops = map second drops
by_place (put ∷ puts) drops =
    map second (filter (is_before put.0) drops) ++ second put ∷ by_place puts (filter (is_from put.0) drops)

-- whatever turns are played, that is the order of reading: once a message was dropped none is put before the next turn
abbrev pub HeardByPlace : Type 0
HeardByPlace = (c : Config) (s : ℕ) (turns : List Turn)
    → by_place (told c s (steps c turns)).puts (told c s (steps c turns)).drops ≡ heard c s (steps c turns)

-- ---- what is read of a text

abbrev pub message_in : ℕ → Operation → List Message
message_in s (message sid m) = if s == sid then m ∷ [] else []
message_in s operation = []

-- the messages of a number among operations
abbrev pub messages_in : ℕ → List Operation → List Message
messages_in s [] = []
messages_in s (operation ∷ operations) = message_in s operation ++ messages_in s operations

-- no link comes up
abbrev pub NoneUp : List Turn → Type 0
NoneUp [] = Unit {0}
NoneUp (Up info ∷ turns) = ⊥
NoneUp (turn ∷ turns) = NoneUp turns

-- on one link, the messages that were read are the first of those that its joined bytes have
abbrev pub ReadOfJoined : Type 0
ReadOfJoined = (c : Config) (s : ℕ) (info : ServerInfo) (turns : List Turn) → NoneUp turns
    → (rest : List Message)
    × (messages_in s (operations (joined (steps c (Up info ∷ turns))))
    ≡ messages_read s (steps c (Up info ∷ turns)) ++ rest)
