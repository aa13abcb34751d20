-- A journal by seats, when it is right, and how a desk is seen.
use Rattle.std.specs.Prelude.{◌≡◌, ℕ, Bool, true, List, [], ◌∷◌, ◌++◌, map}
use Rattle.nats_history.specs.declared.config.Config.{Config}
use Rattle.nats_history.specs.declared.turn.Turn.{Turn}
use Rattle.nats_history.specs.Parts.{Parts, parts_of}
use Rattle.nats_history.specs.Schedule.{is_valid_turn, steps}
use Rattle.nats_core.specs.declared.entry.Entry.{Entry}
use Rattle.nats_core.specs.declared.entry.StepReply.{StepReply}
use Rattle.nats_core.specs.Journal.{IsRight, Logged, config_of, reply_to, turns_of}
use Rattle.nats_desk.specs.declared.entry.SeatEntry.{SeatEntry}

-- the last number that is given to a seat
abbrev pub last_seat : ℕ
last_seat = 4294967295

-- the entry of a turn that this seat played
abbrev pub entry : ℕ → Turn → StepReply → SeatEntry
entry seat turn reply = record { seat = seat; turn = turn; reply = reply }

-- an entry less the number of its seat
abbrev pub plain_entry : SeatEntry → Entry
plain_entry e = record { turn = e.turn; reply = e.reply }

-- a journal less the numbers
abbrev pub plain : List SeatEntry → List Entry
plain journal = map plain_entry journal

-- a journal by seats is right under a config where it is so less the numbers: each turn may come where it stands, and
-- has its reply
unfoldable pub IsRightBySeat : Config → List SeatEntry → Type 0
IsRightBySeat c journal = IsRight c (plain journal)

-- what the turns of a journal make of a session, with all steps that they make due
unfoldable pub parts_at : Config → List SeatEntry → Parts
parts_at c journal = parts_of c (steps c (turns_of (plain journal)))

-- whether a turn may come behind a journal
unfoldable pub may_come : Config → List SeatEntry → Turn → Bool
may_come c journal turn = is_valid_turn (parts_at c journal) turn

-- what it answers there
unfoldable pub reply_at : Config → List SeatEntry → Turn → StepReply
reply_at c journal turn = reply_to (parts_at c journal) turn

-- ---- a desk as it is seen

-- the settings of its session, its journal, oldest first, and how many seats were made
pub record DeskSeen : Type 0 where
  pub config : Config
  pub journal : List SeatEntry
  pub made : ℕ

abbrev pub desk_of : Logged → List SeatEntry → ℕ → DeskSeen
desk_of core journal made = record { config = config_of core; journal = journal; made = made }

-- as it is made, for its first seat
abbrev pub new_desk : Config → DeskSeen
new_desk c = record { config = c; journal = []; made = 1 }

-- with one entry more
abbrev pub noted : SeatEntry → DeskSeen → DeskSeen
noted e desk = record desk { journal = desk.journal ++ e ∷ [] }

-- what each desk keeps: its core has the same journal less the numbers, and the journal is right
pub record IsNoted (core : Logged) (journal : List SeatEntry) : Type 0 where
  pub kept : core.is_kept ≡ true
  pub same : core.entries ≡ plain journal
  pub right : IsRightBySeat (config_of core) journal
