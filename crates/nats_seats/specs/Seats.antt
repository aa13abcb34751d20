-- What contracts say of a seat.
use Rattle.std.specs.Prelude.{◌≡◌, ℕ, suc, ◌^◌, ◌<◌, ◌≤◌, true, List, [], ◌∷◌, ◌++◌, length, map, Some}
use Rattle.atomic_table.specs.Seated.{TableId}
use Rattle.nats_history.specs.declared.config.Config.{Config}
use Rattle.nats_history.specs.declared.turn.Turn.{Turn}
use Rattle.nats_core.specs.declared.entry.StepReply.{StepReply}
use Rattle.nats_ticket_lock.specs.declared.rule.Account.{Account}
use Rattle.nats_ticket_lock.specs.declared.rule.Stage.TheVariants.{Idle}
use Rattle.nats_ticket_lock.specs.declared.rule.View.{View}
use Rattle.nats_ticket_lock.specs.declared.ticket.TicketLock.{TicketLock}
use Rattle.nats_ticket_lock.specs.Tally.{count_in}
use Rattle.nats_ticket_lock.specs.Rule.{Begins, Owns, calls_of}
use Rattle.nats_ticket_lock.specs.Steps.{first_number, add_own, longer}
use Rattle.nats_ticket_lock.specs.Places.{Place, IsAt}
use Rattle.nats_desk.specs.declared.desk.Desk.{Desk}
use Rattle.nats_desk.specs.declared.entry.SeatEntry.{SeatEntry}
use Rattle.nats_desk.specs.declared.errors.PlayError.{PlayError}
use Rattle.nats_desk.specs.declared.errors.SplitError.{SplitError}
use Rattle.nats_desk.specs.declared.errors.SplitError.TheVariants.{NoNumber, NoMemory}
use Rattle.nats_desk.specs.Journal.{IsRightBySeat, entry, last_seat, may_come, reply_at}
use Rattle.nats_desk.specs.Refusals.{Refused}
use Rattle.nats_seats.specs.declared.receipt.Receipt.{Receipt}

-- which session it is of, and what it knows of that
abbrev pub Known : Type 0
Known = TableId × View Config SeatEntry

abbrev pub by_seat : SeatEntry → ℕ
by_seat e = e.seat

-- what each seat keeps: a place at its lock, with no ticket and nothing in hand, that knows its settings and its
-- number, and has the numbers of so many that it joined
abbrev pub IsSeated : TicketLock Desk Config SeatEntry → Place Desk Config SeatEntry → ℕ → ℕ → Type 0
IsSeated lock place number joined =
    IsAt lock place × (place.me.0.stage ≡ Idle) × (place.me.1 ≡ []) × ((k : Config) × (place.me.0.about ≡ Some k))
    × (first_number place.me.0.accounts ≡ number) × (0 < number) × (length place.me.0.accounts ≡ suc joined)
    × (length place.me.0.accounts ≤ 2 ^ 63)

-- ---- what it knows

-- its number
abbrev pub number_of : Known → ℕ
number_of k = first_number k.1.accounts

-- the part of the journal that it has seen, a beginning of it
abbrev pub seen : Known → List SeatEntry
seen k = k.1.seen

abbrev pub first_own : List (Account SeatEntry) → List SeatEntry
first_own [] = []
first_own (a ∷ rest) = a.own

-- the entries under its number
abbrev pub own : Known → List SeatEntry
own k = first_own k.1.accounts

abbrev pub the_number : Account SeatEntry → ℕ
the_number a = a.number

-- its numbers: its own and those of the seats that it joined
abbrev pub numbers_of : Known → List ℕ
numbers_of k = map the_number k.1.accounts

-- in what it has seen, the entries under each of its numbers are just those that it knows
abbrev pub KnowsAll : Known → Type 0
KnowsAll k = Owns by_seat (seen k) k.1.accounts

-- what it has seen is right under the settings of its session
abbrev pub SeesRight : Known → Type 0
SeesRight k = (c : Config) → k.1.about ≡ Some c → IsRightBySeat c (seen k)

-- ---- what a call leaves

-- it is of the same session, with the same settings
abbrev pub IsSame : Known → Known → Type 0
IsSame old new = (new.0 ≡ old.0) × (new.1.about ≡ old.1.about)

-- nothing but what was seen has changed, and that has grown; in it, under each of its numbers stand just the entries
-- that it knows
abbrev pub Sees : Known → Known → Type 0
Sees old new = IsSame old new × (new.1.accounts ≡ old.1.accounts) × Begins (seen new) (seen old) × KnowsAll new

-- behind this journal the turn may come, and has this reply
abbrev pub Answers : Known → List SeatEntry → Turn → StepReply → Type 0
Answers k before turn reply =
    (c : Config) → k.1.about ≡ Some c → (may_come c before turn ≡ true) × (reply ≡ reply_at c before turn)

-- the entry that this seat makes of a turn
abbrev pub entry_by : Known → Turn → Receipt → SeatEntry
entry_by k turn receipt = entry (number_of k) turn receipt.reply

-- a turn of this seat was played: what it has seen begins with what it had seen and ends with this entry, and the
-- entries under its number are its own, one more than before
abbrev pub Plays : Known → Known → Turn → Receipt → Type 0
Plays old new turn receipt =
    IsSame old new × (new.1.accounts ≡ add_own (entry_by old turn receipt) old.1.accounts)
    × ((before : List SeatEntry) × Begins before (seen old) × (seen new ≡ before ++ entry_by old turn receipt ∷ [])
    × Answers old before turn receipt.reply)
    × (receipt.place ≡ length (seen new)) × (own new ≡ own old ++ entry_by old turn receipt ∷ [])
    × (calls_of by_seat (number_of new) (seen new) ≡ own new) × KnowsAll new

-- the turn comes back, and may not come behind all that is seen now, or memory was wanting
abbrev pub Refuses : Known → Turn → PlayError → Type 0
Refuses new turn error = (c : Config) → new.1.about ≡ Some c → Refused c (seen new) turn error

-- a new seat of the same session, that has no entry and has joined none, and whose number is one more than the seats
-- made before it
abbrev pub Made : Known → Known → Type 0
Made old new =
    IsSame old new × Begins (seen new) (seen old) × (number_of new ≡ new.1.made) × (own new ≡ [])
    × (length new.1.accounts ≡ 1) × (old.1.made < new.1.made) × (number_of new ≤ last_seat)

-- no further seat is made: of so many the last has the last number, or memory was wanting
abbrev pub NoSeat : ℕ → SplitError → Type 0
NoSeat made NoNumber = made ≡ last_seat
NoSeat made NoMemory = Unit {0}

-- nothing but what was seen has changed, and that has grown
abbrev pub Stays : Known → Known → Type 0
Stays old new = IsSame old new × (new.1.accounts ≡ old.1.accounts) × Begins (seen new) (seen old)

-- what both had seen are beginnings of what the one that is kept has seen, which is the longer of them; it has the
-- numbers of both with their entries
abbrev pub Joined : Known → Known → Known → Type 0
Joined old other new =
    IsSame old new × (new.1.accounts ≡ old.1.accounts ++ other.1.accounts)
    × (seen new ≡ longer (seen old) (seen other)) × Begins (seen new) (seen old) × Begins (seen new) (seen other)
    × KnowsAll new

-- each number that was given is among its numbers, once
abbrev pub HasAllNumbers : Known → Type 0
HasAllNumbers k =
    (made : ℕ) × (length k.1.accounts ≡ made)
    × ((n : ℕ) → 0 < n → n ≤ made → count_in n (numbers_of k) ≡ 1)

-- no entry is under another number
abbrev pub HasOnly : Known → List SeatEntry → Type 0
HasOnly k journal = (n : ℕ) → count_in n (numbers_of k) ≡ 0 → calls_of by_seat n journal ≡ []

-- the whole journal begins with what was seen, the entries under each of its numbers are just those that it knows, it
-- has the numbers of all seats, and no entry is under another number
abbrev pub Closes : Known → List SeatEntry → Type 0
Closes old journal =
    Begins journal (seen old) × Owns by_seat journal old.1.accounts × HasAllNumbers old × HasOnly old journal

-- the journal is right under the settings of its session
abbrev pub IsRightFor : Known → List SeatEntry → Type 0
IsRightFor k journal = (c : Config) → k.1.about ≡ Some c → IsRightBySeat c journal
