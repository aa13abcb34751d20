-- What workers publish, and what a journal has of that.
use Rattle.std.specs.Prelude.{◌≡◌, ℕ, zero, suc, ◌<◌, ◌≤◌, Bool, true, false, ◌&&◌, nat_eq, List, [], ◌∷◌, ◌++◌, Result, Ok, Err, None, codes, count_by, decimal}
use Rattle.nats_history.specs.declared.config.Config.{Config}
use Rattle.nats_history.specs.declared.call.Call.TheVariants.{Publish}
use Rattle.nats_history.specs.declared.call.CallReply.{CallReply}
use Rattle.nats_history.specs.declared.call.CallReply.TheVariants.{Accepted}
use Rattle.nats_history.specs.declared.turn.Turn.{Turn}
use Rattle.nats_history.specs.declared.turn.Turn.TheVariants.{Do, Up}
use Rattle.nats_info.specs.Info.{default_info}
use Rattle.nats_core.specs.declared.entry.StepReply.{StepReply}
use Rattle.nats_core.specs.declared.entry.StepReply.TheVariants as replies
use Rattle.nats_ticket_lock.specs.declared.rule.Account.{Account}
use Rattle.nats_ticket_lock.specs.Rule.{calls_of, newcomer}
use Rattle.nats_ticket_lock.specs.Steps.{add_own}
use Rattle.nats_desk.specs.declared.entry.SeatEntry.{SeatEntry}
use Rattle.nats_desk.specs.declared.errors.PlayError.{PlayError}
use Rattle.nats_desk.specs.Journal.{entry}
use Rattle.nats_seats.specs.declared.receipt.Receipt.{Receipt}
use Rattle.nats_seats.specs.Seats.{IsSame, Known, Plays, by_seat, number_of}

-- the publish k of a worker: the number k in decimal on its subject
abbrev pub publish_of : ℕ → ℕ → Turn
publish_of worker k =
    Do (Publish (record { subject = codes "t." ++ decimal worker; reply = None; payload = decimal k; headers = None }))

-- the entry of a publish that this seat made and that was accepted
abbrev pub accepted_entry : ℕ → Turn → SeatEntry
accepted_entry seat turn = entry seat turn (replies.Call Accepted)

-- the entries of a worker's publishes from 1 to k, in order, each accepted
abbrev pub published : ℕ → ℕ → List SeatEntry
published worker zero = []
published worker (suc k) = published worker k ++ accepted_entry (suc worker) (publish_of worker (suc k)) ∷ []

-- a worker's seat with these
abbrev pub worked : ℕ → ℕ → Account SeatEntry
worked worker k = record { number = suc worker; own = published worker k }

-- the seat made no entry and joined no other
abbrev pub IsFresh : Known → ℕ → Type 0
IsFresh seat number = seat.1.accounts ≡ record { number = number; own = [] } ∷ []

abbrev pub is_acceptance : CallReply → Bool
is_acceptance Accepted = true
is_acceptance reply = false

-- the reply is that a call was accepted, with no number
abbrev pub is_accepted : StepReply → Bool
is_accepted (replies.Call reply) = is_acceptance reply
is_accepted reply = false

-- a turn was played, and its reply is that it was accepted
abbrev pub WasAccepted : Result Receipt PlayError → Type 0
WasAccepted (Ok receipt) = is_accepted receipt.reply ≡ true
WasAccepted (Err error) = ⊥

-- a turn was played
abbrev pub WasPlayed : Result Receipt PlayError → Type 0
WasPlayed (Ok receipt) = Unit {0}
WasPlayed (Err error) = ⊥

-- one turn more of this seat was accepted
abbrev pub Accepts : Known → Known → Turn → Type 0
Accepts old new turn =
    IsSame old new × (new.1.accounts ≡ add_own (accepted_entry (number_of old) turn) old.1.accounts)

-- the seat of a worker made its publishes from 1 to k
abbrev pub HasWorked : ℕ → ℕ → Known → Known → Type 0
HasWorked worker k old new = IsSame old new × (new.1.accounts ≡ worked worker k ∷ [])

-- the seats of so many workers from this one on, the last first, with k publishes each
abbrev pub rows : ℕ → ℕ → ℕ → List (Account SeatEntry)
rows k worker zero = []
rows k worker (suc left) = rows k (suc worker) left ++ worked worker k ∷ []

-- the seats of so many workers from this one on, with k publishes each, were joined to a seat, the last first
abbrev pub AllWorked : ℕ → ℕ → ℕ → Known → Known → Type 0
AllWorked k worker left old new = IsSame old new × (new.1.accounts ≡ old.1.accounts ++ rows k worker left)

-- under the number of each of so many workers stand exactly its k publishes, in order, each accepted
abbrev pub EachPublished : ℕ → ℕ → List SeatEntry → Type 0
EachPublished workers k journal =
    (worker : ℕ) → 0 < worker → worker ≤ workers → calls_of by_seat (suc worker) journal ≡ published worker k

-- an entry under this number, whose reply is that it was accepted
abbrev pub is_accepted_by : ℕ → SeatEntry → Bool
is_accepted_by number e = nat_eq e.seat number && is_accepted e.reply

-- so many of a journal's entries under this number were accepted
abbrev pub accepted_by : ℕ → List SeatEntry → ℕ
accepted_by number journal = count_by (is_accepted_by number) journal

-- of each of so many workers k publishes were accepted
abbrev pub EachAccepted : ℕ → ℕ → List SeatEntry → Type 0
EachAccepted workers k journal =
    (worker : ℕ) → 0 < worker → worker ≤ workers → accepted_by (suc worker) journal ≡ k

-- ---- the first seat

-- the link comes up, and its server takes payloads of a mebibyte
abbrev pub up_turn : Turn
up_turn = Up (record default_info { max_payload = 1048576 })

abbrev pub up_account : Account SeatEntry
up_account = record { number = 1; own = entry 1 up_turn replies.Done ∷ [] }

-- a seat was opened, and nothing else happened at its session yet
abbrev pub IsNew : Known → Type 0
IsNew seat = (c : Config) × (seat.1 ≡ newcomer c)

-- it played a turn
abbrev pub PlaysOne : Known → Known → Turn → Type 0
PlaysOne old new turn = (receipt : Receipt) × Plays old new turn receipt

-- the first seat let the link come up, and did nothing else
abbrev pub IsUp : Known → Type 0
IsUp seat = seat.1.accounts ≡ up_account ∷ []

-- under the number of the first seat stands that the link came up, and beside this and the entries of so many workers
-- there is none
abbrev pub HasNoOthers : ℕ → List SeatEntry → Type 0
HasNoOthers workers journal =
    (calls_of by_seat 1 journal ≡ entry 1 up_turn replies.Done ∷ [])
    × ((n : ℕ) → (0 < n → n ≤ suc workers → ⊥) → calls_of by_seat n journal ≡ [])
