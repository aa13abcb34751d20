-- Why a turn is not played or a seat is not made, and what that prints.
use Rattle.std.specs.Prelude.{◌≡◌, ℕ, ◌+◌, ◌^◌, ◌<◌, ◌≤◌, false, List, length, codes}
use Rattle.nats_history.specs.declared.config.Config.{Config}
use Rattle.nats_history.specs.declared.turn.Turn.{Turn}
use Rattle.nats_desk.specs.declared.entry.SeatEntry.{SeatEntry}
use Rattle.nats_desk.specs.declared.errors.PlayError.{PlayError}
use Rattle.nats_desk.specs.declared.errors.PlayError.TheVariants.{OutOfTurn, NoMemory}
use Rattle.nats_desk.specs.declared.errors.SplitError.{SplitError}
use Rattle.nats_desk.specs.declared.errors.SplitError.TheVariants.{NoNumber, NoMemory as Wanting}
use Rattle.nats_desk.specs.Journal.{DeskSeen, last_seat, may_come}

-- behind this journal the turn comes back: it may not come there, or memory was wanting
abbrev pub Refused : Config → List SeatEntry → Turn → PlayError → Type 0
Refused c journal turn (OutOfTurn back) = (back ≡ turn) × (may_come c journal turn ≡ false)
Refused c journal turn (NoMemory back) = back ≡ turn

-- a desk gives no further number: the last one was given, or entries and seats together are 2^63
abbrev pub Unnumbered : DeskSeen → SplitError → Type 0
Unnumbered desk NoNumber = desk.made ≡ last_seat
Unnumbered desk Wanting = (desk.made < last_seat) × (2 ^ 63 ≤ length desk.journal + desk.made)

abbrev pub play_error_text : PlayError → List ℕ
play_error_text (OutOfTurn back) = codes "the turn may not come there"
play_error_text (NoMemory back) = codes "out of memory"

abbrev pub split_error_text : SplitError → List ℕ
split_error_text NoNumber = codes "no number is left for a seat"
split_error_text Wanting = codes "out of memory"
