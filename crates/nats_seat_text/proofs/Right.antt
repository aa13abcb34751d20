-- The turns of a right journal may each come where they stand.
use Rattle.std.proofs.Common.{◌≡◌, List, None}
use Rattle.nats_history.specs.declared.config.Config.{Config}
use Rattle.nats_history.specs.Schedule.{out_of_turn}
use Rattle.nats_desk.specs.declared.entry.SeatEntry.{SeatEntry}
use Rattle.nats_desk.specs.Journal.{IsRightBySeat}
use Rattle.nats_seat_text.specs.Report.{turns_in}

pub all_come : (c : Config) (journal : List SeatEntry) → IsRightBySeat c journal → out_of_turn c (turns_in journal) ≡ None
unfolding IsRightBySeat
all_come c journal right = right.valid
