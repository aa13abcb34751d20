-- The turns of a journal, one by one.
use Rattle.std.proofs.Common.{◌≡◌, List, [], ◌∷◌, ◌++◌, refl, ap}
use Rattle.nats_desk.specs.declared.entry.SeatEntry.{SeatEntry}
use Rattle.nats_seat_text.specs.Report.{turns_in}

-- one entry more
pub turns_more : (journal : List SeatEntry) (e : SeatEntry) → turns_in (journal ++ e ∷ []) ≡ turns_in journal ++ e.turn ∷ []
turns_more [] e = refl
turns_more (first ∷ journal) e = ap (λ turns. first.turn ∷ turns) (turns_more journal e)
