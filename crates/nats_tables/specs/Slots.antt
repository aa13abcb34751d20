-- What a page ends as, where a `&mut` to one of its rows is returned.
use Rattle.std.specs.Prelude.{ℕ, List, Option, Some, slice_set}
use Rattle.std.specs.Borrow.{LendsIf, Fml, RattleType, MutBor}
use Rattle.nats_tables.specs.contracts.slots.Slots.{the_row}

-- once the borrow r ends, the slot has the last row written through r, and at `None` the slots stay as they are
abbrev pub lends_slot : (T : RattleType) → MutBor (List (Option T.Denot)) → ℕ → Option (MutBor T.Denot) → Fml
lends_slot T s slot r = LendsIf (the_row T) T s r (λ row. slice_set s.now slot (Some row)) s.now
