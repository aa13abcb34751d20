-- What clauses say of a lock and of a place at it.
use Rattle.std.specs.Prelude.{◌≡◌, ℕ, List, Option}
use Rattle.atomic_table.specs.declared.shared.Seat.{Seat}
use Rattle.nats_ticket_lock.specs.declared.rule.View.{View}
use Rattle.nats_ticket_lock.specs.declared.ticket.TicketLock.{TicketLock}

-- what a holder has of a lock
abbrev pub Place : Type 0 → Type 0 → Type 0 → Type 0
Place D K E = Seat (Option D) (View K E)

module _ {K E D : Type 0} where
  -- what it knows
  abbrev pub view : Place D K E → View K E
  view p = p.me.0

  -- the value, while it is taken out
  abbrev pub hand : Place D K E → List (ℕ × Option D)
  hand p = p.me.1

  -- the place is of this lock
  abbrev pub IsAt : TicketLock D K E → Place D K E → Type 0
  IsAt lock p = p.table_id ≡ lock.table.shared.table_id

  -- it is the same place as before
  abbrev pub IsSame : Place D K E → Place D K E → Type 0
  IsSame old new = (new.table_id ≡ old.table_id) × (new.id ≡ old.id)
