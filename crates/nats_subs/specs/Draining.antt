-- Which subscriptions end with their link, and which of them are noted.
use Rattle.std.specs.Prelude.{◌≡◌, ℕ, Bool, true, false, ◌&&◌, ◌||◌, List, Option, Some, None, is_some}
use Rattle.nats_tables.specs.Numbers.{item_of}
use Rattle.nats_tables.specs.Rows.{look}
use Rattle.nats_history.specs.History.{Sub, is_open}
use Rattle.nats_subs.specs.declared.drained.Drained.{Drained}

-- it ends with its link
abbrev pub is_drained : Sub → Bool
is_drained sub = sub.is_draining && is_open sub.stage

-- the same of a table's item, where there is one
abbrev pub drained_at : Option Sub → Bool
drained_at None = false
drained_at (Some sub) = is_drained sub

-- a number was noted, or not all were
abbrev pub has : Drained → ℕ → Bool
has d s = d.is_partial || is_some (look s d.noted.entries)

-- each one that ends with its link was noted
abbrev pub Covers : Drained → List Sub → Type 0
Covers d rows = (s : ℕ) → drained_at (item_of s rows) ≡ true → has d s ≡ true

-- what was noted still is, but for one number
abbrev pub LeavesOthers : ℕ → Drained → Drained → Type 0
LeavesOthers k d e = (s : ℕ) → (s ≡ k → ⊥) → has d s ≡ true → has e s ≡ true
