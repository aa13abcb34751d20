-- What pages end as, where a `&mut` to one of their rows is returned.
use Rattle.std.specs.Prelude.{◌≡◌, ℕ, List, Option, Some, OnSome}
use Rattle.std.specs.Borrow.{LendsSo, Fml, RattleType, MutBor}
use Rattle.nats_tables.specs.Rows.{ChangedAt}
use Rattle.nats_tables.specs.Pages.{row_of, given_in}
use Rattle.nats_tables.specs.contracts.pages.Pages.{the_row}

-- the same pages but for the row of a number
abbrev pub Rewritten : {A : Type 0} → ℕ → A → (old new : List (ℕ × List (Option A))) → Type 0
Rewritten number row old new = ChangedAt number (Some row) (row_of old) (row_of new) × (given_in new ≡ given_in old)

-- once the borrow r ends, the number has the last row written through r, and at `None` the pages stay as they are
abbrev pub lends_row : (T : RattleType) → MutBor (List (ℕ × List (Option T.Denot))) → ℕ → Option (MutBor T.Denot) → Fml
lends_row T s number r = LendsSo (the_row T) T s r (λ n row. OnSome r (Rewritten number row s.now n)) (λ n. n ≡ s.now)
