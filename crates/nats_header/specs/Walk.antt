-- What the iterator over a header map lends.
use Rattle.std.specs.Prelude.{ℕ, List}
use Rattle.std.specs.Borrow.{Bor}
use Rattle.nats_header.specs.Headers.{Field}

-- what a name and a slice of values, both lent, point to
abbrev pub deref_field : Bor (List ℕ) × Bor (List (List ℕ)) → Field
deref_field lent = (lent.0.now, lent.1.now)
