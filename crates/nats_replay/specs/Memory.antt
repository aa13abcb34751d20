-- What contracts see of a source and a sink in memory.
use Rattle.std.specs.Prelude.{ℕ, List}

-- the bytes that are left, and what was counted
pub record Held : Type 0 where
  pub left : List ℕ
  pub given : ℕ
  pub ends : ℕ

-- the bytes that were written, and how many writes failed
pub record Kept : Type 0 where
  pub written : List ℕ
  pub faults : ℕ
