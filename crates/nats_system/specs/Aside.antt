-- What stands beside that which connects.

-- a spawner, and the clock that jobs get copies of
pub record Aside (S C : Type 0) : Type 0 where
  pub spawner : S
  pub clock : C
