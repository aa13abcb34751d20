-- What a spawner counts.
use Rattle.std.specs.Prelude.{◌≡◌, ℕ, Result, Ok, Err}
use Rattle.nats_addr.specs.Resolving.{risen}
use Rattle.nats_system.specs.declared.fake_spawner.FakeSpawner.{FakeSpawner}

-- after a start: one that fails is counted
abbrev pub spawned : {E : Type 0} → Result (Unit {0}) E → ℕ → ℕ
spawned (Ok done) faults = faults
spawned (Err e) faults = risen 1 faults

-- a spawner in memory that started nothing yet
pub record IsNewSpawner (s : FakeSpawner) : Type 0 where
  pub starts : s.starts ≡ 0
  pub faults : s.faults ≡ 0
