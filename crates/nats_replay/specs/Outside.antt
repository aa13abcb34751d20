-- What a source and a sink count, and what they tell of their bytes.
use Rattle.std.specs.Prelude.{ℕ, zero, suc, ◌+◌, ◌-◌, ◌^◌, ◌≤◌, ◌<◌, min, max, List, [], ◌∷◌, take, Option, Result, Ok, Err, OnErr}
use Rattle.std.specs.Io.KnownBytes.{Appends}

-- a count rose by that much at least; it stops at 2^64-1
abbrev pub RoseBy : ℕ → ℕ → ℕ → Type 0
RoseBy n before now = min (before + n) (2 ^ 64 - 1) ≤ now

-- a count rose; one that stands at its end counts as risen
abbrev pub Rose : ℕ → ℕ → Type 0
Rose before now = RoseBy 1 before now

-- a count did not rise; one that stands at its end counts as risen
abbrev pub Still : ℕ → ℕ → Type 0
Still before now = now < min (before + 1) (2 ^ 64 - 1)

-- a call that may fail: its count of faults never falls, and the call fails only where that count rose
pub record HasCause {T E : Type 0} (before now : ℕ) (result : Result T E) : Type 0 where
  pub later : before ≤ now
  pub failed : OnErr result (Rose before now)

-- a count after it rose by that much; it stops at 2^64-1, and never falls
abbrev pub risen : ℕ → ℕ → ℕ
risen n before = max before (min (before + n) (2 ^ 64 - 1))

-- how many bytes a read gave
abbrev pub given_by : {E : Type 0} → Result ℕ E → ℕ
given_by (Ok n) = n
given_by (Err e) = 0

-- how many ends a read of a buffer met: one where it gave nothing though there was room, and else none
abbrev pub ends_by : {E : Type 0} → Result ℕ E → List ℕ → ℕ
ends_by (Ok zero) [] = 0
ends_by (Ok zero) (room ∷ more) = 1
ends_by (Ok (suc n)) buf = 0
ends_by (Err e) buf = 0

-- known bytes grow by a first part of the text
abbrev pub AppendsFront : Option (List ℕ) → Option (List ℕ) → List ℕ → Type 0
AppendsFront before now text = (n : ℕ) × Appends before now (take n text)

-- the counts of a source
pub record Tally : Type 0 where
  pub given : ℕ
  pub ends : ℕ
  pub faults : ℕ
