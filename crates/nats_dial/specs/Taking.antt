-- What a handshake makes of a list of servers: it takes in those that the INFO tells of, once.
use Rattle.std.specs.Prelude.{◌≡◌, ◌⊎◌, ℕ, List, Result, Ok, Err}
use Rattle.nats_handshake.specs.declared.stage.Stage.{Stage}
use Rattle.nats_handshake.specs.declared.stage.Stage.TheVariants as stage
use Rattle.nats_handshake.specs.declared.stage.Shake.{Shake}
use Rattle.nats_handshake.specs.declared.stage.Shake.TheVariants as shake
use Rattle.nats_handshake.specs.Errors.{Failure}
use Rattle.nats_handshake.specs.Shaking.{Talk}
use Rattle.nats_dial.specs.Lines.{IsAt}

-- `Takes p q urls skipped` says what becomes of a list of servers p at the addresses of an INFO, of which those are
-- skipped
module _ {P : Type 0} (Takes : P → P → List (List ℕ) → List (List ℕ) → Type 0) where
  -- servers were taken in at most once
  abbrev pub TookIn : P → P → Type 0
  TookIn p q = (q ≡ p) ⊎ ((urls : List (List ℕ)) × (skipped : List (List ℕ)) × Takes p q urls skipped)

  -- those that the INFO tells of were taken in but for the skipped ones, once it came
  abbrev pub HasTook : Stage → List (List ℕ) → P → P → Type 0
  HasTook stage.Greets skipped p q = q ≡ p
  HasTook (stage.Asks info left) skipped p q = Takes p q info.connect_urls skipped
  HasTook (stage.Linked info) skipped p q = Takes p q info.connect_urls skipped
  HasTook (stage.Refused kind) skipped p q = TookIn p q

  -- the same after one read, and at a handshake's end
  abbrev pub TookExchange : P → Result Shake Failure → Talk → P → Type 0
  TookExchange p (Ok s) t q = IsAt s t.stage × HasTook t.stage t.skipped p q
  TookExchange p (Err e) t q = TookIn p q

  abbrev pub TookShaken : P → Result (Unit {0}) Failure → Talk → P → Type 0
  TookShaken p (Ok done) t q = TookExchange p (Ok shake.Done) t q
  TookShaken p (Err e) t q = TookIn p q
