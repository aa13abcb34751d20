-- How clients and subscribers are seen.
use Rattle.std.specs.Prelude.{ℕ, Bool, Option}
use Rattle.nats_hub.specs.Tallying.{Holding}

-- a client: its parts, the accepted calls that it made, how many milliseconds its requests wait, if not for ever, and
-- whether it was shut
pub record ClientView : Type 0 where
  pub parts : ℕ
  pub made : ℕ
  pub timeout : Option ℕ
  pub is_shut : Bool

abbrev pub client_of : Holding → Option ℕ → Bool → ClientView
client_of holder timeout shut =
    record { parts = holder.parts; made = holder.made; timeout = timeout; is_shut = shut }

-- a subscriber: the accepted calls that it made, and how many of its takes found that none waits
pub record Subscribed : Type 0 where
  pub made : ℕ
  pub empties : ℕ
