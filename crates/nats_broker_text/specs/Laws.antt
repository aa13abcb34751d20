-- What stands at the front of a peer's bytes, as they grow.
use Rattle.std.specs.Prelude.{◌≡◌, ℕ, false, List, ◌++◌}
use Rattle.nats_broker_text.specs.Commands.{peer_front, is_unfinished}

-- a command that is there whole stays there, and what is none stays none, whatever comes behind
abbrev pub FrontStays : Type 0
FrontStays = (text more : List ℕ) → is_unfinished (peer_front text) ≡ false
    → peer_front (text ++ more) ≡ peer_front text
