-- What contracts see of a connection.
use Rattle.std.specs.Prelude.{ℕ, ◌+◌, Bool, false, List, [], ◌++◌, length}

-- the bytes from the server that no operation took yet, and the bytes for the server that wait to be taken
pub record Wire : Type 0 where
  pub unread : List ℕ
  pub waiting : List ℕ

-- no byte came, and none waits
abbrev pub fresh : Wire
fresh = record { unread = []; waiting = [] }

-- the bytes of a connection, whether some were written since its writer was flushed, and how many unread bytes were
-- not tested yet for the end of a line
pub record Channel : Type 0 where
  pub wire : Wire
  pub is_written : Bool
  pub untested : ℕ

-- as a connection is made
abbrev pub new_channel : Channel
new_channel = record { wire = fresh; is_written = false; untested = 0 }

-- with bytes that came
abbrev pub with_fed : List ℕ → Channel → Channel
with_fed bytes channel = record channel {
  wire = record channel.wire { unread = channel.wire.unread ++ bytes };
  untested = channel.untested + length bytes;
}

-- with other unread bytes, of which so many were not tested
abbrev pub with_unread : List ℕ → ℕ → Channel → Channel
with_unread bytes untested channel =
    record channel { wire = record channel.wire { unread = bytes }; untested = untested }

-- with other waiting bytes
abbrev pub with_waiting : List ℕ → Channel → Channel
with_waiting bytes channel = record channel { wire = record channel.wire { waiting = bytes } }
