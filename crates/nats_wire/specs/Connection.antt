-- What a connection keeps, and what its calls make of it.
use Rattle.std.specs.Prelude.{◌≡◌, ℕ, Bool, IsTrue, List, nat_lt, if◌then◌else◌, Option, Some, None, Result, Ok, Err}
use Rattle.nats_outbuf.specs.declared.outbuf.ShouldFlush.{ShouldFlush}
use Rattle.nats_outbuf.specs.declared.outbuf.ShouldFlush.TheVariants as flush
use Rattle.nats_message.specs.declared.op.WireError.{WireError}
use Rattle.nats_message.specs.declared.op.WireError.TheVariants as refused
use Rattle.nats_wire.specs.declared.connection.Peeked.{Peeked}
use Rattle.nats_lines.specs.Operations.{Front, unfinished, got, fault, peeked_view}

-- a look at the front of the unread bytes tells what stands there; memory can be wanting only for an operation, and
-- at a fault where memory is taken to tell it
abbrev pub Looks : Front → Bool → Result (Option Peeked) WireError → Type 0
Looks (got operation n) takes (Ok (Some peeked)) = (peeked_view peeked.op ≡ operation) × (peeked.len ≡ n)
Looks unfinished takes (Ok None) = Unit {0}
Looks (fault n) takes (Err refused.ReadFault) = Unit {0}
Looks (got operation n) takes (Err refused.NoMemory) = Unit {0}
Looks (fault n) takes (Err refused.NoMemory) = IsTrue takes
Looks front takes result = ⊥

-- whether a writer is to be flushed, by whether bytes were written since the last flush and how many wait
abbrev pub flush_by : Bool → ℕ → ShouldFlush
flush_by is_written waiting = if is_written then (if nat_lt 0 waiting then flush.May else flush.Yes) else flush.No
