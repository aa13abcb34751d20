-- steps were paid for by bytes that came
use Rattle.std.proofs.Common.{◌+◌, ◌≤◌}
use Rattle.nats_wire_rows.proofs.steps.read_by_bytes.Given as goal

abbrev pub invariant-loop-byte : goal.invariant-loop-byte
invariant-loop-byte g l = l.steps + l.connection.untested ≤ l.byte-index
