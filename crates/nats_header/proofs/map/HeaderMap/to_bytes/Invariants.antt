use Rattle.std.proofs.Common.{◌≡◌, ◌++◌, codes}
use Rattle.nats_header.specs.Block.{crlf, lines_of}
use Rattle.nats_header.proofs.map.HeaderMap.to_bytes.Given as goal

abbrev pub invariant-loop-name : goal.invariant-loop-name
invariant-loop-name l = l.bytes.items ++ lines_of l.name-iterator ≡ codes "NATS/1.0" ++ crlf ++ lines_of l.self
