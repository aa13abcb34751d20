-- Memory is wanting only where it is taken.
use Rattle.std.proofs.Common.{◌≡◌, subst, rules}
use Rattle.std.specs.Prelude.{IsTrue}
use Rattle.nats_lines.specs.Operations.{takes_memory}
use Rattle.nats_wire.proofs.Looking.{looks_without_memory}
use Rattle.nats_wire.proofs.connection.Connection.peek_op.Goals as goal

pub returns-in-Err-clause-looks : goal.returns-in-Err-clause-looks
returns-in-Err-clause-looks c =
    let same : c.self.inside.unread.bytes ≡ c.args.self.now.wire.unread = search rules in
    looks_without_memory c.args.self.now.wire.unread (subst (λ bytes. IsTrue (takes_memory bytes)) same c.in-Err.ensures.memory)
