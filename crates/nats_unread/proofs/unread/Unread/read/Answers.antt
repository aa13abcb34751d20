-- Memory is wanting only where it is taken.
use Rattle.std.proofs.Common.{sym, subst}
use Rattle.std.specs.Prelude.{IsTrue}
use Rattle.nats_lines.specs.Operations.{takes_memory}
use Rattle.nats_unread.proofs.Answering.{reads_wanting}
use Rattle.nats_unread.proofs.unread.Unread.read.Goals as goal

pub returns-in_err-sid-clause-reads : goal.returns-in_err-sid-clause-reads
returns-in_err-sid-clause-reads g c =
    let same = c.plain.ensures.same in
    reads_wanting c.args.self.now.bytes c.plain.new.self.bytes c.from_residual.result same
    (subst (λ b. IsTrue (takes_memory b)) (sym same) c.in_err-sid.ensures.memory) c.from_residual.ensures.1
