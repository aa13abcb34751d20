-- What is known of the end of the first line is known nearer to the front, or not at all.
use Rattle.std.proofs.Common.{arith}
use Rattle.nats_lines.proofs.Scans.{looked_behind}
use Rattle.nats_unread.proofs.unread.Unread.advance.Goals as goal

pub invariant_of-self : goal.invariant_of-self
invariant_of-self c =
    let found = c.self.inside.found in
    let new = c.behind-self-inside.result in
    rw c.advance.ensures (
      looked_behind c.args.n found.place new.place found.ended new.ended c.self.inside.buf c.self.invariant.0 c.behind-self-inside.ensures,
      λ more short. absurd (omega arith),
      tt,
    )
