-- What is known of some bytes is true of more.
use Rattle.nats_lines.proofs.Scans.{looked_more, needs_more, ready_more}
use Rattle.nats_unread.proofs.unread.Unread.feed_shared.Goals as goal

pub invariant_of-self-2 : goal.invariant_of-self-2
invariant_of-self-2 c =
    let buf = c.self.inside.buf in
    let more = c.args.bytes.now in
    rw c.in_ok-feed_shared.ensures.ok (
      looked_more c.self.inside.found.place c.self.inside.found.ended buf more c.self.invariant.0,
      needs_more buf more c.self.inside.needed c.self.invariant.1,
      ready_more c.self.inside.ready buf more c.self.invariant.2,
    )
