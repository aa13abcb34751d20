-- One more PING is one more of its kind.
use Rattle.std.proofs.Common.{◌≡◌, ◌+◌, ap, ◌∙◌, arith}
use Rattle.nats_history.specs.History.{tick_of, ticks}
use Rattle.nats_subs.proofs.Pinged.{ticks_more}
use Rattle.nats_subs.proofs.pings.Pings.push.Goals as goal

pub invariant_of-self-2 : goal.invariant_of-self-2
invariant_of-self-2 c =
    let more : ticks c.push.new.self ≡ ticks c.self.inside.waiting + tick_of c.args.ping =
    ap ticks c.in-Ok.ensures.ok ∙ ticks_more c.self.inside.waiting c.args.ping
    in
    omega (arith, more, c.in-Some.ensures.1, c.self.invariant, c.tick_of.ensures)
