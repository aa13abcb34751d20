-- The youngest PING leaves, and with it one of its kind.
use Rattle.std.proofs.Common.{◌<◌, List, length, sym, subst, arith}
use Rattle.nats_history.specs.declared.ping.Ping.{Ping}
use Rattle.nats_subs.proofs.Pinged.{popped, popped_some}
use Rattle.nats_subs.proofs.pings.Pings.pop_back.Goals as goal

pub overflow_sub-self : goal.overflow_sub-self
overflow_sub-self c =
    let some = subst (λ (ps : List Ping). 0 < length ps) (sym c.self.view_is) c.requires in
    let left = popped c.self.inside.waiting c.pop_back.new.self c.pop_back.result c.in-Some.ping c.tick_of.result some c.pop_back.ensures c.in-Some.is c.tick_of.ensures in
    omega (arith, left, c.self.invariant)

pub invariant_of-self : goal.invariant_of-self
invariant_of-self c =
    let some = subst (λ (ps : List Ping). 0 < length ps) (sym c.self.view_is) c.requires in
    let left = popped c.self.inside.waiting c.pop_back.new.self c.pop_back.result c.in-Some.ping c.tick_of.result some c.pop_back.ensures c.in-Some.is c.tick_of.ensures in
    omega (arith, left, c.self.invariant)

pub invariant_of-self-in_default : goal.invariant_of-self-in_default
invariant_of-self-in_default c =
    let some = subst (λ (ps : List Ping). 0 < length ps) (sym c.self.view_is) c.requires in
    absurd (popped_some c.self.inside.waiting c.pop_back.new.self c.pop_back.result some c.pop_back.ensures c.in_default.is)
