-- A write is played with all that it made due.
use Rattle.std.proofs.Common.{◌∙◌, ap}
use Rattle.nats_session.specs.Handler.{Seen}
use Rattle.nats_core.proofs.Cores.{none_caught_up}
use Rattle.nats_live.proofs.Stepping.{writes_gone, writes_once}
use Rattle.nats_live.proofs.step.write_some.Goals as goal

pub write_link-requires-clause-settled : goal.write_link-requires-clause-settled
write_link-requires-clause-settled g c = none_caught_up c.args.core.now c.catch_up.new.self c.in_ok-catch_up.ensures.ok

pub returns-then-not-is_up : goal.returns-then-not-is_up
returns-then-not-is_up g c = writes_gone c.args.core.now c.catch_up.new.self
    (g.T.LinkWrite.write_told c.args.write.now) c.is_up.result
    c.in_ok-catch_up.ensures.ok (c.is_up.ensures ∙ ap (λ (s : Seen). s.parts.link.is_up) c.handler.ensures.session) c.if-not-is_up.true

pub returns : goal.returns
returns g c = writes_once c.args.core.now c.catch_up.new.self c.write_link.new.self c.catch_up-2.new.self
    (g.T.LinkWrite.write_told c.args.write.now) (g.T.LinkWrite.write_told c.write_link.new.out) c.is_up.result
    c.in_ok-once.once
    c.in_ok-catch_up.ensures.ok (c.is_up.ensures ∙ ap (λ (s : Seen). s.parts.link.is_up) c.handler.ensures.session) c.if-not-is_up.false c.in_ok-once.ensures c.in_ok-catch_up-2.ensures.ok
