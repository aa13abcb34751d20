-- A read is played with all that it made due.
use Rattle.std.proofs.Common.{◌∙◌, ap}
use Rattle.nats_session.specs.Handler.{Seen}
use Rattle.nats_core.proofs.Cores.{none_caught_up}
use Rattle.nats_live.proofs.Stepping.{reads_gone, reads_once}
use Rattle.nats_live.proofs.step.read_some.Goals as goal

pub read_link-requires-clause-settled : goal.read_link-requires-clause-settled
read_link-requires-clause-settled g c = none_caught_up c.args.core.now c.catch_up.new.self c.in_ok-catch_up.ensures.ok

pub returns-then-not-is_up-clause-reads : goal.returns-then-not-is_up-clause-reads
returns-then-not-is_up-clause-reads g c =
    reads_gone c.args.core.now c.catch_up.new.self c.args.buf.now (g.L.LinkRead.read_told c.args.read.now) c.is_up.result
    c.in_ok-catch_up.ensures.ok (c.is_up.ensures ∙ ap (λ (s : Seen). s.parts.link.is_up) c.handler.ensures.session) c.if-not-is_up.true

pub returns-clause-reads : goal.returns-clause-reads
returns-clause-reads g c =
    reads_once c.args.core.now c.catch_up.new.self c.read_link.new.self c.catch_up-2.new.self c.read_link.new.buf
    (g.L.LinkRead.read_told c.args.read.now) (g.L.LinkRead.read_told c.read_link.new.from) c.is_up.result c.in_ok-once.once
    c.in_ok-catch_up.ensures.ok (c.is_up.ensures ∙ ap (λ (s : Seen). s.parts.link.is_up) c.handler.ensures.session) c.if-not-is_up.false c.in_ok-once.ensures c.in_ok-catch_up-2.ensures.ok
