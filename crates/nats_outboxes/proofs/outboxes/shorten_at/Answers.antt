-- One text is changed.
use Rattle.std.proofs.Common.{sym, ◌∙◌, ap, arith, slice_set, ◌-◌}
use Rattle.nats_outboxes.specs.Outboxes.{shortened, at_number}
use Rattle.nats_outboxes.proofs.Changed.{at_its_number, no_number}
use Rattle.nats_outboxes.proofs.outboxes.shorten_at.Goals as goal

pub returns-then-peer-eq0 : goal.returns-then-peer-eq0
returns-then-peer-eq0 c = ap (λ p. at_number p (shortened c.args.n) c.args.outs.now) (sym c.if-peer-eq0.true)

pub returns-then-outs-peer : goal.returns-then-outs-peer
returns-then-outs-peer c = sym (no_number (shortened c.args.n) c.args.outs.now c.args.peer c.if-outs-peer.true)

pub returns : goal.returns
returns c =
    ap (λ new. slice_set c.args.outs.now (c.args.peer - 1) new) c.shorten.ensures
    ∙ at_its_number (shortened c.args.n) c.args.outs.now c.args.peer c.index-outs-peer.result c.if-peer-eq0.false c.if-outs-peer.false
