-- One peer is changed.
use Rattle.std.proofs.Common.{sym, ◌∙◌, ap, slice_set, ◌-◌}
use Rattle.nats_outboxes.specs.Outboxes.{at_number}
use Rattle.nats_broker.specs.Peers.{ended}
use Rattle.nats_outboxes.proofs.Changed.{at_its_number, no_number}
use Rattle.nats_broker.proofs.peers.end_at.Goals as goal

pub returns-then-p-eq0 : goal.returns-then-p-eq0
returns-then-p-eq0 c = ap (λ p. at_number p (ended c.args.word) c.args.peers.now) (sym c.if-p-eq0.true)

pub returns-then-peers-p : goal.returns-then-peers-p
returns-then-peers-p c = sym (no_number (ended c.args.word) c.args.peers.now c.args.p c.if-peers-p.true)

pub returns : goal.returns
returns c =
    ap (λ new. slice_set c.args.peers.now (c.args.p - 1) new) c.end_one.ensures
    ∙ at_its_number (ended c.args.word) c.args.peers.now c.args.p c.index-peers-p.result c.if-p-eq0.false c.if-peers-p.false
