-- One peer is fed.
use Rattle.std.proofs.Common.{sym, ◌∙◌, ap, slice_set, ◌-◌}
use Rattle.std.proofs.lemmas.Result.{on_ok_weaker, on_err_weaker}
use Rattle.nats_outboxes.specs.Outboxes.{at_number}
use Rattle.nats_broker.specs.Peers.{fed_by}
use Rattle.nats_outboxes.proofs.Changed.{at_its_number, kept_at_number, no_number}
use Rattle.nats_broker.proofs.peers.feed_at.Goals as goal

pub returns-then-p-eq0-clause-ok : goal.returns-then-p-eq0-clause-ok
returns-then-p-eq0-clause-ok c = ap (λ p. at_number p (fed_by c.args.bytes.now) c.args.peers.now) (sym c.if-p-eq0.true)

pub returns-then-peers-p-clause-ok : goal.returns-then-peers-p-clause-ok
returns-then-peers-p-clause-ok c = sym (no_number (fed_by c.args.bytes.now) c.args.peers.now c.args.p c.if-peers-p.true)

pub returns-clause-ok : goal.returns-clause-ok
returns-clause-ok c = on_ok_weaker c.feed_one.result (λ is.
    ap (λ new. slice_set c.args.peers.now (c.args.p - 1) new) is
    ∙ at_its_number (fed_by c.args.bytes.now) c.args.peers.now c.args.p c.index-peers-p.result c.if-p-eq0.false c.if-peers-p.false) c.feed_one.ensures.ok

pub returns-clause-err : goal.returns-clause-err
returns-clause-err c = on_err_weaker c.feed_one.result (λ is.
    ap (λ new. slice_set c.args.peers.now (c.args.p - 1) new) is
    ∙ kept_at_number c.args.peers.now c.args.p c.index-peers-p.result c.if-p-eq0.false c.if-peers-p.false) c.feed_one.ensures.err
