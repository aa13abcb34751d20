-- One text is changed.
use Rattle.std.proofs.lemmas.Result.{on_ok_weaker, on_err_weaker}
use Rattle.std.proofs.Common.{sym, ◌∙◌, ap, arith, slice_set, ◌-◌, rules}
use Rattle.nats_outboxes.specs.Outboxes.{grown, at_number}
use Rattle.nats_outboxes.proofs.Changed.{at_its_number, kept_at_number, no_number}
use Rattle.nats_outboxes.proofs.outboxes.push_at.Goals as goal

pub returns-then-peer-eq0-clause-ok : goal.returns-then-peer-eq0-clause-ok
returns-then-peer-eq0-clause-ok c = ap (λ p. at_number p (grown c.args.text.now) c.args.outs.now) (sym c.if-peer-eq0.true)

pub returns-then-outs-peer-clause-ok : goal.returns-then-outs-peer-clause-ok
returns-then-outs-peer-clause-ok c = sym (no_number (grown c.args.text.now) c.args.outs.now c.args.peer c.if-outs-peer.true)

pub returns-clause-ok : goal.returns-clause-ok
returns-clause-ok c = on_ok_weaker c.push.result (λ is.
    ap (λ new. slice_set c.args.outs.now (c.args.peer - 1) new) is
    ∙ at_its_number (grown c.args.text.now) c.args.outs.now c.args.peer c.index-outs-peer.result c.if-peer-eq0.false c.if-outs-peer.false) c.push.ensures.ok

pub returns-clause-err : goal.returns-clause-err
returns-clause-err c = on_err_weaker c.push.result (λ is.
    ap (λ new. slice_set c.args.outs.now (c.args.peer - 1) new) is
    ∙ kept_at_number c.args.outs.now c.args.peer c.index-outs-peer.result c.if-peer-eq0.false c.if-outs-peer.false) c.push.ensures.err
