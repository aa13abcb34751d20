-- The call of the place is marked, if there is one.
use Rattle.std.proofs.Common.{◌-◌, ◌∙◌, arith}
use Rattle.nats_tickets.proofs.Rooms.{late_past, late_set, late_asked, asked_past}
use Rattle.nats_tickets.proofs.tickets.time_out_at.Goals as goal

pub returns-then-index-len-clause-asked : goal.returns-then-index-len-clause-asked
returns-then-index-len-clause-asked c =
    asked_past c.args.place (c.args.place - 1) c.args.queued.now.items (omega (arith, c.if-place-eq0.false)) (omega (arith, c.if-index-len.true, c.args.queued.now.ok))

pub returns-then-index-len-clause-rest : goal.returns-then-index-len-clause-rest
returns-then-index-len-clause-rest c =
    late_past c.args.place (c.args.place - 1) c.args.queued.now.items (omega (arith, c.if-place-eq0.false)) (omega (arith, c.if-index-len.true, c.args.queued.now.ok))

pub returns-clause-asked : goal.returns-clause-asked
returns-clause-asked c =
    c.time_out_one.ensures.asked
    ∙ late_asked c.args.place (c.args.place - 1) c.args.queued.now.items c.index_mut.result.now (omega (arith, c.if-place-eq0.false)) (omega (arith, c.if-index-len.false, c.args.queued.now.ok)) c.index_mut.ensures.value

pub returns-clause-rest : goal.returns-clause-rest
returns-clause-rest c =
    late_set c.args.place (c.args.place - 1) c.args.queued.now.items c.index_mut.result.now c.time_out_one.new.waits (omega (arith, c.if-place-eq0.false)) (omega (arith, c.if-index-len.false, c.args.queued.now.ok)) c.index_mut.ensures.value c.time_out_one.ensures.rest
