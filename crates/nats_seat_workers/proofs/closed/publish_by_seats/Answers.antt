-- The first seat has joined all workers.
use Rattle.nats_seat_workers.proofs.Counting.{each_accepted}
use Rattle.nats_seat_workers.proofs.Working.{all_published, no_others, right_for}
use Rattle.nats_seat_workers.proofs.closed.publish_by_seats.Goals as goal

pub bring_up-requires : goal.bring_up-requires
bring_up-requires g c = (c.args.config, c.in_ok-first.ensures)

pub returns-in-Ok-clause-published : goal.returns-in-Ok-clause-published
returns-in-Ok-clause-published g c =
    all_published c.bring_up.new.first c.in_ok-done.done c.in-Ok.journal.items c.args.count c.args.workers c.in_ok-bring_up.ensures.1 c.in_ok-done.ensures c.in-Ok.ensures.closed

pub returns-in-Ok-clause-accepted : goal.returns-in-Ok-clause-accepted
returns-in-Ok-clause-accepted g c =
    each_accepted c.args.workers c.args.count c.in-Ok.journal.items
    (all_published c.bring_up.new.first c.in_ok-done.done c.in-Ok.journal.items c.args.count c.args.workers c.in_ok-bring_up.ensures.1 c.in_ok-done.ensures c.in-Ok.ensures.closed)

pub returns-in-Ok-clause-alone : goal.returns-in-Ok-clause-alone
returns-in-Ok-clause-alone g c =
    no_others c.bring_up.new.first c.in_ok-done.done c.in-Ok.journal.items c.args.count c.args.workers c.in_ok-bring_up.ensures.1 c.in_ok-done.ensures c.in-Ok.ensures.closed

pub returns-in-Ok-clause-right : goal.returns-in-Ok-clause-right
returns-in-Ok-clause-right g c =
    right_for c.in_ok-first.first c.bring_up.new.first c.in_ok-done.done c.args.config c.in-Ok.journal.items c.in_ok-first.ensures c.in_ok-bring_up.ensures.0 c.in_ok-done.ensures.0 c.in-Ok.ensures.right
