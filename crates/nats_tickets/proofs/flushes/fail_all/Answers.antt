-- One mark after another.
use Rattle.std.proofs.Common.{◌++◌, ◌∙◌, ap, arith}
use Rattle.nats_history.specs.declared.call.CallReply.TheVariants as replies
use Rattle.nats_history.specs.Tickets.{replied}
use Rattle.nats_tickets.specs.Kept.{tickets_of}
use Rattle.nats_tickets.proofs.Marks.{next_failed}
use Rattle.nats_tickets.proofs.flushes.fail_all.Goals as goal

pub marks-preserved : goal.marks-preserved
marks-preserved c =
    let popped = c.in-Some.ensures in
    let pushed = c.push_back_reserved.ensures in
    record {
      ready = ap (λ xs. xs ++ replied replies.FlushFailed (tickets_of c.pop_front.new.self.items)) pushed.items
          ∙ next_failed replies.FlushFailed c.in-Some.mark c.marks.marks.items c.pop_front.new.self.items c.marks.ready.items _ popped.items c.marks.invariant.ready;
      room = λ others room. omega (arith, c.marks.invariant.room others room, pushed.len, pushed.capacity, popped.cases);
      fits = omega (arith, c.marks.invariant.fits, pushed.len, pushed.capacity, popped.cases);
    }

pub returns-clause-room : goal.returns-clause-room
returns-clause-room c = λ others room. omega (arith, c.marks.invariant.room others room, c.in_default.ensures.cases.0, c.in_default.ensures.cases.1)
