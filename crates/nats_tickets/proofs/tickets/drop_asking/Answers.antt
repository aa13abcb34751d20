-- One request after another.
use Rattle.std.proofs.Common.{◌++◌, length, map, ◌∙◌, ap, sym, arith}
use Rattle.nats_history.specs.declared.call.CallReply.TheVariants as replies
use Rattle.nats_history.specs.Tickets.{replied, ticket_in}
use Rattle.nats_tickets.proofs.Asks.{first_asked}
use Rattle.nats_tickets.proofs.Marks.{next_asked}
use Rattle.nats_tickets.proofs.tickets.drop_asking.Goals as goal

pub asking-preserved : goal.asking-preserved
asking-preserved c =
    let asking = c.asking.asking in
    let there = first_asked asking c.in-Some.ticket (sym c.in-Some.is ∙ c.pop.ensures.ticket) in
    let pushed = c.push_back_reserved.ensures in
    let left = c.pop.ensures.rest in
    record {
      ready = ap (λ xs. c.push_back_reserved.new.self.items ++ replied replies.Dropped (map ticket_in xs)) left
          ∙ next_asked replies.Dropped c.in-Some.ticket (map ticket_in asking) _ c.asking.ready.items c.push_back_reserved.new.self.items _ there.0 pushed.items c.asking.invariant.ready;
      room = λ others room. omega (arith, c.asking.invariant.room others room, pushed.len, pushed.capacity, there.1, ap length left);
      fits = omega (arith, c.asking.invariant.fits, pushed.len, pushed.capacity, there.1, ap length left);
    }

pub returns-clause-room : goal.returns-clause-room
returns-clause-room c = λ others room. omega (arith, c.asking.invariant.room others room)
