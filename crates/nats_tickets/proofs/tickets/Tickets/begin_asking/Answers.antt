-- One request more waits for its reply, and another may be dropped.
use Rattle.std.proofs.Common.{◌+◌, ◌∷◌, [], length, ◌∙◌, ap, sym, subst, arith}
use Rattle.std.proofs.lemmas.List.{length-append}
use Rattle.nats_history.specs.Queue.{first}
use Rattle.nats_history.specs.declared.waits.Waits.TheVariants as waits
use Rattle.nats_history.specs.Tickets.{requests_elsewhere}
use Rattle.nats_tickets.specs.Asking.{AllBelow}
use Rattle.nats_tickets.specs.Kept.{Kept, one_if, pending}
use Rattle.nats_tickets.proofs.Asks.{under_of, below_more, below_elsewhere, fewer_elsewhere}
use Rattle.nats_tickets.proofs.Rooms.{first_there}
use Rattle.nats_tickets.proofs.tickets.Tickets.begin_asking.Goals as goal

pub ask-requires : goal.ask-requires
ask-requires c =
    under_of c.self.inside.handled (c.self.inside.handled + 1) c.self.inside.asking (omega arith) c.self.invariant.1

pub invariant_of-self-2 : goal.invariant_of-self-2
invariant_of-self-2 c =
    let inside = c.self.inside in
    let subject = c.args.subject.now in
    let ticket = inside.handled + 1 in
    let rest = requests_elsewhere subject inside.asking in
    let there = first_there inside.queued.items waits.Request (ap (λ (k : Kept). first k.tickets.queued) c.self.view_is ∙ c.requires) in
    let asked = c.in_ok-displaced.ensures in (
      omega (arith, c.self.invariant.0, c.pass_call.ensures.len, there.0, inside.queued.ok),
      subst (AllBelow ticket) (sym asked.ok) (below_more inside.handled ticket ticket subject rest (omega arith) (omega arith) (below_elsewhere inside.handled subject inside.asking c.self.invariant.1)),
      omega (arith, c.self.invariant.2, c.push_dropped.ensures.len, c.push_dropped.ensures.capacity, ap length asked.ok, length-append rest ((ticket, subject) ∷ []), fewer_elsewhere subject inside.asking, ap one_if asked.displaced, there.1, ap pending c.pass_call.ensures.rest),
    )
