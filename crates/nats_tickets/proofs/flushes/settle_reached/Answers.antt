-- The first mark is the next one that the link reaches.
use Rattle.std.proofs.Common.{◌≡◌, ◌<◌, ◌-◌, ◌++◌, ◌∷◌, drop, length, sym, ◌∙◌, ap, arith, refl, true, false, nat_le}
use Rattle.std.proofs.lemmas.Bool.{le-leb, lt-leb}
use Rattle.nats_history.specs.declared.call.CallReply.TheVariants as replies
use Rattle.nats_history.specs.Tickets.{flushed_by, replied}
use Rattle.nats_tickets.proofs.Marks.{seen, first_is, next_left, next_ready, stop_left, stop_ready}
use Rattle.nats_tickets.proofs.flushes.settle_reached.Goals as goal

pub overflow_add-result : goal.overflow_add-result
overflow_add-result c = omega (arith, c.saturating_sub.ensures, c.if-saturating_sub-n.true, c.end-end.type_inv)

pub returns-then-saturating_sub-n-clause-left : goal.returns-then-saturating_sub-n-clause-left
returns-then-saturating_sub-n-clause-left c =
    let m = c.in-Some.mark.now in
    let ms = c.marks.marks.items in
    let is : ms ≡ m ∷ drop 1 ms = first_is ms m (omega (arith, c.in-Some.ensures.variant.0 refl, c.marks.marks.ok)) c.in-Some.ensures.lookup in
    let past : nat_le (m.end - c.args.taken) c.args.n ≡ false = lt-leb (m.end - c.args.taken) c.args.n (omega (arith, c.saturating_sub.ensures, c.end-end.ensures, c.if-saturating_sub-n.true)) in
    stop_left c.args.taken c.args.n m ms (drop 1 ms) is past ∙ c.marks.invariant.left

pub returns-then-saturating_sub-n-clause-ready : goal.returns-then-saturating_sub-n-clause-ready
returns-then-saturating_sub-n-clause-ready c =
    let m = c.in-Some.mark.now in
    let ms = c.marks.marks.items in
    let is : ms ≡ m ∷ drop 1 ms = first_is ms m (omega (arith, c.in-Some.ensures.variant.0 refl, c.marks.marks.ok)) c.in-Some.ensures.lookup in
    let past : nat_le (m.end - c.args.taken) c.args.n ≡ false = lt-leb (m.end - c.args.taken) c.args.n (omega (arith, c.saturating_sub.ensures, c.end-end.ensures, c.if-saturating_sub-n.true)) in
    stop_ready c.args.taken c.args.n replies.Flushed m ms (drop 1 ms) c.marks.ready.items _ is past c.marks.invariant.ready

pub marks-preserved : goal.marks-preserved
marks-preserved c =
    let m = c.in-Some.mark.now in
    let ms = c.marks.marks.items in
    let rest = c.pop_front.new.self.items in
    let some : 0 < length ms = omega (arith, c.in-Some.ensures.variant.0 refl, c.marks.marks.ok) in
    let is : ms ≡ m ∷ rest = first_is ms m some c.in-Some.ensures.lookup ∙ ap (λ xs. m ∷ xs) (sym c.pop_front.ensures.rest) in
    let reach : nat_le (m.end - c.args.taken) c.args.n ≡ true = le-leb (m.end - c.args.taken) c.args.n (omega (arith, c.saturating_sub.ensures, c.end-end.ensures, c.if-saturating_sub-n.false)) in
    let pushed = c.push_back_reserved.ensures in
    record {
      left = sym (next_left c.args.taken c.args.n m ms rest is reach) ∙ c.marks.invariant.left;
      ready = ap (λ xs. xs ++ replied replies.Flushed (flushed_by c.args.n (seen c.args.taken rest))) pushed.items
          ∙ next_ready c.args.taken c.args.n replies.Flushed m ms rest c.marks.ready.items _ is reach c.marks.invariant.ready;
      room = λ others room. omega (arith, c.marks.invariant.room others room, pushed.len, pushed.capacity, ap length is, c.marks.marks.ok, c.pop_front.new.self.ok);
      fits = omega (arith, c.marks.invariant.fits, pushed.len, pushed.capacity, ap length is, c.marks.marks.ok, c.pop_front.new.self.ok);
    }
