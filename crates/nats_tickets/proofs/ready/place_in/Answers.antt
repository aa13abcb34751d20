-- One settled ticket after another.
use Rattle.std.proofs.Common.{◌<◌, length, sym, ◌∙◌, arith, add-one}
use Rattle.nats_tickets.proofs.Places.{one_past, found, none_found}
use Rattle.nats_tickets.proofs.ready.place_in.Goals as goal

pub returns-then-is_of : goal.returns-then-is_of
returns-then-is_of c =
    let xs = c.args.ready.now.items in
    let less : c.ready.place < length xs = omega (arith, c.ready-test.true, c.len-place-end.ensures, c.args.ready.now.ok) in
    found c.args.ticket c.ready.place xs c.index.result.now less c.index.ensures (sym c.is_of.ensures ∙ c.if-is_of.true) c.ready.invariant

pub ready-preserved : goal.ready-preserved
ready-preserved c =
    let xs = c.args.ready.now.items in
    let less : c.ready.place < length xs = omega (arith, c.ready-test.true, c.len-place-end.ensures, c.args.ready.now.ok) in
    one_past c.args.ticket c.ready.place _ xs c.index.result.now (add-one c.ready.place) less c.index.ensures (sym c.is_of.ensures ∙ c.if-is_of.false) c.ready.invariant

pub returns : goal.returns
returns c =
    none_found c.args.ticket c.ready.place c.args.ready.now.items (omega (arith, c.ready-test.false, c.len-place-end.ensures, c.args.ready.now.ok)) c.ready.invariant
