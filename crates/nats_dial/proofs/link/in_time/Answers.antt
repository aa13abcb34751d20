-- A look at the clock: time is left, or it is over.
use Rattle.std.proofs.Common.{ap, sym}
use Rattle.nats_outside.specs.Told.{ClockTold}
use Rattle.nats_dial.proofs.Reading.{looks_in_time, looks_over}
use Rattle.nats_dial.proofs.link.in_time.Goals as goal

pub returns-in-Ok-clause-looks : goal.returns-in-Ok-clause-looks
returns-in-Ok-clause-looks g c = looks_in_time c.args.shaking.now c.expire.new.self c.now_ms-now.result c.left.result
    (g.C.Clock.clock_told c.now_ms-now.new.self) (ap (λ (t : ClockTold). t.last) (sym c.now_ms-now.ensures.told))
    c.in-Ok.ensures c.left.ensures

pub returns-in-Err-clause-looks : goal.returns-in-Err-clause-looks
returns-in-Err-clause-looks g c = looks_over c.args.shaking.now c.expire.new.self c.now_ms-now.result
    (g.C.Clock.clock_told c.now_ms-now.new.self) c.in-Err.error (ap (λ (t : ClockTold). t.last) (sym c.now_ms-now.ensures.told))
    c.in-Err.ensures
