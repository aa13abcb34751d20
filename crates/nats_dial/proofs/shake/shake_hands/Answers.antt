-- Each read goes on from what the link gave and took before.
use Rattle.std.proofs.Common.{◌∙◌, ap}
use Rattle.nats_outside.specs.Told.{ClockTold}
use Rattle.nats_pool.specs.Auths.{auth_value}
use Rattle.nats_handshake.specs.Credentials.{SignerAnswers, AuthAnswers, Offers}
use Rattle.nats_dial.specs.Lines.{Looked}
use Rattle.nats_dial.proofs.Exchanging.{line_over}
use Rattle.nats_dial.proofs.Taking.{took_in}
use Rattle.nats_dial.proofs.shake.shake_hands.Goals as goal

looked_on : (a b d : ClockTold) → Looked a b → Looked b d → Looked a d
looked_on a b d first second = second ∙ ap (λ (x : ClockTold). record x { last = d.last }) first

pub returns-in-Ok-Done-clause-shaken : goal.returns-in-Ok-Done-clause-shaken
returns-in-Ok-Done-clause-shaken g c = λ by_scheme start timeout text wrote going line.
    let i = c.exchanges.invariant.line by_scheme start timeout text wrote going line in
    line_over g.P.ServerList.Takes
    (Offers SignerAnswers AuthAnswers c.args.options.now.signer c.args.options.now.auth_callback (auth_value c.args.options.now.auth))
    c.args.options.now.tls_required c.args.options.now.name c.args.options.now.no_echo by_scheme start timeout
    c.exchange.new.shaking (g.R.LinkRead.read_told c.exchange.new.read) (g.R.LinkRead.read_told c.wait_at_most.new.self)
    (g.T.LinkWrite.write_told c.exchange.new.write) (g.C.Clock.clock_told c.exchange.new.clock) c.wait_at_most.ensures.told
    ((rw c.in-Ok-Done.field-0-is at c.in-Ok-Done.ensures.exchanged) by_scheme start timeout i.1.0 i.1.1 i.0 i.1.2)

pub returns-in-Err-clause-shaken : goal.returns-in-Err-clause-shaken
returns-in-Err-clause-shaken g c = λ by_scheme start timeout text wrote going line.
    let i = c.exchanges.invariant.line by_scheme start timeout text wrote going line in
    c.in-Err.ensures.exchanged by_scheme start timeout i.1.0 i.1.1 i.0 i.1.2

pub exchanges-preserved : goal.exchanges-preserved
exchanges-preserved g c = record {
  looked = looked_on (g.C.Clock.clock_told c.args.clock.now) (g.C.Clock.clock_told c.exchanges.clock)
      (g.C.Clock.clock_told c.exchange.new.clock) c.exchanges.invariant.looked c.in-Ok-More.ensures.looked;
  beside = c.in-Ok-More.ensures.beside ∙ c.exchanges.invariant.beside;
  line = λ by_scheme start timeout text wrote going line.
      let i = c.exchanges.invariant.line by_scheme start timeout text wrote going line in
      let e = (rw c.in-Ok-More.field-0-is at c.in-Ok-More.ensures.exchanged) by_scheme start timeout i.1.0 i.1.1 i.0 i.1.2 in
      (e.0, (e.1.0, e.1.1, e.1.2));
  took = λ p going had.
      let i = c.exchanges.invariant.took p going had in
      (rw c.in-Ok-More.field-0-is at c.in-Ok-More.ensures.took) p i.0 i.1;
}

pub returns-in-Ok-Done-clause-took : goal.returns-in-Ok-Done-clause-took
returns-in-Ok-Done-clause-took g c = λ p going had.
    let i = c.exchanges.invariant.took p going had in
    (rw c.in-Ok-Done.field-0-is at c.in-Ok-Done.ensures.took) p i.0 i.1

pub returns-in-Err-clause-took : goal.returns-in-Err-clause-took
returns-in-Err-clause-took g c = λ p going had.
    let i = c.exchanges.invariant.took p going had in
    c.in-Err.ensures.took p i.0 i.1

pub returns-clause-took : goal.returns-clause-took
returns-clause-took g c = λ p going had.
    let i = c.exchanges.invariant.took p going had in
    took_in g.P.ServerList.Takes c.exchanges.shaking.stage c.exchanges.shaking.skipped p c.exchanges.pool i.1
