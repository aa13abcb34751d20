-- What the outside tells of a dialed address.
use Rattle.std.proofs.Common.{refl, inl, inr}
use Rattle.nats_pool.specs.Auths.{auth_value}
use Rattle.nats_handshake.specs.Credentials.{SignerAnswers, AuthAnswers, Offers}
use Rattle.nats_dial.proofs.Reaching.{undialed_is, upped_is, returned_is, unshaken_at}
use Rattle.nats_dial.proofs.address.reach.Goals as goal

pub returns-in-Err-clause-reaches : goal.returns-in-Err-clause-reaches
returns-in-Err-clause-reaches g c = (
  inl (
    c.start_ms-start.result,
    c.fault.ensures,
    undialed_is c.args.options.now.connection_timeout c.args.to.now c.start_ms-start.result (g.W.Reach.seen c.args.world.now) (g.W.Reach.seen c.start_ms-start.new.world)
        (g.W.Reach.seen c.dial.new.world) c.start_ms-start.ensures.told c.in-Err.ensures.told,
  ),
  inl refl,
)

pub returns-in-Ok-greet_in-clause-reaches : goal.returns-in-Ok-greet_in-clause-reaches
returns-in-Ok-greet_in-clause-reaches g c =
    let look = (g.W.Reach.seen c.greet_in.new.world).clock.last in
    let up = c.in-Ok-greet_in.ensures.greets c.in-Ok.ensures.fresh in (
      c.start_ms-start.result,
      look,
      upped_is c.args.options.now.connection_timeout c.args.to.now c.start_ms-start.result look (g.W.Reach.seen c.args.world.now) (g.W.Reach.seen c.start_ms-start.new.world)
          (g.W.Reach.seen c.dial.new.world) (g.W.Reach.seen c.greet_in.new.world) c.start_ms-start.ensures.told c.in-Ok.ensures.told
          c.in-Ok-greet_in.ensures.told,
      up.0,
      up.1,
      up.2,
    )

pub returns-in-Err-greet_in-clause-reaches : goal.returns-in-Err-greet_in-clause-reaches
returns-in-Err-greet_in-clause-reaches g c =
    let start = c.start_ms-start.result in
    let look = (g.W.Reach.seen c.greet_in.new.world).clock.last in
    let r = g.W.Read.LinkRead.read_told c.greet_in.new.read in
    let w = g.W.Write.LinkWrite.write_told c.greet_in.new.write in
    let down = c.in-Err-greet_in.ensures.greets c.in-Ok.ensures.fresh in (
      inr (
        start,
        look,
        r,
        w,
        returned_is c.args.options.now.connection_timeout c.args.to.now start look r w (g.W.Reach.seen c.args.world.now) (g.W.Reach.seen c.start_ms-start.new.world)
            (g.W.Reach.seen c.dial.new.world) (g.W.Reach.seen c.greet_in.new.world) (g.W.Reach.seen c.hang_up.new.world)
            c.start_ms-start.ensures.told c.in-Ok.ensures.told c.in-Err-greet_in.ensures.told c.hang_up.ensures.told,
        unshaken_at g.P.ServerList.Takes
            (Offers SignerAnswers AuthAnswers c.args.options.now.signer c.args.options.now.auth_callback (auth_value c.args.options.now.auth))
            c.args.options.now.tls_required c.args.options.now.name c.args.options.now.no_echo
            c.args.options.now.connection_timeout c.args.addr.now c.args.to.now start look r w
            (g.W.Reach.seen c.args.world.now) (g.W.Reach.seen c.start_ms-start.new.world) (g.W.Reach.seen c.dial.new.world)
            (g.W.Reach.seen c.greet_in.new.world) c.in-Err-greet_in.error
            c.start_ms-start.ensures.told c.in-Ok.ensures.told c.in-Err-greet_in.ensures.told down.0,
      ),
      down.1,
    )
