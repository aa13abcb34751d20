-- the pool may be sent: each of its fields may, those with callbacks since these may
use Rattle.std.proofs.Crossing.{crosses, dyn_box_send}
use denote.Exit.{no}
use denote.Param.Object.{Vt, ghosts_of}
use denote.Param.Callables.{held_fn}
use denote.Param.Send.{sendable, arg_send, param_send}
use denote.Param.SendFields.{declared_send}
use Rattle.nats_pool.specs.contracts.pool_parts.Pool as Pool
use Rattle.nats_pool.specs.contracts.pool_options.PoolOptions as PoolOptions
use Rattle.nats_pool.proofs.server.Server.TheSendSync as Server
use Rattle.nats_pool.proofs.round.Round.TheSendSync as Round
use Rattle.rand.proofs.rngs.SmallRng.TheSendSync as SmallRng
use Rattle.nats_drive.specs.contracts.connect.connect_to.dyn-4 as dyn-4
use Rattle.nats_drive.specs.contracts.connect.connect_to.dyn-5 as dyn-5
use Rattle.std.proofs.Common.{rules}
use Rattle.nats_pool.specs.Auths.{auth_value}
use Rattle.nats_handshake.specs.Credentials.{SignerAnswers, AuthAnswers, Offers}
use Rattle.nats_drive.proofs.Refusals.{same_linking, wanting_links}
use Rattle.nats_drive.proofs.connect.connect_to.Goals as goal

pub connect_over-requires-send-Q : goal.connect_over-requires-send-Q
connect_over-requires-send-Q g c κs within =
    let s4 = dyn-4.slots g.row.G g.row.R g.row.P g.row.W
    g.row.P-Rt g.row.W-Ticks g.row.W-Read g.row.W-Write g.row.W-Rt in
    let t4 = Vt s4 g.dyn-4.0 in
    let g4 = ghosts_of s4 g.dyn-4.0 g.dyn-4.1 in
    let s5 = dyn-5.slots g.row.G g.row.R g.row.P g.row.W
    g.row.P-Rt g.row.W-Ticks g.row.W-Read g.row.W-Write g.row.W-Rt in
    let t5 = Vt s5 g.dyn-5.0 in
    let g5 = ghosts_of s5 g.dyn-5.0 g.dyn-5.1 in
    let options = declared_send
    (PoolOptions.the_type t4 t5 g4 g5
    (held_fn g.dyn-4.0) (held_fn g.dyn-5.0)) (
      search (crosses, sendable) depth 30,
      (
        search (crosses, sendable) depth 30,
        (
          search (crosses, sendable) depth 30,
          (
            search (dyn_box_send t4 g4 g.dyn-4.2, crosses, sendable) depth 30,
            (
              search (dyn_box_send t5 g5 g.dyn-5.2, crosses, sendable) depth 30,
              tt,
            ),
          ),
        ),
      ),
    ) in
    param_send _ _ (arg_send _ no _ (declared_send
    (Pool.the_type t4 t5 g4 g5
    (held_fn g.dyn-4.0) (held_fn g.dyn-5.0)) (
      search (Server.the_send, crosses, sendable) depth 30,
      (
        options,
        (
          search (SmallRng.the_send, crosses, sendable) depth 30,
          (
            search (crosses, sendable) depth 30,
            (
              search (crosses, sendable) depth 30,
              (
                search (Round.the_send, crosses, sendable) depth 30,
                tt,
              ),
            ),
          ),
        ),
      ),
    )))

pub returns-in-Ok : goal.returns-in-Ok
returns-in-Ok g c = let o = c.args.options in record {
  client = search (rules, c.connect_over.ensures.client);
  refused = same_linking (Offers SignerAnswers AuthAnswers o.signer o.auth_callback (auth_value o.auth))
      o.tls_required o.name o.no_echo o.connection_timeout g.W.Reach.seen _ _ _ _ _ c.draw-start.ensures.told
      c.connect_over.ensures.refused;
}

pub returns-in-Err : goal.returns-in-Err
returns-in-Err g c = let o = c.args.options in record {
  client = tt;
  refused = wanting_links (Offers SignerAnswers AuthAnswers o.signer o.auth_callback (auth_value o.auth))
      o.tls_required o.name o.no_echo o.connection_timeout g.W.Reach.seen _ _ _ _ _ c.refuse.ensures c.wanting.ensures
      c.draw-start.ensures.told;
}
