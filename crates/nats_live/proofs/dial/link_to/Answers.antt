-- A round on default options is one of a client that offers nothing, and of the pool's server alone.
use Rattle.std.proofs.Common.{◌∙◌, ap, map, refl}
use Rattle.nats_pool.specs.Auths.{auth_value}
use Rattle.nats_pool.specs.Discovery.{Discovers}
use Rattle.nats_pool.specs.Handing.{pool_told}
use Rattle.nats_pool.specs.Servers.{new_server}
use Rattle.nats_handshake.specs.Credentials.{SignerAnswers, AuthAnswers, Offers}
use Rattle.nats_dial.proofs.Returning.{back_kept}
use Rattle.nats_live.proofs.Dialing.{began_alone, began_well, begun_alone, failed_default, not_linked, offers_default, linked_default, on_err}
use Rattle.nats_live.proofs.dial.link_to.Goals as goal

pub returns-in-Ok-clause-up : goal.returns-in-Ok-clause-up
returns-in-Ok-clause-up g c =
    let o = c.take_pool_options.new.self in
    let rest = c.take_pool_options.ensures.rest in
    let p = c.in_ok-pool.pool in
    linked_default (Offers SignerAnswers AuthAnswers o.signer o.auth_callback (auth_value o.auth))
    (offers_default SignerAnswers AuthAnswers o.signer o.auth_callback (auth_value o.auth)
    (ap (λ (x : _). x.signer) rest ∙ c.new-options.ensures.signer)
    (ap (λ (x : _). x.auth_callback) rest ∙ c.new-options.ensures.auth_callback)
    (ap (λ (x : _). auth_value x.auth) rest ∙ ap auth_value c.new-options.ensures.authenticates_by))
    o.tls_required o.name o.no_echo o.connection_timeout (ap (λ (x : _). x.name) rest ∙ c.new-options.ensures.name)
    (ap (λ (x : _). x.no_echo) rest ∙ c.new-options.ensures.no_echo) (pool_told c.try_connect.new.pool) c.args.server
    c.in-Ok.linked.info c.in-Ok.linked.rest.items
    (g.W.Read.LinkRead.read_told c.in-Ok.linked.read) (g.W.Write.LinkWrite.write_told c.in-Ok.linked.write)
    (g.W.Reach.seen c.args.world.now) (g.W.Reach.seen c.try_connect.new.world)
    (began_well _ pool_told c.default-last.result p c.try_connect.new.pool c.args.server
    (λ chosen n began round limit. begun_alone c.args.server p n chosen began.named (pool_told c.try_connect.new.pool)
    (c.in_ok-pool.ensures.servers ∙ ap (map new_server) c.in_ok-addrs.ensures)
    (ap (λ (x : _). x.max_reconnects) c.in_ok-pool.ensures.options
    ∙ (ap (λ (x : _). x.max_reconnects) c.take_pool_options.ensures.options ∙ c.new-options.ensures.max_reconnects))
    (rw (ap (λ (x : _). x.choice) c.in_ok-pool.ensures.options
    ∙ (ap (λ (x : _). x.choice) c.take_pool_options.ensures.options ∙ c.new-options.ensures.reconnect_to_server))
    at began.names)
    began.plan began.options round limit)
    c.in-Ok.ensures.well)
    c.in-Ok.ensures.up

pub returns-clause-refused : goal.returns-clause-refused
returns-clause-refused g c =
    let o = c.take_pool_options.new.self in
    let rest = c.take_pool_options.ensures.rest in
    let p = c.in_ok-pool.pool in
    rw c.connect_refused.ensures
    (not_linked c.args.server (g.W.Reach.seen c.args.world.now) (g.W.Reach.seen c.try_connect.new.world)
    c.in-Err.error (pool_told p) (pool_told c.try_connect.new.pool)
    (began_alone _ _ c.default-last.result p c.try_connect.new.pool c.in-Err.error c.args.server _
    (failed_default (λ p q urls skipped. Discovers urls p q skipped)
    (Offers SignerAnswers AuthAnswers o.signer o.auth_callback (auth_value o.auth))
    (offers_default SignerAnswers AuthAnswers o.signer o.auth_callback (auth_value o.auth)
    (ap (λ (x : _). x.signer) rest ∙ c.new-options.ensures.signer)
    (ap (λ (x : _). x.auth_callback) rest ∙ c.new-options.ensures.auth_callback)
    (ap (λ (x : _). auth_value x.auth) rest ∙ ap auth_value c.new-options.ensures.authenticates_by))
    o.tls_required o.name o.no_echo o.connection_timeout
    (ap (λ (x : _). x.tls_required) rest ∙ c.new-options.ensures.tls_required)
    (ap (λ (x : _). x.name) rest ∙ c.new-options.ensures.name)
    (ap (λ (x : _). x.no_echo) rest ∙ c.new-options.ensures.no_echo)
    (ap (λ (x : _). x.connection_timeout) rest ∙ c.new-options.ensures.connection_timeout)
    _ _ _ c.in-Err.error _ c.in-Err.ensures.failed)
    (λ chosen n began round limit. begun_alone c.args.server p n chosen began.named (pool_told c.try_connect.new.pool)
    (c.in_ok-pool.ensures.servers ∙ ap (map new_server) c.in_ok-addrs.ensures)
    (ap (λ (x : _). x.max_reconnects) c.in_ok-pool.ensures.options
    ∙ (ap (λ (x : _). x.max_reconnects) c.take_pool_options.ensures.options ∙ c.new-options.ensures.max_reconnects))
    (rw (ap (λ (x : _). x.choice) c.in_ok-pool.ensures.options
    ∙ (ap (λ (x : _). x.choice) c.take_pool_options.ensures.options ∙ c.new-options.ensures.reconnect_to_server))
    at began.names)
    began.plan began.options round limit)
    c.in-Err.ensures.began))

-- nothing was dialed
pub returns-in_err-addrs-clause-back : goal.returns-in_err-addrs-clause-back
returns-in_err-addrs-clause-back g c = on_err _ c.from_residual.result
    (back_kept (g.W.Reach.seen c.args.world.now) (g.W.Reach.seen c.args.world.now) refl)

pub returns-in_err-pool-clause-back : goal.returns-in_err-pool-clause-back
returns-in_err-pool-clause-back g c = on_err _ c.from_residual-in_err-pool.result
    (back_kept (g.W.Reach.seen c.args.world.now) (g.W.Reach.seen c.args.world.now) refl)
