-- What waits is taken and fed.
use Rattle.std.proofs.Common.{sym, ◌∙◌, ap}
use Rattle.nats_broker.specs.declared.turn.BrokerTurn.TheVariants.{Feed}
use Rattle.nats_broker.specs.Playing.{after_turn}
use Rattle.nats_mesh.proofs.Beginning.{may_feed}
use Rattle.nats_mesh.proofs.Moving.{carries_down, carries_off, carries_on}
use Rattle.nats_mesh.proofs.meshes.carry.Goals as goal

pub returns-then-not-is_up_at : goal.returns-then-not-is_up_at
returns-then-not-is_up_at c =
    carries_down c.args.clients.now c.args.broker.now c.args.i c.args.n (sym c.is_up_at.ensures ∙ c.if-not-is_up_at.true)

pub returns-then-not-stepped : goal.returns-then-not-stepped
returns-then-not-stepped c =
    carries_off c.args.clients.now c.step_at.new.clients c.args.broker.now c.args.i c.args.n c.in_ok-stepped.stepped
    (sym c.is_up_at.ensures ∙ c.if-not-is_up_at.false) c.if-not-stepped.true c.in_ok-stepped.ensures

pub feed-requires : goal.feed-requires
feed-requires c =
    may_feed c.args.broker.now c.args.i c.in_ok-bytes.bytes c.is_up_at.result c.requires c.is_up_at.ensures c.if-not-is_up_at.false

pub returns : goal.returns
returns c =
    carries_on c.args.clients.now c.step_at.new.clients c.args.broker.now c.feed.new.broker c.args.i c.args.n c.in_ok-bytes.bytes
    c.in_ok-stepped.stepped (sym c.is_up_at.ensures ∙ c.if-not-is_up_at.false) c.if-not-stepped.false c.in_ok-stepped.ensures
    c.in_ok-bytes.ensures
    (c.in_ok-feed.ensures.fed ∙ ap (λ xs. after_turn (Feed c.args.i xs) c.args.broker.now) c.as_slice.ensures) c.in_ok-feed.ensures.quiet
