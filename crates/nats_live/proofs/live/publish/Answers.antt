-- What was published, or why not, is what the last ended link shows.
use Rattle.std.proofs.Common.{subst, sym}
use Rattle.nats_outside.specs.Told.{Seen}
use Rattle.nats_dial.specs.Causes.{Onward}
use Rattle.nats_live.specs.Causes.{DialedTo}
use Rattle.nats_live.proofs.Ends.{not_published_clause, published_clause}
use Rattle.nats_live.proofs.Handing.{all_back, onward_back}
use Rattle.nats_live.proofs.live.publish.Goals as goal

pub returns-clause-published : goal.returns-clause-published
returns-clause-published g c =
    let l = c.in_ok-info.field-0 in
    let to = subst (λ (m : Seen). DialedTo c.args.addr.now l.info l.rest.items (g.W.Read.LinkRead.read_told l.read)
    (g.W.Write.LinkWrite.write_told l.write) (g.W.Reach.seen c.args.world.now) m) (sym c.draw-seed.ensures.told)
    c.in_ok-info.ensures.up in
    published_clause c.args.addr.now l.info l.rest.items c.args.subject.now c.args.payload.now
    (g.W.Read.LinkRead.read_told l.read)
    (g.W.Write.LinkWrite.write_told l.write) (g.W.Write.LinkWrite.write_told c.publish_over-result.new.write)
    (g.W.Reach.seen c.args.world.now) (g.W.Reach.seen c.draw-seed.new.world) (g.W.Reach.seen c.hand_back.new.world)
    c.publish_over-result.result to
    c.hand_back.ensures.back (c.publish_over-result.ensures to.2.up.wrote to.2.up.took)

pub returns-clause-back : goal.returns-clause-back
returns-clause-back g c =
    let l = c.in_ok-info.field-0 in
    let to = subst (λ (m : Seen). DialedTo c.args.addr.now l.info l.rest.items (g.W.Read.LinkRead.read_told l.read)
    (g.W.Write.LinkWrite.write_told l.write) (g.W.Reach.seen c.args.world.now) m) (sym c.draw-seed.ensures.told)
    c.in_ok-info.ensures.up in
    all_back c.args.addr.now l.info l.rest.items (g.W.Read.LinkRead.read_told l.read)
    (g.W.Read.LinkRead.read_told l.read)
    (g.W.Write.LinkWrite.write_told l.write) (g.W.Write.LinkWrite.write_told c.publish_over-result.new.write)
    (g.W.Reach.seen c.args.world.now) (g.W.Reach.seen c.draw-seed.new.world) (g.W.Reach.seen c.hand_back.new.world)
    to c.hand_back.ensures.back

pub returns-clause-refused : goal.returns-clause-refused
returns-clause-refused g c =
    let l = c.in_ok-info.field-0 in
    let up = c.in_ok-info.ensures.up.2.up in
    not_published_clause c.args.addr.now l.info l.rest.items c.args.subject.now c.args.payload.now
    (g.W.Read.LinkRead.read_told l.read)
    (g.W.Write.LinkWrite.write_told l.write) (g.W.Write.LinkWrite.write_told c.publish_over-result.new.write)
    (g.W.Reach.seen c.args.world.now) (g.W.Reach.seen c.draw-seed.new.world) (g.W.Reach.seen c.hand_back.new.world)
    c.publish_over-result.result up
    (subst (Onward (g.W.Reach.seen c.args.world.now)) (sym c.draw-seed.ensures.told) c.in_ok-info.ensures.onward)
    c.hand_back.ensures.back (c.publish_over-result.ensures up.wrote up.took)

pub returns-clause-onward : goal.returns-clause-onward
returns-clause-onward g c =
    onward_back (g.W.Read.LinkRead.read_told c.in_ok-info.field-0.read)
    (g.W.Write.LinkWrite.write_told c.publish_over-result.new.write)
    (g.W.Reach.seen c.args.world.now) (g.W.Reach.seen c.draw-seed.new.world) (g.W.Reach.seen c.hand_back.new.world)
    (subst (Onward (g.W.Reach.seen c.args.world.now)) (sym c.draw-seed.ensures.told) c.in_ok-info.ensures.onward)
    c.hand_back.ensures.back
