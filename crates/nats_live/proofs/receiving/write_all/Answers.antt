-- Each write goes on, until nothing waits or the link is over.
use Rattle.std.proofs.Common.{rules}
use Rattle.nats_core.specs.Calls.{parts_in}
use Rattle.nats_live.proofs.Rounds.{writes_begin, writes_done, writes_more}
use Rattle.nats_live.proofs.receiving.write_all.Goals as goal

pub writes-init : goal.writes-init
writes-init g c = record {
  next = search rules;
  finite = search rules;
  far = λ subject joined took head first since taken receives wrote.
      writes_begin subject joined first since took taken head c.args.core.now.session
      (g.T.LinkWrite.write_told c.args.write.now)
      receives wrote;
}

pub writes-preserved : goal.writes-preserved
writes-preserved g c = record {
  next = search rules;
  finite = search rules;
  far = λ subject joined took head first since taken receives wrote.
      writes_more subject joined first since took taken head (parts_in c.args.core.now).link.is_up c.writes.core
      c.write_some.new.core
      (g.T.LinkWrite.write_told c.args.write.now) (g.T.LinkWrite.write_told c.writes.write)
      (g.T.LinkWrite.write_told c.write_some.new.write) c.in-Wrote.field-0
      (c.writes.invariant.far subject joined took head first since taken receives wrote) (rw c.in-Wrote.is at c.in_ok-write_some.ensures);
}

pub returns-in-Idle : goal.returns-in-Idle
returns-in-Idle g c = λ subject joined took head first since taken receives wrote.
    writes_done subject joined first since took taken head (parts_in c.args.core.now).link.is_up c.writes.core
    c.write_some.new.core
    (g.T.LinkWrite.write_told c.args.write.now) (g.T.LinkWrite.write_told c.writes.write)
    (g.T.LinkWrite.write_told c.write_some.new.write) c.in_ok-write_some.field-0 c.in-Idle.is
    (c.writes.invariant.far subject joined took head first since taken receives wrote) c.in_ok-write_some.ensures
