-- Each write takes the flush on, and its end is the call's.
use Rattle.std.proofs.Common.{rules, subst, ℕ, ◌++◌, Some, None}
use Rattle.nats_core.specs.Calls.{parts_in}
use Rattle.nats_live.specs.declared.error.LiveError.TheVariants as refused
use Rattle.nats_live.specs.Flow.{FlushEnds, IsSettled}
use Rattle.nats_live.proofs.Flushing.{flush_begins, flush_step, flush_ends}
use Rattle.nats_live.proofs.Wants.{err_by}
use Rattle.nats_live.proofs.publishing.flush.Goals as goal

pub writes-init : goal.writes-init
writes-init g c = record {
  next = search rules;
  finite = search rules;
  far = λ text took head first flushes took_so.
      flush_begins text took head c.args.core.now.session (g.T.LinkWrite.write_told c.args.write.now) flushes took_so;
}

pub writes-preserved : goal.writes-preserved
writes-preserved g c = record {
  next = search rules;
  finite = search rules;
  far = λ text took head first flushes took_so.
      flush_step text head (parts_in c.args.core.now).link.is_up c.writes.core c.settled.new.core c.write_some.new.core
      (g.T.LinkWrite.write_told c.writes.write) (g.T.LinkWrite.write_told c.write_some.new.write)
      c.in_ok-write_some-in-None-settled.field-0
      (subst (λ (t : ℕ). IsSettled t c.writes.core None c.settled.new.core) first c.in-None-settled.ensures)
      (c.writes.invariant.far text took head first flushes took_so) c.in_ok-write_some-in-None-settled.ensures;
}

pub returns-in-Some-settled : goal.returns-in-Some-settled
returns-in-Some-settled g c = λ text took head first flushes took_so.
    flush_ends text head (parts_in c.args.core.now).link.is_up c.writes.core c.settled.new.core
    (g.T.LinkWrite.write_told c.writes.write) c.in-Some-settled.end
    (subst (λ (t : ℕ). IsSettled t c.writes.core (Some c.in-Some-settled.end) c.settled.new.core) first c.in-Some-settled.ensures)
    (c.writes.invariant.far text took head first flushes took_so)

pub returns-in_err-write_some-in-None-settled : goal.returns-in_err-write_some-in-None-settled
returns-in_err-write_some-in-None-settled g c = λ text took head first flushes took_so.
    err_by (λ r. FlushEnds (parts_in c.args.core.now).link.is_up (head ++ text) r
    (g.T.LinkWrite.write_told c.write_some.new.write))
    refused.NoMemory c.from_residual.result c.from_residual.ensures.0 c.from_residual.ensures.1 tt
