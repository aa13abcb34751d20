-- One more command is read, and the others are left.
use Rattle.std.proofs.Common.{sym, ◌∙◌}
use Rattle.nats_client_text.proofs.Fronts.{got_takes}
use Rattle.nats_client_text.proofs.Reading.{more_read, begun_whole, begun_more, where_refused}
use Rattle.nats_client_text.proofs.read.read_client_text.Goals as goal

pub returns-in_err-push-in-Got-clause-memory : goal.returns-in_err-push-in-Got-clause-memory
returns-in_err-push-in-Got-clause-memory c =
    let left = c.loop-left.left.now in
    let stands = sym c.in-Got.is ∙ c.in_ok-op.ensures.front in
    let takes = got_takes left c.in-Got.op c.in-Got.len (sym stands) in
    where_refused c.from_residual-in_err-push-in-Got.result (begun_whole c.loop-left.ops left c.args.text.now c.loop-left.invariant.1 takes.2)

pub loop-left-preserved : goal.loop-left-preserved
loop-left-preserved c =
    let left = c.loop-left.left.now in
    let ops = c.loop-left.ops in
    let op = c.in-Got.op in
    let len = c.in-Got.len in
    let text = c.args.text.now in
    let stands = sym c.in-Got.is ∙ c.in_ok-op.ensures.front in
    let takes = got_takes left op len (sym stands) in
    rw (c.in_ok-push-in-Got.ensures.ok, c.behind-left.ensures) (
      more_read left ops op len stands ∙ c.loop-left.invariant.0,
      begun_more ops op _ text (begun_whole ops left text c.loop-left.invariant.1 takes.2),
    )
