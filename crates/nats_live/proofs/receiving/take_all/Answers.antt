-- Each message that is taken is printed.
use Rattle.std.proofs.Common.{arith}
use Rattle.nats_core.specs.Calls.{parts_in}
use Rattle.nats_live.specs.Flow.{TakesAll}
use Rattle.nats_live.proofs.Wants.{err_by}
use Rattle.nats_live.proofs.Rounds.{takes_begin, takes_done, takes_end, takes_step}
use Rattle.nats_live.proofs.receiving.take_all.Goals as goal

pub takes-init : goal.takes-init
takes-init c = record {
  far = λ subject joined took first since taken receives.
      takes_begin subject joined first since took taken c.args.wanted c.args.text.now.items c.args.core.now.session
      receives;
}

pub takes-preserved : goal.takes-preserved
takes-preserved c = record {
  far = λ subject joined took first since taken receives.
      let far = c.takes.invariant.far subject joined took first since taken receives in
      takes_step subject joined first since took taken (parts_in c.args.core.now).link.is_up c.args.wanted
      c.takes.left _
      c.args.text.now.items c.takes.text.items _ c.takes.core.session c.take_one.new.core.session c.in-Some.message
      (omega arith) far
      (rw c.in-Some.is at (c.in_ok-message.ensures subject joined took first since _ far.2)) c.in_ok-print_taken-in-Some.ensures;
}

pub returns-in-None : goal.returns-in-None
returns-in-None c = λ subject joined took first since taken receives.
    let far = c.takes.invariant.far subject joined took first since taken receives in
    takes_end subject joined first since took taken (parts_in c.args.core.now).link.is_up c.args.wanted c.takes.left
    c.args.text.now.items c.takes.text.items c.takes.core.session c.take_one.new.core.session far
    (rw c.in-None.is at (c.in_ok-message.ensures subject joined took first since _ far.2))

pub returns : goal.returns
returns c = λ subject joined took first since taken receives.
    takes_done subject joined first since took taken (parts_in c.args.core.now).link.is_up c.args.wanted c.takes.left
    c.args.text.now.items c.takes.text.items c.takes.core.session (omega arith)
    (c.takes.invariant.far subject joined took first since taken receives)

pub returns-in_err-message : goal.returns-in_err-message
returns-in_err-message c = λ subject joined took first since taken receives.
    let far = c.takes.invariant.far subject joined took first since taken receives in
    err_by (λ r. TakesAll subject joined first since took taken (parts_in c.args.core.now).link.is_up c.args.wanted
    c.args.text.now.items r c.take_one.new.core.session c.takes.text.items)
    c.in_err-message.field-0.0 c.from_residual.result c.from_residual.ensures.0 c.from_residual.ensures.1
    (c.in_err-message.ensures subject joined took first since _ far.2)
