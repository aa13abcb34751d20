-- The steps that were due come first; a call whose turn doesn't come goes back.
use Rattle.std.proofs.Common.{refl}
use Rattle.nats_history.specs.declared.turn.Turn.TheVariants as turns
use Rattle.nats_core.proofs.Cores.{may_caught_up, submits_by}
use Rattle.nats_core.proofs.machine.Core.submit_once.Goals as goal

pub take_call-requires : goal.take_call-requires
take_call-requires c = may_caught_up c.args.self.now c.catch_up.new.self (turns.Do c.args.call) c.in-Ok.ensures.ok c.requires

pub returns-in-Ok : goal.returns-in-Ok
returns-in-Ok c =
    submits_by c.args.self.now c.catch_up.new.self c.take_call.new.self c.args.call c.take_call.result c.catch_up.ensures.plays c.in-Ok.ensures.ok c.take_call.ensures.reply c.take_call.ensures.ok c.take_call.ensures.back c.take_call.ensures.err

pub returns-in-Err : goal.returns-in-Err
returns-in-Err c = (refl, c.catch_up.ensures.plays)
