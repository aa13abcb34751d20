-- The call counts where its reply is that of an accepted call, and comes to what it may.
use Rattle.std.proofs.Common.{◌≡◌, ◌∙◌, false, sym, ap, subst, arith}
use Rattle.nats_core.specs.Journal.{caught_up}
use Rattle.nats_refusals.specs.Refusals.{MayAnswer, answer_of, counts}
use Rattle.nats_hub.proofs.Counting.{counts_answer}
use Rattle.nats_hub.proofs.Rooms.{answered}
use Rattle.nats_hub.proofs.locked.Locked.make_once.Goals as goal

pub returns-in-Ok-clause-made : goal.returns-in-Ok-clause-made
returns-in-Ok-clause-made g c =
    omega (arith, c.in-Ok.ensures.made, counts_answer c.in-Ok.reply, ap counts c.answer.ensures)

pub returns-in-Ok-clause-may : goal.returns-in-Ok-clause-may
returns-in-Ok-clause-may g c =
    subst (λ a. MayAnswer false c.args.call a) (sym (c.answer.ensures ∙ ap answer_of c.in-Ok.ensures.reply)) (answered (caught_up c.args.self.now) c.args.call)
