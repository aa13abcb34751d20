-- The answer is what the one call of the function gave, and goes to the message's reply.
use Rattle.std.proofs.Common.{refl, sym, ◌∙◌}
use Rattle.nats_rpc.specs.Serving.{answered}
use Rattle.nats_rpc.proofs.answering.ask.Goals as goal

pub returns-in-Some-clause-asks : goal.returns-in-Some-clause-asks
returns-in-Some-clause-asks g c =
    answered (record { reply = c.in-Some.reply; answer = c.from_vec-answer.result }) c.answer.result
    (sym c.reply_of.ensures ∙ c.in-Some.is) (record { shown = _; shows = refl; called = c.answer.ensures })
    c.from_vec-answer.ensures refl
