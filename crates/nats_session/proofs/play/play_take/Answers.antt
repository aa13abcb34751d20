-- A take where nothing waits makes no step.
use Rattle.std.proofs.Common.{◌∙◌}
use Rattle.nats_session.proofs.Handlers.{on_ok_of, take_quiet}
use Rattle.nats_session.proofs.play.play_take.Goals as goal

pub returns-clause-parts : goal.returns-clause-parts
returns-clause-parts c =
    on_ok_of c.note_reply.result (c.take_oldest-taken.ensures.rest ∙ take_quiet c.args.handler.now c.args.sid c.requires.none c.requires.settled c.requires.may)
