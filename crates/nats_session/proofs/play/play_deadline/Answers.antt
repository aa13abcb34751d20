-- The request of the ticket settled, where it was unsettled.
use Rattle.nats_history.specs.declared.turn.Turn.TheVariants as turns
use Rattle.nats_history.specs.Tickets.{is_unsettled}
use Rattle.nats_history.specs.Schedule.{own_steps}
use Rattle.nats_session.proofs.Handlers.{on_ok_both}
use Rattle.nats_session.proofs.Chains.{deadline_gives_none, deadline_written, played}
use Rattle.nats_session.proofs.play.play_deadline.Goals as goal

pub returns-clause-parts : goal.returns-clause-parts
returns-clause-parts c =
    let old = c.args.handler.now in
    let unsettled = is_unsettled c.args.ticket old.parts.tickets in
    let written = deadline_written c.args.place old.parts c.args.ticket unsettled c.args.draft.now in
    on_ok_both c.note_news.result c.note_news.ensures.written c.note_news.ensures.handed_out (λ events handed.
    (played c.args.place (own_steps old.parts (turns.Deadline c.args.ticket)) old c.deadline.new.self c.note_news.new.handler c.args.draft.now c.args.draft.now c.note_news.new.draft
    (deadline_gives_none old.parts c.args.ticket unsettled) c.requires.none c.requires.settled c.deadline.ensures.seen written events handed).0)

pub returns-clause-sheet : goal.returns-clause-sheet
returns-clause-sheet c =
    let old = c.args.handler.now in
    let unsettled = is_unsettled c.args.ticket old.parts.tickets in
    let written = deadline_written c.args.place old.parts c.args.ticket unsettled c.args.draft.now in
    on_ok_both c.note_news.result c.note_news.ensures.written c.note_news.ensures.handed_out (λ events handed.
    (played c.args.place (own_steps old.parts (turns.Deadline c.args.ticket)) old c.deadline.new.self c.note_news.new.handler c.args.draft.now c.args.draft.now c.note_news.new.draft
    (deadline_gives_none old.parts c.args.ticket unsettled) c.requires.none c.requires.settled c.deadline.ensures.seen written events handed).1)
