-- A link that was up ended, and the session closed.
use Rattle.std.proofs.Common.{◌∙◌, ap}
use Rattle.nats_history.specs.declared.turn.Turn.TheVariants as turns
use Rattle.nats_history.specs.Schedule.{own_steps}
use Rattle.nats_session.specs.Machine.{write_end}
use Rattle.nats_session.proofs.Handlers.{on_ok_both}
use Rattle.nats_session.proofs.Chains.{hangup_gives_none, hangup_written, played}
use Rattle.nats_session.proofs.play.play_hangup.Goals as goal

pub returns-clause-parts : goal.returns-clause-parts
returns-clause-parts c =
    let old = c.args.handler.now in
    let written = c.in_ok-note_end.ensures ∙ (ap (λ end. write_end end old.parts c.args.draft.now) c.hangup_word-end.ensures ∙ hangup_written c.args.place old.parts old.parts.link.is_up c.args.draft.now) in
    on_ok_both c.note_news.result c.note_news.ensures.written c.note_news.ensures.handed_out (λ events handed.
    (played c.args.place (own_steps old.parts turns.Hangup) old c.hang_up.new.self c.note_news.new.handler c.args.draft.now c.note_end.new.draft c.note_news.new.draft
    (hangup_gives_none old.parts old.parts.link.is_up) c.requires.none c.requires.settled c.in_ok-hang_up.ensures.ok written events handed).0)

pub returns-clause-sheet : goal.returns-clause-sheet
returns-clause-sheet c =
    let old = c.args.handler.now in
    let written = c.in_ok-note_end.ensures ∙ (ap (λ end. write_end end old.parts c.args.draft.now) c.hangup_word-end.ensures ∙ hangup_written c.args.place old.parts old.parts.link.is_up c.args.draft.now) in
    on_ok_both c.note_news.result c.note_news.ensures.written c.note_news.ensures.handed_out (λ events handed.
    (played c.args.place (own_steps old.parts turns.Hangup) old c.hang_up.new.self c.note_news.new.handler c.args.draft.now c.note_end.new.draft c.note_news.new.draft
    (hangup_gives_none old.parts old.parts.link.is_up) c.requires.none c.requires.settled c.in_ok-hang_up.ensures.ok written events handed).1)
