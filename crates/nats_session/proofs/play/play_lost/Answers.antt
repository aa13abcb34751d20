-- The link ended, which was written with what it left.
use Rattle.std.proofs.Common.{refl, ◌∙◌}
use Rattle.nats_history.specs.declared.turn.Turn.TheVariants as turns
use Rattle.nats_history.specs.declared.transcript.LinkWord.TheVariants as word
use Rattle.nats_history.specs.Schedule.{closes, own_steps}
use Rattle.nats_session.proofs.Handlers.{on_ok_both}
use Rattle.nats_session.proofs.Chains.{closing_gives_none, end_written, played}
use Rattle.nats_session.proofs.play.play_lost.Goals as goal

pub returns-clause-parts : goal.returns-clause-parts
returns-clause-parts c =
    let old = c.args.handler.now in
    let written = c.in_ok-note_end.ensures ∙ end_written c.args.place old.parts word.Lost c.args.draft.now in
    on_ok_both c.note_news.result c.note_news.ensures.written c.note_news.ensures.handed_out (λ events handed.
    (played c.args.place (own_steps old.parts turns.Lost) old c.lost.new.self c.note_news.new.handler c.args.draft.now c.note_end.new.draft c.note_news.new.draft
    (refl, closing_gives_none (closes old.parts.drain.is_handled word.Lost)) c.requires.none c.requires.settled c.in_ok-lost.ensures.ok written events handed).0)

pub returns-clause-sheet : goal.returns-clause-sheet
returns-clause-sheet c =
    let old = c.args.handler.now in
    let written = c.in_ok-note_end.ensures ∙ end_written c.args.place old.parts word.Lost c.args.draft.now in
    on_ok_both c.note_news.result c.note_news.ensures.written c.note_news.ensures.handed_out (λ events handed.
    (played c.args.place (own_steps old.parts turns.Lost) old c.lost.new.self c.note_news.new.handler c.args.draft.now c.note_end.new.draft c.note_news.new.draft
    (refl, closing_gives_none (closes old.parts.drain.is_handled word.Lost)) c.requires.none c.requires.settled c.in_ok-lost.ensures.ok written events handed).1)
