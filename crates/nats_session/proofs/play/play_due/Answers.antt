-- The step that is due was played, written, and its events handed out.
use Rattle.std.proofs.Common.{refl, ap, ◌∙◌}
use Rattle.nats_history.specs.Schedule.{due, due_chain}
use Rattle.nats_session.specs.Handler.{end_in, played_name}
use Rattle.nats_session.specs.Machine.{write_end}
use Rattle.nats_session.proofs.Handlers.{on_ok_both}
use Rattle.nats_session.proofs.Settles.{noted, look_written}
use Rattle.nats_session.proofs.play.play_due.Goals as goal

pub returns : goal.returns
returns c =
    let old = c.args.handler.now in
    let ended = c.in_ok-note_end.ensures ∙ (ap (λ word. write_end word old.parts c.note_coming.new.draft) c.end_by-end.ensures
    ∙ ap (write_end (end_in (due_chain old.parts (due old.parts))) old.parts)
    (c.in_ok-note_coming.ensures ∙ look_written c.args.place old.parts c.args.look c.args.draft.now c.requires.sees)) in
    on_ok_both c.note_news.result c.note_news.ensures.written c.note_news.ensures.handed_out (λ written handed.
    noted c.args.place (due old.parts) old c.advance_by.new.self c.note_news.new.handler (played_name c.in_ok-played.played)
    c.args.draft.now c.note_end.new.draft c.note_played.new.draft c.note_news.new.draft refl c.requires.none c.requires.settled c.in_ok-played.ensures.ok
    ended c.in_ok-note_played.ensures written handed)
