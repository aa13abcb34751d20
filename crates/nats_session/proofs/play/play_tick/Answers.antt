-- A PING was written, or the link ended.
use Rattle.std.proofs.Common.{nat_le, ◌∙◌, ap}
use Rattle.nats_history.specs.declared.turn.Turn.TheVariants as turns
use Rattle.nats_history.specs.History.{ticks}
use Rattle.nats_history.specs.Schedule.{tick_limit, own_steps}
use Rattle.nats_session.specs.Machine.{write_end}
use Rattle.nats_session.proofs.Handlers.{on_ok_both}
use Rattle.nats_session.proofs.Chains.{tick_gives_none, tick_written, played}
use Rattle.nats_session.proofs.play.play_tick.Goals as goal

pub returns-clause-parts : goal.returns-clause-parts
returns-clause-parts c =
    let old = c.args.handler.now in
    let written = c.in_ok-note_end.ensures ∙ (ap (λ end. write_end end old.parts c.args.draft.now) c.tick_word-end.ensures ∙ tick_written c.args.place old.parts (nat_le tick_limit (ticks old.parts.link.pings)) c.args.draft.now) in
    on_ok_both c.note_news.result c.note_news.ensures.written c.note_news.ensures.handed_out (λ events handed.
    (played c.args.place (own_steps old.parts turns.Tick) old c.tick.new.self c.note_news.new.handler c.args.draft.now c.note_end.new.draft c.note_news.new.draft
    (tick_gives_none old.parts (nat_le tick_limit (ticks old.parts.link.pings))) c.requires.none c.requires.settled c.in_ok-tick.ensures.ok written events handed).0)

pub returns-clause-sheet : goal.returns-clause-sheet
returns-clause-sheet c =
    let old = c.args.handler.now in
    let written = c.in_ok-note_end.ensures ∙ (ap (λ end. write_end end old.parts c.args.draft.now) c.tick_word-end.ensures ∙ tick_written c.args.place old.parts (nat_le tick_limit (ticks old.parts.link.pings)) c.args.draft.now) in
    on_ok_both c.note_news.result c.note_news.ensures.written c.note_news.ensures.handed_out (λ events handed.
    (played c.args.place (own_steps old.parts turns.Tick) old c.tick.new.self c.note_news.new.handler c.args.draft.now c.note_end.new.draft c.note_news.new.draft
    (tick_gives_none old.parts (nat_le tick_limit (ticks old.parts.link.pings))) c.requires.none c.requires.settled c.in_ok-tick.ensures.ok written events handed).1)
