-- The session closed.
use Rattle.std.proofs.Common.{◌≡◌, refl}
use Rattle.nats_history.specs.declared.turn.Turn.TheVariants as turns
use Rattle.nats_history.specs.Schedule.{own_steps}
use Rattle.nats_session.proofs.Handlers.{on_ok_both}
use Rattle.nats_session.proofs.Chains.{played}
use Rattle.nats_session.proofs.play.play_give_up.Goals as goal

pub returns-clause-parts : goal.returns-clause-parts
returns-clause-parts c =
    let old = c.args.handler.now in
    let written = let same : c.args.draft.now ≡ c.args.draft.now = refl in same in
    on_ok_both c.note_news.result c.note_news.ensures.written c.note_news.ensures.handed_out (λ events handed.
    (played c.args.place (own_steps old.parts turns.GiveUp) old c.give_up.new.self c.note_news.new.handler c.args.draft.now c.args.draft.now c.note_news.new.draft
    (refl, tt) c.requires.none c.requires.settled c.in_ok-give_up.ensures.ok written events handed).0)

pub returns-clause-sheet : goal.returns-clause-sheet
returns-clause-sheet c =
    let old = c.args.handler.now in
    let written = let same : c.args.draft.now ≡ c.args.draft.now = refl in same in
    on_ok_both c.note_news.result c.note_news.ensures.written c.note_news.ensures.handed_out (λ events handed.
    (played c.args.place (own_steps old.parts turns.GiveUp) old c.give_up.new.self c.note_news.new.handler c.args.draft.now c.args.draft.now c.note_news.new.draft
    (refl, tt) c.requires.none c.requires.settled c.in_ok-give_up.ensures.ok written events handed).1)
