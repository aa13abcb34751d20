-- The link took bytes, which were written, and the flushes that awaited no more of them settled.
use Rattle.std.proofs.lemmas.Result.{on_ok_weaker}
use Rattle.nats_session.proofs.Chains.{write_noted}
use Rattle.nats_session.proofs.play.play_write.Goals as goal

pub returns-clause-sheet : goal.returns-clause-sheet
returns-clause-sheet c =
    on_ok_weaker c.note_news.result
    (λ news. write_noted c.args.place c.args.n c.args.handler.now c.written.new.self c.args.draft.now c.note_took.new.draft c.note_news.new.draft
    c.requires.may c.requires.none c.requires.settled c.in_ok-note_took.ensures c.written.ensures.seen news)
    c.note_news.ensures.written
