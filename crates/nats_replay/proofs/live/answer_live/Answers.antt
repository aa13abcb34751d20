-- Words that are not four ask for nothing; four that ask for messages come to what receiving comes to.
use Rattle.std.proofs.Common.{◌∙◌, arith, map, sym}
use Rattle.std.specs.String.{string_bytes}
use Rattle.nats_replay.proofs.Lived.{fewer_not_live, four_words, not_false, others_answer, receives_answer}
use Rattle.nats_replay.proofs.live.answer_live.Goals as goal

pub returns-in_default-clause-answers : goal.returns-in_default-clause-answers
returns-in_default-clause-answers g c =
    others_answer (map string_bytes c.args.words.now) (g.W.Reach.seen c.args.world.now)
    (g.K.Sink.faults c.args.sink.now) (g.K.Sink.written c.args.sink.now)
    (fewer_not_live string_bytes c.args.words.now c.in_default.len_below)

pub returns-clause-answers : goal.returns-clause-answers
returns-clause-answers g c =
    receives_answer (map string_bytes c.args.words.now) (string_bytes c.word-item.result)
    (string_bytes c.addr-item.result) (string_bytes c.subject-item.result) (string_bytes c.last-item.result)
    c.in_ok-count.count (g.W.Reach.seen c.args.world.now) (g.W.Reach.seen c.answer_sub.new.world)
    c.answer_sub.result (g.K.Sink.faults c.args.sink.now) (g.K.Sink.faults c.answer_sub.new.sink)
    (g.K.Sink.written c.args.sink.now) (g.K.Sink.written c.answer_sub.new.sink)
    (four_words string_bytes c.args.words.now c.word-item.result c.addr-item.result c.subject-item.result
    c.last-item.result c.in-len4.len_at_least c.in-len4.len_below c.word-item.is c.addr-item.is c.subject-item.is
    c.last-item.is)
    (sym (rw c.as_str.ensures.value at c.eq.ensures) ∙ c.if-eq.false)
    (not_false _ (sym (rw c.as_str-2.ensures.value at c.ne.ensures) ∙ c.if-ne.false))
    (rw c.as_str-3.ensures.value at (sym c.in_ok-count.ensures.exact))
    (rw c.as_str-4.ensures.value at (rw c.as_str-5.ensures.value at c.answer_sub.ensures.answers))
