-- A script that can be played ends with its transcript.
use Rattle.std.proofs.Common.{map, IsTrue}
use Rattle.std.specs.String.{string_bytes}
use Rattle.nats_replay.proofs.Lived.{live_status, not_published_by, not_received_by, pub_answers, pub_cut_by, pub_live, published_by, received_by, sub_answers, sub_cut_by, sub_live}
use Rattle.nats_replay.proofs.Asking.{crew_answered}
use Rattle.nats_replay.proofs.Outcomes.{completes}
use Rattle.nats_replay.specs.Words.{is_status_of_bulk}
use Rattle.nats_replay.specs.Workers.{CrewAnswers}
use Rattle.nats_replay.proofs.top.replay.Goals as goal

pub returns-in-Ok-write_all-clause-complete : goal.returns-in-Ok-write_all-clause-complete
returns-in-Ok-write_all-clause-complete g c = λ run.
    completes _ _ _ c.in-Ok.output.ending c.in-Ok.output.text.items _ c.status_of_ending.ensures c.in-Ok.ensures.0

pub returns-then-not-are_run-clause-published : goal.returns-then-not-are_run-clause-published
returns-then-not-are_run-clause-published g c = λ addr subject payload is status.
    published_by addr subject payload (g.W.Reach.seen c.args.world.now) (g.W.Reach.seen c.answer_others.new.world)
    c.answer_others.result (g.K.Sink.faults c.args.sink.now) (g.K.Sink.faults c.answer_others.new.sink)
    (g.K.Sink.written c.args.sink.now) (g.K.Sink.written c.answer_others.new.sink) status
    (pub_answers (map string_bytes c.args.words.now) addr subject payload (g.W.Reach.seen c.args.world.now)
    (g.W.Reach.seen c.answer_others.new.world)
    c.answer_others.result (g.K.Sink.faults c.args.sink.now) (g.K.Sink.faults c.answer_others.new.sink)
    (g.K.Sink.written c.args.sink.now) (g.K.Sink.written c.answer_others.new.sink) is
    (c.answer_others.ensures.live (pub_live (map string_bytes c.args.words.now) addr subject payload is)))

pub returns-then-not-are_run-clause-received : goal.returns-then-not-are_run-clause-received
returns-then-not-are_run-clause-received g c = λ addr subject n is status.
    received_by addr subject n (g.W.Reach.seen c.args.world.now) (g.W.Reach.seen c.answer_others.new.world)
    c.answer_others.result (g.K.Sink.faults c.args.sink.now) (g.K.Sink.faults c.answer_others.new.sink)
    (g.K.Sink.written c.args.sink.now) (g.K.Sink.written c.answer_others.new.sink) status
    (sub_answers (map string_bytes c.args.words.now) addr subject n (g.W.Reach.seen c.args.world.now)
    (g.W.Reach.seen c.answer_others.new.world)
    c.answer_others.result (g.K.Sink.faults c.args.sink.now) (g.K.Sink.faults c.answer_others.new.sink)
    (g.K.Sink.written c.args.sink.now) (g.K.Sink.written c.answer_others.new.sink) is
    (c.answer_others.ensures.live (sub_live (map string_bytes c.args.words.now) addr subject n is)))

pub returns-then-not-are_run-clause-not_published : goal.returns-then-not-are_run-clause-not_published
returns-then-not-are_run-clause-not_published g c = λ addr subject payload is status.
    not_published_by addr subject payload (g.W.Reach.seen c.args.world.now) (g.W.Reach.seen c.answer_others.new.world)
    c.answer_others.result (g.K.Sink.faults c.args.sink.now) (g.K.Sink.faults c.answer_others.new.sink)
    (g.K.Sink.written c.args.sink.now) (g.K.Sink.written c.answer_others.new.sink) status
    (pub_answers (map string_bytes c.args.words.now) addr subject payload (g.W.Reach.seen c.args.world.now)
    (g.W.Reach.seen c.answer_others.new.world)
    c.answer_others.result (g.K.Sink.faults c.args.sink.now) (g.K.Sink.faults c.answer_others.new.sink)
    (g.K.Sink.written c.args.sink.now) (g.K.Sink.written c.answer_others.new.sink) is
    (c.answer_others.ensures.live (pub_live (map string_bytes c.args.words.now) addr subject payload is)))

pub returns-then-not-are_run-clause-not_received : goal.returns-then-not-are_run-clause-not_received
returns-then-not-are_run-clause-not_received g c = λ addr subject n is status.
    not_received_by addr subject n (g.W.Reach.seen c.args.world.now) (g.W.Reach.seen c.answer_others.new.world)
    c.answer_others.result (g.K.Sink.faults c.args.sink.now) (g.K.Sink.faults c.answer_others.new.sink)
    (g.K.Sink.written c.args.sink.now) (g.K.Sink.written c.answer_others.new.sink) status
    (sub_answers (map string_bytes c.args.words.now) addr subject n (g.W.Reach.seen c.args.world.now)
    (g.W.Reach.seen c.answer_others.new.world)
    c.answer_others.result (g.K.Sink.faults c.args.sink.now) (g.K.Sink.faults c.answer_others.new.sink)
    (g.K.Sink.written c.args.sink.now) (g.K.Sink.written c.answer_others.new.sink) is
    (c.answer_others.ensures.live (sub_live (map string_bytes c.args.words.now) addr subject n is)))

pub returns-then-not-are_run-clause-pub_cut_short : goal.returns-then-not-are_run-clause-pub_cut_short
returns-then-not-are_run-clause-pub_cut_short g c = λ addr subject payload is status.
    pub_cut_by addr subject payload (g.W.Reach.seen c.args.world.now) (g.W.Reach.seen c.answer_others.new.world)
    c.answer_others.result (g.K.Sink.faults c.args.sink.now) (g.K.Sink.faults c.answer_others.new.sink)
    (g.K.Sink.written c.args.sink.now) (g.K.Sink.written c.answer_others.new.sink) status
    (pub_answers (map string_bytes c.args.words.now) addr subject payload (g.W.Reach.seen c.args.world.now)
    (g.W.Reach.seen c.answer_others.new.world)
    c.answer_others.result (g.K.Sink.faults c.args.sink.now) (g.K.Sink.faults c.answer_others.new.sink)
    (g.K.Sink.written c.args.sink.now) (g.K.Sink.written c.answer_others.new.sink) is
    (c.answer_others.ensures.live (pub_live (map string_bytes c.args.words.now) addr subject payload is)))

pub returns-then-not-are_run-clause-sub_cut_short : goal.returns-then-not-are_run-clause-sub_cut_short
returns-then-not-are_run-clause-sub_cut_short g c = λ addr subject n is status.
    sub_cut_by addr subject n (g.W.Reach.seen c.args.world.now) (g.W.Reach.seen c.answer_others.new.world)
    c.answer_others.result (g.K.Sink.faults c.args.sink.now) (g.K.Sink.faults c.answer_others.new.sink)
    (g.K.Sink.written c.args.sink.now) (g.K.Sink.written c.answer_others.new.sink) status
    (sub_answers (map string_bytes c.args.words.now) addr subject n (g.W.Reach.seen c.args.world.now)
    (g.W.Reach.seen c.answer_others.new.world)
    c.answer_others.result (g.K.Sink.faults c.args.sink.now) (g.K.Sink.faults c.answer_others.new.sink)
    (g.K.Sink.written c.args.sink.now) (g.K.Sink.written c.answer_others.new.sink) is
    (c.answer_others.ensures.live (sub_live (map string_bytes c.args.words.now) addr subject n is)))

pub returns-then-not-are_run-clause-live : goal.returns-then-not-are_run-clause-live
returns-then-not-are_run-clause-live g c = λ live.
    live_status (map string_bytes c.args.words.now) (g.W.Reach.seen c.args.world.now)
    (g.W.Reach.seen c.answer_others.new.world)
    c.answer_others.result (g.K.Sink.faults c.args.sink.now) (g.K.Sink.faults c.answer_others.new.sink)
    (g.K.Sink.written c.args.sink.now) (g.K.Sink.written c.answer_others.new.sink)
    (c.answer_others.ensures.live live)

pub returns-in-Some-crew_of-clause-workers : goal.returns-in-Some-crew_of-clause-workers
returns-in-Some-crew_of-clause-workers g c = let status = c.answer_crew.result in crew_answered
    (λ crew. IsTrue (is_status_of_bulk status) × CrewAnswers crew status
    (g.K.Sink.faults c.args.sink.now) (g.K.Sink.faults c.answer_crew.new.sink)
    (g.K.Sink.written c.args.sink.now) (g.K.Sink.written c.answer_crew.new.sink))
    (map string_bytes c.args.words.now) c.in-Some-crew_of.crew c.in-Some-crew_of.ensures.exact
    (c.answer_crew.ensures.status, c.answer_crew.ensures.answers)
