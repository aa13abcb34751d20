use Rattle.std.proofs.Common.{sym, ◌∙◌, arith}
use Rattle.nats_handshake.proofs.Courses.{spent, waits, refuses, succeeds, skips, answers}
use Rattle.nats_handshake.proofs.course.+read_course.Goals as goal

pub returns-then-left-eq0-clause-says : goal.returns-then-left-eq0-clause-says
returns-then-left-eq0-clause-says t c =
    rw (c.ended.ensures, c.io.ensures) (spent c.args.left c.args.text.now c.args.out.items c.if-left-eq0.true)

pub returns-in-Waits-clause-says : goal.returns-in-Waits-clause-says
returns-in-Waits-clause-says t c = rw c.ended-in-Waits.ensures
    (waits c.args.left c.args.text.now c.args.out.items (omega arith) (sym c.in_ok-next.ensures.says ∙ c.in-Waits.is))

pub returns-in-Refuses-clause-says : goal.returns-in-Refuses-clause-says
returns-in-Refuses-clause-says t c = rw c.ended-in-Refuses.ensures
    (refuses c.args.left c.args.text.now c.args.out.items c.in-Refuses.refusal (omega arith)
    (sym c.in_ok-next.ensures.says ∙ c.in-Refuses.is))

pub returns-in-Succeeds-clause-says : goal.returns-in-Succeeds-clause-says
returns-in-Succeeds-clause-says t c = rw c.ended-in-Succeeds.ensures
    (succeeds c.args.left c.args.text.now c.args.out.items c.in-Succeeds.len (omega arith)
    (sym c.in_ok-next.ensures.says ∙ c.in-Succeeds.is))

pub returns-in_ok-more-in-Skips-clause-says : goal.returns-in_ok-more-in-Skips-clause-says
returns-in_ok-more-in-Skips-clause-says t c = rw c.begun.ensures
    (skips c.args.left c.args.text.now c.args.out.items c.in-Skips.len c.in_ok-more-in-Skips.more (omega arith)
    (sym c.in_ok-next.ensures.says ∙ c.in-Skips.is)
    (rw c.behind.ensures at c.in_ok-more-in-Skips.ensures.says))

pub returns-in_ok-more-in-Answers-clause-says : goal.returns-in_ok-more-in-Answers-clause-says
returns-in_ok-more-in-Answers-clause-says t c = rw c.begun-in-Answers.ensures
    (answers c.args.left c.args.text.now c.args.out.items c.in-Answers.len c.in_ok-more-in-Answers.more (omega arith)
    (sym c.in_ok-next.ensures.says ∙ c.in-Answers.is)
    (rw (c.behind-in-Answers.ensures, c.in_ok-longer-in-Answers.ensures) at c.in_ok-more-in-Answers.ensures.says))
