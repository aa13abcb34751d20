-- The place that `memchr` found is where the first part ends.
use Rattle.std.proofs.Common.{arith, add-one}
use Rattle.std.proofs.lemmas.List.{take_rest}
use Rattle.nats_spelling.proofs.Cuts.{cut_at, not_cut}
use Rattle.nats_spelling.proofs.cut.cut.Goals as goal

pub returns-in-Some-clause-parts : goal.returns-in-Some-clause-parts
returns-in-Some-clause-parts c =
    let found = c.in-Some.ensures in
    rw (take_rest, add-one) (cut_at c.args.byte c.args.text.now c.in-Some.end found.0.high (λ k below e. found.0.before k (omega arith) below e) found.1)

pub returns-in-None-clause-parts : goal.returns-in-None-clause-parts
returns-in-None-clause-parts c = not_cut c.args.byte c.args.text.now (λ k below e. c.in-None.ensures k (omega arith) below e)
