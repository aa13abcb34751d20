-- The place that `memchr` found is where the first part ends.
use Rattle.std.proofs.Common.{arith, add-one}
use Rattle.std.proofs.lemmas.List.{take_rest}
use Rattle.nats_rpc_script.proofs.Cuts.{cut_at, not_cut, before_at, behind_at, all_before, none_behind}
use Rattle.nats_rpc_script.proofs.lines.cut.Goals as goal

pub returns-in-Some-clause-parts : goal.returns-in-Some-clause-parts
returns-in-Some-clause-parts c =
    let found = c.in-Some.ensures in
    rw (take_rest, add-one) (cut_at c.args.byte c.args.text.now c.in-Some.end found.0.high
    (λ k below e. found.0.before k (omega arith) below e) found.1)

pub returns-in-Some-clause-front : goal.returns-in-Some-clause-front
returns-in-Some-clause-front c =
    let found = c.in-Some.ensures in
    before_at c.args.byte c.args.text.now c.in-Some.end found.0.high
    (λ k below e. found.0.before k (omega arith) below e) found.1

pub returns-in-Some-clause-rest : goal.returns-in-Some-clause-rest
returns-in-Some-clause-rest c =
    let found = c.in-Some.ensures in
    rw (take_rest, add-one) (behind_at c.args.byte c.args.text.now c.in-Some.end found.0.high
    (λ k below e. found.0.before k (omega arith) below e) found.1)

pub returns-in-None-clause-parts : goal.returns-in-None-clause-parts
returns-in-None-clause-parts c = not_cut c.args.byte c.args.text.now
    (λ k below e. c.in-None.ensures k (omega arith) below e)

pub returns-in-None-clause-front : goal.returns-in-None-clause-front
returns-in-None-clause-front c = all_before c.args.byte c.args.text.now
    (λ k below e. c.in-None.ensures k (omega arith) below e)

pub returns-in-None-clause-rest : goal.returns-in-None-clause-rest
returns-in-None-clause-rest c = none_behind c.args.byte c.args.text.now
    (λ k below e. c.in-None.ensures k (omega arith) below e)
