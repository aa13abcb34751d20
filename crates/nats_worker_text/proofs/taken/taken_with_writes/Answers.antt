-- Whether the first write may come tells whether a link is up.
use Rattle.std.proofs.Common.{rules, ◌≡◌, ◌+◌, length, take, sym, ◌∙◌, ap}
use Rattle.std.proofs.lemmas.Result.{IfOk-weaker}
use Rattle.nats_worker_text.specs.Taken.{bytes_taken, first_taken, written_out}
use Rattle.nats_worker_text.proofs.Behind.{before, taken_down, taken_out, taken_up, told_out}
use Rattle.nats_worker_text.proofs.taken.taken_with_writes.Goals as goal

pub returns-in-Ok : goal.returns-in-Ok
returns-in-Ok c =
    let all = c.as_slice.ensures.value ∙ c.in_ok-push_writes.ensures in
    c.first_taken.ensures
    ∙ (ap first_taken c.as_slice-in-Ok.ensures
    ∙ taken_up c.args.config c.args.turns.items c.as_slice.result.now c.args.count c.in-Ok.transcript c.requires.valid c.requires.some all c.in-Ok.ensures)

pub returns-then-place-before : goal.returns-then-place-before
returns-then-place-before c =
    let many : c.len-before.result ≡ length c.args.turns.items = search rules in
    let put = c.in_ok-push_writes.ensures in
    let all = c.as_slice.ensures.value ∙ put in
    let out = told_out c.args.config c.as_slice.result.now c.in-Err-OutOfTurn.place c.in-Err-OutOfTurn.field-0 c.in-Err-OutOfTurn.field-0-is c.in-Err-OutOfTurn.ensures in
    let here = c.if-place-before.true ∙ ap (λ n. n + 1) many in
    let part = (λ i. take (many i) (c.as_slice-then-place-before.ensures.value i)) ∙ before c.args.turns.items c.push_writes.new.turns.items c.args.count put in
    IfOk-weaker c.bytes_taken.result (λ n. n ≡ bytes_taken c.in_ok-again.again (take c.len-before.result c.as_slice-then-place-before.result.now))
    (λ n. n ≡ bytes_taken c.args.config (written_out c.args.config c.args.count c.args.turns.items))
    (λ n is. taken_down c.args.config c.args.turns.items c.as_slice.result.now c.args.count c.in-Err-OutOfTurn.place n c.requires.valid c.requires.some all out here
    (is ∙ (λ i. bytes_taken (c.in_ok-again.ensures i) (part i))))
    c.bytes_taken.ensures

pub returns-in-Err-OutOfTurn : goal.returns-in-Err-OutOfTurn
returns-in-Err-OutOfTurn c =
    let all = c.as_slice.ensures.value ∙ c.in_ok-push_writes.ensures in
    let out = told_out c.args.config c.as_slice.result.now c.in-Err-OutOfTurn.place c.in-Err-OutOfTurn.field-0 c.in-Err-OutOfTurn.field-0-is c.in-Err-OutOfTurn.ensures in
    let many : c.len-before.result ≡ length c.args.turns.items = search rules in
    taken_out c.args.config c.args.turns.items c.as_slice.result.now c.args.count c.in-Err-OutOfTurn.place c.requires.valid c.requires.some all out
    (λ is. c.if-place-before.false (is ∙ ap (λ n. n + 1) (sym many)))
