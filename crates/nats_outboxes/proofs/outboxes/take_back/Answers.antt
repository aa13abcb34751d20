-- One more is taken back.
use Rattle.std.proofs.Common.{ap, sym, ◌∙◌, ◌-◌, arith, length, take}
use Rattle.nats_outboxes.specs.declared.outboxes.Letter.{Letter}
use Rattle.nats_outboxes.specs.Outboxes.{at_number, shortened, all_said}
use Rattle.nats_outboxes.proofs.Changed.{taken_back}
use Rattle.nats_outboxes.proofs.outboxes.take_back.Goals as goal

pub letters-preserved : goal.letters-preserved
letters-preserved c =
    let k = c.letters.k in
    let letter = c.index-letters-k.result in
    let all = c.args.letters.now in (
      omega (arith, c.letters.invariant.0),
      λ before told.
          c.shorten.ensures
          ∙ ap (λ text. at_number letter.peer (shortened (length text)) c.letters.outs) c.as_slice.ensures
          ∙ ap (at_number letter.peer (shortened (length letter.text))) (c.letters.invariant.1 before told)
          ∙ ap (λ (l : Letter). at_number l.peer (shortened (length l.text)) (all_said (take k all) before)) c.index-letters-k.is
          ∙ taken_back all k letter before c.letters-test.true c.letters.invariant.0,
    )
