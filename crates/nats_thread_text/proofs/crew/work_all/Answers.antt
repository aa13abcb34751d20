-- Each worker comes back with the parts that it had.
use Rattle.std.proofs.Common.{◌∙◌, ap, sym, arith}
use Rattle.nats_thread_text.proofs.Sums.{same_sums}
use Rattle.nats_thread_text.proofs.crew.work_all.Goals as goal

pub returns : goal.returns
returns g c = same_sums (λ w. w.client.parts) c.args.crew.items c.in_ok-map_vec.field-0.items (grind (arith, c.in_ok-map_vec.ensures.len, c.in_ok-map_vec.field-0.ok, c.args.crew.ok))
    (λ i d h. let k = (c.in_ok-map_vec.ensures.each i d h).1 in k.call.met ∙ ap (λ w. w.client.parts) (sym (k.job_is d)))
