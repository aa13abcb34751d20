use Rattle.std.proofs.Common.{◌≡◌, ◌∙◌, ap, sym, arith}
use Rattle.example_audit.proofs.Sums.{same_sums}
use Rattle.example_audit.proofs.crew.work_all.Goals as goal

pub returns : goal.returns
returns g c = same_sums (λ c. c.parts) c.args.clients.items c.in_ok-map_vec.field-0.items (grind (arith, c.in_ok-map_vec.ensures.len, c.in_ok-map_vec.field-0.ok, c.args.clients.ok))
    (λ i d h. let k = (c.in_ok-map_vec.ensures.each i d h).1 in k.call.met ∙ ap (λ c. c.parts) (sym (k.job_is d)))
