-- the number that was drawn leaves what the world tells
use Rattle.std.proofs.Common.{◌≡◌, subst, sym, rules}
use Rattle.nats_start.specs.Steps.{LinkOut}
use Rattle.nats_drive.proofs.connect.begin_on.Goals as goal

pub returns-in-Ok : goal.returns-in-Ok
returns-in-Ok g c = record {
  client = search (rules, c.drive_on.ensures.same, c.in-Ok.ensures.client);
  refused = λ a out. c.drive_on.ensures.refused a
      (c.in-Ok.ensures.out a (subst (λ s. LinkOut a s c.args.linked) (sym c.draw-seed.ensures.told) out));
}
