-- The eight lines go behind one another.
use Rattle.std.proofs.Common.{refl}
use Rattle.nats_bulk.proofs.sums.text_of.Goals as goal

pub returns : goal.returns
returns c =
    rw (
      c.in_ok-push_line-8.ensures,
      c.in_ok-push_line-7.ensures,
      c.in_ok-push_line-6.ensures,
      c.in_ok-push_line-5.ensures,
      c.in_ok-push_line-4.ensures,
      c.in_ok-push_line-3.ensures,
      c.in_ok-push_line-2.ensures,
      c.in_ok-push_line.ensures,
      c.new-out.ensures.bytes,
    ) refl
