-- Each number is that of its rows.
use Rattle.std.proofs.Common.{refl}
use Rattle.nats_bulk.proofs.sums.count.Goals as goal

pub returns : goal.returns
returns c =
    rw (
      c.calls.ensures,
      c.sub_sums-subs.ensures.puts,
      c.sub_sums-subs.ensures.takes,
      c.sub_sums-subs.ensures.drops,
      c.settled.ensures,
      c.link_sums-links.ensures.taken,
      c.link_sums-links.ensures.left,
      c.as_slice.ensures,
      c.as_slice-2.ensures,
      c.as_slice-3.ensures,
      c.as_slice-4.ensures,
    ) refl
