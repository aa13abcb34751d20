-- The first line ends where its end was found.
use Rattle.nats_lines.proofs.Scans.{fits_there, cut_found}
use Rattle.nats_unread.proofs.unread.Unread.await_body.Goals as goal

pub needed-self-inside-requires-clause-fits : goal.needed-self-inside-requires-clause-fits
needed-self-inside-requires-clause-fits c =
    rw c.as_slice.ensures (fits_there c.self.inside.found.place c.self.inside.found.ended c.self.inside.buf c.if-self.true c.self.invariant.0)

pub needed-self-inside-requires-clause-cut : goal.needed-self-inside-requires-clause-cut
needed-self-inside-requires-clause-cut c =
    rw c.as_slice.ensures (cut_found c.self.inside.found.place c.self.inside.found.ended c.self.inside.buf c.if-self.true c.self.invariant.0)
