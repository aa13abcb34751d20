-- Links that came, and were handed back.
use Rattle.std.proofs.Common.{◌≡◌, refl, ap, ℕ, List, [], Option, Some, None, append-nil, sym}
use Rattle.nats_outside.specs.Told.{Seen, ReadTold}
use Rattle.nats_dial.specs.Causes.{AllBack, Grew, OneOut}
use Rattle.nats_dial.proofs.Returning.{out_back}
use Rattle.nats_start.specs.Steps.{HandsBack, LinkOut}

grew_same : {L : Type 0} (links : Option (List L)) → Grew links links
grew_same None = tt
grew_same (Some links) = (links, [], refl, sym (append-nil links))

-- where nothing came nothing was handed back
pub none_back : (a : Seen) → AllBack a a
none_back a = record { number = 0; links = refl; backs = refl; ended = grew_same a.dialer.ended }

-- a link that was out was handed back
pub one_back : (a m b : Seen) (r : ReadTold) → OneOut a m → HandsBack r m b → AllBack a b
one_back a m b r out back =
    out_back a m b r.pieces back.shut.taken out (ap (λ (s : Seen). s.dialer.links) back.back)
    (ap (λ (s : Seen). s.dialer.backs) back.back) (ap (λ (s : Seen). s.dialer.ended) back.back)
