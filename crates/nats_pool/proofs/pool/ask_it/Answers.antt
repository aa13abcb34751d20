use Rattle.nats_pool.proofs.pool.ask_it.Goals as goal

pub returns : goal.returns
returns g c =
    (c.in_ok-copies.copies, c.in_ok-copies.ensures, rw (← c.in_ok-info.ensures) c.call-named.ensures)
