use Rattle.nats_handshake.proofs.offer.ask.Goals as goal

pub returns : goal.returns
returns g c = (c.in_ok-bytes.bytes, c.in_ok-bytes.ensures.items, c.call.ensures)
