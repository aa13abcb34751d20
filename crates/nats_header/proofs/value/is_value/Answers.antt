-- The search for CR and LF finds none exactly in a value.
use Rattle.nats_header.proofs.Texts.{none_found}
use Rattle.nats_header.proofs.value.is_value.Goals as goal

pub returns : goal.returns
returns c = rw (← c.as_bytes.ensures.value) (none_found c.as_bytes.result.now c.memchr2.result c.is_none.result c.memchr2.ensures c.is_none.ensures)
