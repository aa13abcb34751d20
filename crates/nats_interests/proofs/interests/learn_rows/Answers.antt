-- One more is remembered.
use Rattle.std.proofs.Common.{◌∙◌, ap, sym}
use Rattle.nats_interests.specs.Index.{pattern_of}
use Rattle.nats_interests.proofs.Remembered.{learned_on}
use Rattle.nats_interests.proofs.interests.learn_rows.Goals as goal

pub rows-preserved : goal.rows-preserved
rows-preserved c = learned_on c.args.rows.now c.rows.index c.learn.new.self c.rows.k c.index-rows-k.result c.as_bytes.result.now
    c.rows.invariant c.rows-test.true c.index-rows-k.is (c.as_bytes.ensures.value ∙ c.as_str.ensures ∙ ap pattern_of (sym c.index-rows-k.is)) c.in-Ok.ensures.some c.in-Ok.ensures.ok
