-- One more letter goes over to what was read.
use Rattle.std.proofs.Common.{◌∙◌, ap}
use Rattle.nats_spelling.proofs.Spelled.{onto_front, onto_front_more}
use Rattle.nats_spelling.proofs.fields.letters.Goals as goal

pub loop-rest-preserved : goal.loop-rest-preserved
loop-rest-preserved c =
    rw c.in_ok-push.ensures.items (c.loop-rest.invariant ∙ ap (onto_front c.loop-rest.bytes.items) c.in-Some.ensures.letters ∙ onto_front_more c.loop-rest.bytes.items c.in-Some.b _)
