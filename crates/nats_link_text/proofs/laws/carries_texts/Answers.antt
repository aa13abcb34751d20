-- Links carry the texts of their commands.
use Rattle.nats_link_text.proofs.Carried as links
use Rattle.nats_link_text.proofs.laws.carries_texts.Goals as goal

pub returns : goal.returns
returns c = links.carries
