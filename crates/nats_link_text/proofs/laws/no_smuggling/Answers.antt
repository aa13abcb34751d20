-- Links are read back as their commands.
use Rattle.nats_link_text.proofs.Carried as links
use Rattle.nats_link_text.proofs.laws.no_smuggling.Goals as goal

pub returns : goal.returns
returns c = links.no_smuggling c.read_back.ensures
