-- There is news exactly where more INFOs were read.
use Rattle.nats_core.proofs.News.{tells_news}
use Rattle.nats_core.proofs.machine.Core.news.Goals as goal

pub returns-clause-exact : goal.returns-clause-exact
returns-clause-exact c = tells_news c.args.seen c.args.self.now.session c.told_since.result c.told_since.ensures.news
