-- What each core keeps is told of its session.
use Rattle.std.proofs.Common.{◌≡◌, true, subst}
use Rattle.nats_core.specs.Journal.{Logged, IsSound, config_of, journal_turns}
use Rattle.nats_core.proofs.Journals.{stands_whole}
use Rattle.nats_core.proofs.machine.Core.handler.Goals as goal

pub returns-clause-stands : goal.returns-clause-stands
returns-clause-stands c = (subst IsSound c.self.view_is c.self.invariant).stands

pub returns-clause-whole : goal.returns-clause-whole
returns-clause-whole c kept none =
    let core = c.args.self.now in
    stands_whole (config_of core) (journal_turns core) core.session ((subst IsSound c.self.view_is c.self.invariant).stands kept) none
