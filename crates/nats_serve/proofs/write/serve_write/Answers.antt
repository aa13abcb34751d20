-- The peer was over, and its link is shut.
use Rattle.std.proofs.Common.{rules}
use Rattle.nats_serve.proofs.write.serve_write.Goals as goal

pub returns-in-Ok-None-clause-lost : goal.returns-in-Ok-None-clause-lost
returns-in-Ok-None-clause-lost c = search rules

pub returns-in-Ok-None-clause-shut : goal.returns-in-Ok-None-clause-shut
returns-in-Ok-None-clause-shut c = search rules
