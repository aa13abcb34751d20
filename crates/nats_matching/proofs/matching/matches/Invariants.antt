-- the tokens that are left decide
use Rattle.std.proofs.Common.{◌≡◌, length}
use Rattle.nats_matching.specs.Matching.{tokens_match, matches}
use Rattle.nats_matching.specs.Code.{tokens_left}
use Rattle.nats_matching.proofs.matching.matches.Given as goal

abbrev pub invariant-tokens : goal.invariant-tokens
invariant-tokens l = tokens_match (tokens_left l.patterns) (tokens_left l.tokens) ≡ matches l.fn.pattern l.fn.subject

abbrev pub decreases-tokens : goal.decreases-tokens
decreases-tokens l = length (tokens_left l.patterns)
