-- The pattern has no token left, and the subject has.
use Rattle.std.proofs.Common.{ap, sym, ◌∙◌}
use Rattle.nats_matching.specs.Matching.{tokens_of, tokens_match}
use Rattle.nats_matching.specs.Code.{tokens_left}
use Rattle.nats_matching.proofs.Tokens.{none_left}
use Rattle.nats_matching.proofs.matching.matches.Goals as goal

pub returns-in-Some-tokens : goal.returns-in-Some-tokens
returns-in-Some-tokens c =
    let text = c.in-Some-tokens.field-0.now in
    none_left text
    ∙ ap (λ patterns. tokens_match patterns (tokens_of text)) c.in_default.ensures
    ∙ ap (λ left. tokens_match (tokens_left c.tokens.patterns) (tokens_left left)) (sym c.in-Some-tokens.is)
    ∙ c.tokens.invariant
