-- A token that others follow isn't the last.
use Rattle.std.proofs.Common.{ap, sym, ◌∙◌}
use Rattle.nats_matching.specs.Matching.{takes_rest}
use Rattle.nats_matching.specs.Code.{tokens_left}
use Rattle.nats_matching.proofs.Tokens.{not_last}
use Rattle.nats_matching.proofs.matching.takes_rest.Goals as goal

pub returns-in-Some : goal.returns-in-Some
returns-in-Some c = not_last c.args.pattern.text.now c.in-Some.field-0.now ∙ ap (λ left. takes_rest c.args.pattern.text.now (tokens_left left)) (sym c.in-Some.is)
