-- What `split_once` cuts off is the first token.
use Rattle.std.proofs.Common.{Some, None, lit<}
use Rattle.std.proofs.lemmas.Str.Pattern.{split_once_first, split_parts}
use Rattle.nats_matching.proofs.Tokens.{tokens_at_dot, tokens_whole}
use Rattle.nats_matching.proofs.matching.first_token.Goals as goal

pub returns-in-Some : goal.returns-in-Some
returns-in-Some c =
    let text = c.in-Some.text in
    let left = c.in-Some.left in
    let line = c.args.text.now in
    let first = split_once_first 46 line (Some (text, left)) c.in-Some.ensures.cases (lit< tt) in
    tokens_at_dot line text.now left.now first.0 first.1 first.2

pub returns-in-None : goal.returns-in-None
returns-in-None c =
    let line = c.args.text.now in
    tokens_whole line (split_parts 46 line None c.in-None.ensures.cases (lit< tt))
