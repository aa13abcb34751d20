-- `all` over the pieces of `split` answers the test of each token.
use Rattle.std.proofs.Common.{rules}
use borrow.Author.Tests.{tests}
use Rattle.nats_names.specs.Names.{is_dot, is_nonempty}
use Rattle.std.proofs.lemmas.Iterator.Search.{all_from_yields_List}
use Rattle.std.proofs.lemmas.Iterator.Splits.{YieldsList-from_slice_split}
use Rattle.nats_names.proofs.subject.has_no_empty_token.Goals as goal

pub returns : goal.returns
returns c =
    all_from_yields_List is_nonempty _ _ _ c.all.ensures.ran (YieldsList-from_slice_split _ is_dot c.args.bytes.now c.split.ensures.rest c.split.ensures.done c.split.ensures.closure (λ x b q k. search (rules, tests))) (λ x b q k. search (rules, tests))
