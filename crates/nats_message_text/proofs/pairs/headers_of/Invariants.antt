-- the headers so far, with those of the fields that are left, are all
use Rattle.std.proofs.Common.{◌≡◌, ℕ, suc, List, [], length, Option, Some, None}
use Rattle.std.specs.Option.{option_copied}
use Rattle.nats_spelling.specs.Cut.{parts_behind}
use Rattle.nats_message_text.specs.Pairs.{headers_from}
use Rattle.nats_message_text.proofs.pairs.headers_of.Given as goal

abbrev pub invariant-pairs : goal.invariant-pairs
invariant-pairs l =
    headers_from (Some []) (parts_behind 32 (option_copied l.fields)) ≡ headers_from (Some l.headers) (parts_behind 32 (option_copied l.rest))

-- what is left, one more than its length where there is something
abbrev pub left_of : Option (List ℕ) → ℕ
left_of None = 0
left_of (Some rest) = suc (length rest)

abbrev pub decreases-pairs : goal.decreases-pairs
decreases-pairs l = left_of (option_copied l.rest)
