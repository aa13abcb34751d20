-- the values so far, and those that are left, are all
use Rattle.std.proofs.Common.{◌≡◌, ◌+◌}
use Rattle.nats_message_text.specs.Printed.{value_count}
use Rattle.nats_message_text.proofs.message.value_count.Given as goal

abbrev pub invariant-loop-values : goal.invariant-loop-values
invariant-loop-values l = l.count + value_count l.values-iterator ≡ value_count l.headers
