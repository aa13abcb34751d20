-- The first number goes behind its word, the second behind that.
use Rattle.std.specs.Prelude.{codes}
use Rattle.std.specs.Fmt.{decimal}
use Rattle.nats_spelling.specs.Lines.{opening}
use Rattle.nats_print.proofs.Appends.{appends_two}
use Rattle.nats_print.proofs.print.push_sizes.Goals as goal

pub returns : goal.returns
returns c =
    appends_two c.push_number.result c.args.out.now.items (opening (codes "max-payload") c.args.limit) (decimal c.args.size) _ _
    c.in_ok-open_line.ensures c.push_number.ensures
