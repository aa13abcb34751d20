-- The part before the first line feed is the first line.
use Rattle.std.proofs.Common.{ap}
use Rattle.std.specs.Option.{option_copied}
use Rattle.nats_spelling.proofs.Cuts.{first_of_lines, last_of_lines}
use Rattle.nats_spelling.proofs.cut.first_line.Goals as goal

pub returns-in-Some : goal.returns-in-Some
returns-in-Some c =
    first_of_lines c.args.text.now _ _ (option_copied c.cut.result.1) (ap option_copied c.in-Some.is) c.cut.ensures.parts (rw c.in-Some.is at c.cut.ensures.shorter)

pub returns-in-None : goal.returns-in-None
returns-in-None c =
    last_of_lines c.args.text.now _ (option_copied c.cut.result.1) (ap option_copied c.in-None.is) (cc) c.cut.ensures.parts (rw c.in-None.is at c.cut.ensures.whole)
