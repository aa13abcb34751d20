-- Where a space follows, more than one field is left.
use Rattle.std.proofs.Common.{ap}
use Rattle.std.specs.Option.{option_copied}
use Rattle.nats_spelling.proofs.Cuts.{not_only}
use Rattle.nats_spelling.proofs.cut.only.Goals as goal

pub returns-in-Some : goal.returns-in-Some
returns-in-Some c =
    not_only (option_copied c.args.fields) c.in_ok-fields.field-0.now _ c.in-Some.field-0.now (option_copied c.cut.result.1) (ap option_copied c.in_ok-fields.was) (ap option_copied c.in-Some.is) c.cut.ensures.parts
