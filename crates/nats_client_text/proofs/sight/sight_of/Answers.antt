-- What stands at the front follows from the line there.
use Rattle.std.proofs.Common.{sym, Some, None}
use Rattle.nats_client_text.specs.Code.{cut_view}
use Rattle.nats_client_text.proofs.Fronts.{sight_by_cut}
use Rattle.nats_client_text.proofs.sight.sight_of.Goals as goal

pub returns-in-Some : goal.returns-in-Some
returns-in-Some c = rw (sight_by_cut c.args.text.now (Some (cut_view c.in-Some.cut)) c.in-Some.ensures.cut) c.sight_of_line.ensures

pub returns-in-None : goal.returns-in-None
returns-in-None c = sym (sight_by_cut c.args.text.now None c.in-None.ensures.cut)
