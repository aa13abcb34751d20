-- The text is cut where CR LF is found.
use Rattle.std.proofs.Common.{Some, None, refl}
use Rattle.nats_broker_text.proofs.Cuts.{cut_by_search}
use Rattle.nats_broker_text.proofs.lines.first_line.Goals as goal

pub returns-in_err-end-clause-line : goal.returns-in_err-end-clause-line
returns-in_err-end-clause-line c =
    let e = cut_by_search c.args.text.now None c.in_err-end.ensures in
    rw (c.from_residual.ensures, e) refl

pub returns-clause-line : goal.returns-clause-line
returns-clause-line c =
    let e = cut_by_search c.args.text.now (Some c.in_ok-end.end) c.in_ok-end.ensures in
    rw e refl
