-- The text is cut where CR LF is found.
use Rattle.std.proofs.Common.{◌+◌, Some, None, refl}
use Rattle.std.proofs.lemmas.List.{take_rest}
use Rattle.nats_client_text.proofs.Cuts.{cut_by_search}
use Rattle.nats_client_text.proofs.cut.cut.Goals as goal

pub returns-in_err-end-clause-cut : goal.returns-in_err-end-clause-cut
returns-in_err-end-clause-cut c =
    let e = cut_by_search c.args.text.now None c.in_err-end.ensures in
    rw (c.from_residual.ensures, e) refl

pub returns-clause-cut : goal.returns-clause-cut
returns-clause-cut c =
    let end = c.in_ok-end.end in
    let text = c.args.text.now in
    let e = cut_by_search text (Some end) c.in_ok-end.ensures in
    rw (e, take_rest text (end + 2)) refl
