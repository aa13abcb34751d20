use Rattle.std.proofs.Common.{◌≤◌, arith, ◌∙◌, ap, length}
use Rattle.std.proofs.lemmas.Bool.{false≢true}
use Rattle.nats_names.specs.Names.{is_token}
use Rattle.nats_rpc.proofs.Tokens.{token_fits}
use Rattle.nats_rpc.proofs.attempt.token_of.Goals as goal

pub unreachable-requires : goal.unreachable-requires
unreachable-requires c =
    let short : length c.args.terms.now.name ≤ 40 = c.requires in
    let fits = token_fits c.as_str-name.result.now c.args.number c.as_str-name.ensures.token
    (omega (arith, ap length c.as_str-name.ensures.text, short)) (omega (arith, c.ranges.number.fits)) in
    false≢true (c.in-None.ensures.exact ∙ (ap is_token (c.as_str.ensures.value ∙ c.in_ok-text.ensures.ok) ∙ fits))
