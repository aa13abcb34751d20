-- A colon without a space behind it makes no field.
use Rattle.std.proofs.Common.{None, lit<, option_map, ap, sym, ◌∙◌}
use Rattle.std.proofs.lemmas.Str.Pattern.{strip_prefix_char}
use Rattle.nats_block.specs.Fields.{with_field}
use Rattle.nats_client_text.specs.Blocks.{field_cut}
use Rattle.nats_client_text.proofs.Blocks.{not_spaced}
use Rattle.nats_client_text.proofs.block.put_text.Goals as goal

pub returns-in-None : goal.returns-in-None
returns-in-None c =
    let behind = c.in-Some.behind.now in
    let never = strip_prefix_char 32 behind None c.in-None.ensures.cases (lit< tt) in
    ap (λ cut. option_map (with_field c.args.headers.now) (field_cut cut)) (sym c.in-Some.ensures)
    ∙ ap (option_map (with_field c.args.headers.now)) (not_spaced c.in-Some.name.now behind never)
