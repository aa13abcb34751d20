-- The version's line is the first, and the fields are behind it.
use Rattle.std.proofs.Common.{sym, ◌∙◌}
use Rattle.nats_client_text.proofs.Blocks.{block_read, other_version, one_line}
use Rattle.nats_client_text.proofs.block.read_block.Goals as goal

pub returns-in_default : goal.returns-in_default
returns-in_default c = one_line c.args.block.now c.in_default.ensures

pub returns-then-not-is_version : goal.returns-then-not-is_version
returns-then-not-is_version c =
    other_version c.args.block.now c.in-Some.first.line.now c.in-Some.first.rest.now c.in-Some.ensures (sym c.is_version.ensures ∙ c.if-not-is_version.true)

pub returns : goal.returns
returns c =
    rw (block_read c.args.block.now c.in-Some.first.line.now c.in-Some.first.rest.now c.in-Some.ensures (sym c.is_version.ensures ∙ c.if-not-is_version.false)) c.read_fields.ensures
