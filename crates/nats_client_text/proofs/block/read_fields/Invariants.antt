-- the headers so far and the fields of the lines that are left are the whole
use Rattle.std.proofs.Common.{◌≡◌, option_map, length}
use Rattle.nats_block.specs.Fields.{all_appended}
use Rattle.nats_client_text.specs.Blocks.{lines_of, fields_of, headers_of}
use Rattle.nats_client_text.proofs.block.read_fields.Given as goal

abbrev pub invariant-loop-line : goal.invariant-loop-line
invariant-loop-line l = option_map (all_appended l.headers) (fields_of (lines_of l.left)) ≡ headers_of (lines_of l.fn.text)

abbrev pub decreases-loop-line : goal.decreases-loop-line
decreases-loop-line l = length (lines_of l.left)
