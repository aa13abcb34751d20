-- the headers so far and the fields of the lines that are left are the whole
use Rattle.std.proofs.Common.{◌≡◌, [], option_map, length}
use denote.Text.{Utf8}
use denote.Shadow.{shadow}
use Rattle.std.specs.Str.Lines.{lines}
use Rattle.nats_block.specs.Fields.{fields_of, all_appended}
use Rattle.nats_block.proofs.fields.read_fields.Given as goal

abbrev pub invariant-loop-line : goal.invariant-loop-line
invariant-loop-line l =
    shadow (Utf8 l.left)
    × (option_map (all_appended l.headers) (fields_of (lines l.left)) ≡ option_map (all_appended []) (fields_of (lines l.fn.text)))

abbrev pub decreases-loop-line : goal.decreases-loop-line
decreases-loop-line l = length (lines l.left)
