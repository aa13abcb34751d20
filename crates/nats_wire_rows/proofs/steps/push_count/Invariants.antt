-- nobody reads the count
use Rattle.nats_wire_rows.proofs.steps.push_count.Given as goal

abbrev pub ghosts-count_by_bytes : goal.ghosts-count_by_bytes
ghosts-count_by_bytes a = record { name = a.blank.name; parts = a.blank.parts }
