use Rattle.nats_wire_rows.proofs.buffers.push_line.Given as goal

abbrev pub ghosts-first_line : goal.ghosts-first_line
ghosts-first_line a = record { name = a.blank.name; parts = a.blank.parts }
