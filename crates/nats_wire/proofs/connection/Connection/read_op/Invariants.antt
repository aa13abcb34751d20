-- nobody counts the steps
use Rattle.nats_wire.proofs.connection.Connection.read_op.Given as goal

abbrev pub ghosts-read_counted : goal.ghosts-read_counted
ghosts-read_counted a = record { name = a.blank.name; parts = a.blank.parts }
