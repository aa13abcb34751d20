use Rattle.nats_handshake.proofs.course.+read_course.Given as goal

abbrev pub decreases-read_course : goal.decreases-read_course
decreases-read_course l = l.left
