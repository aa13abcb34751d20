-- what was written and what is left are all bytes
use Rattle.std.proofs.Common.{◌≡◌, ◌++◌, List, ℕ, length}
use Rattle.nats_dial.specs.Lines.{wrote_all}
use Rattle.nats_dial.proofs.link.write_all.Given as goal

abbrev pub invariant-left : goal.invariant-left
invariant-left g l = (done : List ℕ) × (done ++ l.left ≡ l.fn.bytes)
    × (g.T.LinkWrite.write_told l.write ≡ wrote_all done (g.T.LinkWrite.write_told l.initial.write))

abbrev pub decreases-left : goal.decreases-left
decreases-left g l = length l.left
