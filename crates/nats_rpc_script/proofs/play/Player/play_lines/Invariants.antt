-- what comes of the lines that are left is what comes of all
use Rattle.std.proofs.Common.{◌≡◌, ◌+◌, ◌≤◌, ℕ, length}
use Rattle.nats_rpc_script.specs.declared.play.Came.{Came}
use Rattle.nats_rpc_script.specs.declared.play.Player.{Player}
use Rattle.nats_rpc_script.specs.Played.{Come}
use Rattle.nats_rpc_script.proofs.play.Player.play_lines.Given as goal

abbrev pub invariant-lines : goal.invariant-lines
invariant-lines l = record {
  come : (came' : Came) (at : ℕ) (last : Player) → Come l.place l.turns_left l.kinds_left l.self came' at last
      → Come 1 l.turns l.kinds l.initial.self came' at last;
  number : l.place + length l.turns_left ≤ 1 + length l.turns;
}

abbrev pub decreases-lines : goal.decreases-lines
decreases-lines l = length l.turns_left
