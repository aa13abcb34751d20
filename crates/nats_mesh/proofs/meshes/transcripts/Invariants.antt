-- the transcripts so far, and those that are left
use Rattle.std.proofs.Common.{◌≡◌, ◌≤◌, ◌++◌, ◌-◌, length, drop, map}
use Rattle.nats_moves.specs.Mesh.{transcript_of}
use Rattle.nats_mesh.proofs.meshes.transcripts.Given as goal

abbrev pub invariant-clients : goal.invariant-clients
invariant-clients l =
    (l.k ≤ length l.fn.clients) × (l.rows.items ++ map transcript_of (drop l.k l.fn.clients) ≡ map transcript_of l.fn.clients)

abbrev pub decreases-clients : goal.decreases-clients
decreases-clients l = length l.fn.clients - l.k
