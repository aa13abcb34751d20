-- The copied bytes are the first of those that were left.
use Rattle.std.proofs.Common.{take, drop, length, sym, ap, ◌∙◌, arith}
use Rattle.std.proofs.lemmas.List.{take_rest, length-drop}
use Rattle.nats_replay.specs.Memory.{Held}
use Rattle.nats_replay.proofs.Transfers.{memory_read}
use Rattle.nats_replay.proofs.memory.MemorySourceSource.read.Goals as goal

pub returns-clause-bytes : goal.returns-clause-bytes
returns-clause-bytes c =
    let s = c.self.inside in
    let n = c.min-count.result in
    let rest = take_rest c.deref.result.now s.at ∙ ap (drop s.at) c.deref.ensures.value in
    let copied = c.copy_from_slice.ensures.after ∙ ap (take n) rest in
    let read = memory_read s.bytes.items c.args.buf.now c.copy_from_slice.new.self s.at n s.most (omega (arith, c.min-count.ensures, c.min.ensures, ap length rest, length-drop s.at s.bytes.items)) c.self.invariant.1 copied in
    (ap (λ (h : Held). h.left) (sym c.self.view_is) ∙ read.0, read.1)
