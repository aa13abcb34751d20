-- What contracts see of unread bytes, and what a read makes of them.
use Rattle.std.specs.Prelude.{◌≡◌, ℕ, ◌+◌, ◌≤◌, Bool, IsTrue, List, drop, Option, Some, None, Result, Ok, Err}
use Rattle.nats_message.specs.declared.op.ServerOp.{ServerOp}
use Rattle.nats_message.specs.declared.op.WireError.{WireError}
use Rattle.nats_message.specs.declared.op.WireError.TheVariants as refused
use Rattle.nats_lines.specs.Operations.{Front, unfinished, got, fault, op_view}

-- unread bytes, and how many of them were not tested yet for the end of a line
pub record Unread : Type 0 where
  pub bytes : List ℕ
  pub untested : ℕ

-- steps were taken, at most as many as there are fewer bytes that were not tested
abbrev pub Paid : ℕ → ℕ → ℕ → ℕ → Type 0
Paid steps_before untested_before steps_after untested_after =
    (steps_before ≤ steps_after) × (steps_after + untested_after ≤ steps_before + untested_before)

-- a read answers what stands at the front of the unread bytes and takes exactly its bytes; memory can be wanting only
-- for an operation, and at a fault where memory is taken to tell it, and then the read takes nothing
abbrev pub Reads : Front → Bool → List ℕ → Result (Option ServerOp) WireError → List ℕ → Type 0
Reads (got operation n) takes old (Ok (Some op)) new = (op_view op ≡ operation) × (new ≡ drop n old)
Reads unfinished takes old (Ok None) new = new ≡ old
Reads (fault n) takes old (Err refused.ReadFault) new = new ≡ drop n old
Reads (got operation n) takes old (Err refused.NoMemory) new = new ≡ old
Reads (fault n) takes old (Err refused.NoMemory) new = IsTrue takes × (new ≡ old)
Reads front takes old result new = ⊥
