-- Sentences about what stands at the front of a text.
use Rattle.std.specs.Prelude.{◌≡◌, ℕ, zero, suc, ◌<◌, ◌≤◌, List, ◌++◌, length, Some}
use Rattle.std.specs.List.{slice_get}
use Rattle.nats_lines.specs.Operations.{Operation, Front, unfinished, got, fault, front, past, behind, operations}

-- an operation stands there
abbrev pub IsGot : Front → Type 0
IsGot (got operation n) = Unit {0}
IsGot unfinished = ⊥
IsGot (fault n) = ⊥

-- the text has `count` operations at its front
abbrev pub AllThere : ℕ → List ℕ → Type 0
AllThere zero bytes = Unit {0}
AllThere (suc count) bytes = IsGot (front bytes) × AllThere count (past (front bytes) bytes)

-- an operation at the front of a text is nonempty, within the text, and stands at the front of each longer text
abbrev pub GotStays : Type 0
GotStays = (bytes more : List ℕ) (op : Operation) (n : ℕ) → front bytes ≡ got op n
    → (0 < n) × (n ≤ length bytes) × (front (bytes ++ more) ≡ got op n)

-- a fault at the front of a text takes bytes within it, and stands at the front of each longer text
abbrev pub FaultStays : Type 0
FaultStays =
    (bytes more : List ℕ) (n : ℕ) → front bytes ≡ fault n → (n ≤ length bytes) × (front (bytes ++ more) ≡ fault n)

-- the place behind one more operation is past what stands at the place before
abbrev pub BehindNext : Type 0
BehindNext =
    (count : ℕ) (bytes : List ℕ) → behind (suc count) bytes ≡ past (front (behind count bytes)) (behind count bytes)

-- operations that are there stay there as the text grows, and what is behind them grows
abbrev pub ThereStays : Type 0
ThereStays = (count : ℕ) (bytes more : List ℕ) → AllThere count bytes
    → AllThere count (bytes ++ more) × (behind count (bytes ++ more) ≡ behind count bytes ++ more)

-- one more is there where one stands behind those that are there
abbrev pub ThereNext : Type 0
ThereNext =
    (count : ℕ) (bytes : List ℕ) → AllThere count bytes → IsGot (front (behind count bytes))
    → AllThere (suc count) bytes

-- the operation behind `count` operations is the text's operation of that index
abbrev pub OperationAt : Type 0
OperationAt =
    (count : ℕ) (bytes : List ℕ) (op : Operation) (n : ℕ) → AllThere count bytes → front (behind count bytes) ≡ got op n
    → slice_get (operations bytes) count ≡ Some op

-- where no operation stands behind `count` operations the text has no more
abbrev pub OperationsEnd : Type 0
OperationsEnd = (count : ℕ) (bytes : List ℕ) → AllThere count bytes → ¬ (IsGot (front (behind count bytes)))
    → length (operations bytes) ≡ count

-- a text that comes in two pieces has the operations of the first, then those of what they leave and the second
abbrev pub CutAnywhere : Type 0
CutAnywhere = (bytes more : List ℕ)
    → operations (bytes ++ more) ≡ operations bytes ++ operations (behind (length (operations bytes)) bytes ++ more)
