-- What a reader of a header block answers.
use Rattle.std.specs.Prelude.{◌≡◌, ℕ, List, Option, Some, None, Result, Ok, Err, codes}
use Rattle.std.specs.Borrow.{Bor}
use Rattle.std.specs.Str.Lines.{lines}
use Rattle.nats_block.specs.declared.error.BlockError.{BlockError}
use Rattle.nats_block.specs.declared.error.BlockError.TheVariants.{Malformed, NoMemory}

-- what the error prints
abbrev pub block_error_text : BlockError → List ℕ
block_error_text Malformed = codes "malformed header block"
block_error_text NoMemory = codes "out of memory"

-- the answer is what is spelled, `Malformed` exactly where nothing is; memory may be wanting
abbrev pub Gives : {A : Type 0} → Option A → Result A BlockError → Type 0
Gives spelled (Ok value) = spelled ≡ Some value
Gives spelled (Err Malformed) = spelled ≡ None
Gives spelled (Err NoMemory) = Unit {0}

-- the same answer for a value that is changed in its place; a refusal says nothing of it
abbrev pub Puts : {A : Type 0} → Option A → Result (Unit {0}) BlockError → A → Type 0
Puts spelled (Ok done) new = spelled ≡ Some new
Puts spelled (Err Malformed) new = spelled ≡ None
Puts spelled (Err NoMemory) new = Unit {0}

-- and where a text is left of which these lines follow
abbrev pub PutsOf : {A : Type 0} → Option A → List (List ℕ) → Result (Bor (List ℕ)) BlockError → A → Type 0
PutsOf spelled following (Ok rest) new = (spelled ≡ Some new) × (lines rest.now ≡ following)
PutsOf spelled following (Err Malformed) new = spelled ≡ None
PutsOf spelled following (Err NoMemory) new = Unit {0}
