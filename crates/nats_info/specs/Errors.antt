-- What a reader of an INFO answers.
use Rattle.std.specs.Prelude.{◌≡◌, ℕ, List, Option, Some, None, Result, Ok, Err, codes}
use Rattle.nats_info.specs.declared.error.InfoError.{InfoError}
use Rattle.nats_info.specs.declared.error.InfoError.TheVariants.{Unreadable, NoMemory}

-- what the error prints
abbrev pub info_error_text : InfoError → List ℕ
info_error_text Unreadable = codes "unreadable server info"
info_error_text NoMemory = codes "out of memory"

-- the answer is what is spelled, `Unreadable` exactly where nothing is; memory may be wanting
abbrev pub Gives : {A : Type 0} → Option A → Result A InfoError → Type 0
Gives spelled (Ok value) = spelled ≡ Some value
Gives spelled (Err Unreadable) = spelled ≡ None
Gives spelled (Err NoMemory) = Unit {0}

-- the same answer for a value that is changed in its place; a refusal says nothing of it
abbrev pub Puts : {A : Type 0} → Option A → Result (Unit {0}) InfoError → A → Type 0
Puts spelled (Ok done) new = spelled ≡ Some new
Puts spelled (Err Unreadable) new = spelled ≡ None
Puts spelled (Err NoMemory) new = Unit {0}
