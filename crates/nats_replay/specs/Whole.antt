-- What reading a source to its end answers.
use Rattle.std.specs.Prelude.{◌≡◌, suc, ℕ, ◌<◌, ◌≤◌, List, length, Option, IfSome, Result, Ok, Err}
use Rattle.std.specs.Global.{Vec}
use Rattle.nats_replay.specs.declared.whole.ReadRefusal.{ReadRefusal}
use Rattle.nats_replay.specs.declared.whole.ReadRefusal.TheVariants.{Fault, TooLong, NoMemory}
use Rattle.nats_replay.specs.Outside.{Rose, RoseBy, Tally}
use Rattle.nats_replay.specs.declared.whole.TheConstants.{SCRIPT_LIMIT}

-- all bytes that were held are read, at most 2^24, and the end was met; or the source failed; or it gave more,
-- having held more; or memory was wanting
abbrev pub WholeRead : Option (List ℕ) → Tally → Tally → Result (Vec ℕ) ReadRefusal → Type 0
WholeRead held before after (Ok v) =
    IfSome held (λ bytes. bytes ≡ v.items) × (length v.items ≤ SCRIPT_LIMIT) × Rose before.ends after.ends
WholeRead held before after (Err Fault) = Rose before.faults after.faults
WholeRead held before after (Err TooLong) =
    IfSome held (λ bytes. SCRIPT_LIMIT < length bytes) × RoseBy (suc SCRIPT_LIMIT) before.given after.given
WholeRead held before after (Err NoMemory) = Unit {0}
