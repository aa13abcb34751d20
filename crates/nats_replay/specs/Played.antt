-- What playing the bytes of a script answers.
use Rattle.std.specs.Prelude.{suc, ℕ, ◌<◌, ◌≤◌, List, length, Option, IfSome, Result, Ok, Err}
use Rattle.nats_replay.specs.declared.top.Ending.{Ending}
use Rattle.nats_replay.specs.declared.top.Ending.TheVariants.{Transcript, Unreadable, OutOfTurn}
use Rattle.nats_replay.specs.declared.top.Output.{Output}
use Rattle.nats_replay.specs.declared.top.Refusal.{Refusal}
use Rattle.nats_replay.specs.declared.top.Refusal.TheVariants.{ReadFault, NoMemory, TooLong}
use Rattle.nats_replay.specs.Outside.{Rose, RoseBy, Tally}
use Rattle.nats_replay.specs.Words.{Prints}
use Rattle.nats_replay.specs.declared.whole.TheConstants.{SCRIPT_LIMIT}

-- what the bytes of a script print, by what they may print, or why they print nothing
abbrev pub ComesBy : (Ending → List ℕ → List ℕ → Type 0) → List ℕ → Result Output Refusal → Type 0
ComesBy Says bytes (Ok output) = Says output.ending bytes output.text.items
ComesBy Says bytes (Err NoMemory) = Unit {0}
ComesBy Says bytes (Err ReadFault) = ⊥
ComesBy Says bytes (Err TooLong) = ⊥

-- what the bytes of a script of turns print, or why they print nothing
abbrev pub Comes : List ℕ → Result Output Refusal → Type 0
Comes bytes result = ComesBy Prints bytes result

-- a source was read to its end, and what it held is short enough and is so
abbrev pub Whole : Option (List ℕ) → Tally → Tally → (List ℕ → Type 0) → Type 0
Whole held before after Is =
    IfSome held Is × IfSome held (λ bytes. length bytes ≤ SCRIPT_LIMIT) × Rose before.ends after.ends

-- what the script that a source held prints, by what it may print, or why it prints nothing
abbrev pub PlayedBy : (Ending → List ℕ → List ℕ → Type 0) → Option (List ℕ) → Tally → Tally → Result Output Refusal
    → Type 0
PlayedBy Says held before after (Ok output) =
    Whole held before after (λ bytes. Says output.ending bytes output.text.items)
PlayedBy Says held before after (Err NoMemory) = Unit {0}
PlayedBy Says held before after (Err ReadFault) = Rose before.faults after.faults
PlayedBy Says held before after (Err TooLong) =
    IfSome held (λ bytes. SCRIPT_LIMIT < length bytes) × RoseBy (suc SCRIPT_LIMIT) before.given after.given

-- what the script of turns that a source held prints, or why it prints nothing
abbrev pub Played : Option (List ℕ) → Tally → Tally → Result Output Refusal → Type 0
Played held before after result = PlayedBy Prints held before after result

-- the status of an ending
abbrev pub status_of_ending : Ending → ℕ
status_of_ending Transcript = 0
status_of_ending Unreadable = 5
status_of_ending OutOfTurn = 6

-- the status of a refusal
abbrev pub status_of : Refusal → ℕ
status_of ReadFault = 3
status_of NoMemory = 7
status_of TooLong = 8
