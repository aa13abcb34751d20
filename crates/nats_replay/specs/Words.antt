-- The words of the command line, and what each status says of the bytes that were read.
use Rattle.std.specs.Prelude.{◌≡◌, ◌≢◌, ℕ, ◌+◌, Bool, ◌==◌, ◌&&◌, nat_le, ◌∷◌, ◌++◌, [], List, Option, Some, None, option_and_then, if◌then◌else◌, length, ◌≤◌, codes, bytes_eq}
use Rattle.std.specs.Fmt.{decimal}
use Rattle.std.specs.List.{list_any}
use Rattle.nats_history.specs.declared.config.Config.{Config}
use Rattle.nats_history.specs.declared.turn.Turn.{Turn}
use Rattle.nats_history.specs.Schedule.{out_of_turn}
use Rattle.nats_history.specs.Transcripts.{transcript}
use Rattle.nats_script.specs.declared.script.Script.TheVariants.{Good, Bad}
use Rattle.nats_replay.specs.declared.top.Ending.{Ending}
use Rattle.nats_replay.specs.declared.top.Ending.TheVariants.{Transcript, Unreadable, OutOfTurn}
use Rattle.nats_spelling.specs.Lines.{lf}
use Rattle.nats_print.specs.Printed.{printed}
use Rattle.nats_script.specs.Script.{script}
use Rattle.nats_spelling.specs.Spelling.{field_number}
use Rattle.nats_bulk.specs.Generated.{bulk_config, generated}
use Rattle.nats_bulk.specs.Summary.{summary}
use Rattle.nats_replay.specs.declared.whole.TheConstants.{SCRIPT_LIMIT}
use Rattle.nats_worker_text.specs.Asked.{crew_asked}
use Rattle.nats_replay.specs.Asked.{asked_by}
use Rattle.nats_replay.specs.Live.{live_of, others}

-- the words that play a script: the one word `run`
abbrev pub run_words : List (List ℕ)
run_words = codes "run" ∷ []

-- the most turns of a list that is made by a rule
abbrev pub bulk_limit : ℕ
bulk_limit = 1000000

abbrev pub in_bulk : ℕ → Option ℕ
in_bulk n = if nat_le 1 n && nat_le n bulk_limit then Some n else None

-- how many turns the words ask for that are made by a rule: those of `bulk N`, N from 1 to a million
abbrev pub bulk_count : List (List ℕ) → Option ℕ
bulk_count (word ∷ number ∷ []) =
    if bytes_eq word (codes "bulk") then option_and_then in_bulk (field_number number) else None
bulk_count words = None

-- the words are no command
abbrev pub IsUnknown : List (List ℕ) → Type 0
IsUnknown words =
    (words ≢ run_words) × (asked_by words ≡ None) × (crew_asked words ≡ None) × (bulk_count words ≡ None)
    × (live_of words ≡ others)

-- the words ask for a command on a live link
abbrev pub IsLive : List (List ℕ) → Type 0
IsLive words = live_of words ≢ others

-- what is printed of words that are no command
abbrev pub unknown_command : List ℕ
unknown_command = codes "unknown command\n"

-- the statuses
abbrev pub is_status : ℕ → Bool
is_status n = list_any (λ status. status == n) (0 ∷ 2 ∷ 3 ∷ 4 ∷ 5 ∷ 6 ∷ 7 ∷ 8 ∷ 9 ∷ [])

-- those that come to scripts alone, all that come to scripts, those that come to lists that are made by a rule, those
-- to commands on a live link, and those to words but `run`
abbrev pub is_status_of_run : ℕ → Bool
is_status_of_run n = list_any (λ status. status == n) (3 ∷ 5 ∷ 6 ∷ 8 ∷ [])

abbrev pub is_status_of_scripts : ℕ → Bool
is_status_of_scripts n = list_any (λ status. status == n) (0 ∷ 3 ∷ 4 ∷ 5 ∷ 6 ∷ 7 ∷ 8 ∷ [])

abbrev pub is_status_of_bulk : ℕ → Bool
is_status_of_bulk n = list_any (λ status. status == n) (0 ∷ 4 ∷ 7 ∷ [])

abbrev pub is_status_of_live : ℕ → Bool
is_status_of_live n = list_any (λ status. status == n) (0 ∷ 4 ∷ 7 ∷ 9 ∷ [])

abbrev pub is_status_of_others : ℕ → Bool
is_status_of_others n = list_any (λ status. status == n) (0 ∷ 2 ∷ 4 ∷ 7 ∷ 9 ∷ [])

-- what is printed of a script whose first line that cannot be read is line k
abbrev pub unreadable_text : ℕ → List ℕ
unreadable_text k = codes "script line " ++ decimal k ++ lf

-- what is printed of a script whose first turn that may not come where it stands is turn k
abbrev pub out_of_turn_text : ℕ → List ℕ
out_of_turn_text k = codes "turn " ++ decimal k ++ codes " out of turn" ++ lf

-- bytes spell settings and turns that may come where they stand, and the text is their printed transcript
abbrev pub IsTranscript : List ℕ → List ℕ → Type 0
IsTranscript bytes text = (config : Config) × (turns : List Turn)
    × (script bytes ≡ Good config turns) × (out_of_turn config turns ≡ None)
    × (text ≡ printed (transcript config turns))

-- bytes have a first line that cannot be read, and the text names it
abbrev pub IsUnreadable : List ℕ → List ℕ → Type 0
IsUnreadable bytes text = (line : ℕ) × (script bytes ≡ Bad line) × (text ≡ unreadable_text line)

-- bytes spell settings and turns, and the text names the first turn that may not come where it stands
abbrev pub IsOutOfTurn : List ℕ → List ℕ → Type 0
IsOutOfTurn bytes text = (config : Config) × (turns : List Turn) × (place : ℕ)
    × (script bytes ≡ Good config turns) × (out_of_turn config turns ≡ Some place) × (text ≡ out_of_turn_text place)

-- the text sums up the transcript of so many turns that are made by a rule behind their opening
abbrev pub IsSummary : ℕ → List ℕ → Type 0
IsSummary n text = (out_of_turn bulk_config (generated n) ≡ None)
    × (text ≡ summary (n + 3) (transcript bulk_config (generated n)))

-- the text is what a script with this ending prints
abbrev pub Prints : Ending → List ℕ → List ℕ → Type 0
Prints Transcript bytes text = IsTranscript bytes text
Prints Unreadable bytes text = IsUnreadable bytes text
Prints OutOfTurn bytes text = IsOutOfTurn bytes text

-- bytes are no more than a script may have, and spell settings and turns that may come where they stand
abbrev pub IsPlayable : List ℕ → Type 0
IsPlayable bytes = (length bytes ≤ SCRIPT_LIMIT) × (config : Config) × (turns : List Turn)
    × (script bytes ≡ Good config turns) × (out_of_turn config turns ≡ None)
