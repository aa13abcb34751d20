-- A script: a line of settings, then a line for each turn.
use Rattle.std.specs.Prelude.{ℕ, suc, Bool, true, false, List, [], ◌∷◌, Option, Some, None, Result, Ok, Err, option_and_then, if◌then◌else◌, codes}
use Rattle.std.specs.Option.{option_map}
use Rattle.std.specs.Str.{bytes_eq}
use Rattle.nats_header.specs.Headers.{Headers}
use Rattle.nats_info.specs.Info.{default_info}
use Rattle.nats_info.specs.Fields.{info_at}
use Rattle.nats_history.specs.declared.config.Config.{Config}
use Rattle.nats_history.specs.declared.call.Call.{Call}
use Rattle.nats_history.specs.declared.call.Call.TheVariants.{Publish, Subscribe, Unsubscribe, Limit, Drain, DrainAll, Flush, Request, DropSub, Reconnect}
use Rattle.nats_history.specs.declared.turn.Turn.{Turn}
use Rattle.nats_history.specs.declared.turn.Turn.TheVariants.{Up, Piece, Write, Tick, Lost, GiveUp, Hangup, Do, Take, Deadline}
use Rattle.nats_script.specs.declared.turn_lines.Word.{Word}
use Rattle.nats_script.specs.declared.turn_lines.Word.TheVariants as word
use Rattle.nats_script.specs.declared.script.Script.{Script}
use Rattle.nats_script.specs.declared.script.Script.TheVariants.{Good, Bad}
use Rattle.nats_message_text.specs.Pairs.{headers_from}
use Rattle.nats_spelling.specs.Cut.{lines_of, fields_of, only}
use Rattle.nats_spelling.specs.Spelling.{field_bytes, field_text, field_optional, field_token, field_number}

-- ---- the settings

-- `check` has subjects tested, `skip` has them taken untested
abbrev pub mode_of : List ℕ → Option Bool
mode_of field =
    if bytes_eq field (codes "check") then Some false else (if bytes_eq field (codes "skip") then Some true else None)

abbrev pub config_with : Option ℕ → Option ℕ → Option Bool → Option (List ℕ) → Option (List ℕ) → Option Config
config_with (Some clients) (Some messages) (Some skip) (Some prefix) (Some id) =
    Some (record {
      client_capacity = clients;
      subscription_capacity = messages;
      skip_subject_validation = skip;
      inbox_prefix = prefix;
      mux_id = id;
    })
config_with clients messages skip prefix id = None

-- `config C S check P X` or `config C S skip P X`: client capacity, subscription capacity, inbox prefix, mux id
abbrev pub config_of_fields : List (List ℕ) → Option Config
config_of_fields (first ∷ clients ∷ messages ∷ mode ∷ prefix ∷ id ∷ []) =
    if bytes_eq first (codes "config")
    then config_with (field_number clients) (field_number messages) (mode_of mode) (field_text prefix)
    (field_token id) else None
config_of_fields fields = None

abbrev pub config_of_line : List ℕ → Option Config
config_of_line line = config_of_fields (fields_of line)

-- ---- turns

-- the shorter words
abbrev pub short_word_of : List ℕ → Word
short_word_of field =
    if bytes_eq field (codes "up") then word.Up else
    (if bytes_eq field (codes "open") then word.Open else
    (if bytes_eq field (codes "piece") then word.Piece else
    (if bytes_eq field (codes "write") then word.Write else
    (if bytes_eq field (codes "tick") then word.Tick else
    (if bytes_eq field (codes "lost") then word.Lost else
    (if bytes_eq field (codes "take") then word.Take else
    (if bytes_eq field (codes "pub") then word.Pub else
    (if bytes_eq field (codes "hpub") then word.Hpub else
    (if bytes_eq field (codes "sub") then word.Sub else
    (if bytes_eq field (codes "unsub") then word.Unsub else
    (if bytes_eq field (codes "limit") then word.Limit else
    (if bytes_eq field (codes "drain") then word.Drain else
    (if bytes_eq field (codes "drop") then word.Drop else
    (if bytes_eq field (codes "flush") then word.Flush else word.Other))))))))))))))

-- the word that a turn begins with
abbrev pub word_of : List ℕ → Word
word_of field =
    if bytes_eq field (codes "giveup") then word.GiveUp else
    (if bytes_eq field (codes "hangup") then word.Hangup else
    (if bytes_eq field (codes "drainall") then word.DrainAll else
    (if bytes_eq field (codes "reconnect") then word.Reconnect else
    (if bytes_eq field (codes "request") then word.Request else
    (if bytes_eq field (codes "hrequest") then word.Hrequest else
    (if bytes_eq field (codes "deadline") then word.Deadline else short_word_of field))))))

-- a link that came up, with the INFO of a server that says its greatest size of a message alone
abbrev pub up_turn : ℕ → Turn
up_turn n = Up (record default_info { max_payload = n })

-- `sub S G`, or `sub S ~` without a queue group
abbrev pub sub_with : Option (List ℕ) → Option (Option (List ℕ)) → Option Turn
sub_with (Some subject) (Some group) = Some (Do (Subscribe subject group))
sub_with subject group = None

abbrev pub sub_of : List (List ℕ) → Option Turn
sub_of (subject ∷ group ∷ []) = sub_with (field_text subject) (field_optional group)
sub_of fields = None

-- `limit s N`
abbrev pub limit_with : Option ℕ → Option ℕ → Option Turn
limit_with (Some s) (Some n) = Some (Do (Limit s n))
limit_with s n = None

abbrev pub limit_of : List (List ℕ) → Option Turn
limit_of (s ∷ n ∷ []) = limit_with (field_number s) (field_number n)
limit_of fields = None

-- ---- publishes

abbrev pub publish_with : Option (List ℕ) → Option (Option (List ℕ)) → Option (List ℕ) → Option (Option Headers)
    → Option Turn
publish_with (Some subject) (Some reply) (Some payload) (Some headers) =
    Some (Do (Publish (record { subject = subject; reply = reply; payload = payload; headers = headers })))
publish_with subject reply payload headers = None

-- `pub S R B`, or `pub S ~ B` without a reply
abbrev pub pub_of : List (List ℕ) → Option Turn
pub_of (subject ∷ reply ∷ payload ∷ []) =
    publish_with (field_text subject) (field_optional reply) (field_bytes payload) (Some None)
pub_of fields = None

-- `hpub S R B` and pairs of names and values
abbrev pub hpub_of : List (List ℕ) → Option Turn
hpub_of (subject ∷ reply ∷ payload ∷ pairs) =
    publish_with (field_text subject) (field_optional reply) (field_bytes payload)
    (option_map Some (headers_from (Some []) pairs))
hpub_of fields = None

-- ---- requests

abbrev pub request_with : Option (List ℕ) → Option (List ℕ) → Option (List ℕ) → Option (Option Headers) → Option Turn
request_with (Some subject) (Some token) (Some payload) (Some headers) =
    Some (Do (Request subject payload headers token))
request_with subject token payload headers = None

-- `request S T B`
abbrev pub request_of : List (List ℕ) → Option Turn
request_of (subject ∷ token ∷ payload ∷ []) =
    request_with (field_text subject) (field_token token) (field_bytes payload) (Some None)
request_of fields = None

-- `hrequest S T B` and pairs of names and values
abbrev pub hrequest_of : List (List ℕ) → Option Turn
hrequest_of (subject ∷ token ∷ payload ∷ pairs) =
    request_with (field_text subject) (field_token token) (field_bytes payload)
    (option_map Some (headers_from (Some []) pairs))
hrequest_of fields = None

-- ---- the turn of a line

-- a call of the subscription whose number is the only field
abbrev pub call_of : (ℕ → Call) → List (List ℕ) → Option Turn
call_of call fields = option_map (λ s. Do (call s)) (option_and_then field_number (only fields))

-- no further field
abbrev pub is_bare : List (List ℕ) → Bool
is_bare [] = true
is_bare (field ∷ more) = false

-- a turn that has no further field
abbrev pub bare : Turn → List (List ℕ) → Option Turn
bare turn fields = if is_bare fields then Some turn else None

-- a turn by its word and its further fields
abbrev pub turn_of : Word → List (List ℕ) → Option Turn
turn_of word.Up fields = option_map up_turn (option_and_then field_number (only fields))
turn_of word.Open fields = option_map Up (option_and_then info_at (option_and_then field_bytes (only fields)))
turn_of word.Piece fields = option_map Piece (option_and_then field_bytes (only fields))
turn_of word.Write fields = option_map Write (option_and_then field_number (only fields))
turn_of word.Tick fields = bare Tick fields
turn_of word.Lost fields = bare Lost fields
turn_of word.GiveUp fields = bare GiveUp fields
turn_of word.Hangup fields = bare Hangup fields
turn_of word.Take fields = option_map Take (option_and_then field_number (only fields))
turn_of word.Pub fields = pub_of fields
turn_of word.Hpub fields = hpub_of fields
turn_of word.Sub fields = sub_of fields
turn_of word.Unsub fields = call_of Unsubscribe fields
turn_of word.Limit fields = limit_of fields
turn_of word.Drain fields = call_of Drain fields
turn_of word.DrainAll fields = bare (Do DrainAll) fields
turn_of word.Flush fields = bare (Do Flush) fields
turn_of word.Request fields = request_of fields
turn_of word.Hrequest fields = hrequest_of fields
turn_of word.Deadline fields = option_map Deadline (option_and_then field_number (only fields))
turn_of word.Drop fields = call_of DropSub fields
turn_of word.Reconnect fields = bare (Do Reconnect) fields
turn_of word.Other fields = None

abbrev pub turn_of_fields : List (List ℕ) → Option Turn
turn_of_fields [] = None
turn_of_fields (first ∷ fields) = turn_of (word_of first) fields

abbrev pub turn_of_line : List ℕ → Option Turn
turn_of_line line = turn_of_fields (fields_of line)

-- ---- the whole

abbrev pub onto_turns : ℕ → Option Turn → Result (List Turn) ℕ → Result (List Turn) ℕ
onto_turns k None rest = Err k
onto_turns k (Some turn) (Ok turns) = Ok (turn ∷ turns)
onto_turns k (Some turn) (Err line) = Err line

-- the turns of the lines from line k on, or the number of the first that is none
abbrev pub turns_from : ℕ → List (List ℕ) → Result (List Turn) ℕ
turns_from k [] = Ok []
turns_from k (line ∷ lines) = onto_turns k (turn_of_line line) (turns_from (suc k) lines)

abbrev pub script_with : Config → Result (List Turn) ℕ → Script
script_with config (Ok turns) = Good config turns
script_with config (Err line) = Bad line

abbrev pub script_by : Option Config → List (List ℕ) → Script
script_by None lines = Bad 1
script_by (Some config) lines = script_with config (turns_from 2 lines)

abbrev pub script_of_lines : List (List ℕ) → Script
script_of_lines [] = Bad 1
script_of_lines (line ∷ lines) = script_by (config_of_line line) lines

-- what bytes say as a script: its settings and turns, or the number of its first line that cannot be read
abbrev pub script : List ℕ → Script
script bytes = script_of_lines (lines_of bytes)
