-- A list of turns made by a rule: a link comes up, two subscriptions are made, and then eight kinds of turns come
-- round and round.
use Rattle.std.specs.Prelude.{ℕ, zero, suc, ◌==◌, ◌%◌, false, List, [], ◌∷◌, ◌++◌, length, None, codes, decimal, if◌then◌else◌}
use Rattle.nats_info.specs.Info.{default_info}
use Rattle.nats_history.specs.declared.config.Config.{Config}
use Rattle.nats_history.specs.declared.call.Call.TheVariants.{Publish, Subscribe, Flush}
use Rattle.nats_history.specs.declared.turn.Turn.{Turn}
use Rattle.nats_history.specs.declared.turn.Turn.TheVariants.{Up, Piece, Write, Do, Take}

abbrev pub bulk_config : Config
bulk_config = record {
  client_capacity = 2048;
  subscription_capacity = 65536;
  skip_subject_validation = false;
  inbox_prefix = codes "_INBOX";
  mux_id = codes "BULK";
}

-- ---- the turns

abbrev pub subscribing_to : List ℕ → Turn
subscribing_to subject = Do (Subscribe subject None)

-- a publish whose payload is the number k in decimal
abbrev pub publishing : ℕ → Turn
publishing k = Do (Publish (record { subject = codes "bulk.a"; reply = None; payload = decimal k; headers = None }))

-- a message whose payload is the number k in decimal, of what this says of its subject and number
abbrev pub message_of : List ℕ → ℕ → Turn
message_of start k =
    Piece (start ++ (decimal (length (decimal k)) ++ (codes "\r\n" ++ (decimal k ++ codes "\r\n"))))

abbrev pub turn_by : ℕ → ℕ → Turn
turn_by r k =
    if r == 1 then publishing k
    else if r == 2 then message_of (codes "MSG bulk.a 1 ") k
    else if r == 3 then Take 1
    else if r == 4 then message_of (codes "MSG bulk.b 2 ") k
    else if r == 5 then Write 64
    else if r == 6 then Do Flush
    else if r == 7 then Take 2
    else Write 1000000

-- the turn of the number k, from 1
abbrev pub turn_at : ℕ → Turn
turn_at k = turn_by (k % 8) k

abbrev pub opening : List Turn
opening =
    Up (record default_info { max_payload = 1048576 }) ∷ subscribing_to (codes "bulk.a")
    ∷ subscribing_to (codes "bulk.b") ∷ []

-- the opening, and a turn of each number up to this
abbrev pub generated : ℕ → List Turn
generated zero = opening
generated (suc k) = generated k ++ (turn_at (suc k) ∷ [])
