-- Scripts of a broker, and of calls that are tried again: what they print, and what each status says of them.
use Rattle.std.specs.Prelude.{◌≡◌, ◌⊎◌, ℕ, ◌<◌, suc, List, length, Option, IfSome}
use Rattle.nats_route_script.specs.declared.top.RouteEnding.{RouteEnding}
use Rattle.nats_route_script.specs.declared.top.RouteEnding.TheVariants as rows
use Rattle.nats_route_script.specs.declared.top.RouteOutput.{RouteOutput}
use Rattle.nats_route_script.specs.Output as routed
use Rattle.nats_rpc_script.specs.declared.play.Ending as called
use Rattle.nats_rpc_script.specs.declared.play.Ending.TheVariants as calls
use Rattle.nats_rpc_script.specs.declared.play.Played as called_played
use Rattle.nats_rpc_script.specs.Played.{PlaysRpc}
use Rattle.nats_replay.specs.declared.asked.Asked.{Asked}
use Rattle.nats_replay.specs.declared.asked.Asked.TheVariants.{Route, Rpc}
use Rattle.nats_replay.specs.declared.top.Ending.{Ending}
use Rattle.nats_replay.specs.declared.top.Ending.TheVariants.{Transcript, Unreadable, OutOfTurn}
use Rattle.nats_replay.specs.Live.{PrintsAt}
use Rattle.nats_replay.specs.Outside.{Rose, RoseBy, Tally}
use Rattle.nats_replay.specs.Played.{Whole, status_of_ending}
use Rattle.nats_replay.specs.declared.whole.TheConstants.{SCRIPT_LIMIT}

-- ---- what is printed

abbrev pub route_ending : RouteEnding → Ending
route_ending rows.Rows = Transcript
route_ending rows.Unreadable = Unreadable
route_ending rows.OutOfTurn = OutOfTurn

abbrev pub rpc_ending : called.Ending → Ending
rpc_ending calls.Transcript = Transcript
rpc_ending calls.Unreadable = Unreadable
rpc_ending calls.OutOfTurn = OutOfTurn

abbrev pub RouteSays : RouteOutput → Ending → List ℕ → Type 0
RouteSays output ending text = (route_ending output.ending ≡ ending) × (output.text ≡ text)

-- the text is what the bytes of a script print that is played as the words ask, and this is how it ends
abbrev pub Says : Asked → Ending → List ℕ → List ℕ → Type 0
Says Route ending bytes text = RouteSays (routed.output bytes) ending text
Says (Rpc tries patience) ending bytes text = (played : called_played.Played) × PlaysRpc bytes tries patience played
    × (rpc_ending played.ending ≡ ending) × (played.text.items ≡ text)

-- ---- what a script comes to that a source held

-- the source failed, memory was wanting, or the source held too much, and nothing is printed; else the source was read
-- to its end, and what its bytes print is printed under the status of how they end, unless the sink failed
abbrev pub AskedAnswers : Asked → Option (List ℕ) → Tally → Tally → ℕ → ℕ → ℕ
    → Option (List ℕ) → Option (List ℕ) → Type 0
AskedAnswers asked held before after status faults faults_now written now =
    ((status ≡ 3) × Rose before.faults after.faults)
    ⊎ ((status ≡ 7)
    ⊎ (((status ≡ 8) × IfSome held (λ bytes. SCRIPT_LIMIT < length bytes)
    × RoseBy (suc SCRIPT_LIMIT) before.given after.given)
    ⊎ ((ending : Ending) × (text : List ℕ) × Whole held before after (λ bytes. Says asked ending bytes text)
    × PrintsAt (status_of_ending ending) status text faults faults_now written now)))
