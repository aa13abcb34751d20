-- What a script of calls comes to.
use Rattle.std.specs.Prelude.{◌≡◌, ℕ, suc, ◌-◌, ◌^◌, ◌<◌, ◌≤◌, ◌⊎◌, List, [], ◌∷◌, ◌++◌, length, Option, Some, None, Result, Ok, Err, codes, true}
use Rattle.std.specs.Fmt.{decimal}
use Rattle.nats_message.specs.declared.message.OutboundMessage.{OutboundMessage}
use Rattle.nats_history.specs.declared.config.Config.{Config}
use Rattle.nats_history.specs.declared.call.Call.{Call}
use Rattle.nats_history.specs.declared.call.Call.TheVariants.{Publish, Limit}
use Rattle.nats_history.specs.declared.call.CallReply.TheVariants as replies
use Rattle.nats_history.specs.declared.turn.Turn.{Turn}
use Rattle.nats_history.specs.declared.turn.Turn.TheVariants.{Do}
use Rattle.nats_history.specs.History.{cut}
use Rattle.nats_history.specs.Schedule.{out_of_turn}
use Rattle.nats_history.specs.Transcripts.{transcript}
use Rattle.nats_core.specs.declared.answers.StepError.TheVariants as refused
use Rattle.nats_core.specs.declared.entry.StepReply.{StepReply}
use Rattle.nats_core.specs.Journal.{Logged, new_core, config_of, journal_turns}
use Rattle.nats_core.specs.Calls.{Steps}
use Rattle.nats_script.specs.declared.script.Script.{Script}
use Rattle.nats_script.specs.declared.script.Script.TheVariants.{Good, Bad}
use Rattle.nats_spelling.specs.Lines.{lf, space, opening}
use Rattle.nats_print.specs.Printed.{reply_text, printed}
use Rattle.nats_script.specs.Script.{script}
use Rattle.nats_rpc.specs.declared.outcome.Outcome.{Outcome}
use Rattle.nats_rpc.specs.declared.outcome.Outcome.TheVariants as outcomes
use Rattle.nats_rpc.specs.Polling.{Calling, new_caller, with_call, Polls}
use Rattle.nats_rpc_script.specs.declared.lines.Kind.{Kind}
use Rattle.nats_rpc_script.specs.declared.lines.Kind.TheVariants as kinds
use Rattle.nats_rpc_script.specs.declared.play.Came.{Came}
use Rattle.nats_rpc_script.specs.declared.play.Came.TheVariants as came
use Rattle.nats_rpc_script.specs.declared.play.Ending.TheVariants as endings
use Rattle.nats_rpc_script.specs.declared.play.Played.{Played}
use Rattle.nats_rpc_script.specs.declared.play.Player.{Player}
use Rattle.nats_rpc_script.specs.Lines.{text_of, kinds_of}

-- ---- what is printed

-- what a call came to, as a poll prints it
abbrev pub outcome_text : Outcome → List ℕ
outcome_text outcomes.Waiting = codes "waiting"
outcome_text (outcomes.Replied m) = reply_text (replies.Replied m)
outcome_text outcomes.NoResponders = reply_text replies.NoResponders
outcome_text outcomes.TimedOut = reply_text replies.TimedOut
outcome_text (outcomes.Refused reply) = codes "refused " ++ reply_text reply

-- `poll PLACE OUTCOME`
abbrev pub poll_line : ℕ → Outcome → List ℕ
poll_line place outcome = opening (codes "poll") place ++ outcome_text outcome ++ lf

-- `asked PLACE NUMBER`
abbrev pub asked_line : ℕ → ℕ → List ℕ
asked_line place number = opening (codes "asked") place ++ decimal number ++ lf

-- `script line K`: the first line that cannot be read
abbrev pub unreadable_text : ℕ → List ℕ
unreadable_text k = codes "script line " ++ decimal k ++ lf

-- `turn K out of turn`: the first line, the settings not counted, that may not come where it stands
abbrev pub out_of_turn_text : ℕ → List ℕ
out_of_turn_text k = codes "turn " ++ decimal k ++ codes " out of turn\n"

-- ---- lines

-- a turn of the core, which prints nothing
abbrev pub TurnComes : Turn → Player → Came → Player → Type 0
TurnComes turn old came.Played new =
    (reply : StepReply) × Steps old.core turn (Ok reply) new.core × (new.caller ≡ old.caller) × (new.out ≡ old.out)
TurnComes turn old came.OutOfTurn new =
    Steps old.core turn (Err refused.OutOfTurn) new.core × (new.caller ≡ old.caller) × (new.out ≡ old.out)
TurnComes turn old came.Unreadable new = ⊥

-- a call is taken in, and its number printed; it is out of turn where none is left
abbrev pub AskComes : List ℕ → List ℕ → ℕ → Player → Came → Player → Type 0
AskComes subject payload place old came.Played new =
    (new.caller ≡ with_call subject payload old.caller) × (new.core ≡ old.core)
    × (new.out.items ≡ old.out.items ++ asked_line place (suc (length old.caller.calls)))
AskComes subject payload place old came.OutOfTurn new =
    (length old.caller.calls ≡ 2 ^ 64 - 1) × (new.caller ≡ old.caller) × (new.core ≡ old.core)
AskComes subject payload place old came.Unreadable new = ⊥

-- a call is polled, and what it came to is printed; it is out of turn where the call was not given
abbrev pub PollComes : ℕ → ℕ → ℕ → Player → Came → Player → Type 0
PollComes call now place old came.Played new =
    (outcome : Outcome) × (0 < call) × (call ≤ length old.caller.calls)
    × Polls call now old.caller old.core (Ok outcome) new.caller new.core
    × (new.out.items ≡ old.out.items ++ poll_line place outcome)
PollComes call now place old came.OutOfTurn new =
    ((call ≡ 0) ⊎ (length old.caller.calls < call)) × (new.caller ≡ old.caller) × (new.core ≡ old.core)
PollComes call now place old came.Unreadable new = ⊥

-- a line that asks for a call or a poll, and is none by its form
abbrev pub NoneSuch : Player → Came → Player → Type 0
NoneSuch old came' new = (came' ≡ came.Unreadable) × (new.caller ≡ old.caller) × (new.core ≡ old.core)

abbrev pub AskTurn : Turn → ℕ → Player → Came → Player → Type 0
AskTurn (Do (Publish m)) place old came' new = AskComes m.subject m.payload place old came' new
AskTurn turn place old came' new = NoneSuch old came' new

abbrev pub PollTurn : Turn → ℕ → Player → Came → Player → Type 0
PollTurn (Do (Limit call now)) place old came' new = PollComes call now place old came' new
PollTurn turn place old came' new = NoneSuch old came' new

-- a line at a place, by what it asks for
abbrev pub LineComes : Kind → Turn → ℕ → Player → Came → Player → Type 0
LineComes kinds.Turn turn place old came' new = TurnComes turn old came' new
LineComes kinds.Ask turn place old came' new = AskTurn turn place old came' new
LineComes kinds.Poll turn place old came' new = PollTurn turn place old came' new

-- lines from a place on: each is played, or the first that is not ends them at its place
abbrev pub Come : ℕ → List Turn → List Kind → Player → Came → ℕ → Player → Type 0
Come place (turn ∷ turns) (kind ∷ kinds) old came' at new =
    ((mid : Player) × LineComes kind turn place old came.Played mid × Come (suc place) turns kinds mid came' at new)
    ⊎ ((came' ≡ came.Played → ⊥) × LineComes kind turn place old came' new × (at ≡ place))
Come place turns kinds old came' at new = (came' ≡ came.Played) × (new ≡ old)

-- ---- a whole script

-- the printed transcript of the turns that a core noted, each of which may come where it stands
abbrev pub Transcribes : Logged → List ℕ → Type 0
Transcribes core lines =
    (out_of_turn (config_of core) (journal_turns core) ≡ None)
    × (lines ≡ printed (transcript (config_of core) (journal_turns core)))

-- what is printed at the end, by how the lines came. The settings are those that the core began with: no turn changes
-- them
abbrev pub Ends : Came → ℕ → Player → Played → Type 0
Ends came.Played at last played =
    (played.ending ≡ endings.Transcript) × (out_of_turn (config_of last.core) (journal_turns last.core) ≡ None)
    × (played.text.items ≡ last.out.items ++ printed (transcript (config_of last.core) (journal_turns last.core)))
Ends came.Unreadable at last played =
    (played.ending ≡ endings.Unreadable) × (played.text.items ≡ unreadable_text (cut (suc at)))
Ends came.OutOfTurn at last played =
    (played.ending ≡ endings.OutOfTurn) × (played.text.items ≡ out_of_turn_text at)

-- some lines are played from a player on, and what they come to is printed
abbrev pub ComesTo : List Turn → List Kind → Player → Played → Type 0
ComesTo turns kinds start played =
    (last : Player) × (came' : Came) × (at : ℕ) × Come 1 turns kinds start came' at last × Ends came' at last played

-- a new caller over a new core, and nothing is printed
abbrev pub Begins : Config → ℕ → ℕ → Player → Type 0
Begins config tries patience player =
    (player.caller ≡ new_caller (codes "R") tries patience) × (player.core ≡ new_core config true)
    × (player.out.items ≡ [])

-- the lines are played in order, from a new caller and core on, and what they come to is printed: behind the lines of
-- calls and polls stands the transcript of the turns that the core noted, each of which may come where it stands
pub record PlaysAll (config : Config) (turns : List Turn) (kinds : List Kind) (tries patience : ℕ) (played : Played)
    : Type 0 where
  pub start : Player
  pub last : Player
  pub came' : Came
  pub at : ℕ
  pub begins : Begins config tries patience start
  pub come : Come 1 turns kinds start came' at last
  pub ends : Ends came' at last played

abbrev pub PlaysScript : Script → List Kind → ℕ → ℕ → Played → Type 0
PlaysScript (Good config turns) kinds tries patience played = PlaysAll config turns kinds tries patience played
PlaysScript (Bad line) kinds tries patience played =
    (played.ending ≡ endings.Unreadable) × (played.text.items ≡ unreadable_text line)

-- what the bytes of a script of calls come to
abbrev pub PlaysRpc : List ℕ → ℕ → ℕ → Played → Type 0
PlaysRpc bytes tries patience played = PlaysScript (script (text_of bytes)) (kinds_of bytes) tries patience played
