-- What the types of a session's settings and turns keep: any value of them has it, so it is nothing that a caller
-- could miss.
use Rattle.std.specs.Prelude.{◌≡◌, ℕ, ◌<◌, ◌^◌, true, List, [], ◌∷◌, Option, Some, None}
use Rattle.std.specs.Str.{is_utf8}
use Rattle.nats_names.specs.Names.{is_token}
use Rattle.nats_history.specs.declared.config.Config.{Config}
use Rattle.nats_history.specs.declared.call.Call.{Call}
use Rattle.nats_history.specs.declared.call.Interest.{Interest}
use Rattle.nats_history.specs.declared.turn.Turn.{Turn}
use Rattle.nats_history.specs.declared.turn.Turn.TheVariants.{Up, Do}
use Rattle.nats_history.specs.History.{asks}
use Rattle.nats_history.specs.Sent.{ReplyAt, at_subject, at_inbox, Sending, sent, limits}
use Rattle.nats_client_text.specs.Law.{IsBelow, AreHeadersOrNone}

-- a subject or a reply: any UTF-8
abbrev pub IsText : List ℕ → Type 0
IsText text = is_utf8 text ≡ true

abbrev pub IsTextOrNone : Option (List ℕ) → Type 0
IsTextOrNone None = Unit {0}
IsTextOrNone (Some text) = IsText text

-- a token: letters or digits
abbrev pub IsToken : List ℕ → Type 0
IsToken text = IsText text × (is_token text ≡ true)

abbrev pub IsTypedReply : ReplyAt → Type 0
IsTypedReply (at_subject reply) = IsTextOrNone reply
IsTypedReply (at_inbox token) = IsToken token

abbrev pub IsTypedSending : Option Sending → Type 0
IsTypedSending None = Unit {0}
IsTypedSending (Some m) = IsText m.subject × IsTypedReply m.reply × AreHeadersOrNone m.headers

abbrev pub IsTypedAsk : Option Interest → Type 0
IsTypedAsk None = Unit {0}
IsTypedAsk (Some asked) = IsText asked.subject × IsTextOrNone asked.queue_group

abbrev pub IsTypedCall : Call → Type 0
IsTypedCall call = IsTypedSending (sent call) × IsTypedAsk (asks call) × IsBelow (limits call)

abbrev pub IsTypedTurn : Turn → Type 0
IsTypedTurn (Up info) = info.max_payload < 2 ^ 64
IsTypedTurn (Do call) = IsTypedCall call
IsTypedTurn turn = Unit {0}

abbrev pub AreTypedTurns : List Turn → Type 0
AreTypedTurns [] = Unit {0}
AreTypedTurns (turn ∷ turns) = IsTypedTurn turn × AreTypedTurns turns

abbrev pub IsTypedConfig : Config → Type 0
IsTypedConfig c = IsToken c.mux_id × IsText c.inbox_prefix
