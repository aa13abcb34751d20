-- What a journal is, when it is right, what stands for it, and how a core is seen.
use Rattle.std.specs.Prelude.{◌≡◌, ℕ, zero, suc, Bool, true, false, List, [], ◌∷◌, ◌++◌, length, None}
use Rattle.nats_history.specs.declared.config.Config.{Config}
use Rattle.nats_history.specs.declared.turn.Turn.{Turn}
use Rattle.nats_history.specs.declared.turn.Turn.TheVariants.{Do, Take}
use Rattle.nats_history.specs.declared.turn.Due.{Due}
use Rattle.nats_history.specs.declared.turn.Due.TheVariants as due_names
use Rattle.nats_history.specs.History.{History}
use Rattle.nats_history.specs.Parts.{Parts, parts_of}
use Rattle.nats_history.specs.Schedule.{call_reply, take_reply, own_steps, due, due_chain, settled, after_turn, steps, out_of_turn}
use Rattle.nats_history.specs.After.{due_steps}
use Rattle.nats_session.specs.Handler.{Seen, HandedOut, StandsFor, idle, seen_all}
use Rattle.nats_core.specs.declared.entry.StepReply.{StepReply}
use Rattle.nats_core.specs.declared.entry.StepReply.TheVariants as replies
use Rattle.nats_core.specs.declared.entry.Entry.{Entry}

-- ---- journals

-- the turns of a journal, in order
abbrev pub turns_of : List Entry → List Turn
turns_of [] = []
turns_of (entry ∷ journal) = entry.turn ∷ turns_of journal

-- their replies
abbrev pub replies_of : List Entry → List StepReply
replies_of [] = []
replies_of (entry ∷ journal) = entry.reply ∷ replies_of journal

-- the reply of a turn, where these are the parts before it
abbrev pub reply_to : Parts → Turn → StepReply
reply_to p (Do call) = replies.Call (call_reply p call)
reply_to p (Take sid) = replies.Take (take_reply p sid)
reply_to p turn = replies.Done

-- the replies of some turns, the first of them at this place behind this history
abbrev pub replies_from : Config → ℕ → List Turn → History → List StepReply
replies_from c place [] h = []
replies_from c place (turn ∷ turns) h =
    reply_to (parts_of c h) turn ∷ replies_from c (suc place) turns (after_turn c place turn h)

-- a journal is right: each turn may come where it stands, and has its reply
pub record IsRight (c : Config) (journal : List Entry) : Type 0 where
  pub valid : out_of_turn c (turns_of journal) ≡ None
  pub replied : replies_of journal ≡ replies_from c 1 (turns_of journal) []

-- a session stands for some turns less due steps of the last one: it stands for a history, of which something was
-- handed out, and the steps that are due behind that history make it the history of these turns
pub record StandsForTurns (c : Config) (turns : List Turn) (seen : Seen) : Type 0 where
  pub out : HandedOut
  pub history : History
  pub stands : StandsFor c out history seen
  pub rest : settled c (length turns) history ≡ steps c turns

-- a session stands for all steps of some turns
pub record StandsForAll (c : Config) (turns : List Turn) (seen : Seen) : Type 0 where
  pub out : HandedOut
  pub stands : StandsFor c out (steps c turns) seen

-- ---- a core as it is seen

-- whether its journal is kept, the entries of that, oldest first, and its session
pub record Logged : Type 0 where
  pub is_kept : Bool
  pub entries : List Entry
  pub session : Seen

abbrev pub core_of : Bool → List Entry → Seen → Logged
core_of kept entries session = record { is_kept = kept; entries = entries; session = session }

abbrev pub config_of : Logged → Config
config_of core = core.session.parts.config

abbrev pub journal_turns : Logged → List Turn
journal_turns core = turns_of core.entries

-- what each core keeps
pub record IsSound (core : Logged) : Type 0 where
  pub right : IsRight (config_of core) core.entries
  pub stands : core.is_kept ≡ true → StandsForTurns (config_of core) (journal_turns core) core.session
  pub unkept : core.is_kept ≡ false → core.entries ≡ []

-- as it is made: no link came up and nothing happened
abbrev pub new_core : Config → Bool → Logged
new_core c kept = core_of kept [] (record { parts = idle c; events = []; ready = [] })

-- ---- due steps

-- a due step is none
abbrev pub is_nothing : Due → Bool
is_nothing due_names.Nothing = true
is_nothing name = false

-- the one step that is due, with what follows it at once, if one is
abbrev pub due_round : Seen → Seen
due_round seen = seen_all seen (due_chain seen.parts (due seen.parts))

-- so many of them, one after another
abbrev pub due_rounds : ℕ → Seen → Seen
due_rounds zero seen = seen
due_rounds (suc rounds) seen = due_round (due_rounds rounds seen)

-- all steps that are due
abbrev pub all_due : Seen → Seen
all_due seen = seen_all seen (due_steps seen.parts)

abbrev pub with_session : Seen → Logged → Logged
with_session seen core = record core { session = seen }

-- a core once no step is due
abbrev pub caught_up : Logged → Logged
caught_up core = with_session (all_due core.session) core

-- ---- a turn

abbrev pub entries_with : Bool → Entry → List Entry → List Entry
entries_with true entry entries = entries ++ entry ∷ []
entries_with false entry entries = entries

-- the entry of a turn, where these are the parts before it
abbrev pub entry_of : Parts → Turn → Entry
entry_of p turn = record { turn = turn; reply = reply_to p turn }

-- a core after a turn's own steps: where the journal is kept, the turn's entry is its last
abbrev pub played : Turn → Logged → Logged
played turn core = record {
  is_kept = core.is_kept;
  entries = entries_with core.is_kept (entry_of core.session.parts turn) core.entries;
  session = seen_all core.session (own_steps core.session.parts turn);
}
