-- The transcript of a list of turns.
use Rattle.std.specs.Prelude.{ℕ, suc, List, [], ◌∷◌, ◌++◌, take, drop, map, Some, None, Result, Ok, Err, ◌≡◌, if◌then◌else◌, ◌==◌}
use Rattle.nats_history.specs.declared.config.Config.{Config}
use Rattle.nats_history.specs.declared.call.CallReply.{CallReply}
use Rattle.nats_history.specs.declared.call.TakeReply.{TakeReply}
use Rattle.nats_history.specs.declared.turn.Turn.{Turn}
use Rattle.nats_history.specs.declared.turn.Turn.TheVariants.{Do, Take}
use Rattle.nats_history.specs.declared.transcript.LinkWord.{LinkWord}
use Rattle.nats_history.specs.declared.transcript.LinkWord.TheVariants as word
use Rattle.nats_history.specs.declared.transcript.LinkRow.{LinkRow}
use Rattle.nats_history.specs.declared.transcript.SubRow.{SubRow}
use Rattle.nats_history.specs.declared.transcript.Transcript.{Transcript}
use Rattle.nats_history.specs.declared.transcript.RunError.{RunError}
use Rattle.nats_history.specs.declared.transcript.RunError.TheVariants as refused
use Rattle.nats_history.specs.History.{link_end, History, is_up, Told, told, numbers, link_text, taken_count, events}
use Rattle.nats_history.specs.Tickets.{ticket_rows}
use Rattle.nats_history.specs.Parts.{parts_of}
use Rattle.nats_history.specs.Schedule.{call_reply, take_reply, after_turn, steps, out_of_turn}

-- ---- links

-- the row of the newest link, with this word at its end: the first bytes of its text, as many as were taken, and
-- the rest
abbrev pub link_row : Config → LinkWord → History → LinkRow
link_row c end h = record {
  end = end;
  taken = take (taken_count c h) (link_text c h);
  left = drop (taken_count c h) (link_text c h);
}

-- the rows of the links that ended
abbrev pub ended_links : Config → History → List LinkRow
ended_links c [] = []
ended_links c ((place, link_end end) ∷ h) = ended_links c h ++ link_row c end h ∷ []
ended_links c (e ∷ h) = ended_links c h

abbrev pub up_link : Config → History → List LinkRow
up_link c h = if is_up h then link_row c word.Up h ∷ [] else []

-- ---- replies, which are no steps

-- what a turn answers after a history
pub data Answer : Type 0 where
  nothing : Answer
  called : CallReply → Answer
  asked : ℕ → TakeReply → Answer

abbrev pub answer_of : Config → History → Turn → Answer
answer_of c h (Do call) = called (call_reply (parts_of c h) call)
answer_of c h (Take sid) = asked sid (take_reply (parts_of c h) sid)
answer_of c h turn = nothing

-- the answers of all turns in order, each with its place
abbrev pub answers_from : Config → ℕ → List Turn → History → List (ℕ × Answer)
answers_from c place [] h = []
answers_from c place (turn ∷ turns) h =
    (place, answer_of c h turn) ∷ answers_from c (suc place) turns (after_turn c place turn h)

abbrev pub answers : Config → List Turn → List (ℕ × Answer)
answers c turns = answers_from c 1 turns []

-- the replies of the calls among them
abbrev pub call_replies : List (ℕ × Answer) → List (ℕ × CallReply)
call_replies [] = []
call_replies ((place, called reply) ∷ more) = (place, reply) ∷ call_replies more
call_replies (answer ∷ more) = call_replies more

abbrev pub reply_to : ℕ → ℕ → ℕ → TakeReply → List (ℕ × TakeReply)
reply_to s place sid reply = if s == sid then (place, reply) ∷ [] else []

-- the replies of the takes of the subscription of number s among them
abbrev pub take_replies : ℕ → List (ℕ × Answer) → List (ℕ × TakeReply)
take_replies s [] = []
take_replies s ((place, asked sid reply) ∷ more) = reply_to s place sid reply ++ take_replies s more
take_replies s (answer ∷ more) = take_replies s more

-- ---- the whole

abbrev pub sub_row : Told → List (ℕ × TakeReply) → SubRow
sub_row t takes = record { puts = t.puts; drops = t.drops; takes = takes }

abbrev pub sub_rows : Config → History → List (ℕ × Answer) → List SubRow
sub_rows c h answers = map (λ s. sub_row (told c s h) (take_replies s answers)) (numbers h)

-- what a history and answers show
abbrev pub shown : Config → History → List (ℕ × Answer) → Transcript
shown c h answers = record {
  links = ended_links c h ++ up_link c h;
  subs = sub_rows c h answers;
  events = events c h;
  calls = call_replies answers;
  tickets = ticket_rows c h;
}

-- the transcript of a list of turns
abbrev pub transcript : Config → List Turn → Transcript
transcript c turns = shown c (steps c turns) (answers c turns)

-- what playing a list of turns answers: its transcript where each turn may come where it stands, else the place of the
-- first that may not; or memory was wanting
abbrev pub Plays : Config → List Turn → Result Transcript RunError → Type 0
Plays c turns (Ok t) = (out_of_turn c turns ≡ None) × (t ≡ transcript c turns)
Plays c turns (Err (refused.OutOfTurn place)) = out_of_turn c turns ≡ Some place
Plays c turns (Err refused.NoMemory) = Unit {0}
