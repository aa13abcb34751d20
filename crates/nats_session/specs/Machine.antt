-- Turns over parts and a sheet alone: what playing leaves, with each event handed out as it comes.
use Rattle.std.specs.Prelude.{◌≡◌, ℕ, suc, List, [], ◌∷◌, ◌++◌, Option, Some, None, if◌then◌else◌}
use Rattle.nats_message.specs.declared.message.Message.{Message}
use Rattle.nats_lines.specs.Operations.{Operation, message, peeked_view}
use Rattle.nats_history.specs.declared.transcript.LinkWord.{LinkWord}
use Rattle.nats_history.specs.declared.turn.Turn.{Turn}
use Rattle.nats_history.specs.declared.turn.Turn.TheVariants.{Do, Take}
use Rattle.nats_history.specs.History.{Step, read}
use Rattle.nats_tables.specs.Numbers.{at_number}
use Rattle.nats_history.specs.Parts.{Parts}
use Rattle.nats_history.specs.Schedule.{is_valid_turn, own_steps, call_reply, take_reply, chain}
use Rattle.nats_history.specs.Transcripts.{Answer, nothing, called, asked}
use Rattle.nats_history.specs.After.{after, after_all, events_of, settled_of, due_steps}
use Rattle.nats_subs.specs.declared.subs.subscription.Delivery.{Delivery}
use Rattle.nats_subs.specs.declared.subs.subscription.Delivery.TheVariants.{Put, Dropped, Unwanted, Ignored}
use Rattle.nats_session.specs.declared.handler.due.Look.{Look}
use Rattle.nats_session.specs.declared.handler.due.Look.TheVariants as looks
use Rattle.nats_session.specs.Handler.{Seen, coming}
use Rattle.nats_session.specs.Sheet.{Sheet, row_with, write_put, write_step, write_answer, write_events, write_tickets}

-- a handler with these parts, all of whose events and settled tickets were handed out
abbrev pub quiet : Parts → Seen
quiet p = record { parts = p; events = []; ready = [] }

-- ---- steps

-- the sheet with what the step writes, with its events and the tickets that it settles
abbrev pub sheet_noted : ℕ → Step → Parts → Sheet → Sheet
sheet_noted place step p sheet =
    write_tickets place (settled_of p step) (write_events place (events_of p step) (write_step place p step sheet))

abbrev pub sheet_recorded : ℕ → List Step → Parts → Sheet → Sheet
sheet_recorded place [] p sheet = sheet
sheet_recorded place (step ∷ steps) p sheet = sheet_recorded place steps (after p step) (sheet_noted place step p sheet)

-- what some steps write but for their events and the tickets that they settle
abbrev pub sheet_written : ℕ → List Step → Parts → Sheet → Sheet
sheet_written place [] p sheet = sheet
sheet_written place (step ∷ steps) p sheet = sheet_written place steps (after p step) (write_step place p step sheet)

-- ---- turns

abbrev pub answer_at : Parts → Turn → Answer
answer_at p (Do call) = called (call_reply p call)
answer_at p (Take sid) = asked sid (take_reply p sid)
answer_at p turn = nothing

-- after a turn's own steps and its answer
abbrev pub own_parts : Turn → Parts → Parts
own_parts turn p = after_all p (own_steps p turn)

abbrev pub own_sheet : ℕ → Turn → Parts → Sheet → Sheet
own_sheet place turn p sheet = write_answer place (answer_at p turn) (sheet_recorded place (own_steps p turn) p sheet)

-- after all that is due
abbrev pub settled_parts : Parts → Parts
settled_parts p = after_all p (due_steps p)

abbrev pub settled_sheet : ℕ → Parts → Sheet → Sheet
settled_sheet place p sheet = sheet_recorded place (due_steps p) p sheet

-- after a whole turn
abbrev pub turn_parts : Turn → Parts → Parts
turn_parts turn p = settled_parts (own_parts turn p)

abbrev pub turn_sheet : ℕ → Turn → Parts → Sheet → Sheet
turn_sheet place turn p sheet = settled_sheet place (own_parts turn p) (own_sheet place turn p sheet)

-- ---- a list of turns, the first of them at this place

abbrev pub played_parts : List Turn → Parts → Parts
played_parts [] p = p
played_parts (turn ∷ turns) p = played_parts turns (turn_parts turn p)

abbrev pub played_sheet : ℕ → List Turn → Parts → Sheet → Sheet
played_sheet place [] p sheet = sheet
played_sheet place (turn ∷ turns) p sheet =
    played_sheet (suc place) turns (turn_parts turn p) (turn_sheet place turn p sheet)

abbrev pub first_out_of_turn : ℕ → List Turn → Parts → Option ℕ
first_out_of_turn place [] p = None
first_out_of_turn place (turn ∷ turns) p =
    if is_valid_turn p turn then first_out_of_turn (suc place) turns (turn_parts turn p) else Some place

-- ---- a due step as the handler tells of it

-- the row of a link that ends, where these are the parts before its end
abbrev pub write_end : Option LinkWord → Parts → Sheet → Sheet
write_end None p sheet = sheet
write_end (Some end) p sheet =
    record sheet { links = sheet.links ++ row_with end sheet.taken p.link.wire.waiting ∷ []; taken = [] }

-- what a message writes before it is brought to its subscription: a put, where it is to be put
abbrev pub write_coming : ℕ → ℕ → Message → Delivery → Sheet → Sheet
write_coming place sid m Put sheet = record sheet { subs = at_number sid (write_put place m) sheet.subs }
write_coming place sid m Dropped sheet = sheet
write_coming place sid m Unwanted sheet = sheet
write_coming place sid m Ignored sheet = sheet

abbrev pub write_op : ℕ → Delivery → Operation → Sheet → Sheet
write_op place delivery (message sid m) sheet = write_coming place sid m delivery sheet
write_op place delivery operation sheet = sheet

-- what the step that is due writes before it is played
abbrev pub write_before : ℕ → Parts → Option Step → Sheet → Sheet
write_before place p (Some (read operation)) sheet = write_op place (coming p operation) operation sheet
write_before place p next sheet = sheet

-- the same of a look
abbrev pub write_look : ℕ → Look → Sheet → Sheet
write_look place (looks.Read peeked delivery) sheet = write_op place delivery (peeked_view peeked.op) sheet
write_look place looks.Nothing sheet = sheet
write_look place looks.Fault sheet = sheet
write_look place looks.Command sheet = sheet

-- the step that is due was played and written with what follows it at once
abbrev pub Notes : Option Step → ℕ → Parts → Sheet → Seen → Sheet → Type 0
Notes None place p sheet seen sheet' = (seen ≡ quiet p) × (sheet' ≡ sheet)
Notes (Some step) place p sheet seen sheet' =
    (seen ≡ quiet (after_all p (chain p step))) × (sheet' ≡ sheet_recorded place (chain p step) p sheet)
