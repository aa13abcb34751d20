-- The transcript as it is written step by step.
use Rattle.std.specs.Prelude.{◌≡◌, ℕ, ◌<◌, List, [], ◌∷◌, ◌++◌, take, if◌then◌else◌}
use Rattle.nats_names.specs.declared.event.Event.{Event}
use Rattle.nats_message.specs.declared.message.Message.{Message}
use Rattle.nats_lines.specs.Operations.{message}
use Rattle.nats_history.specs.declared.config.Config.{Config}
use Rattle.nats_history.specs.declared.call.CallReply.{CallReply}
use Rattle.nats_history.specs.declared.transcript.LinkWord.TheVariants as word
use Rattle.nats_history.specs.declared.transcript.LinkRow.{LinkRow}
use Rattle.nats_history.specs.declared.transcript.SubRow.{SubRow}
use Rattle.nats_history.specs.declared.transcript.Transcript.{Transcript}
use Rattle.nats_history.specs.declared.turn.Due.{Due}
use Rattle.nats_history.specs.declared.turn.Due.TheVariants as due_names
use Rattle.nats_subs.specs.declared.subs.subscription.Delivery.{Delivery}
use Rattle.nats_subs.specs.declared.subs.subscription.Delivery.TheVariants.{Put, Dropped, Unwanted, Ignored}
use Rattle.nats_history.specs.History.{Step, opened, read, taken, accepted, link_end, History, is_up, subscribes, link_text, taken_count, at_place, given, events}
use Rattle.nats_history.specs.Tickets.{grown_tickets, settle_rows, ticket_rows}
use Rattle.nats_tables.specs.Numbers.{at_number, item_of}
use Rattle.nats_history.specs.Parts.{Parts, parts_of}
use Rattle.nats_subs.specs.Delivery.{delivery_at}
pub use Rattle.nats_draft.specs.Sheet.{Sheet, empty_sheet, row_with, new_row, added, added_ticket, write_settled, write_put, write_drop, write_take}
use Rattle.nats_history.specs.Transcripts.{Answer, nothing, called, asked, ended_links, sub_rows, take_replies, call_replies}

-- the sheet that the words on a history and the answers give
abbrev pub sheet_of : Config → History → List (ℕ × Answer) → Sheet
sheet_of c h answers = record {
  links = ended_links c h;
  taken = if is_up h then take (taken_count c h) (link_text c h) else [];
  subs = sub_rows c h answers;
  events = events c h;
  calls = call_replies answers;
  tickets = ticket_rows c h;
}

-- ---- what a step writes

abbrev pub links_written : Parts → Step → List ℕ → List LinkRow → List LinkRow
links_written p (link_end end) before links = links ++ row_with end before p.link.wire.waiting ∷ []
links_written p step before links = links

abbrev pub taken_written : Parts → Step → List ℕ → List ℕ
taken_written p (opened info) before = []
taken_written p (link_end end) before = []
taken_written p (taken n) before = if p.link.is_up then before ++ take n p.link.wire.waiting else []
taken_written p step before = before

-- a message of a subscription that was put or dropped
abbrev pub write_delivery : ℕ → ℕ → Message → Delivery → List SubRow → List SubRow
write_delivery place sid m Put rows = at_number sid (write_put place m) rows
write_delivery place sid m Dropped rows = at_number sid (write_drop place m) rows
write_delivery place sid m Unwanted rows = rows
write_delivery place sid m Ignored rows = rows

abbrev pub rows_written : ℕ → Parts → Step → List SubRow → List SubRow
rows_written place p (accepted call) rows = if subscribes call then rows ++ new_row ∷ [] else rows
rows_written place p (read (message sid m)) rows =
    write_delivery place sid m (delivery_at p.config (item_of sid p.subs.rows)) rows
rows_written place p step rows = rows

-- what is written of a step by its name, once it was played
abbrev pub write_due : ℕ → Due → Sheet → Sheet
write_due place (due_names.Dropped sid m) sheet = record sheet { subs = at_number sid (write_drop place m) sheet.subs }
write_due place name sheet = sheet

-- what a step writes at a place but for its events and the tickets that it settles, where these are the parts before it
abbrev pub write_step : ℕ → Parts → Step → Sheet → Sheet
write_step place p step sheet = record {
  links = links_written p step sheet.taken sheet.links;
  taken = taken_written p step sheet.taken;
  subs = rows_written place p step sheet.subs;
  events = sheet.events;
  calls = sheet.calls;
  tickets = grown_tickets step sheet.tickets;
}

abbrev pub write_events : ℕ → List Event → Sheet → Sheet
write_events place events sheet = record sheet { events = sheet.events ++ at_place place events }

abbrev pub write_tickets : ℕ → List (ℕ × CallReply) → Sheet → Sheet
write_tickets place settled sheet = record sheet { tickets = settle_rows place settled sheet.tickets }

-- ---- what an answer writes

abbrev pub write_answer : ℕ → Answer → Sheet → Sheet
write_answer place nothing sheet = sheet
write_answer place (called reply) sheet = record sheet { calls = sheet.calls ++ (place, reply) ∷ [] }
write_answer place (asked sid reply) sheet = record sheet { subs = at_number sid (write_take place reply) sheet.subs }

-- ---- the end

-- the transcript of a sheet, where these are the parts at the end
abbrev pub finished : Parts → Sheet → Transcript
finished p sheet = record {
  links = sheet.links ++ (if p.link.is_up then row_with word.Up sheet.taken p.link.wire.waiting ∷ [] else []);
  subs = sheet.subs;
  events = sheet.events;
  calls = sheet.calls;
  tickets = sheet.tickets;
}

-- the answers to takes are of numbers that were given
abbrev pub AreGiven : History → List (ℕ × Answer) → Type 0
AreGiven h answers = (s : ℕ) → given h < s → take_replies s answers ≡ []

-- parts and a sheet tell of a history and the answers
pub record Tells (c : Config) (h : History) (answers : List (ℕ × Answer)) (p : Parts) (sheet : Sheet) : Type 0 where
  pub parts : p ≡ parts_of c h
  pub written : sheet ≡ sheet_of c h answers
  pub given_numbers : AreGiven h answers
