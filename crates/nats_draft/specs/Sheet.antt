-- A transcript as it is written, row by row.
use Rattle.std.specs.Prelude.{◌≡◌, ℕ, suc, ◌<◌, ◌⊎◌, List, [], ◌∷◌, ◌++◌, Option, Some, None}
use Rattle.nats_names.specs.declared.event.Event.{Event}
use Rattle.nats_message.specs.declared.message.Message.{Message}
use Rattle.nats_history.specs.declared.call.CallReply.{CallReply}
use Rattle.nats_history.specs.declared.call.CallReply.TheVariants.{Numbered}
use Rattle.nats_history.specs.declared.call.TakeReply.{TakeReply}
use Rattle.nats_history.specs.declared.transcript.LinkWord.{LinkWord}
use Rattle.nats_history.specs.declared.transcript.LinkRow.{LinkRow}
use Rattle.nats_history.specs.declared.transcript.SubRow.{SubRow}
use Rattle.nats_history.specs.declared.transcript.Transcript.{Transcript}
use Rattle.nats_tables.specs.Numbers.{at_number}
use Rattle.nats_history.specs.Tickets.{settle_once}

-- what is written so far
pub record Sheet : Type 0 where
  -- the links that ended
  pub links : List LinkRow
  -- the bytes that the link that is up took
  pub taken : List ℕ
  pub subs : List SubRow
  pub events : List (ℕ × Event)
  pub calls : List (ℕ × CallReply)
  pub tickets : List (Option (ℕ × CallReply))

abbrev pub empty_sheet : Sheet
empty_sheet = record { links = []; taken = []; subs = []; events = []; calls = []; tickets = [] }

-- ---- rows

abbrev pub row_with : LinkWord → List ℕ → List ℕ → LinkRow
row_with end bytes left = record { end = end; taken = bytes; left = left }

abbrev pub new_row : SubRow
new_row = record { puts = []; drops = []; takes = [] }

-- one more row where a reply has a number
abbrev pub added : CallReply → List SubRow → List SubRow
added (Numbered n) rows = rows ++ new_row ∷ []
added reply rows = rows

-- one more ticket, which did not settle yet
abbrev pub added_ticket : CallReply → List (Option (ℕ × CallReply)) → List (Option (ℕ × CallReply))
added_ticket (Numbered n) rows = rows ++ None ∷ []
added_ticket reply rows = rows

abbrev pub write_settled : ℕ → ℕ → CallReply → Sheet → Sheet
write_settled place ticket reply sheet =
    record sheet { tickets = at_number ticket (settle_once (place, reply)) sheet.tickets }

abbrev pub write_put : ℕ → Message → SubRow → SubRow
write_put place m row = record row { puts = row.puts ++ (place, m) ∷ [] }

abbrev pub write_drop : ℕ → Message → SubRow → SubRow
write_drop place m row = record row { drops = row.drops ++ (place, m) ∷ [] }

abbrev pub write_take : ℕ → TakeReply → SubRow → SubRow
write_take place reply row = record row { takes = row.takes ++ (place, reply) ∷ [] }

-- ---- the end

-- the transcript of all that is written; a link that is up has no row in it
abbrev pub shown_of : Sheet → Transcript
shown_of sheet = record {
  links = sheet.links;
  subs = sheet.subs;
  events = sheet.events;
  calls = sheet.calls;
  tickets = sheet.tickets;
}

-- ---- a row by its number

-- where the thing of a number stands in a table of that many things, if it does
abbrev pub IsPlaceOf : ℕ → ℕ → Option ℕ → Type 0
IsPlaceOf sid count None = (sid ≡ 0) ⊎ (count < sid)
IsPlaceOf sid count (Some index) = (sid ≡ suc index) × (index < count)
