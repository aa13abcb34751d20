-- The printed form of a transcript.
use Rattle.std.specs.Prelude.{ℕ, suc, List, [], ◌∷◌, ◌++◌, Option, Some, None, codes}
use Rattle.std.specs.Fmt.{decimal}
use Rattle.std.specs.List.{flat_map}
use Rattle.nats_names.specs.declared.event.Event.{Event}
use Rattle.nats_names.specs.Events.{event_text}
use Rattle.nats_message.specs.declared.message.Message.{Message}
use Rattle.nats_history.specs.declared.call.CallReply.{CallReply}
use Rattle.nats_history.specs.declared.call.CallReply.TheVariants.{Accepted, Numbered, InvalidSubject, InvalidQueueName, MaxPayloadExceeded, Closed, NoNumber, Full, Flushed, Replied, FlushFailed, NoResponders, TimedOut, Dropped}
use Rattle.nats_history.specs.declared.call.TakeReply.{TakeReply}
use Rattle.nats_history.specs.declared.call.TakeReply.TheVariants as took
use Rattle.nats_history.specs.declared.transcript.LinkWord.{LinkWord}
use Rattle.nats_history.specs.declared.transcript.LinkWord.TheVariants as link_words
use Rattle.nats_history.specs.declared.transcript.LinkRow.{LinkRow}
use Rattle.nats_history.specs.declared.transcript.SubRow.{SubRow}
use Rattle.nats_history.specs.declared.transcript.Transcript.{Transcript}
use Rattle.nats_message_text.specs.Printed.{message_text}
use Rattle.nats_spelling.specs.Lines.{lf, space, opening, placed, numbered}
use Rattle.nats_spelling.specs.Spelling.{spelled}

-- ---- links

abbrev pub end_word : LinkWord → List ℕ
end_word link_words.Up = codes "up"
end_word link_words.Lost = codes "lost"
end_word link_words.Fault = codes "fault"
end_word link_words.Ticks = codes "ticks"
end_word link_words.Reconnect = codes "reconnect"
end_word link_words.Drained = codes "drained"
end_word link_words.Hangup = codes "hangup"

-- link k: how it ended, the bytes that it took, the bytes that it left
abbrev pub link_lines : ℕ → LinkRow → List ℕ
link_lines k row =
    placed (codes "link") k (end_word row.end) ++ codes "out " ++ spelled row.taken ++ lf ++ codes "left "
    ++ spelled row.left ++ lf

-- ---- subscriptions

abbrev pub put_line : ℕ × Message → List ℕ
put_line (place, m) = placed (codes "put") place (message_text m)

abbrev pub drop_line : ℕ × Message → List ℕ
drop_line (place, m) = placed (codes "drop") place (message_text m)

abbrev pub take_text : TakeReply → List ℕ
take_text (took.Message m) = codes "message " ++ message_text m
take_text took.Empty = codes "empty"
take_text took.Ended = codes "ended"

abbrev pub take_line : ℕ × TakeReply → List ℕ
take_line (place, reply) = placed (codes "take") place (take_text reply)

-- subscription s: its puts, its drops, its takes
abbrev pub sub_lines : ℕ → SubRow → List ℕ
sub_lines s row =
    codes "sub " ++ decimal s ++ lf ++ flat_map put_line row.puts ++ flat_map drop_line row.drops
    ++ flat_map take_line row.takes

-- ---- events, calls and tickets

abbrev pub event_line : ℕ × Event → List ℕ
event_line (place, event) = placed (codes "event") place (spelled (event_text event))

-- the greatest size that is taken, and the size that was met
abbrev pub sizes_text : ℕ → ℕ → List ℕ
sizes_text limit size = opening (codes "max-payload") limit ++ decimal size

abbrev pub reply_text : CallReply → List ℕ
reply_text Accepted = codes "accepted"
reply_text (Numbered n) = codes "numbered " ++ decimal n
reply_text InvalidSubject = codes "invalid-subject"
reply_text InvalidQueueName = codes "invalid-queue-name"
reply_text (MaxPayloadExceeded limit size) = sizes_text limit size
reply_text Closed = codes "closed"
reply_text NoNumber = codes "no-number"
reply_text Full = codes "full"
reply_text Flushed = codes "flushed"
reply_text (Replied m) = codes "replied " ++ message_text m
reply_text FlushFailed = codes "flush-failed"
reply_text NoResponders = codes "no-responders"
reply_text TimedOut = codes "timed-out"
reply_text Dropped = codes "dropped"

abbrev pub call_line : ℕ × CallReply → List ℕ
call_line (place, reply) = placed (codes "call") place (reply_text reply)

-- at which turn a ticket settled and how, or that it waits
abbrev pub ticket_text : Option (ℕ × CallReply) → List ℕ
ticket_text None = codes "waiting"
ticket_text (Some (place, reply)) = decimal place ++ space ++ reply_text reply

abbrev pub ticket_line : ℕ → Option (ℕ × CallReply) → List ℕ
ticket_line t row = placed (codes "ticket") t (ticket_text row)

-- ---- the whole

-- a transcript: its links, its subscriptions, its events, its calls, its tickets
abbrev pub printed : Transcript → List ℕ
printed t =
    numbered link_lines 1 t.links ++ numbered sub_lines 1 t.subs ++ flat_map event_line t.events
    ++ flat_map call_line t.calls
    ++ numbered ticket_line 1 t.tickets
