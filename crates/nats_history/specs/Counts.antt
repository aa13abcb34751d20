-- What is counted of a session: messages and their bytes, in and out, and links.
use Rattle.std.specs.Prelude.{ℕ, suc, ◌+◌, Bool, List, [], ◌∷◌, length, Option, Some, None, is_some, if◌then◌else◌}
use Rattle.nats_lines.specs.Operations.{message, length_or_0}
use Rattle.nats_commands.specs.Commands.{sent_block}
use Rattle.nats_history.specs.declared.config.Config.{Config}
use Rattle.nats_history.specs.declared.call.Call.{Call}
use Rattle.nats_history.specs.declared.statistics.Statistics.{Statistics}
use Rattle.nats_history.specs.Sent.{Sending, sent}
use Rattle.nats_history.specs.History.{Step, read, handled, History, cut, links, links_after, reply_text}

-- ---- in

abbrev pub in_messages_after : Step → ℕ → ℕ
in_messages_after (read (message sid m)) n = cut (suc n)
in_messages_after step n = n

-- how many messages were read over all links, whatever became of them
abbrev pub in_messages : History → ℕ
in_messages [] = 0
in_messages ((place, step) ∷ h) = in_messages_after step (in_messages h)

abbrev pub in_bytes_after : Step → ℕ → ℕ
in_bytes_after (read (message sid m)) n = cut (n + m.length)
in_bytes_after step n = n

-- how many bytes they had, by their lengths: with those of the subject, the reply and the header block
abbrev pub in_bytes : History → ℕ
in_bytes [] = 0
in_bytes ((place, step) ∷ h) = in_bytes_after step (in_bytes h)

-- ---- out

-- a call whose handling sends a message
abbrev pub sends : Call → Bool
sends call = is_some (sent call)

abbrev pub out_messages_after : Step → ℕ → ℕ
out_messages_after (handled call) n = if sends call then cut (suc n) else n
out_messages_after step n = n

-- how many messages were sent over all links: those of publishes and requests that were handled
abbrev pub out_messages : History → ℕ
out_messages [] = 0
out_messages ((place, step) ∷ h) = out_messages_after step (out_messages h)

-- how many bytes a message that is sent has: those of its subject, its reply, the header block that is sent, and
-- its payload
abbrev pub sent_len : List ℕ → Option (List ℕ) → Option (List ℕ) → List ℕ → ℕ
sent_len subject reply block payload = length subject + (length_or_0 reply + (length_or_0 block + length payload))

abbrev pub bytes_with : Config → Option Sending → ℕ → ℕ
bytes_with c None n = n
bytes_with c (Some m) n = cut (n + sent_len m.subject (reply_text c m.reply) (sent_block m.headers) m.payload)

abbrev pub out_bytes_by : Config → Call → ℕ → ℕ
out_bytes_by c call n = bytes_with c (sent call) n

abbrev pub out_bytes_after : Config → Step → ℕ → ℕ
out_bytes_after c (handled call) n = out_bytes_by c call n
out_bytes_after c step n = n

-- how many bytes they had
abbrev pub out_bytes : Config → History → ℕ
out_bytes c [] = 0
out_bytes c ((place, step) ∷ h) = out_bytes_after c step (out_bytes c h)

-- ---- all five

abbrev pub no_statistics : Statistics
no_statistics = record { in_bytes = 0; out_bytes = 0; in_messages = 0; out_messages = 0; connects = 0 }

-- what was counted; each link that came up is one
abbrev pub statistics : Config → History → Statistics
statistics c h = record {
  in_bytes = in_bytes h;
  out_bytes = out_bytes c h;
  in_messages = in_messages h;
  out_messages = out_messages h;
  connects = links h;
}

abbrev pub statistics_after : Config → Step → Statistics → Statistics
statistics_after c step s = record {
  in_bytes = in_bytes_after step s.in_bytes;
  out_bytes = out_bytes_after c step s.out_bytes;
  in_messages = in_messages_after step s.in_messages;
  out_messages = out_messages_after step s.out_messages;
  connects = links_after step s.connects;
}

-- one more message was read, of such a length
abbrev pub message_counted : ℕ → Statistics → Statistics
message_counted len s = record s { in_bytes = cut (s.in_bytes + len); in_messages = cut (suc s.in_messages) }

-- one more link came up
abbrev pub link_counted : Statistics → Statistics
link_counted s = record s { connects = cut (suc s.connects) }
