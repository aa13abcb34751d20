-- What each call sends and to how many puts it limits a subscription, one table each, and what follows from them.
use Rattle.std.specs.Prelude.{ℕ, Bool, true, false, List, Option, Some, None}
use Rattle.nats_header.specs.Headers.{Headers}
use Rattle.nats_history.specs.declared.call.Call.{Call}
use Rattle.nats_history.specs.declared.call.Call.TheVariants.{Publish, Limit, Request}
use Rattle.nats_history.specs.declared.call.Interest.{Interest}
use Rattle.nats_history.specs.declared.refusals.ReplyTo.{ReplyTo}
use Rattle.nats_history.specs.declared.refusals.ReplyTo.TheVariants as to
use Rattle.nats_history.specs.declared.refusals.Outgoing.{Outgoing}
use Rattle.nats_history.specs.declared.refusals.Wanted.{Wanted}

-- where the reply to a message is asked to go
pub data ReplyAt : Type 0 where
  -- to the subject that is given, if one is
  at_subject : Option (List ℕ) → ReplyAt
  -- to the inbox, under a token
  at_inbox : List ℕ → ReplyAt

-- a message that the handling of a call sends
pub record Sending : Type 0 where
  pub subject : List ℕ
  pub reply : ReplyAt
  pub payload : List ℕ
  pub headers : Option Headers

-- the message that the handling of a call sends, if it sends one
abbrev pub sent : Call → Option Sending
sent (Publish m) =
    Some (record { subject = m.subject; reply = at_subject m.reply; payload = m.payload; headers = m.headers })
sent (Request subject payload headers token) =
    Some (record { subject = subject; reply = at_inbox token; payload = payload; headers = headers })
sent call = None

-- the number of puts at which a call has the subscription that it names end, if it does
abbrev pub limits : Call → Option ℕ
limits (Limit s n) = Some n
limits call = None

-- ---- what follows

abbrev pub is_at_inbox : ReplyAt → Bool
is_at_inbox (at_subject reply) = false
is_at_inbox (at_inbox token) = true

-- its reply is asked to the inbox
abbrev pub is_request : Option Sending → Bool
is_request None = false
is_request (Some m) = is_at_inbox m.reply

-- ---- what the code's values say

abbrev pub reply_view : ReplyTo → ReplyAt
reply_view (to.Given reply) = at_subject reply.now
reply_view (to.Inbox token) = at_inbox token.now

abbrev pub sent_view : Outgoing → Sending
sent_view m =
    record { subject = m.subject.now; reply = reply_view m.reply; payload = m.payload.now; headers = m.headers.now }

abbrev pub asked_view : Wanted → Interest
asked_view a = record { subject = a.subject.now; queue_group = a.queue_group.now }
