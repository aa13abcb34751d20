-- What a handler keeps: the parts of a session, which the words on histories determine.
use Rattle.std.specs.Prelude.{ℕ, Bool, List, Option}
use Rattle.nats_info.specs.declared.info.ServerInfo.{ServerInfo}
use Rattle.nats_wire.specs.Wire.{Wire}
use Rattle.nats_history.specs.declared.config.Config.{Config}
use Rattle.nats_history.specs.declared.call.Call.{Call}
use Rattle.nats_history.specs.declared.ping.Ping.{Ping}
use Rattle.nats_history.specs.declared.statistics.Statistics.{Statistics}
use Rattle.nats_history.specs.Counts.{statistics}
use Rattle.nats_history.specs.History.{History, links, is_up, is_closed, WholeDrain, max_payload, last_info, infos, all_reads, whole_drain, pings, requested, unread, waiting_bytes, waiting_calls, At, at_of, Sub, rows_of}
use Rattle.nats_history.specs.Tickets.{Tickets, tickets}

-- the newest link
pub record Link : Type 0 where
  -- its number, 0 before any
  pub number : ℕ
  pub is_up : Bool
  -- the limit of a payload's size with its header block, in bytes
  pub max_payload : ℕ
  -- what a server said of itself last
  pub info : Option ServerInfo
  -- how many INFOs were read over all links
  pub infos : ℕ
  -- how many operations were read over all links
  pub reads : ℕ
  -- its PINGs that no PONG answered, oldest first
  pub pings : List Ping
  -- the unread and the waiting bytes while it is up
  pub wire : Wire

-- the subscriptions: how many numbers were given, how many of them were subscribed, and the subscriptions by their
-- numbers
pub record Subs : Type 0 where
  pub given : ℕ
  pub subscribed : ℕ
  pub rows : List Sub

-- what a handler keeps
pub record Parts : Type 0 where
  pub config : Config
  -- the session closed
  pub is_closed : Bool
  -- whether a drain of the whole session was accepted, and whether it was handled
  pub drain : WholeDrain
  pub link : Link
  -- the calls that wait, oldest first
  pub calls : List Call
  pub subs : Subs
  -- a request was handled
  pub requested : Bool
  -- the tickets that were given: what each is of, what waits to be handled, for bytes or for a reply
  pub tickets : Tickets
  -- what was counted over all links
  pub statistics : Statistics

-- what a step's meaning hangs on, as parts have it
abbrev pub at_with : List Ping → Subs → At
at_with pings subs = record { given = subs.given; subscribed = subs.subscribed; pings = pings }

abbrev pub at_in : Parts → At
at_in p = at_with p.link.pings p.subs

-- ---- the parts of a history

abbrev pub link_of : Config → History → Link
link_of c h = record {
  number = links h;
  is_up = is_up h;
  max_payload = max_payload h;
  info = last_info h;
  infos = infos h;
  reads = all_reads h;
  pings = pings h;
  wire = record { unread = unread h; waiting = waiting_bytes c h };
}

abbrev pub subs_of : Config → History → Subs
subs_of c h = record { given = (at_of h).given; subscribed = (at_of h).subscribed; rows = rows_of c h }

-- the parts that the words on a history determine
abbrev pub parts_of : Config → History → Parts
parts_of c h = record {
  config = c;
  is_closed = is_closed h;
  drain = whole_drain h;
  link = link_of c h;
  calls = waiting_calls h;
  subs = subs_of c h;
  requested = requested h;
  tickets = tickets c h;
  statistics = statistics c h;
}
