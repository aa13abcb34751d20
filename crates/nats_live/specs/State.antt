-- A session of one link, written out by what its steps hang on.
use Rattle.std.specs.Prelude.{ℕ, Bool, false, List, [], codes, Option}
use Rattle.nats_names.specs.declared.event.Event.{Event}
use Rattle.nats_info.specs.declared.info.ServerInfo.{ServerInfo}
use Rattle.nats_history.specs.declared.call.Call.{Call}
use Rattle.nats_history.specs.declared.call.CallReply.{CallReply}
use Rattle.nats_history.specs.declared.config.Config.{Config}
use Rattle.nats_history.specs.declared.statistics.Statistics.{Statistics}
use Rattle.nats_history.specs.Tickets.{Tickets, no_tickets}
use Rattle.nats_history.specs.Parts.{Subs}
use Rattle.nats_session.specs.Handler.{Seen}

-- the settings of default options, with this mux id
abbrev pub default_config : List ℕ → Config
default_config mux = record {
  client_capacity = 2048;
  subscription_capacity = 65536;
  skip_subject_validation = false;
  inbox_prefix = codes "_INBOX";
  mux_id = mux;
}

-- what no step of these commands hangs on
pub record Noise : Type 0 where
  pub number : ℕ
  pub most : ℕ
  pub info : Option ServerInfo
  pub infos : ℕ
  pub reads : ℕ
  pub statistics : Statistics
  pub events : List Event

-- what its steps hang on: whether the link is up, the calls that wait, the subscriptions, the tickets, those
-- that settled, and the two lists of bytes
pub record Kept : Type 0 where
  pub up : Bool
  pub calls : List Call
  pub subs : Subs
  pub tickets : Tickets
  pub ready : List (ℕ × CallReply)
  pub unread : List ℕ
  pub waiting : List ℕ

-- a session that did not close and is not drained, wrote no PING, and asked for no reply
abbrev pub state : List ℕ → Noise → Kept → Seen
state mux n k = record {
  parts = record {
    config = default_config mux;
    is_closed = false;
    drain = record { is_accepted = false; is_handled = false };
    link = record {
      number = n.number;
      is_up = k.up;
      max_payload = n.most;
      info = n.info;
      infos = n.infos;
      reads = n.reads;
      pings = [];
      wire = record { unread = k.unread; waiting = k.waiting };
    };
    calls = k.calls;
    subs = k.subs;
    requested = false;
    tickets = k.tickets;
    statistics = n.statistics;
  };
  events = n.events;
  ready = k.ready;
}

abbrev pub no_subs : Subs
no_subs = record { given = 0; subscribed = 0; rows = [] }

-- before any call
abbrev pub begun : Bool → List ℕ → List ℕ → Kept
begun up unread waiting = record {
  up = up;
  calls = [];
  subs = no_subs;
  tickets = no_tickets;
  ready = [];
  unread = unread;
  waiting = waiting;
}
