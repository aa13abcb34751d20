-- What one step makes of the parts. The laws say that it is what the words on the longer history give.
use Rattle.std.specs.Prelude.{ℕ, zero, suc, Bool, false, List, [], ◌∷◌, ◌++◌, length, drop, Option, Some, None, if◌then◌else◌}
use Rattle.nats_names.specs.declared.event.Event.{Event}
use Rattle.nats_message.specs.declared.message.Message.{Message}
use Rattle.nats_message.specs.declared.op.ClientOp.{ClientOp}
use Rattle.nats_lines.specs.Operations.{message, front, past}
use Rattle.nats_commands.specs.Commands.{command_text}
use Rattle.nats_wire.specs.Wire.{Wire}
use Rattle.nats_history.specs.declared.config.Config.{Config}
use Rattle.nats_history.specs.declared.call.Call.{Call}
use Rattle.nats_history.specs.declared.call.CallReply.{CallReply}
use Rattle.nats_history.specs.History.{Step, opened, fed, read, taken, accepted, handled, took, gone, link_end, closed, links_after, up_after, closed_after, drain_after, max_payload_after, info_after, infos_after, all_reads_after, pings_after, cut, subscribes, requested_after, At, given_after, subscribed_after, about, Sub, puts, interest_after, stage_after, shut_after, gone_after, draining_after, limit_after, kept, commands, new_events}
use Rattle.nats_history.specs.Tickets.{tickets_after, settles}
use Rattle.nats_history.specs.declared.stage.Stage.TheVariants.{Asked}
use Rattle.nats_history.specs.declared.ping.Ping.{Ping}
use Rattle.nats_tables.specs.Numbers.{change}
use Rattle.nats_history.specs.Counts.{statistics_after}
use Rattle.nats_history.specs.Parts.{Link, Subs, Parts, at_with, at_in}
use Rattle.nats_history.specs.Schedule.{chain, due, most_due}

-- ---- subscriptions

-- the messages that wait after one that comes
abbrev pub delivered : Config → Message → Sub → List Message
delivered c m sub = if puts c sub then sub.waiting ++ m ∷ [] else sub.waiting

abbrev pub waiting_after : Config → Step → Sub → List Message
waiting_after c (read (message sid m)) sub = delivered c m sub
waiting_after c (took sid) sub = drop 1 sub.waiting
waiting_after c (gone sid) sub = []
waiting_after c step sub = sub.waiting

abbrev pub puts_after : Config → Step → Sub → ℕ
puts_after c (read (message sid m)) sub = if puts c sub then cut (suc sub.puts) else sub.puts
puts_after c step sub = sub.puts

abbrev pub changed_sub : Config → Step → Sub → Sub
changed_sub c step sub = record {
  interest = interest_after step sub.interest;
  stage = stage_after c step sub;
  is_shut = shut_after step sub.is_shut;
  is_gone = gone_after step sub.is_gone;
  is_draining = draining_after step sub.is_draining;
  limit = limit_after step sub.limit;
  puts = puts_after c step sub;
  waiting = waiting_after c step sub;
}

abbrev pub sub_after : Config → Step → Sub → Sub
sub_after c step sub = kept (changed_sub c step sub)

abbrev pub new_sub : Sub
new_sub = record {
  interest = None;
  stage = Asked;
  is_shut = false;
  is_gone = false;
  is_draining = false;
  limit = None;
  puts = 0;
  waiting = [];
}

-- one more where a number is given
abbrev pub grown : Step → List Sub → List Sub
grown (accepted call) rows = if subscribes call then rows ++ new_sub ∷ [] else rows
grown step rows = rows

abbrev pub rows_after : Config → At → Step → List Sub → List Sub
rows_after c at step rows = change (about at step) (sub_after c step) (grown step rows)

abbrev pub subs_after : Config → List Ping → Step → Subs → Subs
subs_after c pings step subs = record {
  given = given_after step (at_with pings subs);
  subscribed = subscribed_after step (at_with pings subs);
  rows = rows_after c (at_with pings subs) step subs.rows;
}

-- ---- calls

abbrev pub calls_after : Step → List Call → List Call
calls_after (accepted call) calls = calls ++ call ∷ []
calls_after (handled call) calls = drop 1 calls
calls_after closed calls = []
calls_after step calls = calls

-- ---- the link

abbrev pub unread_after : Bool → Step → List ℕ → List ℕ
unread_after up (opened info) unread = []
unread_after up (link_end word) unread = []
unread_after up (fed bytes) unread = if up then unread ++ bytes else []
unread_after up (read operation) unread = past (front unread) unread
unread_after up step unread = unread

-- the bytes that wait after some commands, one by one
abbrev pub write_all : List ClientOp → List ℕ → List ℕ
write_all [] waiting = waiting
write_all (command ∷ more) waiting = write_all more (waiting ++ command_text command)

-- commands are written while a link is up
abbrev pub written : Bool → List ClientOp → List ℕ → List ℕ
written up [] waiting = waiting
written up (command ∷ more) waiting = if up then write_all (command ∷ more) waiting else []

abbrev pub bytes_after : Bool → List ClientOp → Step → List ℕ → List ℕ
bytes_after up commands (opened info) waiting = write_all commands []
bytes_after up commands (link_end word) waiting = []
bytes_after up commands (taken n) waiting = drop n waiting
bytes_after up commands step waiting = written up commands waiting

abbrev pub wire_after : Bool → List ClientOp → Step → Wire → Wire
wire_after up commands step wire = record {
  unread = unread_after up step wire.unread;
  waiting = bytes_after up commands step wire.waiting;
}

abbrev pub link_after : List ClientOp → Step → Link → Link
link_after commands step link = record {
  number = links_after step link.number;
  is_up = up_after step link.is_up;
  max_payload = max_payload_after step link.max_payload;
  info = info_after step link.info;
  infos = infos_after step link.infos;
  reads = all_reads_after step link.reads;
  pings = pings_after step link.pings;
  wire = wire_after link.is_up commands step link.wire;
}

-- ---- the whole

-- the commands that a step writes, where these are the parts before it
abbrev pub commands_of : Parts → Step → List ClientOp
commands_of p step = commands p.config p.requested (at_in p) p.subs.rows step

-- the events that a step gives out, where these are the parts before it
abbrev pub events_of : Parts → Step → List Event
events_of p step = new_events p.config p.subs.rows step

-- the tickets that a step settles, where these are the parts before it
abbrev pub settled_of : Parts → Step → List (ℕ × CallReply)
settled_of p step = settles p.config (length p.link.wire.waiting) step p.tickets

abbrev pub after : Parts → Step → Parts
after p step = record {
  config = p.config;
  is_closed = closed_after step p.is_closed;
  drain = drain_after step p.drain;
  link = link_after (commands_of p step) step p.link;
  calls = calls_after step p.calls;
  subs = subs_after p.config p.link.pings step p.subs;
  requested = requested_after step p.requested;
  tickets = tickets_after p.config (length p.link.wire.waiting) step p.tickets;
  statistics = statistics_after p.config step p.statistics;
}

abbrev pub after_all : Parts → List Step → Parts
after_all p [] = p
after_all p (step ∷ steps) = after_all (after p step) steps

-- ---- due steps, one after another

abbrev pub due_steps_within : ℕ → Option Step → Parts → List Step
due_steps_within most None p = []
due_steps_within zero (Some step) p = []
due_steps_within (suc most) (Some step) p =
    let more = after_all p (chain p step) in
    chain p step ++ due_steps_within most (due more) more

-- all steps that are due, each with what follows it at once, until none is
abbrev pub due_steps : Parts → List Step
due_steps p = due_steps_within (most_due p) (due p) p
