-- What the parts of the outside over the system tell: counts and words, and no content.
use Rattle.std.specs.Prelude.{ℕ, List, None, length}
use Rattle.std.specs.declared.net.socket_addr.SocketAddr.{SocketAddr}
use Rattle.nats_addr.specs.Resolving.{ResolverTold, risen, word_of_list, empties_by}
use Rattle.nats_outside.specs.Told.{ReadTold, WriteTold, DialerTold, ClockTold}
use Rattle.nats_system.specs.declared.net_link.NetRead.{NetRead}
use Rattle.nats_system.specs.declared.net_link.NetWrite.{NetWrite}
use Rattle.nats_system.specs.declared.net_dialer.NetDialer.{NetDialer}
use Rattle.nats_system.specs.declared.net_resolver.NetResolver.{NetResolver}
use Rattle.nats_system.specs.declared.system_clock.SystemClock.{SystemClock}

abbrev pub net_read_told : {S : Type 0} → NetRead S → ReadTold
net_read_told r = record {
  left = None;
  pieces = None;
  given = r.given;
  ends = r.ends;
  faults = r.faults;
  wait = r.wait;
}

abbrev pub net_write_told : {S : Type 0} → NetWrite S → WriteTold
net_write_told w = record { taken = None; faults = w.faults; is_shut = w.is_shut }

abbrev pub dialer_told_of : {R : Type 0} → NetDialer R → DialerTold
dialer_told_of d = record {
  faults = d.faults;
  ends = d.ends;
  dials = d.dials;
  word = d.word;
  to = d.to;
  within = d.within;
  links = d.links;
  backs = d.backs;
  was_shut = d.was_shut;
  ended = None;
}

abbrev pub resolver_told_of : {R : Type 0} → NetResolver R → ResolverTold
resolver_told_of r = record {
  faults = r.faults;
  empties = r.empties;
  askings = r.askings;
  given = r.given;
  word = r.word;
  asked = r.asked;
  list = None;
}

-- what a resolver keeps after it gave this list
abbrev pub given_list : {R : Type 0} → List SocketAddr → NetResolver R → NetResolver R
given_list addresses r = record r {
  empties = risen (empties_by addresses) r.empties;
  given = risen (length addresses) r.given;
  word = word_of_list addresses;
}

abbrev pub clock_told_of : {R : Type 0} → SystemClock R → ClockTold
clock_told_of c = record { last = c.last; start = c.start; starts = c.starts; nap = c.nap; slept = c.slept }

-- a clock after a look at it
abbrev pub looked_at : {R : Type 0} → ℕ → ℕ → SystemClock R → SystemClock R
looked_at time faults c = record c { last = time; faults = faults }
