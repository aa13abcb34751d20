-- What links in memory, who dials them, and a clock in memory tell.
use Rattle.std.specs.Prelude.{◌≡◌, ◌==◌, ℕ, zero, suc, Bool, false, List, [], ◌∷◌, ◌++◌, take, None, Some, Result, Ok, Err}
use Rattle.std.specs.Io.KnownBytes.{append_known}
use Rattle.std.specs.List.{list_any}
use Rattle.std.specs.Vec.Iter.{into_iter_items}
use Rattle.nats_addr.specs.Resolving.{risen}
use Rattle.nats_outside.specs.declared.fake_parts.FakeLink.{FakeLink}
use Rattle.nats_outside.specs.declared.fake_parts.FakeRead.{FakeRead}
use Rattle.nats_outside.specs.declared.fake_parts.FakeWrite.{FakeWrite}
use Rattle.nats_outside.specs.declared.fake_parts.FakeDialer.{FakeDialer}
use Rattle.nats_outside.specs.declared.fake_clock.FakeClock.{FakeClock}
use Rattle.nats_outside.specs.declared.dialer.DialWord.TheVariants as word
use Rattle.nats_outside.specs.Past.{links_of, taken_of}
use Rattle.nats_outside.specs.Told.{ReadTold, WriteTold, DialerTold, ClockTold}

-- a link that waits to be dialed
pub record IsNewLink (given : List ℕ) (n : ℕ) (reads writes : List ℕ) (l : FakeLink) : Type 0 where
  pub bytes : l.bytes ≡ given
  pub most : l.most ≡ n
  pub failing_reads : l.failing_reads.items ≡ reads
  pub failing_writes : l.failing_writes.items ≡ writes

abbrev pub read_told_of : FakeRead → ReadTold
read_told_of r = record {
  left = Some r.bytes;
  pieces = Some r.pieces.items;
  given = r.given;
  ends = r.ends;
  faults = r.faults;
  wait = r.wait;
}

abbrev pub write_told_of : FakeWrite → WriteTold
write_told_of w = record { taken = Some (taken_of w.past.value); faults = w.faults; is_shut = w.is_shut }

abbrev pub dialer_told_of : FakeDialer → DialerTold
dialer_told_of d = record {
  faults = d.faults;
  ends = d.ends;
  dials = d.dials;
  word = d.word;
  to = d.to;
  within = d.within;
  links = d.came;
  backs = d.backs;
  was_shut = d.was_shut;
  ended = Some (links_of d.ended);
}

abbrev pub clock_told_of : FakeClock → ClockTold
clock_told_of c = record { last = c.last; start = c.start; starts = c.starts; nap = c.nap; slept = c.slept }

-- a dialer that never dialed
pub record IsNewDialer (waiting : List FakeLink) (fails : List ℕ) (d : FakeDialer) : Type 0 where
  pub links : into_iter_items d.links ≡ waiting
  pub failing : d.failing.items ≡ fails
  pub told : dialer_told_of d ≡ record {
    faults = 0;
    ends = 0;
    dials = 0;
    word = word.Fine;
    to = None;
    within = 0;
    links = 0;
    backs = 0;
    was_shut = false;
    ended = Some [];
  }

-- the pieces after the first of these bytes were given
abbrev pub pieces_with : ℕ → List ℕ → List (List ℕ) → List (List ℕ)
pieces_with zero bytes pieces = pieces
pieces_with (suc n) bytes pieces = pieces ++ take (suc n) bytes ∷ []

-- what a writing half tells after it tried to keep the first of these bytes
abbrev pub kept_of : {E : Type 0} → Result ℕ E → List ℕ → WriteTold → WriteTold
kept_of (Ok n) bytes w = record w { taken = append_known w.taken (take n bytes) }
kept_of (Err e) bytes w = w

-- the next call, after so many, is one of those that fail
abbrev pub fails_next : List ℕ → ℕ → Bool
fails_next failing calls = list_any (λ n. n == risen 1 calls) failing

-- the halves of a link that waited
pub record IsLinkOf (l : FakeLink) (r : FakeRead) (w : FakeWrite) : Type 0 where
  pub bytes : r.bytes ≡ l.bytes
  pub most : r.most ≡ l.most
  pub failing_reads : r.failing.items ≡ l.failing_reads.items
  pub no_reads : r.reads ≡ 0
  pub write_most : w.most ≡ l.most
  pub failing_writes : w.failing.items ≡ l.failing_writes.items
  pub no_writes : w.writes ≡ 0

-- the first of the links that wait is dialed
abbrev pub DialsFirst : List FakeLink → List FakeLink → FakeRead → FakeWrite → Type 0
DialsFirst [] left r w = ⊥
DialsFirst (l ∷ more) left r w = IsLinkOf l r w × (left ≡ more)

-- the first of these numbers, or else this one
abbrev pub first_or : ℕ → List ℕ → ℕ
first_or n [] = n
first_or n (m ∷ more) = m
