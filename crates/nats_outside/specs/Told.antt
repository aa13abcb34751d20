-- What the outside tells, and what each call changes of it.
use Rattle.std.specs.Prelude.{◌≡◌, ◌⊎◌, ℕ, zero, suc, ◌+◌, min, Bool, true, false, List, [], ◌∷◌, ◌++◌, take, Option, Some, None, option_map, Result, Ok, Err}
use Rattle.std.specs.Io.KnownBytes.{append_known}
use Rattle.std.specs.declared.net.socket_addr.SocketAddr.{SocketAddr}
use Rattle.nats_addr.specs.Resolving.{ResolverTold, risen}
use Rattle.nats_outside.specs.declared.dialer.DialWord.{DialWord}
use Rattle.nats_outside.specs.declared.dialer.DialWord.TheVariants as word

-- ---- the reading half of a link: the bytes left and the pieces given so far, where they are known, its counts, and
-- how many milliseconds a read may wait for bytes, where it was told so

pub record ReadTold : Type 0 where
  pub left : Option (List ℕ)
  pub pieces : Option (List (List ℕ))
  pub given : ℕ
  pub ends : ℕ
  pub faults : ℕ
  pub wait : Option ℕ

-- the pieces after a read gave the first n of these bytes
abbrev pub piece_more : ℕ → List ℕ → Option (List (List ℕ)) → Option (List (List ℕ))
piece_more zero buf pieces = pieces
piece_more (suc n) buf pieces = option_map (λ (ps : List (List ℕ)). ps ++ take (suc n) buf ∷ []) pieces

-- how many ends a read of n bytes into a buffer met
abbrev pub ends_met : ℕ → List ℕ → ℕ
ends_met zero [] = 0
ends_met zero (room ∷ more) = 1
ends_met (suc n) buf = 0

-- what the half tells after a read; of the bytes left the clause of the call speaks
abbrev pub read_of : {E : Type 0} → Result ℕ E → List ℕ → Option (List ℕ) → ReadTold → ReadTold
read_of (Ok n) buf left r = record {
  left = left;
  pieces = piece_more n buf r.pieces;
  given = risen n r.given;
  ends = risen (ends_met n buf) r.ends;
  faults = r.faults;
  wait = r.wait;
}
read_of (Err e) buf left r = record r { faults = risen 1 r.faults }

-- it was told how long a read may wait
abbrev pub bounded : Option ℕ → ReadTold → ReadTold
bounded ms r = record r { wait = ms }

-- ---- the writing half of a link: the bytes taken, where they are known, its failures, and whether it was shut

pub record WriteTold : Type 0 where
  pub taken : Option (List ℕ)
  pub faults : ℕ
  pub is_shut : Bool

abbrev pub write_of : {E : Type 0} → Result ℕ E → List ℕ → WriteTold → WriteTold
write_of (Ok n) bytes w = record w { taken = append_known w.taken (take n bytes) }
write_of (Err e) bytes w = record w { faults = risen 1 w.faults }

-- ---- a dialer: its counts, its last word, the address that it dialed last and the milliseconds that it had for
-- that, how many links came of its dials and how many were handed back, whether the last of those had been shut, and
-- of each link handed back the pieces that it gave and the bytes that it took, where all of them are known

pub record DialerTold : Type 0 where
  pub faults : ℕ
  pub ends : ℕ
  pub dials : ℕ
  pub word : DialWord
  pub to : Option SocketAddr
  pub within : ℕ
  pub links : ℕ
  pub backs : ℕ
  pub was_shut : Bool
  pub ended : Option (List (List (List ℕ) × List ℕ))

abbrev pub dialed : {L E : Type 0} → SocketAddr → ℕ → Result L E → DialerTold → DialerTold
dialed to within (Ok link) d = record d {
  dials = risen 1 d.dials;
  word = word.Fine;
  to = Some to;
  within = within;
  links = risen 1 d.links;
}
dialed to within (Err e) d = record d {
  dials = risen 1 d.dials;
  faults = risen 1 d.faults;
  word = word.Failed;
  to = Some to;
  within = within;
}

-- a link as it begins
pub record IsFresh (r : ReadTold) (w : WriteTold) : Type 0 where
  pub no_pieces : (r.pieces ≡ None) ⊎ (r.pieces ≡ Some [])
  pub no_ends : r.ends ≡ 0
  pub no_faults : r.faults ≡ 0
  pub no_wait : r.wait ≡ None
  pub no_taken : (w.taken ≡ None) ⊎ (w.taken ≡ Some [])
  pub no_write_faults : w.faults ≡ 0
  pub not_shut : w.is_shut ≡ false

-- the word of a link handed back with that many failures of its halves, and ends
abbrev pub word_of : ℕ → ℕ → ℕ → DialWord
word_of zero zero zero = word.Fine
word_of zero zero (suc e) = word.Ended
word_of zero (suc g) e = word.Failed
word_of (suc f) g e = word.Failed

-- one more link that was handed back
abbrev pub ended_more : Option (List (List ℕ)) → Option (List ℕ) → Option (List (List (List ℕ) × List ℕ))
    → Option (List (List (List ℕ) × List ℕ))
ended_more (Some pieces) (Some taken) (Some links) = Some (links ++ (pieces, taken) ∷ [])
ended_more (Some pieces) (Some taken) None = None
ended_more (Some pieces) None links = None
ended_more None taken links = None

abbrev pub hung_up : ReadTold → WriteTold → DialerTold → DialerTold
hung_up r w d = record {
  faults = risen (min 1 (r.faults + w.faults)) d.faults;
  ends = risen (min 1 r.ends) d.ends;
  dials = d.dials;
  word = word_of r.faults w.faults r.ends;
  to = d.to;
  within = d.within;
  links = d.links;
  backs = risen 1 d.backs;
  was_shut = w.is_shut;
  ended = ended_more r.pieces w.taken d.ended;
}

-- ---- a clock: the value that it gave last, its last start, how many starts, how long it was told to sleep last, and
-- whether it slept since the last start

pub record ClockTold : Type 0 where
  pub last : ℕ
  pub start : ℕ
  pub starts : ℕ
  pub nap : ℕ
  pub slept : Bool

abbrev pub started : ℕ → ClockTold → ClockTold
started now c = record c { last = now; start = now; starts = risen 1 c.starts; slept = false }

abbrev pub looked : ℕ → ClockTold → ClockTold
looked now c = record c { last = now }

abbrev pub slept : ℕ → ClockTold → ClockTold
slept ms c = record c { nap = ms; slept = true }

-- ---- what all parts of a world tell

pub record Seen : Type 0 where
  pub dialer : DialerTold
  pub resolver : ResolverTold
  pub clock : ClockTold
