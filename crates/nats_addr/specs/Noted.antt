-- The resolver in memory: how it begins, what it answers, and what it keeps after it gave a list.
use Rattle.std.specs.Prelude.{◌≡◌, ◌==◌, ℕ, Bool, true, false, if◌then◌else◌, List, [], length, Some, None, Result, Ok, Err}
use Rattle.std.specs.List.{list_any}
use Rattle.std.specs.Global.{Vec}
use Rattle.std.specs.declared.net.socket_addr.SocketAddr.{SocketAddr}
use Rattle.nats_addr.specs.declared.resolver.FakeResolver.{FakeResolver}
use Rattle.nats_addr.specs.declared.resolver.Manner.{Manner}
use Rattle.nats_addr.specs.declared.resolver.Manner.TheVariants.{Tells}
use Rattle.nats_addr.specs.declared.resolver.AskWord.TheVariants as word
use Rattle.nats_addr.specs.declared.resolver.ResolveError.{ResolveError}
use Rattle.nats_addr.specs.declared.resolver.ResolveError.TheVariants as refusal
use Rattle.nats_addr.specs.Resolving.{ResolverTold, risen, word_of_list, empties_by}

-- what it tells
abbrev pub told_by : FakeResolver → ResolverTold
told_by r = record {
  faults = r.faults;
  empties = r.empties;
  askings = r.askings;
  given = r.given;
  word = r.word;
  asked = r.asked;
  list = Some (if r.has_given then r.addresses.items else []);
}

-- what it keeps after it gave this list
abbrev pub noted : List SocketAddr → FakeResolver → FakeResolver
noted addresses r = record r {
  empties = risen (empties_by addresses) r.empties;
  given = risen (length addresses) r.given;
  word = word_of_list addresses;
  has_given = true;
}

-- a resolver that was never asked: what it does, what it gives, and at which askings it fails
pub record NewFake (does : Manner) (gives : List SocketAddr) (fails : List ℕ) (r : FakeResolver) : Type 0 where
  pub manner : r.manner ≡ does
  pub addresses : r.addresses.items ≡ gives
  pub failing : r.failing.items ≡ fails
  pub faults : r.faults ≡ 0
  pub empties : r.empties ≡ 0
  pub askings : r.askings ≡ 0
  pub given : r.given ≡ 0
  pub word : r.word ≡ word.Empty
  pub has_given : r.has_given ≡ false
  pub asked : r.asked ≡ None

-- the next asking is one of those that it fails at
abbrev pub fails_next : FakeResolver → Bool
fails_next r = list_any (λ n. n == risen 1 r.askings) r.failing.items

-- what it answers next: its list or a failure, as its maker said; want of memory comes at any asking
abbrev pub FakeAnswers : FakeResolver → Result (Vec SocketAddr) ResolveError → Type 0
FakeAnswers r (Ok v) = (r.manner ≡ Tells) × (v.items ≡ r.addresses.items) × (fails_next r ≡ false)
FakeAnswers r (Err refusal.Failed) = (r.manner ≡ Tells) × (fails_next r ≡ true)
FakeAnswers r (Err refusal.NoMemory) = Unit {0}
