-- What a resolver tells, and what each asking changes of it.
use Rattle.std.specs.Prelude.{ℕ, ◌+◌, ◌-◌, ◌^◌, min, max, List, [], ◌∷◌, length, codes, Option, Some, option_map, Result, Ok, Err}
use Rattle.std.specs.Global.{Vec}
use Rattle.std.specs.declared.net.socket_addr.SocketAddr.{SocketAddr}
use Rattle.nats_addr.specs.declared.resolver.AskWord.{AskWord}
use Rattle.nats_addr.specs.declared.resolver.AskWord.TheVariants as word
use Rattle.nats_addr.specs.declared.resolver.ResolveError.{ResolveError}
use Rattle.nats_addr.specs.declared.resolver.ResolveError.TheVariants as refusal

-- a count after it rose by that much: it stops at 2^64-1, and never falls
abbrev pub risen : ℕ → ℕ → ℕ
risen n before = max before (min (before + n) (2 ^ 64 - 1))

-- what a resolver tells: how often it failed, gave nothing and was asked, how many addresses it gave, the word of
-- its last answer, the host and port that it was asked for last, and the last list that it gave, where it is known
pub record ResolverTold : Type 0 where
  pub faults : ℕ
  pub empties : ℕ
  pub askings : ℕ
  pub given : ℕ
  pub word : AskWord
  pub asked : Option (List ℕ × ℕ)
  pub list : Option (List SocketAddr)

-- the word for a list, and how many empty answers it is
abbrev pub word_of_list : List SocketAddr → AskWord
word_of_list [] = word.Empty
word_of_list (a ∷ more) = word.Given

abbrev pub empties_by : List SocketAddr → ℕ
empties_by [] = 1
empties_by (a ∷ more) = 0

-- after an answer with these addresses
abbrev pub gave : List ℕ → ℕ → List SocketAddr → ResolverTold → ResolverTold
gave host port addresses r = record {
  faults = r.faults;
  empties = risen (empties_by addresses) r.empties;
  askings = risen 1 r.askings;
  given = risen (length addresses) r.given;
  word = word_of_list addresses;
  asked = Some (host, port);
  list = option_map (λ (before : List SocketAddr). addresses) r.list;
}

-- after it failed
abbrev pub failed : List ℕ → ℕ → ResolverTold → ResolverTold
failed host port r = record {
  faults = risen 1 r.faults;
  empties = r.empties;
  askings = risen 1 r.askings;
  given = r.given;
  word = word.Failed;
  asked = Some (host, port);
  list = r.list;
}

-- after memory was wanting
abbrev pub wanted : ResolverTold → ResolverTold
wanted r = record r { askings = risen 1 r.askings; word = word.NoMemory }

-- after an asking for that host and port with this answer
abbrev pub resolved : List ℕ → ℕ → Result (Vec SocketAddr) ResolveError → ResolverTold → ResolverTold
resolved host port (Ok v) r = gave host port v.items r
resolved host port (Err refusal.Failed) r = failed host port r
resolved host port (Err refusal.NoMemory) r = wanted r

-- the same where the list is seen as an iterator over it
abbrev pub resolved_all : List ℕ → ℕ → Result (List SocketAddr) ResolveError → ResolverTold → ResolverTold
resolved_all host port (Ok addresses) r = gave host port addresses r
resolved_all host port (Err refusal.Failed) r = failed host port r
resolved_all host port (Err refusal.NoMemory) r = wanted r

-- what its refusals print
abbrev pub resolve_error_text : ResolveError → List ℕ
resolve_error_text refusal.Failed = codes "the resolver failed"
resolve_error_text refusal.NoMemory = codes "out of memory"
