-- Counts that rise, and causes that go on from an earlier moment.
use Rattle.std.proofs.Common.{◌≡◌, refl, ap, ◌≢◌, inl, inr, ℕ, zero, suc, ◌+◌, ◌-◌, ◌≤◌, arith, Bool, true, false, List, ◌∷◌, Option, Result, if◌then◌else◌}
use Rattle.std.proofs.lemmas.Bool.{false≢true}
use Rattle.nats_addr.specs.Resolving.{risen}
use Rattle.nats_pool.specs.Auths.{AuthValue}
use Rattle.nats_pool.specs.declared.pool_parts.Planned.{Planned}
use Rattle.nats_outside.specs.Counts.{Rose, RoseBy}
use Rattle.nats_outside.specs.Told.{Seen, word_of}
use Rattle.nats_outside.specs.declared.dialer.DialWord.{DialWord}
use Rattle.nats_outside.specs.declared.dialer.DialWord.TheVariants as word
use Rattle.nats_handshake.specs.Errors.{Failure}
use Rattle.nats_dial.specs.Causes.{Onward, EachDialed, LinkCause, ServerCause, last_tls}

pub rose_later : (a b c : ℕ) → a ≤ b → Rose b c → Rose a c
rose_later a b c le rose = omega (arith, le, rose)

pub rose_less : (m n a b : ℕ) → m ≤ n → RoseBy n a b → RoseBy m a b
rose_less m n a b le rose = omega (arith, le, rose)

pub rose_on : (m n a b c : ℕ) → RoseBy m a b → RoseBy n b c → RoseBy (m + n) a c
rose_on m n a b c first second = omega (arith, first, second)

pub risen_rose : (n a : ℕ) → RoseBy n a (risen n a)
risen_rose n a = omega arith

pub risen_later : (n a : ℕ) → a ≤ risen n a
risen_later n a = omega arith

pub given_less : (n a : ℕ) → risen n a - a ≤ n
given_less n a = omega arith

pub onward_same : (a : Seen) → Onward a a
onward_same a = record {
  dial_faults = omega arith;
  ends = omega arith;
  dials = omega arith;
  ask_faults = omega arith;
  empties = omega arith;
  askings = omega arith;
  given = omega arith;
  starts = omega arith;
}

pub onward_on : (a b c : Seen) → Onward a b → Onward b c → Onward a c
onward_on a b c x y = record {
  dial_faults = omega (arith, x.dial_faults, y.dial_faults);
  ends = omega (arith, x.ends, y.ends);
  dials = omega (arith, x.dials, y.dials);
  ask_faults = omega (arith, x.ask_faults, y.ask_faults);
  empties = omega (arith, x.empties, y.empties);
  askings = omega (arith, x.askings, y.askings);
  given = omega (arith, x.given, y.given);
  starts = omega (arith, x.starts, y.starts);
}

pub dialed_on : (a b c : Seen) → Onward a b → Onward b c → EachDialed a b → EachDialed b c → EachDialed a c
dialed_on a b c x y first second = omega (arith, x.given, y.given, x.dials, y.dials, first, second)

pub one_each : (x : Bool) → (if x then 1 else 0) + (if x then 0 else 1) ≡ 1
one_each true = refl
one_each false = refl

-- a word tells of no failure and no end
abbrev pub is_fine : DialWord → Bool
is_fine word.Fine = true
is_fine word.Ended = false
is_fine word.Failed = false

-- the word of a link with a failure or an end
pub failed_word : (f g e : ℕ) → 1 ≤ f + g → word_of f g e ≢ word.Fine
failed_word zero zero e le = absurd (omega (arith, le))
failed_word zero (suc g) e le = λ is. false≢true (ap is_fine is)
failed_word (suc f) g e le = λ is. false≢true (ap is_fine is)

pub ended_word : (f g e : ℕ) → 1 ≤ e → word_of f g e ≢ word.Fine
ended_word zero zero zero le = absurd (omega (arith, le))
ended_word zero zero (suc e) le = λ is. false≢true (ap is_fine is)
ended_word zero (suc g) e le = λ is. false≢true (ap is_fine is)
ended_word (suc f) g e le = λ is. false≢true (ap is_fine is)

module _ {P : Type 0} (Takes : P → P → List (List ℕ) → List (List ℕ) → Type 0)
    (Offers : List ℕ → Result AuthValue (List ℕ) → Type 0) (by_option : Bool) (name : Option (List ℕ)) (no_echo : Bool)
    (timeout : ℕ)
  where
    pub link_on : (by_scheme : Bool) (a c : Seen) (e : Failure) (b : Seen) → Onward a c
        → LinkCause Takes Offers by_option name no_echo timeout by_scheme c e b
        → LinkCause Takes Offers by_option name no_echo timeout by_scheme a e b
    link_on by_scheme a c e b on (inl is) = inl is
    link_on by_scheme a c e b on (inr (inl (is, late))) = inr (inl (
      is,
      record {
        started = rose_later a.clock.starts c.clock.starts b.clock.starts on.starts late.started;
        awake = late.awake;
        late = late.late;
      },
    ))
    link_on by_scheme a c e b on (inr (inr (inl (is, why)))) = inr (inr (inl (
      is,
      (rose_later a.dialer.faults c.dialer.faults b.dialer.faults on.dial_faults why.0, why.1),
    )))
    link_on by_scheme a c e b on (inr (inr (inr (inl (text, gave, is, why))))) = inr (inr (inr (inl (
      text,
      gave,
      is,
      (rose_later a.dialer.ends c.dialer.ends b.dialer.ends on.ends why.0, why.1),
    ))))
    link_on by_scheme a c e b on (inr (inr (inr (inr why)))) = inr (inr (inr (inr why)))

    -- why these servers gave none, since an earlier moment
    pub server_since : (tried : List Planned) (a c : Seen) (e : Failure) (b : Seen) → Onward a c
        → ServerCause Takes Offers by_option name no_echo timeout tried c e b
        → ServerCause Takes Offers by_option name no_echo timeout tried a e b
    server_since tried a c e b on (inl (is, rose, last)) = inl (
      is,
      rose_later a.resolver.faults c.resolver.faults b.resolver.faults on.ask_faults rose,
      last,
    )
    server_since tried a c e b on (inr (inl (is, rose, last))) = inr (inl (
      is,
      rose_later a.resolver.empties c.resolver.empties b.resolver.empties on.empties rose,
      last,
    ))
    server_since tried a c e b on (inr (inr (inl why))) = inr (inr (inl why))
    server_since tried a c e b on (inr (inr (inr why))) = inr (inr (inr (link_on (last_tls tried) a c e b on why)))

    -- the same with one more that was tried before them
    pub server_on : (first second : Planned) (more : List Planned) (a c : Seen) (e : Failure) (b : Seen) → Onward a c
        → ServerCause Takes Offers by_option name no_echo timeout (second ∷ more) c e b
        → ServerCause Takes Offers by_option name no_echo timeout (first ∷ second ∷ more) a e b
    server_on first second more a c e b on why = server_since (second ∷ more) a c e b on why
