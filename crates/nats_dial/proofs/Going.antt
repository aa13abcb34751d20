-- What is left of the addresses of a server, and of the servers of a round.
use Rattle.std.proofs.Common.{◌≡◌, refl, ◌∙◌, ap, subst, inl, inr, ℕ, zero, suc, ◌+◌, ◌≤◌, ◌<◌, arith, Bool, false, List, [], ◌∷◌, length, drop, get_or, Option, Result, Ok, Err}
use Rattle.std.proofs.lemmas.List.{drop_more, drop_all}
use Rattle.std.specs.declared.net.socket_addr.SocketAddr.{SocketAddr}
use Rattle.url.specs.Parts.{Parts}
use Rattle.nats_addr.specs.Addr.{host_name, port_of}
use Rattle.nats_addr.specs.Resolving.{gave, failed, wanted}
use Rattle.nats_addr.specs.declared.resolver.ResolveError.TheVariants as refusal
use Rattle.nats_info.specs.declared.info.ServerInfo.{ServerInfo}
use Rattle.nats_pool.specs.Auths.{AuthValue}
use Rattle.nats_pool.specs.Handing.{RoundTold, HandsNext, left_of}
use Rattle.nats_pool.specs.declared.pool_parts.Attempt.{Attempt}
use Rattle.nats_pool.specs.declared.pool_parts.Choice.{Choice}
use Rattle.nats_pool.specs.declared.pool_parts.Next.{Next}
use Rattle.nats_pool.specs.declared.pool_parts.Next.TheVariants as next
use Rattle.nats_pool.specs.declared.pool_parts.Outcome.{Outcome}
use Rattle.nats_outside.specs.Told.{Seen, ReadTold, WriteTold}
use Rattle.nats_handshake.specs.Errors.{Failure}
use Rattle.nats_handshake.specs.Shaking.{wanting}
use Rattle.nats_dial.specs.declared.linked.Linked.{Linked}
use Rattle.nats_dial.specs.Tries.{Tries, TriesEach, VisitsWhere, Visits, GoesThrough, Ends, ends_round, no_address, unresolved, too_many}

some_left : {A : Type 0} (n : ℕ) (xs : List A) → 1 + n ≤ length xs → (x : A) × (more : List A) × (drop n xs ≡ x ∷ more)
some_left n [] le = absurd (omega (arith, le))
some_left zero (x ∷ xs) le = (x, xs, refl)
some_left (suc n) (x ∷ xs) le = some_left n xs (omega (arith, le))

module _ {P R T : Type 0} (Takes : P → P → List (List ℕ) → List (List ℕ) → Type 0)
    (Counts : Parts → Outcome → P → P → Type 0) (Hands : P → P → Next → Type 0) (Begins : ServerInfo → P → P → Choice → Type 0)
    (told : P → RoundTold)
    (Offers : List ℕ → Result AuthValue (List ℕ) → Type 0) (by_option : Bool) (name : Option (List ℕ)) (no_echo : Bool)
    (timeout : ℕ) (read_of : R → ReadTold) (write_of : T → WriteTold)
  where
    -- the next address gave a link or ended the round
    pub each_ends : (addr : Parts) (xs : List SocketAddr) (i : ℕ) (d : SocketAddr) (last : Failure) (a : Seen) (p : P)
        (result : Result (Linked R T) Failure) (b : Seen) (q : P) → i < length xs
        → Tries Takes Counts Hands Begins told Offers by_option name no_echo timeout read_of write_of addr (get_or xs i d) a p result b q
        → Ends Takes Counts Hands Begins told Offers by_option name no_echo timeout read_of write_of result
        → TriesEach Takes Counts Hands Begins told Offers by_option name no_echo timeout read_of write_of
        addr (drop i xs) last a p result b q
    each_ends addr xs i d last a p result b q less tries ends = rw (drop_more xs i d less) (inl (tries, ends))

    -- it gave none, and the others are tried
    pub each_on : (addr : Parts) (xs : List SocketAddr) (i : ℕ) (d : SocketAddr) (last : Failure) (a : Seen) (p : P)
        (e : Failure) (c : Seen) (m : P)
        (result : Result (Linked R T) Failure) (b : Seen) (q : P) → i < length xs
        → Tries Takes Counts Hands Begins told Offers by_option name no_echo timeout read_of write_of addr (get_or xs i d) a p (Err e) c m
        → ends_round e.0 ≡ false
        → TriesEach Takes Counts Hands Begins told Offers by_option name no_echo timeout read_of write_of
        addr (drop (i + 1) xs) e c m result b q
        → TriesEach Takes Counts Hands Begins told Offers by_option name no_echo timeout read_of write_of
        addr (drop i xs) last a p result b q
    each_on addr xs i d last a p e c m result b q less tries goes rest =
        rw (drop_more xs i d less) (inr (e, c, m, tries, goes, rest))

    -- none is left
    pub each_over : (addr : Parts) (xs : List SocketAddr) (i : ℕ) (last : Failure) (a : Seen) (p : P) → length xs ≤ i
        → TriesEach Takes Counts Hands Begins told Offers by_option name no_echo timeout read_of write_of
        addr (drop i xs) last a p (Err last) a p
    each_over addr xs i last a p over = rw (drop_all i xs over) (refl, refl, refl)

    -- no server is left
    pub goes_over : (last : Failure) (a : Seen) (p q : P) → Hands p q next.Over → HandsNext (told p) next.Over (told q)
        → GoesThrough Takes Counts Hands Begins told Offers by_option name no_echo timeout read_of write_of
        (left_of (told p)) last a p (Err last) a q
    goes_over last a p q hands over = rw (drop_all (told p).handed (told p).round over.0) (hands, refl, refl)

    -- the attempts passed their limit
    pub goes_spent : (last : Failure) (a : Seen) (p q : P) → Hands p q next.MaxReconnects
        → HandsNext (told p) next.MaxReconnects (told q)
        → GoesThrough Takes Counts Hands Begins told Offers by_option name no_echo timeout read_of write_of
        (left_of (told p)) last a p (Err too_many) a q
    goes_spent last a p q hands spent =
        let some = some_left (told p).handed (told p).round spent.0 in
        rw some.2 (inl (hands, refl, refl))

    -- the next server gave a link or ended the round
    pub goes_ends : (last : Failure) (a : Seen) (p n : P) (attempt : Attempt) (result : Result (Linked R T) Failure) (b : Seen) (q : P)
        → Hands p n (next.Try attempt) → HandsNext (told p) (next.Try attempt) (told n)
        → Visits Takes Counts Hands Begins told Offers by_option name no_echo timeout read_of write_of
        attempt.addr attempt.delay a n result b q
        → Ends Takes Counts Hands Begins told Offers by_option name no_echo timeout read_of write_of result
        → GoesThrough Takes Counts Hands Begins told Offers by_option name no_echo timeout read_of write_of
        (left_of (told p)) last a p result b q
    goes_ends last a p n attempt result b q hands there visits ends = rw there.1 (inr (
      attempt,
      n,
      hands,
      there.2,
      inl (
        subst (λ (addr : Parts). Visits Takes Counts Hands Begins told Offers by_option name no_echo timeout read_of write_of
            addr attempt.delay a n result b q) there.2 visits,
        ends,
      ),
    ))

    -- it gave none, and those that are left are tried
    pub goes_on : (last : Failure) (a : Seen) (p n : P) (attempt : Attempt) (e : Failure) (c : Seen) (m : P)
        (result : Result (Linked R T) Failure) (b : Seen) (q : P)
        → Hands p n (next.Try attempt) → HandsNext (told p) (next.Try attempt) (told n)
        → Visits Takes Counts Hands Begins told Offers by_option name no_echo timeout read_of write_of
        attempt.addr attempt.delay a n (Err e) c m
        → ends_round e.0 ≡ false → told m ≡ told n
        → GoesThrough Takes Counts Hands Begins told Offers by_option name no_echo timeout read_of write_of
        (left_of (told m)) e c m result b q
        → GoesThrough Takes Counts Hands Begins told Offers by_option name no_echo timeout read_of write_of
        (left_of (told p)) last a p result b q
    goes_on last a p n attempt e c m result b q hands there visits goes stays rest = rw there.1 (inr (
      attempt,
      n,
      hands,
      there.2,
      inr (
        e,
        c,
        m,
        subst (λ (addr : Parts). Visits Takes Counts Hands Begins told Offers by_option name no_echo timeout read_of write_of
            addr attempt.delay a n (Err e) c m) there.2 visits,
        goes,
        subst (λ (t : RoundTold). GoesThrough Takes Counts Hands Begins told Offers by_option name no_echo timeout
            read_of write_of (left_of t) e c m result b q) stays rest,
      ),
    ))

    -- fewer are left
    pub goes_less : (p n m : P) (attempt : Attempt) → HandsNext (told p) (next.Try attempt) (told n) → told m ≡ told n
        → length (left_of (told m)) < length (left_of (told p))
    goes_less p n m attempt there stays = rw (there.1, stays) (omega arith)

    -- a server was asked for, and its addresses are tried
    pub asks_given : (addr : Parts) (xs ys : List SocketAddr) (host : List ℕ) (port : ℕ) (a c : Seen) (p : P)
        (result : Result (Linked R T) Failure) (b : Seen) (q : P) → host ≡ host_name addr → port ≡ port_of addr → ys ≡ xs
        → c ≡ record a { resolver = gave host port xs a.resolver }
        → TriesEach Takes Counts Hands Begins told Offers by_option name no_echo timeout read_of write_of
        addr ys no_address c p result b q
        → VisitsWhere Takes Counts Hands Begins told Offers by_option name no_echo timeout read_of write_of
        false addr a p result b q
    asks_given addr xs ys host port a c p result b q by_host by_port same asked tries =
        let at : c ≡ record a { resolver = gave (host_name addr) (port_of addr) xs a.resolver } =
        asked ∙ ap (λ (h : List ℕ). record a { resolver = gave h port xs a.resolver }) by_host
        ∙ ap (λ (n : ℕ). record a { resolver = gave (host_name addr) n xs a.resolver }) by_port in (
          Ok xs,
          subst (λ (s : Seen). TriesEach Takes Counts Hands Begins told Offers by_option name no_echo timeout read_of write_of
              addr xs no_address s p result b q) at
              (subst (λ (l : List SocketAddr). TriesEach Takes Counts Hands Begins told Offers by_option name no_echo timeout
              read_of write_of addr l no_address c p result b q) same tries),
        )

    -- the resolver failed
    pub asks_failed : (addr : Parts) (host : List ℕ) (port : ℕ) (a : Seen) (p : P) (e : Failure) (b : Seen)
        → host ≡ host_name addr → port ≡ port_of addr → e ≡ unresolved
        → b ≡ record a { resolver = failed host port a.resolver }
        → VisitsWhere Takes Counts Hands Begins told Offers by_option name no_echo timeout read_of write_of
        false addr a p (Err e) b p
    asks_failed addr host port a p e b by_host by_port is asked = (
      Err refusal.Failed,
      (
        ap (λ (f : Failure). Err f) is,
        asked ∙ ap (λ (h : List ℕ). record a { resolver = failed h port a.resolver }) by_host
            ∙ ap (λ (n : ℕ). record a { resolver = failed (host_name addr) n a.resolver }) by_port,
        refl,
      ),
    )

    -- memory was wanting for it
    pub asks_wanting : (addr : Parts) (a : Seen) (p : P) (e : Failure) (b : Seen) → e ≡ wanting
        → b ≡ record a { resolver = wanted a.resolver }
        → VisitsWhere Takes Counts Hands Begins told Offers by_option name no_echo timeout read_of write_of
        false addr a p (Err e) b p
    asks_wanting addr a p e b is asked = (Err refusal.NoMemory, (ap (λ (f : Failure). Err f) is, asked, refl))
