-- How many links came and were handed back in a round, and a round that gave a link.
use Rattle.std.proofs.Common.{◌≡◌, refl, ◌∙◌, sym, ap, arith, inl, inr, ℕ, zero, suc, ◌+◌, ◌<◌, Bool, true, false, List, [], ◌∷◌, ◌++◌, drop, append_assoc, append-nil, Option, Some, None, Result, Ok, Err}
use Rattle.std.specs.declared.net.socket_addr.SocketAddr.{SocketAddr}
use Rattle.url.specs.Parts.{Parts}
use Rattle.nats_info.specs.declared.info.ServerInfo.{ServerInfo}
use Rattle.nats_addr.specs.Addr.{is_tls, is_websocket, host_name, port_of}
use Rattle.nats_addr.specs.Resolving.{risen}
use Rattle.nats_addr.specs.declared.resolver.ResolveError.{ResolveError}
use Rattle.nats_addr.specs.declared.resolver.ResolveError.TheVariants as refusal
use Rattle.nats_pool.specs.Auths.{AuthValue}
use Rattle.nats_pool.specs.Handing.{RoundTold, IsBegun, HandsNext, left_of, handed_on, told_of}
use Rattle.nats_pool.specs.declared.pool_parts.Choice.{Choice}
use Rattle.nats_pool.specs.declared.pool_parts.Next.{Next}
use Rattle.nats_pool.specs.declared.pool_parts.Next.TheVariants as next
use Rattle.nats_pool.specs.declared.pool_parts.Outcome.{Outcome}
use Rattle.nats_pool.specs.declared.pool_parts.Outcome.TheVariants as outcome
use Rattle.nats_pool.specs.declared.pool_parts.Planned.{Planned}
use Rattle.nats_outside.specs.Counts.{Rose}
use Rattle.nats_outside.specs.Told.{Seen, DialerTold, ReadTold, WriteTold, ended_more}
use Rattle.nats_handshake.specs.Errors.{Failure}
use Rattle.nats_dial.specs.declared.linked.Linked.{Linked}
use Rattle.nats_dial.specs.Began.{BeganWell}
use Rattle.nats_dial.specs.Causes.{Onward, Grew, raised, AllBack, OneOut, CameUp}
use Rattle.nats_dial.specs.Tries.{Unreached, Tries, TriesEach, Asks, VisitsWhere, Visits, GoesThrough, Connects, IsUp, rested, returned, no_address, all_failed}
use Rattle.nats_dial.proofs.Onwards.{onward_on, rose_later, risen_rose}
use Rattle.nats_dial.proofs.Causing.{up_onward, asked, asked_onward, rested_onward, tried_cause, visited_cause, connects_went}

-- ---- counts that rise so many times, and lists that grow

raised_twice : (m n a : ℕ) → raised m (raised n a) ≡ raised (m + n) a
raised_twice zero n a = let same : n ≡ 0 + n = omega arith in ap (λ (k : ℕ). raised k a) same
raised_twice (suc m) n a =
    let same : suc (m + n) ≡ suc m + n = omega arith in
    ap (risen 1) (raised_twice m n a) ∙ ap (λ (k : ℕ). raised k a) same

grew_same : {L : Type 0} (known : Option (List L)) → Grew known known
grew_same None = tt
grew_same (Some links) = (links, [], refl, sym (append-nil links))

grew_on : {L : Type 0} (a b c : Option (List L)) → Grew a b → Grew b c → Grew a c
grew_on a b None first second = tt
grew_on a None (Some links) first (old, more, none, is) = cc
grew_on a (Some mid) (Some links) (old, more, is, joined) (old2, more2, is2, joined2) =
    let same : mid ≡ old2 = cc in (
      old,
      more ++ more2,
      is,
      joined2 ∙ (ap (λ l. l ++ more2) (sym same ∙ joined) ∙ append_assoc old more more2),
    )

grew_ended : (pieces : Option (List (List ℕ))) (taken : Option (List ℕ))
    (links : Option (List (List (List ℕ) × List ℕ))) → Grew links (ended_more pieces taken links)
grew_ended (Some ps) (Some bytes) (Some links) = (links, (ps, bytes) ∷ [], refl, refl)
grew_ended (Some ps) (Some bytes) None = tt
grew_ended (Some ps) None links = tt
grew_ended None taken links = tt

pub back_kept : (a b : Seen) → b.dialer ≡ a.dialer → AllBack a b
back_kept a b same = record {
  number = 0;
  links = ap (λ (d : DialerTold). d.links) same;
  backs = ap (λ (d : DialerTold). d.backs) same;
  ended = rw same (grew_same a.dialer.ended);
}

pub back_on : (a b c : Seen) → AllBack a b → AllBack b c → AllBack a c
back_on a b c x y = record {
  number = y.number + x.number;
  links = y.links ∙ (ap (raised y.number) x.links ∙ raised_twice y.number x.number a.dialer.links);
  backs = y.backs ∙ (ap (raised y.number) x.backs ∙ raised_twice y.number x.number a.dialer.backs);
  ended = grew_on a.dialer.ended b.dialer.ended c.dialer.ended x.ended y.ended;
}

pub out_on : (a b c : Seen) → AllBack a b → OneOut b c → OneOut a c
out_on a b c x y = record {
  number = y.number + x.number;
  links = y.links ∙ (ap (raised (suc y.number)) x.links ∙ ap (risen 1) (raised_twice y.number x.number a.dialer.links));
  backs = y.backs ∙ (ap (raised y.number) x.backs ∙ raised_twice y.number x.number a.dialer.backs);
  ended = grew_on a.dialer.ended b.dialer.ended c.dialer.ended x.ended y.ended;
}

-- the one that was out is handed back
pub out_back : (a b c : Seen) (pieces : Option (List (List ℕ))) (taken : Option (List ℕ)) → OneOut a b
    → c.dialer.links ≡ b.dialer.links → c.dialer.backs ≡ risen 1 b.dialer.backs
    → c.dialer.ended ≡ ended_more pieces taken b.dialer.ended → AllBack a c
out_back a b c pieces taken out links backs ended = record {
  number = suc out.number;
  links = links ∙ out.links;
  backs = backs ∙ ap (risen 1) out.backs;
  ended = rw ended (grew_on a.dialer.ended b.dialer.ended (ended_more pieces taken b.dialer.ended) out.ended
      (grew_ended pieces taken b.dialer.ended));
}

module _ {P R T : Type 0} (Takes : P → P → List (List ℕ) → List (List ℕ) → Type 0)
    (Counts : Parts → Outcome → P → P → Type 0) (Hands : P → P → Next → Type 0) (Begins : ServerInfo → P → P → Choice → Type 0)
    (told : P → RoundTold)
    (Offers : List ℕ → Result AuthValue (List ℕ) → Type 0) (by_option : Bool) (name : Option (List ℕ)) (no_echo : Bool)
    (timeout : ℕ) (read_of : R → ReadTold) (write_of : T → WriteTold)
  where
    -- ---- where no link is given, each that came was handed back

    reached_back : (addr : Parts) (to : SocketAddr) (a : Seen) (e : Failure) (b : Seen)
        → Unreached Takes Counts Hands Begins told Offers by_option name no_echo timeout read_of write_of addr to a e b
        → AllBack a b
    reached_back addr to a e b (inl (start, is, eq)) =
        rw eq (record { number = 0; links = refl; backs = refl; ended = grew_same a.dialer.ended })
    reached_back addr to a e b (inr (start, look, r, w, eq, why)) = rw eq (record {
      number = 1;
      links = refl;
      backs = refl;
      ended = grew_ended r.pieces w.taken a.dialer.ended;
    })

    tried_back : (addr : Parts) (to : SocketAddr) (a : Seen) (p : P) (e : Failure) (b : Seen) (q : P)
        → Tries Takes Counts Hands Begins told Offers by_option name no_echo timeout read_of write_of addr to a p (Err e) b q
        → AllBack a b
    tried_back addr to a p e b q t = reached_back addr to a t.0 b t.2.0

    each_back : (addr : Parts) (xs : List SocketAddr) (last : Failure) (a : Seen) (p : P) (e : Failure) (b : Seen) (q : P)
        → TriesEach Takes Counts Hands Begins told Offers by_option name no_echo timeout read_of write_of addr xs last a p (Err e) b q
        → AllBack a b
    each_back addr [] last a p e b q (is, same, stays) = back_kept a b (ap (λ (s : Seen). s.dialer) same)
    each_back addr (to ∷ more) last a p e b q (inl (tries, ends)) = tried_back addr to a p e b q tries
    each_back addr (to ∷ more) last a p e b q (inr (e1, c, m, tries, goes, rest)) =
        back_on a c b (tried_back addr to a p e1 c m tries) (each_back addr more e1 c m e b q rest)

    asks_back : (addr : Parts) (answer : Result (List SocketAddr) ResolveError) (a : Seen) (p : P) (e : Failure) (b : Seen) (q : P)
        → Asks Takes Counts Hands Begins told Offers by_option name no_echo timeout read_of write_of addr answer a p (Err e) b q
        → AllBack a b
    asks_back addr (Ok xs) a p e b q tries =
        back_on a (asked addr xs a) b (back_kept a (asked addr xs a) refl)
        (each_back addr xs no_address (asked addr xs a) p e b q tries)
    asks_back addr (Err refusal.Failed) a p e b q (is, same, stays) = back_kept a b (ap (λ (s : Seen). s.dialer) same)
    asks_back addr (Err refusal.NoMemory) a p e b q (is, same, stays) = back_kept a b (ap (λ (s : Seen). s.dialer) same)

    visits_back : (is_ws : Bool) (addr : Parts) (a : Seen) (p : P) (e : Failure) (b : Seen) (q : P)
        → VisitsWhere Takes Counts Hands Begins told Offers by_option name no_echo timeout read_of write_of is_ws addr a p (Err e) b q
        → AllBack a b
    visits_back true addr a p e b q (is, same, stays) = back_kept a b (ap (λ (s : Seen). s.dialer) same)
    visits_back false addr a p e b q (answer, asks) = asks_back addr answer a p e b q asks

    visited_back : (addr : Parts) (delay : ℕ) (a : Seen) (p : P) (e : Failure) (b : Seen) (q : P)
        → Visits Takes Counts Hands Begins told Offers by_option name no_echo timeout read_of write_of addr delay a p (Err e) b q
        → AllBack a b
    visited_back addr delay a p e b q v =
        back_on a (rested delay a) b (back_kept a (rested delay a) refl)
        (visits_back (is_websocket addr) addr (rested delay a) p e b q v)

    goes_back : (left : List Planned) (last : Failure) (a : Seen) (p : P) (e : Failure) (b : Seen) (q : P)
        → GoesThrough Takes Counts Hands Begins told Offers by_option name no_echo timeout read_of write_of left last a p (Err e) b q
        → AllBack a b
    goes_back [] last a p e b q (hands, is, same) = back_kept a b (ap (λ (s : Seen). s.dialer) same)
    goes_back (s ∷ more) last a p e b q (inl (hands, is, same)) = back_kept a b (ap (λ (s : Seen). s.dialer) same)
    goes_back (s ∷ more) last a p e b q (inr (attempt, n, hands, there, inl (visits, ends))) =
        visited_back s.addr attempt.delay a n e b q visits
    goes_back (s ∷ more) last a p e b q (inr (attempt, n, hands, there, inr (e1, c, m, visits, goes, later))) =
        back_on a c b (visited_back s.addr attempt.delay a n e1 c m visits) (goes_back more e1 c m e b q later)

    -- as many links were handed back as came
    pub connects_back : (last : ServerInfo) (a : Seen) (p : P) (e : Failure) (b : Seen) (q : P)
        → Connects Takes Counts Hands Begins told Offers by_option name no_echo timeout read_of write_of last a p (Err e) b q
        → AllBack a b
    connects_back last a p e b q (inl (is, same, stays)) = back_kept a b (ap (λ (s : Seen). s.dialer) same)
    connects_back last a p e b q (inr (chosen, n, begins, goes)) = goes_back (left_of (told n)) all_failed a n e b q goes

    -- ---- a round that gave a link

    -- a link came up of this address, by a dial since then and in time
    abbrev UpFacts : Parts → Seen → Linked R T → Seen → Type 0
    UpFacts addr a l b = Onward a b × OneOut a b × Rose a.dialer.dials b.dialer.dials
        × Rose a.clock.starts b.clock.starts × (b.clock.slept ≡ false) × (b.clock.last < b.clock.start + timeout)
        × IsUp Offers by_option (is_tls addr) name no_echo l.info l.rest.items (read_of l.read) (write_of l.write)

    up_later : (addr : Parts) (a c : Seen) (l : Linked R T) (b : Seen) → Onward a c → AllBack a c → UpFacts addr c l b
        → UpFacts addr a l b
    up_later addr a c l b on back f = (
      onward_on a c b on f.0,
      out_on a c b back f.1,
      rose_later a.dialer.dials c.dialer.dials b.dialer.dials on.dials f.2,
      rose_later a.clock.starts c.clock.starts b.clock.starts on.starts f.3,
      f.4,
      f.5,
      f.6,
    )

    -- the pool tells of the same round
    abbrev SameRound : P → P → Type 0
    SameRound p q = ((told q).round ≡ (told p).round) × ((told q).limit ≡ (told p).limit)

    same_on : (p m q : P) → told m ≡ told p → SameRound m q → SameRound p q
    same_on p m q is same = (
      same.0 ∙ ap (λ (t : RoundTold). t.round) is,
      same.1 ∙ ap (λ (t : RoundTold). t.limit) is,
    )

    module _ (takes_round : (a b : P) (urls skipped : List (List ℕ))
        → Takes a b urls skipped → told b ≡ told a)
        (counts_round : (addr : Parts) (outcome : Outcome) (a b : P) → Counts addr outcome a b → told b ≡ told_of outcome (told a))
      where
        tried_up : (addr : Parts) (to : SocketAddr) (a : Seen) (p : P) (l : Linked R T) (b : Seen) (q : P)
            → Tries Takes Counts Hands Begins told Offers by_option name no_echo timeout read_of write_of addr to a p (Ok l) b q
            → UpFacts addr a l b × SameRound p q
        tried_up addr to a p l b q (m, (start, look, is, up, takes, less), counts) = (
          rw is (
            up_onward timeout to start look a,
            record { number = 0; links = refl; backs = refl; ended = grew_same a.dialer.ended },
            risen_rose 1 a.dialer.dials,
            risen_rose 1 a.clock.starts,
            refl,
            less,
            up,
          ),
          same_on p m q (takes_round p m l.info.connect_urls l.skipped.items takes) (
            ap (λ (t : RoundTold). t.round) (counts_round addr outcome.Connected m q counts),
            ap (λ (t : RoundTold). t.limit) (counts_round addr outcome.Connected m q counts),
          ),
        )

        each_up : (addr : Parts) (xs : List SocketAddr) (last : Failure) (a : Seen) (p : P) (l : Linked R T) (b : Seen) (q : P)
            → is_websocket addr ≡ false
            → TriesEach Takes Counts Hands Begins told Offers by_option name no_echo timeout read_of write_of addr xs last a p (Ok l) b q
            → UpFacts addr a l b × SameRound p q
        each_up addr [] last a p l b q no_ws (is, same, stays) = cc
        each_up addr (to ∷ more) last a p l b q no_ws (inl (tries, ends)) = tried_up addr to a p l b q tries
        each_up addr (to ∷ more) last a p l b q no_ws (inr (e1, c, m, tries, goes, rest)) =
            let t = tried_cause Takes Counts Hands Begins told Offers by_option name no_echo timeout read_of write_of
            takes_round counts_round addr to a p e1 c m no_ws tries in
            let f = each_up addr more e1 c m l b q no_ws rest in
            (up_later addr a c l b t.0 (tried_back addr to a p e1 c m tries) f.0, same_on p m q t.4 f.1)

        asks_up : (addr : Parts) (answer : Result (List SocketAddr) ResolveError) (a : Seen) (p : P) (l : Linked R T) (b : Seen) (q : P)
            → is_websocket addr ≡ false
            → Asks Takes Counts Hands Begins told Offers by_option name no_echo timeout read_of write_of addr answer a p (Ok l) b q
            → UpFacts addr a l b × SameRound p q
        asks_up addr (Ok xs) a p l b q no_ws tries =
            let f = each_up addr xs no_address (asked addr xs a) p l b q no_ws tries in (
              up_later addr a (asked addr xs a) l b (asked_onward addr xs a) (back_kept a (asked addr xs a) refl) f.0,
              f.1,
            )
        asks_up addr (Err refusal.Failed) a p l b q no_ws (is, same, stays) = cc
        asks_up addr (Err refusal.NoMemory) a p l b q no_ws (is, same, stays) = cc

        visits_up : (is_ws : Bool) (addr : Parts) (a : Seen) (p : P) (l : Linked R T) (b : Seen) (q : P) → is_websocket addr ≡ is_ws
            → VisitsWhere Takes Counts Hands Begins told Offers by_option name no_echo timeout read_of write_of is_ws addr a p (Ok l) b q
            → (is_websocket addr ≡ false) × (UpFacts addr a l b × SameRound p q)
        visits_up true addr a p l b q ws (is, same, stays) = cc
        visits_up false addr a p l b q no_ws (answer, asks) = (no_ws, asks_up addr answer a p l b q no_ws asks)

        visited_up : (addr : Parts) (delay : ℕ) (a : Seen) (p : P) (l : Linked R T) (b : Seen) (q : P)
            → Visits Takes Counts Hands Begins told Offers by_option name no_echo timeout read_of write_of addr delay a p (Ok l) b q
            → (is_websocket addr ≡ false) × (UpFacts addr a l b × SameRound p q)
        visited_up addr delay a p l b q v =
            let f = visits_up (is_websocket addr) addr (rested delay a) p l b q refl v in (
              f.0,
              (
                up_later addr a (rested delay a) l b (rested_onward delay a) (back_kept a (rested delay a) refl) f.1.0,
                f.1.1,
              ),
            )

        module _ (hands_round : (a b : P) (n : Next) → Hands a b n → HandsNext (told a) n (told b))
            (begins_round : (last : ServerInfo) (a b : P) (chosen : Choice) → Begins last a b chosen → IsBegun (told a) (told b))
          where
            -- one of these servers gave it
            record GaveUp (left : List Planned) (a : Seen) (p : P) (l : Linked R T) (b : Seen) (q : P) : Type 0 where
              before : List Planned
              server : Planned
              later : List Planned
              among : left ≡ before ++ server ∷ later
              no_socket : is_websocket server.addr ≡ false
              up : UpFacts server.addr a l b
              same : SameRound p q

            goes_up : (left : List Planned) (last : Failure) (a : Seen) (p : P) (l : Linked R T) (b : Seen) (q : P)
                → GoesThrough Takes Counts Hands Begins told Offers by_option name no_echo timeout read_of write_of left last a p (Ok l) b q
                → GaveUp left a p l b q
            goes_up [] last a p l b q (hands, is, same) = cc
            goes_up (s ∷ more) last a p l b q (inl (hands, is, same)) = cc
            goes_up (s ∷ more) last a p l b q (inr (attempt, n, hands, there, inl (visits, ends))) =
                let h = hands_round p n (next.Try attempt) hands in
                let v = visited_up s.addr attempt.delay a n l b q visits in
                record {
                  before = [];
                  server = s;
                  later = more;
                  among = refl;
                  no_socket = v.0;
                  up = v.1.0;
                  same = (
                    v.1.1.0 ∙ ap (λ (t : RoundTold). t.round) h.4,
                    v.1.1.1 ∙ ap (λ (t : RoundTold). t.limit) h.4,
                  );
                }
            goes_up (s ∷ more) last a p l b q (inr (attempt, n, hands, there, inr (e1, c, m, visits, goes, later))) =
                let h = hands_round p n (next.Try attempt) hands in
                let v = visited_cause Takes Counts Hands Begins told Offers by_option name no_echo timeout read_of write_of
                takes_round counts_round s attempt.delay a n e1 c m visits in
                let i = goes_up more e1 c m l b q later in
                record {
                  before = s ∷ i.before;
                  server = i.server;
                  later = i.later;
                  among = ap (λ (left : List Planned). s ∷ left) i.among;
                  no_socket = i.no_socket;
                  up = up_later i.server.addr a c l b v.0 (visited_back s.addr attempt.delay a n e1 c m visits) i.up;
                  same = (
                    i.same.0 ∙ (ap (λ (t : RoundTold). t.round) v.4 ∙ ap (λ (t : RoundTold). t.round) h.4),
                    i.same.1 ∙ (ap (λ (t : RoundTold). t.limit) v.4 ∙ ap (λ (t : RoundTold). t.limit) h.4),
                  );
                }

            -- the link that came up
            pub connects_up : (last : ServerInfo) (a : Seen) (p : P) (l : Linked R T) (b : Seen) (q : P)
                → Connects Takes Counts Hands Begins told Offers by_option name no_echo timeout read_of write_of last a p (Ok l) b q
                → CameUp Offers by_option name no_echo timeout (told q).round l.info l.rest.items (read_of l.read) (write_of l.write) a b
            connects_up last a p l b q (inl (is, same, stays)) = cc
            connects_up last a p l b q (inr (chosen, n, begins, goes)) =
                let begun = begins_round last p n chosen begins in
                let g = goes_up (left_of (told n)) all_failed a n l b q goes in
                record {
                  before = g.before;
                  server = g.server;
                  later = g.later;
                  among = g.same.0 ∙ (sym (ap (λ (k : ℕ). drop k (told n).round) begun.0) ∙ g.among);
                  no_socket = g.no_socket;
                  up = g.up.6;
                  dialed = g.up.2;
                  started = g.up.3;
                  awake = g.up.4;
                  in_time = g.up.5;
                  out = g.up.1;
                }

            -- how the round began
            pub connects_well : (last : ServerInfo) (a : Seen) (p : P) (l : Linked R T) (b : Seen) (q : P)
                → Connects Takes Counts Hands Begins told Offers by_option name no_echo timeout read_of write_of last a p (Ok l) b q
                → BeganWell Begins told last p q
            connects_well last a p l b q (inl (is, same, stays)) = cc
            connects_well last a p l b q (inr (chosen, n, begins, goes)) =
                let g = goes_up (left_of (told n)) all_failed a n l b q goes in
                record { chosen = chosen; begun = n; begins = begins; round = g.same.0; limit = g.same.1 }

            -- no count fell, whatever came of it
            pub connects_on : (last : ServerInfo) (a : Seen) (p : P) (result : Result (Linked R T) Failure) (b : Seen) (q : P)
                → Connects Takes Counts Hands Begins told Offers by_option name no_echo timeout read_of write_of last a p result b q
                → Onward a b
            connects_on last a p (Ok l) b q (inl (is, same, stays)) = cc
            connects_on last a p (Ok l) b q (inr (chosen, n, begins, goes)) =
                (goes_up (left_of (told n)) all_failed a n l b q goes).up.0
            connects_on last a p (Err e) b q c = connects_went Takes Counts Hands Begins told Offers by_option name no_echo
                timeout read_of write_of takes_round counts_round hands_round begins_round last a p e b q c
