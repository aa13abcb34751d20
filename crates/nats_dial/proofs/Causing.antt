-- Why a try, a server, a round gave no link.
use Rattle.std.proofs.Common.{◌≡◌, refl, ◌∙◌, sym, ap, ◌⊎◌, inl, inr, ℕ, ◌+◌, ◌≤◌, arith, Bool, true, false, List, [], ◌∷◌, length, drop, Option, Some, None, Result, Ok, Err, IfSome, if◌then◌else◌}
use Rattle.std.proofs.lemmas.Bool.{false≢true}
use Rattle.std.specs.List.{concat}
use Rattle.std.specs.declared.net.socket_addr.SocketAddr.{SocketAddr}
use Rattle.url.specs.Parts.{Parts}
use Rattle.nats_info.specs.declared.info.ServerInfo.{ServerInfo}
use Rattle.nats_addr.specs.Addr.{is_tls, is_websocket, host_name, port_of}
use Rattle.nats_addr.specs.Resolving.{ResolverTold, risen, gave}
use Rattle.nats_addr.specs.declared.resolver.ResolveError.{ResolveError}
use Rattle.nats_addr.specs.declared.resolver.ResolveError.TheVariants as refusal
use Rattle.nats_pool.specs.Auths.{AuthValue}
use Rattle.nats_pool.specs.Pools.{passes}
use Rattle.nats_pool.specs.declared.pool_parts.Choice.{Choice}
use Rattle.nats_pool.specs.declared.pool_parts.Next.{Next}
use Rattle.nats_pool.specs.declared.pool_parts.Next.TheVariants as next
use Rattle.nats_pool.specs.declared.pool_parts.Outcome.{Outcome}
use Rattle.nats_pool.specs.declared.pool_parts.Outcome.TheVariants as outcome
use Rattle.nats_pool.specs.declared.pool_parts.Planned.{Planned}
use Rattle.nats_outside.specs.Counts.{RoseBy}
use Rattle.nats_outside.specs.Told.{Seen, ReadTold, WriteTold, ended_more}
use Rattle.nats_handshake.specs.Errors.{Failure}
use Rattle.nats_handshake.specs.Shaking.{wanting}
use Rattle.nats_dial.specs.declared.linked.Linked.{Linked}
use Rattle.nats_dial.specs.Lines.{Broke}
use Rattle.nats_dial.specs.Taking.{TookIn}
use Rattle.nats_pool.specs.Handing.{RoundTold, IsBegun, HandsNext, left_of, handed_on, told_of}
use Rattle.nats_dial.specs.Tries.{Unreached, Notes, Tries, TriesEach, Asks, VisitsWhere, Visits, GoesThrough, Connects, ends_round, returned, undialed, upped, rested, IsUp, failure_text, no_address, no_websocket, unresolved, all_failed, too_many}
use Rattle.nats_dial.specs.Began.{BeganRound, wants, began}
use Rattle.nats_dial.specs.Causes.{Onward, EachDialed, LastGave, LinkCause, ServerCause, plain, sockets, HasTried, IsSpent, Why, RoundCause}
use Rattle.nats_dial.proofs.Onwards.{onward_same, onward_on, dialed_on, one_each, is_fine, failed_word, ended_word, link_on, server_since, server_on}

-- what the last link gave, of which the bytes taken are known
gave_last : (pieces : Option (List (List ℕ))) (taken : Option (List ℕ)) (links : Option (List (List (List ℕ) × List ℕ)))
    (text : List ℕ) → IfSome pieces (λ (ps : List (List ℕ)). concat ps ≡ text)
    → IfSome (ended_more pieces taken links) (LastGave text)
gave_last (Some pieces) (Some taken) (Some links) text g =
    record { before = links; pieces = pieces; taken = taken; last = refl; gave = g }
gave_last (Some pieces) (Some taken) None text g = tt
gave_last (Some pieces) None links text g = tt
gave_last None taken links text g = tt

-- how the pool went on
record GoesOn (tried : List Planned) (before after : RoundTold) : Type 0 where
  handed : after.handed ≡ before.handed + length tried
  round : after.round ≡ before.round
  limit : after.limit ≡ before.limit
  attempts : after.attempts ≤ before.attempts + (plain tried + sockets tried) + 1

pub up_onward : (within : ℕ) (to : SocketAddr) (start look : ℕ) (a : Seen) → Onward a (upped within to start look a)
up_onward within to start look a = record {
  dial_faults = omega arith;
  ends = omega arith;
  dials = omega arith;
  ask_faults = omega arith;
  empties = omega arith;
  askings = omega arith;
  given = omega arith;
  starts = omega arith;
}

dial_onward : (within : ℕ) (to : SocketAddr) (start : ℕ) (a : Seen) → Onward a (undialed within to start a)
dial_onward within to start a = record {
  dial_faults = omega arith;
  ends = omega arith;
  dials = omega arith;
  ask_faults = omega arith;
  empties = omega arith;
  askings = omega arith;
  given = omega arith;
  starts = omega arith;
}

back_onward : (within : ℕ) (to : SocketAddr) (start look : ℕ) (r : ReadTold) (w : WriteTold) (a : Seen)
    → Onward a (returned within to start look r w a)
back_onward within to start look r w a = record {
  dial_faults = omega arith;
  ends = omega arith;
  dials = omega arith;
  ask_faults = omega arith;
  empties = omega arith;
  askings = omega arith;
  given = omega arith;
  starts = omega arith;
}

-- a server was asked for, and gave these addresses
abbrev pub asked : Parts → List SocketAddr → Seen → Seen
asked addr xs a = record a { resolver = gave (host_name addr) (port_of addr) xs a.resolver }

pub asked_onward : (addr : Parts) (xs : List SocketAddr) (a : Seen) → Onward a (asked addr xs a)
asked_onward addr xs a = record {
  dial_faults = omega arith;
  ends = omega arith;
  dials = omega arith;
  ask_faults = omega arith;
  empties = omega arith;
  askings = omega arith;
  given = omega arith;
  starts = omega arith;
}

pub rested_onward : (delay : ℕ) (a : Seen) → Onward a (rested delay a)
rested_onward delay a = record {
  dial_faults = omega arith;
  ends = omega arith;
  dials = omega arith;
  ask_faults = omega arith;
  empties = omega arith;
  askings = omega arith;
  given = omega arith;
  starts = omega arith;
}

module _ {P R T : Type 0} (Takes : P → P → List (List ℕ) → List (List ℕ) → Type 0)
    (Counts : Parts → Outcome → P → P → Type 0) (Hands : P → P → Next → Type 0) (Begins : ServerInfo → P → P → Choice → Type 0)
    (told : P → RoundTold)
    (Offers : List ℕ → Result AuthValue (List ℕ) → Type 0) (by_option : Bool) (name : Option (List ℕ)) (no_echo : Bool)
    (timeout : ℕ) (read_of : R → ReadTold) (write_of : T → WriteTold)
  where
    -- a link that was handed back broke
    broke_cause : (by_scheme : Bool) (to : SocketAddr) (start look : ℕ) (r : ReadTold) (w : WriteTold) (a : Seen) (e : Failure)
        → Broke Takes Offers by_option name no_echo by_scheme start timeout e r w (returned timeout to start look r w a).clock
        → LinkCause Takes Offers by_option name no_echo timeout by_scheme a e (returned timeout to start look r w a)
    broke_cause by_scheme to start look r w a e (inl is) = inl is
    broke_cause by_scheme to start look r w a e (inr (inl (is, late))) =
        inr (inl (is, record { started = omega arith; awake = refl; late = late }))
    broke_cause by_scheme to start look r w a e (inr (inr (in_time, least, inl (is, some)))) =
        inr (inr (inl (is, (omega (arith, some), failed_word r.faults w.faults r.ends some))))
    broke_cause by_scheme to start look r w a e (inr (inr (in_time, least, inr (inl (text, gave, is, some))))) =
        inr (inr (inr (inl (
          text,
          gave_last r.pieces w.taken a.dialer.ended text gave,
          is,
          (omega (arith, some), ended_word r.faults w.faults r.ends some),
        ))))
    broke_cause by_scheme to start look r w a e (inr (inr (in_time, least, inr (inr (text, gave, why))))) =
        inr (inr (inr (inr (text, gave_last r.pieces w.taken a.dialer.ended text gave, why))))

    -- a dialed address that gave no link
    reached_cause : (addr : Parts) (to : SocketAddr) (a : Seen) (e : Failure) (b : Seen) → is_websocket addr ≡ false
        → Unreached Takes Counts Hands Begins told Offers by_option name no_echo timeout read_of write_of addr to a e b
        → Onward a b × (b.resolver ≡ a.resolver) × (b.dialer.dials ≡ risen 1 a.dialer.dials)
        × LinkCause Takes Offers by_option name no_echo timeout (is_tls addr) a e b
    reached_cause addr to a e b no_ws (inl (start, is, eq)) = rw eq (
      dial_onward timeout to start a,
      refl,
      refl,
      inr (inr (inl (is, (omega arith, λ same. false≢true (ap is_fine same))))),
    )
    reached_cause addr to a e b no_ws (inr (start, look, r, w, eq, inl (is, ws))) = absurd (false≢true (sym no_ws ∙ ws))
    reached_cause addr to a e b no_ws (inr (start, look, r, w, eq, inr broke)) = rw eq (
      back_onward timeout to start look r w a,
      refl,
      refl,
      broke_cause (is_tls addr) to start look r w a e broke,
    )

    module _ (takes_round : (a b : P) (urls skipped : List (List ℕ))
        → Takes a b urls skipped → told b ≡ told a)
        (counts_round : (addr : Parts) (outcome : Outcome) (a b : P) → Counts addr outcome a b → told b ≡ told_of outcome (told a))
      where
        pub took_told : (p q : P) → TookIn Takes p q → told q ≡ told p
        took_told p q (inl eq) = ap told eq
        took_told p q (inr (urls, skipped, took)) = takes_round p q urls skipped took

        noted_told : (addr : Parts) (f : Failure) (p : P) (e : Failure) (q : P) → Notes Counts addr f p e q → told q ≡ told p
        noted_told addr f p e q (inl (is, eq)) = ap told eq
        noted_told addr f p e q (inr (is, counts)) = counts_round addr (outcome.Failed (failure_text f)) p q counts

        noted_cause : (addr : Parts) (f : Failure) (p : P) (e : Failure) (q : P) (a b : Seen) → Notes Counts addr f p e q
            → LinkCause Takes Offers by_option name no_echo timeout (is_tls addr) a f b
            → LinkCause Takes Offers by_option name no_echo timeout (is_tls addr) a e b
        noted_cause addr f p e q a b (inl (is, eq)) why = inl is
        noted_cause addr f p e q a b (inr (is, counts)) why = rw is why

        -- a try that gave no link
        pub tried_cause : (addr : Parts) (to : SocketAddr) (a : Seen) (p : P) (e : Failure) (b : Seen) (q : P)
            → is_websocket addr ≡ false
            → Tries Takes Counts Hands Begins told Offers by_option name no_echo timeout read_of write_of addr to a p (Err e) b q
            → Onward a b × (b.resolver ≡ a.resolver) × (b.dialer.dials ≡ risen 1 a.dialer.dials)
            × LinkCause Takes Offers by_option name no_echo timeout (is_tls addr) a e b × (told q ≡ told p)
        tried_cause addr to a p e b q no_ws t =
            let r = reached_cause addr to a t.0 b no_ws t.2.0 in (
              r.0,
              r.1,
              r.2,
              noted_cause addr t.0 t.1 e q a b t.3 r.3,
              noted_told addr t.0 t.1 e q t.3 ∙ took_told p t.1 t.2.1,
            )

        abbrev err_of : Failure → Result (Linked R T) Failure → Failure
        err_of d (Ok l) = d
        err_of d (Err e) = e

        -- tries of a server's addresses that gave no link
        abbrev EachFacts : Parts → List SocketAddr → Failure → Seen → P → Failure → Seen → P → Type 0
        EachFacts addr xs last a p e b q = Onward a b × (b.resolver ≡ a.resolver)
            × (ends_round e.0 ≡ false → RoseBy (length xs) a.dialer.dials b.dialer.dials)
            × (((xs ≡ []) × (e ≡ last) × (b ≡ a)) ⊎ LinkCause Takes Offers by_option name no_echo timeout (is_tls addr) a e b)
            × (told q ≡ told p)

        each_why : (addr : Parts) (more : List SocketAddr) (a : Seen) (e1 : Failure) (c : Seen) (e : Failure) (b : Seen) → Onward a c
            → LinkCause Takes Offers by_option name no_echo timeout (is_tls addr) a e1 c
            → ((more ≡ []) × (e ≡ e1) × (b ≡ c)) ⊎ LinkCause Takes Offers by_option name no_echo timeout (is_tls addr) c e b
            → LinkCause Takes Offers by_option name no_echo timeout (is_tls addr) a e b
        each_why addr more a e1 c e b on why (inl (none, is, same)) = rw (is, same) why
        each_why addr more a e1 c e b on why (inr later) = link_on Takes Offers by_option name no_echo timeout (is_tls addr) a c e b on later

        each_cause : (addr : Parts) (xs : List SocketAddr) (last : Failure) (a : Seen) (p : P) (e : Failure) (b : Seen) (q : P)
            → is_websocket addr ≡ false
            → TriesEach Takes Counts Hands Begins told Offers by_option name no_echo timeout read_of write_of addr xs last a p (Err e) b q
            → EachFacts addr xs last a p e b q
        each_cause addr [] last a p e b q no_ws (is, same, stays) = rw same (
          onward_same a,
          refl,
          λ goes. omega arith,
          inl (refl, ap (err_of last) is, refl),
          ap told stays,
        )
        each_cause addr (to ∷ more) last a p e b q no_ws (inl (tries, ends)) =
            let t = tried_cause addr to a p e b q no_ws tries in
            (t.0, t.1, λ goes. absurd (false≢true (sym goes ∙ ends)), inr t.3, t.4)
        each_cause addr (to ∷ more) last a p e b q no_ws (inr (e1, c, m, tries, goes, rest)) =
            let t = tried_cause addr to a p e1 c m no_ws tries in
            let f = each_cause addr more e1 c m e b q no_ws rest in (
              onward_on a c b t.0 f.0,
              f.1 ∙ t.1,
              λ going. omega (arith, t.2, f.2 going),
              inr (each_why addr more a e1 c e b t.0 t.3 f.3),
              f.4 ∙ t.4,
            )

        -- a server that gave no link
        abbrev pub ServerFacts : Planned → Seen → P → Failure → Seen → P → Type 0
        ServerFacts s a p e b q = Onward a b
            × RoseBy (if is_websocket s.addr then 0 else 1) a.resolver.askings b.resolver.askings
            × (ends_round e.0 ≡ false → EachDialed a b)
            × ServerCause Takes Offers by_option name no_echo timeout (s ∷ []) a e b
            × (told q ≡ told p)

        given_cause : (s : Planned) (xs : List SocketAddr) (a : Seen) (e : Failure) (b : Seen)
            → b.resolver ≡ (asked s.addr xs a).resolver
            → ((xs ≡ []) × (e ≡ no_address) × (b ≡ asked s.addr xs a))
            ⊎ LinkCause Takes Offers by_option name no_echo timeout (is_tls s.addr) (asked s.addr xs a) e b
            → ServerCause Takes Offers by_option name no_echo timeout (s ∷ []) a e b
        given_cause s xs a e b asking (inl (none, is, same)) =
            inr (inl (is, rw (asking, none) (omega arith), ap (λ (r : ResolverTold). r.word) asking ∙ rw none refl))
        given_cause s xs a e b asking (inr why) = inr (inr (inr
            (link_on Takes Offers by_option name no_echo timeout (is_tls s.addr) a (asked s.addr xs a) e b
            (asked_onward s.addr xs a) why)))

        asks_cause : (s : Planned) (answer : Result (List SocketAddr) ResolveError) (a : Seen) (p : P) (e : Failure) (b : Seen) (q : P)
            → is_websocket s.addr ≡ false
            → Asks Takes Counts Hands Begins told Offers by_option name no_echo timeout read_of write_of s.addr answer a p (Err e) b q
            → ServerFacts s a p e b q
        asks_cause s (Ok xs) a p e b q no_ws tries =
            let f = each_cause s.addr xs no_address (asked s.addr xs a) p e b q no_ws tries in (
              onward_on a (asked s.addr xs a) b (asked_onward s.addr xs a) f.0,
              rw (no_ws, f.1) (omega arith),
              λ goes. rw f.1 (omega (arith, f.2 goes)),
              given_cause s xs a e b f.1 f.3,
              f.4,
            )
        asks_cause s (Err refusal.Failed) a p e b q no_ws (is, same, stays) = rw (same, no_ws) (
          record {
            dial_faults = omega arith;
            ends = omega arith;
            dials = omega arith;
            ask_faults = omega arith;
            empties = omega arith;
            askings = omega arith;
            given = omega arith;
            starts = omega arith;
          },
          omega arith,
          λ goes. omega arith,
          inl (ap (err_of unresolved) is, omega arith, refl),
          ap told stays,
        )
        asks_cause s (Err refusal.NoMemory) a p e b q no_ws (is, same, stays) = rw (same, no_ws) (
          record {
            dial_faults = omega arith;
            ends = omega arith;
            dials = omega arith;
            ask_faults = omega arith;
            empties = omega arith;
            askings = omega arith;
            given = omega arith;
            starts = omega arith;
          },
          omega arith,
          λ goes. omega arith,
          inr (inr (inr (inl (ap (err_of wanting) is)))),
          ap told stays,
        )

        none_asked : (x : Bool) (n : ℕ) → x ≡ true → RoseBy (if x then 0 else 1) n n
        none_asked x n is = rw is (omega arith)

        visits_where : (is_ws : Bool) (s : Planned) (a : Seen) (p : P) (e : Failure) (b : Seen) (q : P) → is_websocket s.addr ≡ is_ws
            → VisitsWhere Takes Counts Hands Begins told Offers by_option name no_echo timeout read_of write_of is_ws s.addr a p (Err e) b q
            → ServerFacts s a p e b q
        visits_where true s a p e b q ws (is, same, stays) = rw same (
          onward_same a,
          none_asked (is_websocket s.addr) a.resolver.askings ws,
          λ goes. omega arith,
          inr (inr (inl (ap (err_of no_websocket) is, ws))),
          ap told stays,
        )
        visits_where false s a p e b q no_ws (answer, asks) = asks_cause s answer a p e b q no_ws asks

        of_rested : (s : Planned) (delay : ℕ) (a : Seen) (p : P) (e : Failure) (b : Seen) (q : P)
            → ServerFacts s (rested delay a) p e b q → ServerFacts s a p e b q
        of_rested s delay a p e b q f = (
          onward_on a (rested delay a) b (rested_onward delay a) f.0,
          f.1,
          f.2,
          server_since Takes Offers by_option name no_echo timeout (s ∷ []) a (rested delay a) e b (rested_onward delay a) f.3,
          f.4,
        )

        -- one that was visited
        pub visited_cause : (s : Planned) (delay : ℕ) (a : Seen) (p : P) (e : Failure) (b : Seen) (q : P)
            → Visits Takes Counts Hands Begins told Offers by_option name no_echo timeout read_of write_of s.addr delay a p (Err e) b q
            → ServerFacts s a p e b q
        visited_cause s delay a p e b q v = of_rested s delay a p e b q (visits_where (is_websocket s.addr) s (rested delay a) p e b q refl v)

        -- which leaves a round as it was
        pub visited_told : (s : Planned) (delay : ℕ) (a : Seen) (p : P) (e : Failure) (b : Seen) (q : P)
            → Visits Takes Counts Hands Begins told Offers by_option name no_echo timeout read_of write_of s.addr delay a p (Err e) b q
            → told q ≡ told p
        visited_told s delay a p e b q v = (visited_cause s delay a p e b q v).4

        module _ (hands_round : (a b : P) (n : Next) → Hands a b n → HandsNext (told a) n (told b))
            (begins_round : (last : ServerInfo) (a b : P) (chosen : Choice) → Begins last a b chosen → IsBegun (told a) (told b))
          where
            -- why none of the servers that are left gave a link
            abbrev WhyHere : List Planned → List Planned → Failure → Seen → Failure → Seen → RoundTold → Type 0
            WhyHere tried rest last a e b after = ((e ≡ last) × (tried ≡ []) × (rest ≡ []) × (b ≡ a))
                ⊎ (((e ≡ too_many) × (passes after.limit after.attempts ≡ true) × EachDialed a b)
                ⊎ (ServerCause Takes Offers by_option name no_echo timeout tried a e b × (1 ≤ length tried)
                × (ends_round e.0 ≡ false → (rest ≡ []) × EachDialed a b)))

            abbrev RoundFacts : List Planned → Failure → Seen → P → Failure → Seen → P → Type 0
            RoundFacts left last a p e b q = (tried : List Planned) × (rest : List Planned) × HasTried left tried rest a b
                × GoesOn tried (told p) (told q) × WhyHere tried rest last a e b (told q)

            later_why : (s : Planned) (tried rest : List Planned) (a : Seen) (e1 : Failure) (c : Seen) (e : Failure) (b : Seen)
                (after : RoundTold) → Onward a c → Onward c b → EachDialed a c
                → ServerCause Takes Offers by_option name no_echo timeout (s ∷ []) a e1 c
                → WhyHere tried rest e1 c e b after
                → ((e ≡ too_many) × (passes after.limit after.attempts ≡ true) × EachDialed a b)
                ⊎ (ServerCause Takes Offers by_option name no_echo timeout (s ∷ tried) a e b × (1 ≤ length (s ∷ tried))
                × (ends_round e.0 ≡ false → (rest ≡ []) × EachDialed a b))
            later_why s tried rest a e1 c e b after on later all why (inl (is, none, over, same)) =
                inr (rw (is, none, same) why, omega arith, λ goes. (over, rw same all))
            later_why s tried rest a e1 c e b after on later all why (inr (inl (is, passed, each))) =
                inl (is, passed, dialed_on a c b on later all each)
            later_why s [] rest a e1 c e b after on later all why (inr (inr (cause, some, done))) = absurd (omega (arith, some))
            later_why s (t ∷ tried) rest a e1 c e b after on later all why (inr (inr (cause, some, done))) = inr (
              server_on Takes Offers by_option name no_echo timeout s t tried a c e b on cause,
              omega arith,
              λ goes. let d = done goes in (d.0, dialed_on a c b on later all d.1),
            )

            goes_on_later : (s : Planned) (tried : List Planned) (p n m q : RoundTold) → n ≡ handed_on p → m ≡ n → GoesOn tried m q
                → GoesOn (s ∷ tried) p q
            goes_on_later s tried p n m q handed same on =
                let each = one_each (is_websocket s.addr) in
                let to = same ∙ handed in
                record {
                  handed = omega (arith, on.handed, ap (λ (t : RoundTold). t.handed) to);
                  round = on.round ∙ ap (λ (t : RoundTold). t.round) to;
                  limit = on.limit ∙ ap (λ (t : RoundTold). t.limit) to;
                  attempts = omega (arith, on.attempts, ap (λ (t : RoundTold). t.attempts) to, each);
                }

            goes_cause : (left : List Planned) (last : Failure) (a : Seen) (p : P) (e : Failure) (b : Seen) (q : P)
                → GoesThrough Takes Counts Hands Begins told Offers by_option name no_echo timeout read_of write_of left last a p (Err e) b q
                → RoundFacts left last a p e b q
            goes_cause [] last a p e b q (hands, is, same) =
                let h = hands_round p q next.Over hands in
                rw same (
                  [],
                  [],
                  record { all = refl; onward = onward_same a; askings = omega arith },
                  record {
                    handed = omega (arith, ap (λ (t : RoundTold). t.handed) h.1);
                    round = ap (λ (t : RoundTold). t.round) h.1;
                    limit = ap (λ (t : RoundTold). t.limit) h.1;
                    attempts = omega (arith, ap (λ (t : RoundTold). t.attempts) h.1);
                  },
                  inl (ap (err_of last) is, refl, refl, refl),
                )
            goes_cause (s ∷ more) last a p e b q (inl (hands, is, same)) =
                let h = hands_round p q next.MaxReconnects hands in
                rw same (
                  [],
                  s ∷ more,
                  record { all = refl; onward = onward_same a; askings = omega arith },
                  record {
                    handed = omega (arith, ap (λ (t : RoundTold). t.handed) h.2);
                    round = ap (λ (t : RoundTold). t.round) h.2;
                    limit = ap (λ (t : RoundTold). t.limit) h.2;
                    attempts = omega (arith, ap (λ (t : RoundTold). t.attempts) h.2);
                  },
                  inr (inl (ap (err_of too_many) is, rw h.2 h.1, omega arith)),
                )
            goes_cause (s ∷ more) last a p e b q (inr (attempt, n, hands, there, inl (visits, ends))) =
                let h = hands_round p n (next.Try attempt) hands in
                let v = visited_cause s attempt.delay a n e b q visits in (
                  s ∷ [],
                  more,
                  record { all = refl; onward = v.0; askings = omega (arith, v.1) },
                  goes_on_later s [] (told p) (told n) (told q) (told q) h.4 v.4 (record {
                    handed = omega arith;
                    round = refl;
                    limit = refl;
                    attempts = omega arith;
                  }),
                  inr (inr (v.3, omega arith, λ goes. absurd (false≢true (sym goes ∙ ends)))),
                )
            goes_cause (s ∷ more) last a p e b q (inr (attempt, n, hands, there, inr (e1, c, m, visits, goes, later))) =
                let h = hands_round p n (next.Try attempt) hands in
                let v = visited_cause s attempt.delay a n e1 c m visits in
                let i = goes_cause more e1 c m e b q later in (
                  s ∷ i.0,
                  i.1,
                  record {
                    all = ap (λ (l : List Planned). s ∷ l) i.2.all;
                    onward = onward_on a c b v.0 i.2.onward;
                    askings = omega (arith, v.1, i.2.askings);
                  },
                  goes_on_later s i.0 (told p) (told n) (told m) (told q) h.4 v.4 i.3,
                  inr (later_why s i.0 i.1 a e1 c e b (told q) v.0 i.2.onward (v.2 goes) v.3 i.4),
                )

            spent : (tried : List Planned) (p n q : RoundTold) (a b : Seen) → IsBegun p n → GoesOn tried n q
                → passes q.limit q.attempts ≡ true → RoseBy (plain tried) a.resolver.askings b.resolver.askings
                → IsSpent tried p q a b
            spent tried p n q a b begun on passed rose =
                record { passed = passed; attempts = omega (arith, begun.1, on.attempts, rose) }

            why_of : (tried rest : List Planned) (p n q : RoundTold) (a : Seen) (e : Failure) (b : Seen) → IsBegun p n → GoesOn tried n q
                → RoseBy (plain tried) a.resolver.askings b.resolver.askings → WhyHere tried rest all_failed a e b q
                → Why Takes Offers by_option name no_echo timeout tried rest p q a e b
            why_of tried rest p n q a e b begun on rose (inl (is, none, over, same)) = inl (is, none, over)
            why_of tried rest p n q a e b begun on rose (inr (inl (is, passed, each))) =
                inr (inl (is, spent tried p n q a b begun on passed rose, each))
            why_of tried rest p n q a e b begun on rose (inr (inr (cause, some, done))) = inr (inr (cause, done))

            -- why a round gave no link
            pub connects_cause : (last : ServerInfo) (a : Seen) (p : P) (e : Failure) (b : Seen) (q : P)
                → Connects Takes Counts Hands Begins told Offers by_option name no_echo timeout read_of write_of last a p (Err e) b q
                → RoundCause Takes Offers by_option name no_echo timeout (told p) (told q) a e b
            connects_cause last a p e b q (inl (is, same, stays)) = inl (ap (err_of wanting) is)
            connects_cause last a p e b q (inr (chosen, n, begins, goes)) =
                let begun = begins_round last p n chosen begins in
                let g = goes_cause (left_of (told n)) all_failed a n e b q goes in
                inr (
                  g.0,
                  g.1,
                  record {
                    all = g.3.round ∙ sym (ap (λ (k : ℕ). drop k (told n).round) begun.0) ∙ g.2.all;
                    onward = g.2.onward;
                    askings = g.2.askings;
                  },
                  omega (arith, g.3.handed, begun.0),
                  why_of g.0 g.1 (told p) (told n) (told q) a e b begun g.3 g.2.askings g.4,
                )

            -- the round that was gone through, unless memory was wanting for it
            pub connects_round : (last : ServerInfo) (a : Seen) (p : P) (e : Failure) (b : Seen) (q : P)
                → Connects Takes Counts Hands Begins told Offers by_option name no_echo timeout read_of write_of last a p (Err e) b q
                → (e ≡ wanting) ⊎ ((chosen : Choice) × (n : P) × Begins last p n chosen × ((told q).round ≡ (told n).round)
                × ((told q).limit ≡ (told n).limit))
            connects_round last a p e b q (inl (is, same, stays)) = inl (ap (err_of wanting) is)
            connects_round last a p e b q (inr (chosen, n, begins, goes)) =
                let g = goes_cause (left_of (told n)) all_failed a n e b q goes in
                inr (chosen, n, begins, g.3.round, g.3.limit)

            -- how it began, unless memory was wanting for it
            pub connects_began : (last : ServerInfo) (a : Seen) (p : P) (e : Failure) (b : Seen) (q : P)
                → Connects Takes Counts Hands Begins told Offers by_option name no_echo timeout read_of write_of last a p (Err e) b q
                → BeganRound Begins told last p q e
            connects_began last a p e b q (inl (is, same, stays)) = wants (ap (err_of wanting) is)
            connects_began last a p e b q (inr (chosen, n, begins, goes)) =
                let g = goes_cause (left_of (told n)) all_failed a n e b q goes in
                began chosen n begins g.3.round g.3.limit

            -- no count fell where it gave no link
            pub connects_went : (last : ServerInfo) (a : Seen) (p : P) (e : Failure) (b : Seen) (q : P)
                → Connects Takes Counts Hands Begins told Offers by_option name no_echo timeout read_of write_of last a p (Err e) b q
                → Onward a b
            connects_went last a p e b q (inl (is, same, stays)) = rw same (onward_same a)
            connects_went last a p e b q (inr (chosen, n, begins, goes)) =
                (goes_cause (left_of (told n)) all_failed a n e b q goes).2.onward
