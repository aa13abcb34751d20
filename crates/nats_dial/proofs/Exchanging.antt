-- One read of a link in its handshake, and the answer.
use Rattle.std.proofs.Common.{◌≡◌, refl, ◌∙◌, sym, ap, subst, ◌⊎◌, inl, inr, ℕ, zero, suc, ◌<◌, ◌≤◌, Bool, false, List, [], ◌∷◌, ◌++◌, take, append-nil, arith, Option, Some, None, Result, Ok, Err, IfSome}
use Rattle.std.specs.List.{concat}
use Rattle.std.proofs.lemmas.List.Folds.{concat-append}
use Rattle.nats_names.specs.declared.cause.Cause.TheVariants as cause
use Rattle.nats_info.specs.declared.info.ServerInfo.{ServerInfo}
use Rattle.nats_pool.specs.Auths.{AuthValue}
use Rattle.nats_lines.specs.Operations.{front}
use Rattle.nats_addr.specs.Resolving.{risen}
use Rattle.nats_outside.specs.Told.{ReadTold, WriteTold, ClockTold, bounded, piece_more, ends_met}
use Rattle.std.specs.Io.KnownBytes.{append_known}
use Rattle.nats_handshake.specs.declared.stage.Stage.{Stage}
use Rattle.nats_handshake.specs.declared.stage.Stage.TheVariants as stage
use Rattle.nats_handshake.specs.declared.stage.Shake.{Shake}
use Rattle.nats_handshake.specs.declared.stage.Shake.TheVariants as shake
use Rattle.nats_handshake.specs.declared.course.Greeting.{Greeting}
use Rattle.nats_handshake.specs.declared.course.Greeting.TheVariants as greeting
use Rattle.nats_handshake.specs.Course.{Course, greeting_at, io}
use Rattle.nats_handshake.specs.Errors.{Failure}
use Rattle.nats_handshake.specs.Shaking.{Talk, wanting, wants_tls, Goes, Greeted, Heeds, FedAt, with_bytes}
use Rattle.nats_handshake.specs.Heard.{IsOpen}
use Rattle.nats_handshake.specs.Opened.{opened, opened_in}
use Rattle.nats_handshake.proofs.Hearing.{heard_next, refuses_next, ends_behind}
use Rattle.nats_handshake.proofs.Opening.{opened_more, more_unopened}
use Rattle.nats_dial.specs.Lines.{Line, IsAt, IsPlain, InTime, NoBytes, Broke, Exchanged, Shaken, read_within, wrote_all}

-- ---- what a handshake keeps of its link

-- the time and the scheme
pub record Kept (t new : Talk) : Type 0 where
  pub start : new.start ≡ t.start
  pub timeout : new.timeout ≡ t.timeout
  pub is_tls : new.is_tls ≡ t.is_tls

goes_kept : (info : ServerInfo) (c : Course) (t new : Talk) (s : Shake) → Goes info c t s new → Kept t new
goes_kept info c t new s g = rw g.1 (record { start = refl; timeout = refl; is_tls = refl })

-- and that TLS is not wanted
goes_plain : (by_option by_scheme : Bool) (info : ServerInfo) (c : Course) (t new : Talk) (s : Shake) → Goes info c t s new
    → wants_tls by_option by_scheme info ≡ false → IsPlain by_option by_scheme new.stage
goes_plain by_option by_scheme info c t new shake.More g plain = rw g.1 plain
goes_plain by_option by_scheme info c t new shake.Done g plain = rw g.1 plain

-- how far it came then
goes_at : (info : ServerInfo) (c : Course) (t new : Talk) (s : Shake) → Goes info c t s new → IsAt s new.stage
goes_at info c t new shake.More g = rw g.1 tt
goes_at info c t new shake.Done g = rw g.1 (info, refl)

module _ (Discovers : List (List ℕ) → List (List ℕ) → Type 0) (Stays : Type 0)
    (Offers : List ℕ → Result AuthValue (List ℕ) → Type 0) (by_option : Bool) (name : Option (List ℕ)) (no_echo : Bool)
  where
    greeted_kept : (said : Greeting) (t new : Talk) (s : Shake)
        → Greeted Discovers Stays Offers by_option name no_echo said t s new → Kept t new
    greeted_kept greeting.Waits t new s g = rw g.2 (record { start = refl; timeout = refl; is_tls = refl })
    greeted_kept (greeting.Refuses r) t new s g = absurd g
    greeted_kept (greeting.Greets info n) t new s g =
        let k = goes_kept info _ (record t { skipped = g.1 }) new s g.3 in
        record { start = k.start; timeout = k.timeout; is_tls = k.is_tls }

    greeted_at : (said : Greeting) (t new : Talk) (s : Shake) → t.stage ≡ stage.Greets
        → Greeted Discovers Stays Offers by_option name no_echo said t s new → IsAt s new.stage
    greeted_at greeting.Waits t new s e g = rw (g.1, g.2, e) tt
    greeted_at (greeting.Refuses r) t new s e g = absurd g
    greeted_at (greeting.Greets info n) t new s e g = goes_at info _ (record t { skipped = g.1 }) new s g.3

    greeted_plain : (said : Greeting) (t new : Talk) (s : Shake) → t.stage ≡ stage.Greets
        → Greeted Discovers Stays Offers by_option name no_echo said t s new → IsPlain by_option t.is_tls new.stage
    greeted_plain greeting.Waits t new s e g = rw (g.2, e) tt
    greeted_plain (greeting.Refuses r) t new s e g = absurd g
    greeted_plain (greeting.Greets info n) t new s e g = goes_plain by_option t.is_tls info _ (record t { skipped = g.1 }) new s g.3 g.2.0

    heeds_plain : (at : Stage) (t new : Talk) (s : Shake) → IsOpen at → t.stage ≡ at → IsPlain by_option t.is_tls at
        → Heeds Discovers Stays Offers by_option name no_echo at t (Ok s) new → IsPlain by_option t.is_tls new.stage
    heeds_plain stage.Greets t new s going e plain h = greeted_plain (greeting_at (front t.unread)) t new s e h
    heeds_plain (stage.Asks info left) t new s going e plain h = goes_plain by_option t.is_tls info _ t new s h.1 plain
    heeds_plain (stage.Linked info) t new s going e plain h = absurd going
    heeds_plain (stage.Refused kind) t new s going e plain h = absurd going

    heeds_kept : (at : Stage) (t new : Talk) (s : Shake) → IsOpen at
        → Heeds Discovers Stays Offers by_option name no_echo at t (Ok s) new → Kept t new
    heeds_kept stage.Greets t new s going h = greeted_kept (greeting_at (front t.unread)) t new s h
    heeds_kept (stage.Asks info left) t new s going h = goes_kept info _ t new s h.1
    heeds_kept (stage.Linked info) t new s going h = absurd going
    heeds_kept (stage.Refused kind) t new s going h = absurd going

    pub heeds_at : (at : Stage) (t new : Talk) (s : Shake) → IsOpen at → t.stage ≡ at
        → Heeds Discovers Stays Offers by_option name no_echo at t (Ok s) new → IsAt s new.stage
    heeds_at stage.Greets t new s going e h = greeted_at (greeting_at (front t.unread)) t new s e h
    heeds_at (stage.Asks info left) t new s going e h = goes_at info _ t new s h.1
    heeds_at (stage.Linked info) t new s going e h = absurd going
    heeds_at (stage.Refused kind) t new s going e h = absurd going

    -- what is fed to an going handshake is heeded
    pub fed_heeds : (at : Stage) (t new : Talk) (bytes : List ℕ) (s : Shake) → IsOpen at
        → FedAt Discovers Stays Offers by_option name no_echo at t bytes (Ok s) new
        → Heeds Discovers Stays Offers by_option name no_echo at (with_bytes t bytes) (Ok s) new
    fed_heeds stage.Greets t new bytes s going f = f
    fed_heeds (stage.Asks info left) t new bytes s going f = f
    fed_heeds (stage.Linked info) t new bytes s going f = absurd going
    fed_heeds (stage.Refused kind) t new bytes s going f = absurd going

    pub fed_refuses : (at : Stage) (t new : Talk) (bytes : List ℕ) (e : Failure) → IsOpen at
        → FedAt Discovers Stays Offers by_option name no_echo at t bytes (Err e) new
        → Heeds Discovers Stays Offers by_option name no_echo at (with_bytes t bytes) (Err e) (with_bytes t bytes)
    fed_refuses stage.Greets t new bytes e going f = f.0
    fed_refuses (stage.Asks info left) t new bytes e going f = f.0
    fed_refuses (stage.Linked info) t new bytes e going f = absurd going
    fed_refuses (stage.Refused kind) t new bytes e going f = absurd going

-- ---- what the halves tell

gave_by : (n : ℕ) (pieces : Option (List (List ℕ))) (buf text : List ℕ) → 0 < n
    → IfSome pieces (λ (ps : List (List ℕ)). concat ps ≡ text)
    → IfSome (piece_more n buf pieces) (λ (ps : List (List ℕ)). concat ps ≡ text ++ take n buf)
gave_by zero pieces buf text some g = absurd (omega arith)
gave_by (suc n) None buf text some g = tt
gave_by (suc n) (Some ps) buf text some g =
    concat-append ps (take (suc n) buf ∷ [])
    ∙ ap (λ (l : List ℕ). concat ps ++ l) (append-nil (take (suc n) buf))
    ∙ ap (λ (l : List ℕ). l ++ take (suc n) buf) g

-- one more piece, where those before hold no success
opens_by : (n : ℕ) (pieces : Option (List (List ℕ))) (buf text : List ℕ) → 0 < n
    → IfSome pieces (λ (ps : List (List ℕ)). concat ps ≡ text)
    → IfSome pieces (λ (ps : List (List ℕ)). opened ps ≡ opened_in text []) → opened_in text [] ≡ None
    → IfSome (piece_more n buf pieces) (λ (ps : List (List ℕ)). opened ps ≡ opened_in (text ++ take n buf) [])
opens_by zero pieces buf text some g opens waits = absurd (omega arith)
opens_by (suc n) None buf text some g opens waits = tt
opens_by (suc n) (Some ps) buf text some g opens waits =
    opened_more [] ps (take (suc n) buf) (opens ∙ waits)
    ∙ ap (λ (t : List ℕ). opened_in (t ++ take (suc n) buf) []) g

-- after an answer the handshake is open only where more is due
waits_by : (s : Shake) (at : Stage) (text : List ℕ) → IsAt s at → (s ≡ shake.More → opened_in text [] ≡ None)
    → IsOpen at → opened_in text [] ≡ None
waits_by shake.More at text is none going = none refl
waits_by shake.Done at text is none going = absurd (subst IsOpen is.1 going)

no_end : (n : ℕ) (buf : List ℕ) (ends : ℕ) → 0 < n → ends ≡ 0 → risen (ends_met n buf) ends ≡ 0
no_end zero buf ends some e = absurd (omega arith)
no_end (suc n) buf ends some e = rw e refl

took_by : (taken : Option (List ℕ)) (wrote more : List ℕ) → IfSome taken (λ (bytes : List ℕ). bytes ≡ wrote)
    → IfSome (append_known taken more) (λ (bytes : List ℕ). bytes ≡ wrote ++ more)
took_by None wrote more t = tt
took_by (Some bytes) wrote more t = ap (λ (l : List ℕ). l ++ more) t

module _ {P : Type 0} (Takes : P → P → List (List ℕ) → List (List ℕ) → Type 0)
    (Offers : List ℕ → Result AuthValue (List ℕ) → Type 0) (by_option : Bool) (name : Option (List ℕ)) (no_echo : Bool)
    (by_scheme : Bool) (start timeout : ℕ)
  where
    -- the bytes of a read were fed, and the answers were written
    pub line_fed : (p q : P) (s : Shake) (t new after : Talk) (r next : ReadTold) (w done : WriteTold) (c : ClockTold) (ms n : ℕ)
        (buf text wrote : List ℕ) (left : Option (List ℕ)) → IsOpen t.stage
        → Line Offers by_option name no_echo by_scheme start timeout text wrote t r w
        → next ≡ read_within ms n buf left r → 0 < n → InTime t.start t.timeout c → ms ≤ t.timeout
        → FedAt (Takes p q) (q ≡ p) Offers by_option name no_echo t.stage t (take n buf) (Ok s) new
        → after ≡ record new { out = [] } → done ≡ wrote_all new.out w
        → Exchanged Takes Offers by_option name no_echo by_scheme start timeout (Ok s) after next done c
    line_fed p q s t new after r next w done c ms n buf text wrote left going line read some in_time most fed out written =
        let bytes = take n buf in
        let h = fed_heeds (Takes p q) (q ≡ p) Offers by_option name no_echo t.stage t new bytes s going fed in
        let at = heeds_at (Takes p q) (q ≡ p) Offers by_option name no_echo t.stage (with_bytes t bytes) new s going refl h in
        let k = heeds_kept (Takes p q) (q ≡ p) Offers by_option name no_echo t.stage (with_bytes t bytes) new s going h in
        let more = heard_next (Takes p q) (q ≡ p) Offers by_option name no_echo t.stage (with_bytes t bytes) new s t.unread wrote text bytes going refl refl line.heard h in
        let plain = heeds_plain (Takes p q) (q ≡ p) Offers by_option name no_echo t.stage (with_bytes t bytes) new s going refl
        (subst (λ (b : Bool). IsPlain by_option b t.stage) (sym line.is_tls) line.plain) h in
        let said : new.out ≡ more.0 = more.1 ∙ ap (λ (l : List ℕ). l ++ more.0) line.out in
        rw (out, written, read) (
          at,
          (
            text ++ bytes,
            wrote ++ more.0,
            record {
              heard = more.2;
              out = refl;
              began = k.start ∙ line.began;
              time = k.timeout ∙ line.time;
              is_tls = k.is_tls ∙ line.is_tls;
              plain = subst (λ (b : Bool). IsPlain by_option b new.stage) line.is_tls plain;
              gave = gave_by n r.pieces buf text some line.gave;
              opens = opens_by n r.pieces buf text some line.gave line.opens (line.waits going);
              waits = waits_by s new.stage (text ++ bytes) at (λ is. more_unopened (Takes p q) (q ≡ p) Offers by_option name no_echo t.stage
                  (with_bytes t bytes) new t.unread wrote text bytes [] going refl line.heard
                  (subst (λ (x : Shake). Heeds (Takes p q) (q ≡ p) Offers by_option name no_echo t.stage (with_bytes t bytes) (Ok x) new) is h));
              took = subst (λ (l : List ℕ). IfSome (append_known w.taken l) (λ (b : List ℕ). b ≡ wrote ++ more.0)) (sym said)
                  (took_by w.taken wrote more.0 line.took);
              no_ends = no_end n buf r.ends some line.no_ends;
              no_faults = line.no_faults;
              no_write_faults = line.no_write_faults;
            },
            omega (arith, in_time, line.began, line.time),
            (ms, omega (arith, most, line.time), refl),
          ),
        )

    -- once more a read may wait for as long as it takes
    pub line_over : (new : Talk) (r next : ReadTold) (w : WriteTold) (c : ClockTold) → next ≡ bounded None r
        → Exchanged Takes Offers by_option name no_echo by_scheme start timeout (Ok shake.Done) new r w c
        → Shaken Takes Offers by_option name no_echo by_scheme start timeout (Ok tt) new next w c
    line_over new r next w c over (at, (text, wrote, line, in_time, least)) = rw over (
      at,
      (
        text,
        wrote,
        record {
          heard = line.heard;
          out = line.out;
          began = line.began;
          time = line.time;
          is_tls = line.is_tls;
          plain = line.plain;
          gave = line.gave;
          opens = line.opens;
          waits = line.waits;
          took = line.took;
          no_ends = line.no_ends;
          no_faults = line.no_faults;
          no_write_faults = line.no_write_faults;
        },
        in_time,
        refl,
      ),
    )

    -- a read gave no bytes
    pub line_silent : (e : Failure) (t : Talk) (r next : ReadTold) (w : WriteTold) (c : ClockTold) (text wrote : List ℕ)
        → IsOpen t.stage → Line Offers by_option name no_echo by_scheme start timeout text wrote t r w → NoBytes e t r next c
        → Broke Takes Offers by_option name no_echo by_scheme start timeout e next w c
    line_silent e t r next w c text wrote going line (inl (is, over)) =
        inr (inl (is, omega (arith, over, line.began, line.time)))
    line_silent e t r next w c text wrote going line (inr (in_time, least, same, inl (is, some))) = inr (inr (
      omega (arith, in_time, line.began, line.time),
      (least.0, omega (arith, least.1, line.time), least.2),
      inl (is, omega (arith, some)),
    ))
    line_silent e t r next w c text wrote going line (inr (in_time, least, same, inr (is, some))) = inr (inr (
      omega (arith, in_time, line.began, line.time),
      (least.0, omega (arith, least.1, line.time), least.2),
      inr (inl (
        text,
        subst (λ (known : Option (List (List ℕ))). IfSome known (λ (ps : List (List ℕ)). concat ps ≡ text)) (sym same) line.gave,
        is ∙ ap io (ends_behind Offers name no_echo t.stage t.unread wrote text going line.heard),
        some,
      )),
    ))

    -- what was heard was answered, and the answers could not be written
    pub line_unwritten : (e : Failure) (t : Talk) (r next : ReadTold) (w done : WriteTold) (c : ClockTold) (ms : ℕ) (text wrote : List ℕ)
        → Line Offers by_option name no_echo by_scheme start timeout text wrote t r w
        → InTime t.start t.timeout c → ms ≤ t.timeout → next.wait ≡ Some ms
        → (e ≡ wanting) ⊎ ((e ≡ io cause.Fault) × (1 ≤ done.faults))
        → Broke Takes Offers by_option name no_echo by_scheme start timeout e next done c
    line_unwritten e t r next w done c ms text wrote line in_time most wait (inl is) = inl is
    line_unwritten e t r next w done c ms text wrote line in_time most wait (inr (is, some)) = inr (inr (
      omega (arith, in_time, line.began, line.time),
      (ms, omega (arith, most, line.time), wait),
      inl (is, omega (arith, some)),
    ))

    -- the bytes of a read were refused
    pub line_refused : (p q : P) (e : Failure) (t new : Talk) (r next : ReadTold) (w : WriteTold) (c : ClockTold) (ms n : ℕ)
        (buf text wrote : List ℕ) (left : Option (List ℕ)) → IsOpen t.stage → Line Offers by_option name no_echo by_scheme start timeout text wrote t r w
        → next ≡ read_within ms n buf left r → 0 < n → InTime t.start t.timeout c → ms ≤ t.timeout
        → FedAt (Takes p q) (q ≡ p) Offers by_option name no_echo t.stage t (take n buf) (Err e) new
        → Broke Takes Offers by_option name no_echo by_scheme start timeout e next w c
    line_refused p q e t new r next w c ms n buf text wrote left going line read some in_time most fed =
        let bytes = take n buf in
        let h = fed_refuses (Takes p q) (q ≡ p) Offers by_option name no_echo t.stage t new bytes e going fed in
        let why = refuses_next (Takes p q) (q ≡ p) Offers by_option name no_echo t.stage (with_bytes t bytes) t.unread wrote text bytes e going refl line.heard h in
        rw (read, ← line.is_tls) (inr (inr (
          omega (arith, in_time, line.began, line.time),
          (ms, omega (arith, most, line.time), refl),
          inr (inr (text ++ bytes, gave_by n r.pieces buf text some line.gave, (p, q, why))),
        )))
