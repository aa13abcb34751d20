-- What a handshake makes of want of memory.
use Rattle.std.proofs.Common.{◌≡◌, refl, ◌∙◌, sym, ap, subst, inl, inr, ℕ, ◌+◌, Bool, false, List, ◌++◌, drop, take, length, Option, Result, Ok, Err, Some, None}
use Rattle.std.proofs.lemmas.List.{drop-drop, take_at}
use Rattle.nats_pool.specs.Auths.{AuthValue}
use Rattle.nats_lines.specs.Operations.{front}
use Rattle.nats_handshake.specs.Errors.{Failure}
use Rattle.nats_handshake.specs.declared.course.Greeting.{Greeting}
use Rattle.nats_handshake.specs.declared.course.Greeting.TheVariants as greeting
use Rattle.nats_handshake.specs.declared.stage.Stage.{Stage}
use Rattle.nats_handshake.specs.declared.stage.Stage.TheVariants as stage
use Rattle.nats_handshake.specs.declared.stage.Shake.{Shake}
use Rattle.nats_handshake.specs.declared.course.Course as code
use Rattle.nats_handshake.specs.Course.{Course, course, behind_out, course_view, greeting_at}
use Rattle.std.specs.Global.{Vec}
use Rattle.nats_names.specs.declared.cause.Cause.{Cause}
use Rattle.nats_info.specs.declared.info.ServerInfo.{ServerInfo}
use Rattle.nats_handshake.specs.declared.error.ConnectErrorKind.{ConnectErrorKind}
use Rattle.nats_handshake.specs.declared.error.ConnectErrorKind.TheVariants as kind
use Rattle.nats_handshake.specs.Credentials.{RefusedAs}
use Rattle.nats_handshake.specs.Shaking.{Talk, wanting, wants_tls, operations_most, opening, staged, advanced, Takes, HasTaken, Declines, Welcomes, Opens, Goes, Follows, Entered, StopsOrWants, Took, WentOn, first_course, Repelled, Hears, Heeds, Settles, FedOpen, FedAt, left_by, refused_of, with_bytes}

abbrev refusal_of : ConnectErrorKind → Result Shake Failure
refusal_of k = Err (k, None)

-- behind an INFO the code's course is followed
pub entered : (info : ServerInfo) (n : ℕ) (t mid new : Talk) (c : code.Course) (k : Course) (s : Shake)
    → course_view (drop n t.unread) c ≡ k → Took (record c { taken = n + c.taken }) t (Ok s) mid
    → new ≡ record mid { stage = staged info c.left s } → Goes info k t s new
entered info n t mid new c k s e took same = rw (← e) (
  took.0,
  same ∙ ap (λ (m : Talk). record m { stage = staged info c.left s }) took.1
      ∙ ap (λ (r : List ℕ). record t { stage = staged info c.left s; unread = r; out = t.out ++ c.out.items })
      (sym (drop-drop c.taken n t.unread)),
)

module _ (Discovers : List (List ℕ) → List (List ℕ) → Type 0) (Stays : Type 0)
    (Offers : List ℕ → Result AuthValue (List ℕ) → Type 0) (by_option : Bool) (name : Option (List ℕ)) (no_echo : Bool)
  where
    pub repelled_wanting : (said : Greeting) (t : Talk) → Stays → Repelled Discovers Stays Offers by_option name no_echo said t wanting
    repelled_wanting greeting.Waits t stays = (stays, refl)
    repelled_wanting (greeting.Refuses r) t stays = (stays, inr refl)
    repelled_wanting (greeting.Greets info n) t stays = inl (refl, inl stays)

    pub heeds_wanting : (at : Stage) (t : Talk) → Stays → Heeds Discovers Stays Offers by_option name no_echo at t (Err wanting) t
    heeds_wanting stage.Greets t stays = (repelled_wanting (greeting_at (front t.unread)) t stays, refl)
    heeds_wanting (stage.Asks info left) t stays = (stays, (inr refl, refl))
    heeds_wanting (stage.Linked info) t stays = (stays, (refl, refl))
    heeds_wanting (stage.Refused kind) t stays = refl

    pub heeds_same : (at : Stage) (t mid : Talk) (e : Failure) → Heeds Discovers Stays Offers by_option name no_echo at t (Err e) mid → mid ≡ t
    heeds_same stage.Greets t mid e h = h.1
    heeds_same (stage.Asks info left) t mid e h = h.1.1
    heeds_same (stage.Linked info) t mid e h = h.1.1
    heeds_same (stage.Refused kind) t mid e h = h

    pub declines_unoffered : (by_scheme : Bool) (info : ServerInfo) (k : ConnectErrorKind) (source : Option Cause)
        → wants_tls by_option by_scheme info ≡ false → HasTaken Discovers Stays Offers by_option name no_echo info
        → RefusedAs k source (Offers info.nonce)
        → Declines Discovers Stays Offers by_option name no_echo by_scheme info k source
    declines_unoffered by_scheme info kind.Authentication source t d r = (t, d, r)
    declines_unoffered by_scheme info kind.NoMemory source t d r = (r, inr d)
    declines_unoffered by_scheme info kind.ServerParse source t d r = absurd r
    declines_unoffered by_scheme info kind.Dns source t d r = absurd r
    declines_unoffered by_scheme info kind.AuthorizationViolation source t d r = absurd r
    declines_unoffered by_scheme info kind.TimedOut source t d r = absurd r
    declines_unoffered by_scheme info kind.Tls source t d r = absurd r
    declines_unoffered by_scheme info kind.Io source t d r = absurd r
    declines_unoffered by_scheme info kind.MaxReconnects source t d r = absurd r

    pub takes_opened : (by_scheme : Bool) (info : ServerInfo) (skipped : Vec (List ℕ)) (out : Vec ℕ)
        → wants_tls by_option by_scheme info ≡ false → Discovers info.connect_urls skipped.items
        → Opens Offers name no_echo info.nonce (Ok out)
        → Welcomes Discovers Stays Offers by_option name no_echo by_scheme info (Ok (out, skipped))
    takes_opened by_scheme info skipped out t d o = (o.0, (t, d, o.1), o.2)

    repelled_entered : (info : ServerInfo) (n : ℕ) (auth : AuthValue) (skipped : List (List ℕ)) (t : Talk) (e : Failure)
        → Takes Discovers Stays Offers by_option name no_echo t.is_tls info skipped auth
        → StopsOrWants ((first_course Discovers Stays Offers by_option name no_echo n auth t.unread).verdict) e
        → Repelled Discovers Stays Offers by_option name no_echo (greeting.Greets info n) t e
    repelled_entered info n auth skipped t e takes (inl stops) = inr (auth, skipped, takes, stops)
    repelled_entered info n auth skipped t e takes (inr w) = rw w (inl (refl, inr (skipped, takes.1)))

    -- what comes of the INFO and what stands behind it
    pub hears_entered : (said : Greeting) (info : ServerInfo) (n : ℕ) (auth : AuthValue) (t new : Talk) (out : List ℕ)
        (skipped : List (List ℕ)) (res : Result Shake Failure) → said ≡ greeting.Greets info n
        → Takes Discovers Stays Offers by_option name no_echo t.is_tls info skipped auth → out ≡ opening name no_echo auth
        → Entered info (behind_out out (course operations_most (drop n t.unread))) skipped t res new
        → Hears Discovers Stays Offers by_option name no_echo said t res new
    hears_entered said info n auth t new out skipped (Ok s) e takes o f = rw e (auth, skipped, takes, rw o at f)
    hears_entered said info n auth t new out skipped (Err r) e takes o f =
        rw e (repelled_entered info n auth skipped t r takes f.0, f.1)

    -- one that knows the INFO goes on
    pub heeds_on : (info : ServerInfo) (left : ℕ) (t new : Talk) (res : Result Shake Failure) → t.stage ≡ stage.Asks info left
        → Stays → WentOn left t res new → Heeds Discovers Stays Offers by_option name no_echo (stage.Asks info left) t res new
    heeds_on info left t new (Ok s) e stays went =
        let c = course left t.unread in
        (stays, (went.0, went.1 ∙ ap (λ (at : Stage). record t { stage = advanced at c.left s; unread = c.rest; out = t.out ++ c.out }) e))
    heeds_on info left t new (Err r) e stays went = (stays, went)

    -- the same at an equal stage
    pub heeds_at : (at same : Stage) (t new : Talk) (res : Result Shake Failure) → at ≡ same
        → Heeds Discovers Stays Offers by_option name no_echo at t res new
        → Heeds Discovers Stays Offers by_option name no_echo same t res new
    heeds_at at same t new res e h =
        subst (λ (s : Stage). Heeds Discovers Stays Offers by_option name no_echo s t res new) e h

    -- the same at what is equal
    pub hears_at : (said at : Greeting) (t new : Talk) (res : Result Shake Failure) → said ≡ at
        → Hears Discovers Stays Offers by_option name no_echo said t res new
        → Hears Discovers Stays Offers by_option name no_echo at t res new
    hears_at said at t new res e h =
        subst (λ (g : Greeting). Hears Discovers Stays Offers by_option name no_echo g t res new) e h

    -- a refusal is kept
    pub settles_left : (at : Stage) (t mid new : Talk) (before : ℕ) (e : Failure) (k : ConnectErrorKind)
        → Heeds Discovers Stays Offers by_option name no_echo at t (Err e) mid → k ≡ e.0
        → new ≡ left_by k (record mid { unread = take before mid.unread }) mid
        → Settles Discovers Stays Offers by_option name no_echo at before t (Err e) new
    settles_left at t mid new before e k h same left =
        let m = heeds_same at t mid e h in (
          subst (λ (u : Talk). Heeds Discovers Stays Offers by_option name no_echo at t (Err e) u) m h,
          left ∙ ap (λ (u : Talk). left_by k (record u { unread = take before u.unread }) u) m
              ∙ ap (λ (j : ConnectErrorKind). left_by j (record t { unread = take before t.unread }) t) same,
        )

    -- what comes of bytes that were taken
    pub fed_settled : (t more new : Talk) (bytes : List ℕ) (before : ℕ) (res : Result Shake Failure) → more ≡ with_bytes t bytes
        → before ≡ length t.unread → Settles Discovers Stays Offers by_option name no_echo more.stage before more res new
        → FedOpen Discovers Stays Offers by_option name no_echo t.stage t bytes res new
    fed_settled t more new bytes before (Ok s) same len h =
        subst (λ (u : Talk). Heeds Discovers Stays Offers by_option name no_echo u.stage u (Ok s) new) same h
    fed_settled t more new bytes before (Err e) same len h = (
      subst (λ (u : Talk). Heeds Discovers Stays Offers by_option name no_echo u.stage u (Err e) u) same h.0,
      h.1 ∙ ap (λ (u : Talk). left_by e.0 (record u { unread = take before u.unread }) u) same
          ∙ ap (λ (l : List ℕ). left_by e.0 (record t { unread = l }) (with_bytes t bytes)) (take_at t.unread bytes before (sym len)),
    )

    -- want of memory for the bytes
    pub fed_wanting : (t : Talk) (bytes : List ℕ) → Stays
        → FedOpen Discovers Stays Offers by_option name no_echo t.stage t bytes (Err wanting) t
    fed_wanting t bytes stays = (heeds_wanting t.stage (with_bytes t bytes) stays, refl)

    -- one that was refused, and one that was not
    pub fed_refused : (at : Stage) (t : Talk) (bytes : List ℕ) (k : ConnectErrorKind) → refused_of at ≡ Some k → Stays
        → FedAt Discovers Stays Offers by_option name no_echo at t bytes (Err (k, None)) t
    fed_refused stage.Greets t bytes k e stays = cc
    fed_refused (stage.Asks info left) t bytes k e stays = cc
    fed_refused (stage.Linked info) t bytes k e stays = cc
    fed_refused (stage.Refused j) t bytes k e stays =
        let same : j ≡ k = cc in
        (stays, ap refusal_of (sym same), refl)

    pub fed_open : (at : Stage) (t new : Talk) (bytes : List ℕ) (res : Result Shake Failure) → refused_of at ≡ None
        → FedOpen Discovers Stays Offers by_option name no_echo at t bytes res new
        → FedAt Discovers Stays Offers by_option name no_echo at t bytes res new
    fed_open stage.Greets t new bytes res e f = f
    fed_open (stage.Asks info left) t new bytes res e f = f
    fed_open (stage.Linked info) t new bytes res e f = f
    fed_open (stage.Refused j) t new bytes res e f = cc
