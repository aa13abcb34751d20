-- A round of connecting on default options, whose pool has one server: what it says of texts and of what is offered.
use Rattle.std.proofs.Common.{◌≡◌, refl, ◌∙◌, sym, ap, subst, inl, inr, ◌⊎◌, ℕ, arith, Bool, true, false, true≢false, if◌then◌else◌, List, [], ◌∷◌, ◌++◌, map, length, All, Option, Some, None, Result, Ok, Err, IfOk, IfErr}
use Rattle.std.specs.Prelude.{OnErr}
use Rattle.std.specs.Global.{Vec}
use Rattle.std.proofs.lemmas.List.Elements.{All-nil, All-cons, All-head}
use Rattle.std.proofs.lemmas.List.Sorted.{All-permutation, length_permutation}
use denote.Param.Members.{Mut}
use Rattle.rand_core.specs.Stream.{Stream}
use Rattle.url.specs.Parts.{Parts}
use Rattle.nats_addr.specs.Addr.{addr_of, is_tls, is_websocket}
use Rattle.nats_info.specs.declared.info.ServerInfo.{ServerInfo}
use Rattle.nats_names.specs.declared.cause.Cause.{Cause}
use Rattle.nats_lines.specs.Operations.{front}
use Rattle.nats_pool.specs.Auths.{AuthValue}
use Rattle.nats_pool.specs.declared.auth.Auth.{Auth}
use Rattle.nats_pool.specs.declared.pool_parts.Choice.{Choice}
use Rattle.nats_pool.specs.declared.pool_parts.Planned.{Planned}
use Rattle.nats_pool.specs.declared.pool_parts.Pool.{Pool}
use Rattle.nats_pool.specs.declared.server.Server.{Server}
use Rattle.nats_pool.specs.declared.server.ReconnectToServer.{ReconnectToServer}
use Rattle.nats_pool.specs.declared.callbacks.ChoiceFn.{ChoiceFn}
use Rattle.nats_pool.specs.Handing.{RoundTold, pool_told}
use Rattle.nats_pool.specs.Pools.{NamedBy, numbers_left, options_of, round_of, servers_of}
use Rattle.nats_pool.specs.Rounds.{IsDefaultOrder, IsRoundBy, plan_of}
use Rattle.nats_pool.specs.Servers.{new_server}
use Rattle.nats_outside.specs.Told.{Seen, ReadTold, WriteTold}
use Rattle.nats_handshake.specs.declared.course.Greeting.{Greeting}
use Rattle.nats_handshake.specs.declared.course.Greeting.TheVariants as greeting
use Rattle.nats_handshake.specs.declared.error.ConnectErrorKind.{ConnectErrorKind}
use Rattle.nats_handshake.specs.declared.error.ConnectErrorKind.TheVariants as kind
use Rattle.nats_handshake.specs.Course.{greeting_at}
use Rattle.nats_handshake.specs.Credentials.{SignedBy, ThenTold, Offers}
use Rattle.nats_handshake.specs.Errors.{Failure}
use Rattle.nats_handshake.specs.Heard.{RefusesIn, RefusesText}
use Rattle.nats_handshake.specs.Shaking.{Declines, is_wanting, wanting, wants_tls}
use Rattle.nats_dial.specs.Began.{BeganRound, BeganWell, wants, began}
use Rattle.nats_dial.specs.Causes.{AllBack, CameUp, last_tls, LinkCause, ServerCause, Why, RoundCause}
use Rattle.nats_dial.specs.Tries.{IsUp}
use Rattle.nats_live.specs.declared.error.LiveError.{LiveError}
use Rattle.nats_live.specs.declared.error.LiveError.TheVariants as refused
use Rattle.nats_live.specs.Causes.{IsRoundWith, LinkedTo, DialedTo, default_timeout, OffersNothing, RoundFailed, TakesTexts, WhyNotDialed, WhyNotLinked, connect_refused}
use Rattle.nats_live.specs.Ended.{nothing}

-- ---- the round of one server

one_of : (x : Planned) (plan : List Planned) → length plan ≡ 1 → All (λ (p : Planned). p ≡ x) plan → plan ≡ x ∷ []
one_of x [] one all = absurd (omega (arith, one))
one_of x (p ∷ []) one all = ap (λ (q : Planned). q ∷ []) (All-head (λ (p : Planned). p ≡ x) p [] all)
one_of x (p ∷ q ∷ more) one all = absurd (omega (arith, one))

one_ordered : (retains : Bool) (x : Planned) (numbers : Stream) (plan : List Planned) (left : Stream)
    → IsDefaultOrder retains (x ∷ []) numbers plan left → plan ≡ x ∷ []
one_ordered true x numbers plan left order = order.0
one_ordered false x numbers plan left order =
    one_of x plan (length_permutation (x ∷ []) plan order.permutation)
    (All-permutation (λ (p : Planned). p ≡ x) (x ∷ []) plan order.permutation
    (All-cons (λ (p : Planned). p ≡ x) x [] refl (All-nil (λ (p : Planned). p ≡ x))))

-- it has that server alone
pub one_planned : (server : Parts) (servers : List Server) (retains : Bool) (numbers : Stream)
    (named : Option ReconnectToServer)
    (chosen : Choice) (plan : List Planned) (left : Stream) → named ≡ None → servers ≡ new_server server ∷ []
    → IsRoundBy named servers retains numbers chosen plan left → plan ≡ plan_of (new_server server) ∷ []
one_planned server servers retains numbers named chosen plan left none is round =
    let here = subst (λ (n : Option ReconnectToServer). IsRoundBy n servers retains numbers chosen plan left) none
    round in
    one_ordered retains (plan_of (new_server server)) numbers plan left
    (subst (λ (ss : List Server). IsDefaultOrder retains (map plan_of ss) numbers plan left) is here.1)

-- ---- what a client without credentials offers

own_nothing : {F G : Type 0} (Signs : F → Vec ℕ → Result (Vec ℕ) (List ℕ) → Type 0)
    (Tells : G → Vec ℕ → Result Auth (List ℕ) → Type 0)
    (nonce : List ℕ) (own r : Result AuthValue (List ℕ)) → SignedBy Signs None None nothing nonce own
    → ThenTold Tells None nonce own r
    → r ≡ Ok nothing
own_nothing Signs Tells nonce (Ok own) r is told = told ∙ is
own_nothing Signs Tells nonce (Err e) r is told = cc

pub offers_nothing : {F G : Type 0} (Signs : F → Vec ℕ → Result (Vec ℕ) (List ℕ) → Type 0)
    (Tells : G → Vec ℕ → Result Auth (List ℕ) → Type 0)
    (nonce : List ℕ) (r : Result AuthValue (List ℕ)) → Offers Signs Tells None None nothing nonce r
    → OffersNothing nonce r
offers_nothing Signs Tells nonce r offers = own_nothing Signs Tells nonce offers.0 r offers.1 offers.2

-- the same where options are those of default
pub offers_default : {F G : Type 0} (Signs : F → Vec ℕ → Result (Vec ℕ) (List ℕ) → Type 0)
    (Tells : G → Vec ℕ → Result Auth (List ℕ) → Type 0)
    (signer : Option F) (callback : Option G) (value : AuthValue) → signer ≡ None → callback ≡ None → value ≡ nothing
    → (nonce : List ℕ) (r : Result AuthValue (List ℕ)) → Offers Signs Tells signer callback value nonce r
    → OffersNothing nonce r
offers_default Signs Tells None None value unsigned untold plain nonce r offers =
    offers_nothing Signs Tells nonce r (subst (λ (a : AuthValue). Offers Signs Tells None None a nonce r) plain offers)
offers_default Signs Tells (Some f) callback value unsigned untold plain nonce r offers = cc
offers_default Signs Tells None (Some f) value unsigned untold plain nonce r offers = cc

-- ---- what becomes of the texts of an INFO

module _ {Y : Type 0} {G : Y → Type 0}
    {h : Mut ((y : Y) × G y) (Vec Server × (ServerInfo × Unit {0})) (Option ReconnectToServer)} where
  -- no callback names a server
  none_named : (Answers : ChoiceFn Y G h → Vec Server → ServerInfo → Option ReconnectToServer → Type 0)
      (servers : List Server)
      (last : ServerInfo) (named : Option ReconnectToServer) (choice : Option (ChoiceFn Y G h)) → choice ≡ None
      → NamedBy Answers choice servers last named → named ≡ None
  none_named Answers servers last named None is names = names
  none_named Answers servers last named (Some f) is names = cc

-- ---- a round, without its pool

module _ (Offers : List ℕ → Result AuthValue (List ℕ) → Type 0)
    (offers : (nonce : List ℕ) (r : Result AuthValue (List ℕ)) → Offers nonce r → OffersNothing nonce r)
  where
    -- TLS is wanted by nothing
    none_wanted : (by_option by_scheme : Bool) (info : ServerInfo) → wants_tls by_option by_scheme info ≡ false
        → (by_scheme ≡ false) × (wants_tls false false info ≡ false)
    none_wanted false false info plain = (refl, plain)
    none_wanted false true info plain = cc
    none_wanted true by_scheme info plain = cc

    pub plain_up : (by_option by_scheme : Bool) (name : Option (List ℕ)) (no_echo : Bool) (info : ServerInfo)
        (rest : List ℕ) (r : ReadTold) (w : WriteTold) → IsUp Offers by_option by_scheme name no_echo info rest r w
        → IsUp OffersNothing false false name no_echo info rest r w
    plain_up by_option by_scheme name no_echo info rest r w up = record {
      text = up.text;
      wrote = up.wrote;
      said = up.said;
      plain = (none_wanted by_option by_scheme info up.plain).1;
      offers = (up.offers.0, offers info.nonce (Ok up.offers.0) up.offers.1, up.offers.2);
      succeeds = up.succeeds;
      gave = up.gave;
      opens = up.opens;
      took = up.took;
      no_ends = up.no_ends;
      no_faults = up.no_faults;
      no_write_faults = up.no_write_faults;
      no_wait = up.no_wait;
    }

    alone_among : (planned : Planned) (before : List Planned) (server : Planned) (later : List Planned)
        → planned ∷ [] ≡ before ++ server ∷ later → server ≡ planned
    alone_among planned [] server later is = cc
    alone_among planned (x ∷ []) server later is = cc
    alone_among planned (x ∷ y ∷ more) server later is = cc

    -- a link that came on default options is one to the round's server, of a client that offers nothing
    pub linked_default : (by_option : Bool) (name : Option (List ℕ)) (no_echo : Bool) (timeout : ℕ) → name ≡ None
        → no_echo ≡ false → (told : RoundTold) (server : Parts) (info : ServerInfo) (rest : List ℕ) (r : ReadTold)
        (w : WriteTold) (a b : Seen) → IsRoundWith server told
        → CameUp Offers by_option name no_echo timeout told.round info rest r w a b
        → LinkedTo server info rest r w a b
    linked_default by_option name no_echo timeout unnamed echoes told server info rest r w a b
        (planned, is, round, limit) came =
        let same = alone_among planned came.before came.server came.later (sym round ∙ came.among) in
        let to : came.server.addr ≡ server = ap (λ (p : Planned). p.addr) same ∙ is in
        record {
          no_tls = subst (λ (x : Parts). is_tls x ≡ false) to
              (none_wanted by_option (is_tls came.server.addr) info came.up.plain).0;
          no_socket = subst (λ (x : Parts). is_websocket x ≡ false) to came.no_socket;
          up = subst (λ (n : Option (List ℕ)). IsUp OffersNothing false false n false info rest r w) unnamed
              (subst (λ (e : Bool). IsUp OffersNothing false false name e info rest r w) echoes
              (plain_up by_option (is_tls came.server.addr) name no_echo info rest r w came.up));
          dialed = came.dialed;
          out = came.out;
        }

module _ {P : Type 0} (Takes : P → P → List (List ℕ) → List (List ℕ) → Type 0)
    (Offers : List ℕ → Result AuthValue (List ℕ) → Type 0)
    (offers : (nonce : List ℕ) (r : Result AuthValue (List ℕ)) → Offers nonce r → OffersNothing nonce r)
  where
    no_refusal : {A : Type 0} (e : List ℕ) (r : Result AuthValue (List ℕ)) → r ≡ Err e → r ≡ Ok nothing → A
    no_refusal e r is other = cc

    module _ (by_option : Bool) (name : Option (List ℕ)) (no_echo : Bool) where
      declines : (by_scheme : Bool) (info : ServerInfo) (p q : P) (k : ConnectErrorKind) (source : Option Cause)
          → Declines (Takes p q) (q ≡ p) Offers by_option name no_echo by_scheme info k source
          → ((k, source) ≡ wanting)
          ⊎ Declines (TakesTexts tt tt) (tt {0} ≡ tt {0}) OffersNothing by_option name no_echo by_scheme info k source
      declines by_scheme info p q kind.Tls source d = inr (d.0, d.1, refl)
      declines by_scheme info p q kind.ServerParse source d = absurd d
      declines by_scheme info p q kind.Authentication source d =
          no_refusal d.2.0 (Err d.2.0) refl (offers info.nonce (Err d.2.0) d.2.2)
      declines by_scheme info p q kind.NoMemory source d = inl (ap (λ (s : Option Cause). (kind.NoMemory, s)) d.0)
      declines by_scheme info p q kind.Dns source d = absurd d
      declines by_scheme info p q kind.AuthorizationViolation source d = absurd d
      declines by_scheme info p q kind.TimedOut source d = absurd d
      declines by_scheme info p q kind.Io source d = absurd d
      declines by_scheme info p q kind.MaxReconnects source d = absurd d

      refuses_in : (by_scheme : Bool) (p q : P) (said : Greeting) (text : List ℕ) (e : Failure)
          → RefusesIn (Takes p q) (q ≡ p) Offers by_option name no_echo by_scheme said text e
          → (e ≡ wanting) ⊎ RefusesIn (TakesTexts tt tt) (tt {0} ≡ tt {0}) OffersNothing by_option name no_echo by_scheme said
          text e
      refuses_in by_scheme p q greeting.Waits text e r = inr r
      refuses_in by_scheme p q (greeting.Refuses why) text e r = inr r
      refuses_in by_scheme p q (greeting.Greets info n) text e (inr stops) = inr (inr stops)
      refuses_in by_scheme p q (greeting.Greets info n) text e (inl d) = by (declines by_scheme info p q e.0 e.1 d)
        where
          by : (e ≡ wanting) ⊎ Declines (TakesTexts tt tt) (tt {0} ≡ tt {0}) OffersNothing by_option name no_echo by_scheme
              info e.0 e.1
              → (e ≡ wanting) ⊎ RefusesIn (TakesTexts tt tt) (tt {0} ≡ tt {0}) OffersNothing by_option name no_echo by_scheme
              (greeting.Greets info n) text e
          by (inl is) = inl is
          by (inr d) = inr (inl d)

      module _ (timeout : ℕ) where
        link : (by_scheme : Bool) (a : Seen) (e : Failure) (b : Seen)
            → LinkCause Takes Offers by_option name no_echo timeout by_scheme a e b
            → LinkCause TakesTexts OffersNothing by_option name no_echo timeout by_scheme a e b
        link by_scheme a e b (inl is) = inl is
        link by_scheme a e b (inr (inl late)) = inr (inl late)
        link by_scheme a e b (inr (inr (inl failed))) = inr (inr (inl failed))
        link by_scheme a e b (inr (inr (inr (inl ended)))) = inr (inr (inr (inl ended)))
        link by_scheme a e b (inr (inr (inr (inr (text, gave, (p, q, refused)))))) =
            by (refuses_in by_scheme p q (greeting_at (front text)) text e refused)
          where
            by : (e ≡ wanting) ⊎ RefusesText (TakesTexts tt tt)
                (tt {0} ≡ tt {0}) OffersNothing by_option name no_echo by_scheme text e
                → LinkCause TakesTexts OffersNothing by_option name no_echo timeout by_scheme a e b
            by (inl is) = inl is
            by (inr r) = inr (inr (inr (inr (text, gave, (tt, tt, r)))))

        server : (tried : List Planned) (a : Seen) (e : Failure) (b : Seen)
            → ServerCause Takes Offers by_option name no_echo timeout tried a e b
            → ServerCause TakesTexts OffersNothing by_option name no_echo timeout tried a e b
        server tried a e b (inl asked) = inl asked
        server tried a e b (inr (inl empty)) = inr (inl empty)
        server tried a e b (inr (inr (inl socket))) = inr (inr (inl socket))
        server tried a e b (inr (inr (inr why))) = inr (inr (inr (link (last_tls tried) a e b why)))

        why : (tried rest : List Planned) (before after : RoundTold) (a : Seen) (e : Failure) (b : Seen)
            → Why Takes Offers by_option name no_echo timeout tried rest before after a e b
            → Why TakesTexts OffersNothing by_option name no_echo timeout tried rest before after a e b
        why tried rest before after a e b (inl none) = inl none
        why tried rest before after a e b (inr (inl spent)) = inr (inl spent)
        why tried rest before after a e b (inr (inr (cause, done))) = inr (inr (server tried a e b cause, done))

        pub plain_round : (before after : RoundTold) (a : Seen) (e : Failure) (b : Seen)
            → RoundCause Takes Offers by_option name no_echo timeout before after a e b
            → RoundCause TakesTexts OffersNothing by_option name no_echo timeout before after a e b
        plain_round before after a e b (inl is) = inl is
        plain_round before after a e b (inr (tried, rest, has, handed, is)) =
            inr (tried, rest, has, handed, why tried rest before after a e b is)

-- ---- the pool of one server

module _ {X Y : Type 0} {F : X → Type 0} {G : Y → Type 0} {g : Mut ((x : X) × F x) (ℕ × Unit {0}) ℕ}
    {h : Mut ((y : Y) × G y) (Vec Server × (ServerInfo × Unit {0})) (Option ReconnectToServer)} where
  -- the round that began on it has that server alone, and no limit
  pub begun_alone : (server : Parts) (p n : Pool X Y F G g h) (chosen : Choice) (named : Option ReconnectToServer)
      (told : RoundTold) → servers_of p ≡ new_server server ∷ [] → (options_of p).max_reconnects ≡ None → named ≡ None
      → IsRoundBy named (servers_of p) ((options_of p).retain_servers_order) (numbers_left p) chosen (round_of n)
      (numbers_left n)
      → options_of n ≡ options_of p → told.round ≡ (pool_told n).round → told.limit ≡ (pool_told n).limit
      → IsRoundWith server told
  begun_alone server p n chosen named told servers unlimited none plan options round limit = (
    plan_of (new_server server),
    refl,
    round ∙ one_planned server (servers_of p) ((options_of p).retain_servers_order) (numbers_left p) named chosen
        (round_of n) (numbers_left n) none servers plan,
    limit ∙ (ap (λ (o : _). o.max_reconnects) options ∙ unlimited),
  )

-- ---- by what a call answered

pub if_ok : {L E : Type 0} (P : L → Type 0) (r : Result L E) → ((l : L) → r ≡ Ok l → P l) → IfOk r P
if_ok P (Ok l) f = f l refl
if_ok P (Err e) f = tt

pub if_err : {L E : Type 0} (P : E → Type 0) (r : Result L E) → ((e : E) → r ≡ Err e → P e) → IfErr r P
if_err P (Ok l) f = tt
if_err P (Err e) f = f e refl

-- ---- no link came of an address

pub not_linked : (server : Parts) (a b : Seen) (e : Failure) (before after : RoundTold)
    → (e ≡ wanting) ⊎ (IsRoundWith server after × RoundFailed before after a e b)
    → WhyNotLinked server a (connect_refused e) b
not_linked server a b e before after failed = by (is_wanting e.0) refl
  where
    why : is_wanting e.0 ≡ false → (e ≡ wanting) ⊎ (IsRoundWith server after × RoundFailed before after a e b)
        → WhyNotLinked server a (refused.Connect e) b
    why fine (inl is) = absurd (true≢false (sym (ap (λ (f : Failure). is_wanting f.0) is) ∙ fine))
    why fine (inr (alone, round)) = (fine, (before, after, alone, round))

    by : (w : Bool) → is_wanting e.0 ≡ w → WhyNotLinked server a (if w then refused.NoMemory else refused.Connect e) b
    by true is = tt
    by false is = why is failed

pub not_dialed : (addr : List ℕ) (server : Parts) (a b : Seen) (e : LiveError) → addr_of addr ≡ Ok server
    → WhyNotLinked server a e b → WhyNotDialed addr a e b
not_dialed addr server a b (refused.Connect e) spelled (fine, (before, after, alone, round)) =
    (fine, inr (before, after, (server, spelled, alone), round))
not_dialed addr server a b (refused.Publish e) spelled why = absurd why
not_dialed addr server a b (refused.Subscribe e) spelled why = absurd why
not_dialed addr server a b refused.LinkEnded spelled why = absurd why
not_dialed addr server a b refused.NoMemory spelled why = tt

pub on_err : {L E : Type 0} (P : Type 0) (r : Result L E) → P → OnErr r P
on_err P (Ok l) p = tt
on_err P (Err e) p = p

pub if_ok_to : {L E : Type 0} (P Q : L → Type 0) (r : Result L E) → IfOk r P → ((l : L) → P l → Q l) → IfOk r Q
if_ok_to P Q (Ok l) p f = f l p
if_ok_to P Q (Err e) p f = tt

pub if_err_to : {L E : Type 0} (P Q : E → Type 0) (r : Result L E) → IfErr r P → ((e : E) → P e → Q e) → IfErr r Q
if_err_to P Q (Ok l) p f = tt
if_err_to P Q (Err e) p f = f e p

-- ---- a round of connecting on default options

-- why none came
pub failed_default : {P : Type 0} (Takes : P → P → List (List ℕ) → List (List ℕ) → Type 0)
    (Offers : List ℕ → Result AuthValue (List ℕ) → Type 0)
    (offers : (nonce : List ℕ) (r : Result AuthValue (List ℕ)) → Offers nonce r → OffersNothing nonce r)
    (by_option : Bool) (name : Option (List ℕ)) (no_echo : Bool) (timeout : ℕ)
    → by_option ≡ false → name ≡ None → no_echo ≡ false → timeout ≡ default_timeout
    → (before after : RoundTold) (a : Seen) (e : Failure) (b : Seen)
    → RoundCause Takes Offers by_option name no_echo timeout before after a e b → RoundFailed before after a e b
failed_default Takes Offers offers by_option name no_echo timeout plain unnamed echoes time before after a e b
    cause =
    subst (λ (t : ℕ). RoundCause TakesTexts OffersNothing false None false t before after a e b) time
    (subst (λ (o : Bool). RoundCause TakesTexts OffersNothing o None false timeout before after a e b) plain
    (subst (λ (n : Option (List ℕ)). RoundCause TakesTexts OffersNothing by_option n false timeout before after a e b)
    unnamed
    (subst (λ (x : Bool). RoundCause TakesTexts OffersNothing by_option name x timeout before after a e b) echoes
    (plain_round Takes Offers offers by_option name no_echo timeout before after a e b cause))))

-- the round that began was that server's alone
pub began_alone : {P : Type 0} (Begins : ServerInfo → P → P → Choice → Type 0) (told : P → RoundTold)
    (last : ServerInfo) (p q : P) (e : Failure) (server : Parts) (F : Type 0) → F
    → ((chosen : Choice) (n : P) → Begins last p n chosen → (told q).round ≡ (told n).round
    → (told q).limit ≡ (told n).limit → IsRoundWith server (told q))
    → BeganRound Begins told last p q e → (e ≡ wanting) ⊎ (IsRoundWith server (told q) × F)
began_alone Begins told last p q e server F failed alone (wants is) = inl is
began_alone Begins told last p q e server F failed alone (began chosen n begins round limit) =
    inr (alone chosen n begins round limit, failed)

-- the same of a round that gave a link
pub began_well : {P : Type 0} (Begins : ServerInfo → P → P → Choice → Type 0) (told : P → RoundTold)
    (last : ServerInfo) (p q : P) (server : Parts)
    → ((chosen : Choice) (n : P) → Begins last p n chosen → (told q).round ≡ (told n).round
    → (told q).limit ≡ (told n).limit → IsRoundWith server (told q))
    → BeganWell Begins told last p q → IsRoundWith server (told q)
began_well Begins told last p q server alone well = alone well.chosen well.begun well.begins well.round well.limit
