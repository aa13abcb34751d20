-- What a request with an inbox of its own tells, counts and holds.
use Rattle.std.proofs.Common.{◌≡◌, ℕ, ◌+◌, ◌-◌, ◌≤◌, ◌<◌, true, false, List, Option, Some, None, Result, Ok, Err, IfErr, inl, inr, refl, sym, ◌∙◌, ap, subst, arith}
use Rattle.std.proofs.lemmas.Bool.{false≢true}
use Rattle.nats_names.specs.declared.cause.Cause.{Cause}
use Rattle.nats_names.specs.declared.cause.Cause.TheVariants as cause
use Rattle.nats_header.specs.Headers.{Headers}
use Rattle.nats_message.specs.declared.message.OutboundMessage.{OutboundMessage}
use Rattle.nats_history.specs.declared.call.Call.{Call}
use Rattle.nats_history.specs.declared.call.Call.TheVariants.{Publish, Subscribe}
use Rattle.nats_history.specs.Schedule.{size_of}
use Rattle.nats_refusals.specs.declared.refusal.Refusal.{Refusal}
use Rattle.nats_refusals.specs.declared.refusal.Refusal.TheVariants.{InvalidSubject, InvalidQueueName, TooLarge, Closed, NoNumber, NoPart, Full, NoResponders, TimedOut, Dropped, NoMemory}
use Rattle.nats_refusals.specs.declared.kinds.RequestErrorKind.{RequestErrorKind}
use Rattle.nats_refusals.specs.declared.kinds.RequestErrorKind.TheVariants as kinds
use Rattle.nats_refusals.specs.Refusals.{MayRefuse, MayRefuseForPart}
use Rattle.nats_refusals.specs.Kinds.{source_of, request_kind}
use Rattle.nats_hub.specs.Asking.{Objects, Lacks}
use Rattle.nats_client.specs.Calls.{requested}
use Rattle.nats_client.specs.Views.{ClientView}
use Rattle.nats_client.specs.Inboxes.{unheard, unanswered, IsUnheard, Tests, RefusesSent, RefusesAt, CountsSent, CountsAt, HoldsAt, Ends}

-- an error: its kind and its source
abbrev E : Type 0
E = RequestErrorKind × Option Cause

-- ---- the test

pub tells_tested : (call : Call) (r : Refusal) → Objects call r → Tests call (request_kind r) (source_of r)
tells_tested call InvalidSubject objects = refl
tells_tested call (TooLarge limit size) objects = objects
tells_tested call refusal objects = absurd objects

pub ruleset tested_rules = (tells_tested)

-- ---- the subscription

too_large : (limit size : ℕ) → size ≡ 0 → limit < size → ⊥
too_large limit size none more = omega (arith, none, more)

pub tells_unheard : (parts : ℕ) (subject : List ℕ) (r : Refusal)
    → MayRefuseForPart true (Subscribe subject None) parts r
    → IsUnheard parts (unheard r).0 (unheard r).1
tells_unheard parts s InvalidSubject may = may.1
tells_unheard parts s InvalidQueueName may = absurd (false≢true (sym may.0))
tells_unheard parts s (TooLarge limit size) may = absurd (too_large limit size may.0.0 may.0.1)
tells_unheard parts s Closed may = may.1
tells_unheard parts s NoNumber may = may.1
tells_unheard parts s NoPart may = may
tells_unheard parts s Full may = absurd (false≢true (sym may.0))
tells_unheard parts s NoMemory may = refl
tells_unheard parts s refusal may = absurd may.0

pub ruleset heard_rules = (tells_unheard)

-- ---- the message and its answer

pub tells_sent : (m : OutboundMessage) (r : Refusal) → MayRefuse true (Publish m) r
    → RefusesSent (Publish m) (request_kind r) (source_of r)
tells_sent m InvalidSubject may = refl
tells_sent m InvalidQueueName may = absurd (false≢true (sym may))
tells_sent m (TooLarge limit size) may = may
tells_sent m Closed may = tt
tells_sent m NoNumber may = absurd (false≢true may)
tells_sent m Full may = absurd (false≢true (sym may))
tells_sent m NoMemory may = refl
tells_sent m refusal may = absurd may

pub sent_counts : (A : Type 0) (m : OutboundMessage) (before after : ℕ) (r : Refusal)
    → MayRefuse true (Publish m) r → after ≡ before + 0
    → CountsSent {A = A} (Err (request_kind r, source_of r)) before after
sent_counts A m before after InvalidSubject may up = omega (arith, up)
sent_counts A m before after InvalidQueueName may up = absurd (false≢true (sym may))
sent_counts A m before after (TooLarge limit size) may up = omega (arith, up)
sent_counts A m before after Closed may up = up
sent_counts A m before after NoNumber may up = up
sent_counts A m before after Full may up = absurd (false≢true (sym may))
sent_counts A m before after NoMemory may up = (omega (arith, up), omega (arith, up))
sent_counts A m before after refusal may up = absurd may

pub tells_unanswered : (call : Call) (r : Refusal) → Lacks r → RefusesSent call (unanswered r).0 (unanswered r).1
tells_unanswered call TimedOut lacks = refl
tells_unanswered call Dropped lacks = tt
tells_unanswered call NoResponders lacks = refl
tells_unanswered call NoMemory lacks = refl
tells_unanswered call refusal lacks = absurd lacks

pub unanswered_counts : (A : Type 0) (before after : ℕ) (r : Refusal) → Lacks r → after ≡ before + 1
    → CountsSent {A = A} (Err (unanswered r)) before after
unanswered_counts A before after TimedOut lacks up = up
unanswered_counts A before after Dropped lacks up = up
unanswered_counts A before after NoResponders lacks up = up
unanswered_counts A before after NoMemory lacks up = (omega (arith, up), omega (arith, up))
unanswered_counts A before after refusal lacks up = absurd lacks

-- only that the time is over is told as such
pub late_answer : (r : Refusal) → Lacks r → (unanswered r).0 ≡ kinds.TimedOut → r ≡ TimedOut
late_answer TimedOut lacks is = refl
late_answer Dropped lacks is = cc
late_answer NoResponders lacks is = cc
late_answer NoMemory lacks is = cc
late_answer refusal lacks is = absurd lacks

pub not_late : (m : OutboundMessage) (r : Refusal) → MayRefuse true (Publish m) r → request_kind r ≡ kinds.TimedOut → ⊥
not_late m InvalidSubject may is = cc
not_late m InvalidQueueName may is = cc
not_late m (TooLarge limit size) may is = cc
not_late m Closed may is = cc
not_late m NoNumber may is = cc
not_late m Full may is = cc
not_late m NoMemory may is = cc
not_late m refusal may is = absurd may

pub ruleset answered_rules = (tells_sent, sent_counts, tells_unanswered, unanswered_counts, late_answer, not_late)

-- ---- the end of the subscription

pub ended_well : {A : Type 0} (answer result : Result A E) (old new : ClientView) → result ≡ answer
    → new ≡ record old { parts = old.parts + 1; made = new.made } → old.made ≤ new.made → new.made ≤ old.made + 1
    → Ends answer result old new
ended_well answer result old new is closes least most = inl (is, (closes, least, most))

pub ended_badly : {A : Type 0} (answer result : Result A E) (old new : ClientView)
    → result ≡ Err (kinds.NoMemory, None) → new ≡ old
    → Ends answer result old new
ended_badly answer result old new is same = inr (is, same)

pub ruleset ended_rules = (ended_well, ended_badly)

-- ---- what ended before a message was published

-- the client is as it was
pub early_holds : (A : Type 0) (e : E) (v : ClientView) → HoldsAt {A = A} (Err e) v v
early_holds A (kinds.NoMemory, s) v = (refl, omega arith, omega arith)
early_holds A (kinds.TimedOut, s) v = refl
early_holds A (kinds.NoResponders, s) v = refl
early_holds A (kinds.InvalidSubject, s) v = refl
early_holds A (kinds.MaxPayloadExceeded, s) v = refl
early_holds A (kinds.Other, s) v = refl

pub tested_counts : (A : Type 0) (call : Call) (e : E) (n : ℕ) → Tests call e.0 e.1 → CountsAt {A = A} (Err e) n n
tested_counts A call (kinds.InvalidSubject, s) n is = (omega arith, omega arith)
tested_counts A call (kinds.MaxPayloadExceeded, s) n is = (omega arith, omega arith)
tested_counts A call (kind, s) n is = absurd is

pub tested_tells : (parts : ℕ) (m : OutboundMessage) (e : E) → Tests (Publish m) e.0 e.1
    → RefusesAt parts (requested m.subject m.payload m.headers) e.0 e.1
tested_tells parts m (kinds.InvalidSubject, source) tells = tells
tested_tells parts m (kinds.MaxPayloadExceeded, Some (cause.Payload limit size)) tells = tells
tested_tells parts m (kinds.MaxPayloadExceeded, source) tells = absurd tells
tested_tells parts m (kind, source) tells = absurd tells

pub tested_in_time : (call : Call) (e : E) → Tests call e.0 e.1 → e.0 ≡ kinds.TimedOut → ⊥
tested_in_time call (kinds.InvalidSubject, s) is late = cc
tested_in_time call (kinds.MaxPayloadExceeded, s) is late = cc
tested_in_time call (kind, s) is late = absurd is

pub deaf_counts : (A : Type 0) (parts : ℕ) (e : E) (n : ℕ) → IsUnheard parts e.0 e.1 → CountsAt {A = A} (Err e) n n
deaf_counts A parts (kinds.Other, Some cause.BrokenPipe) n is = absurd is
deaf_counts A parts (kinds.Other, source) n is = (omega arith, omega arith)
deaf_counts A parts (kinds.NoMemory, source) n is = (omega arith, omega arith)
deaf_counts A parts (kind, source) n is = absurd is

pub deaf_tells : (parts : ℕ) (call : Call) (e : E) → IsUnheard parts e.0 e.1 → RefusesAt parts call e.0 e.1
deaf_tells parts call (kinds.Other, Some cause.BrokenPipe) is = absurd is
deaf_tells parts call (kinds.Other, source) is = is
deaf_tells parts call (kinds.NoMemory, source) is = is
deaf_tells parts call (kind, source) is = absurd is

pub deaf_in_time : (parts : ℕ) (e : E) → IsUnheard parts e.0 e.1 → e.0 ≡ kinds.TimedOut → ⊥
deaf_in_time parts (kinds.Other, source) is late = cc
deaf_in_time parts (kinds.NoMemory, source) is late = cc
deaf_in_time parts (kind, source) is late = absurd is

pub ruleset inbox_rules = (
  early_holds,
  tested_counts,
  tested_tells,
  tested_in_time,
  deaf_counts,
  deaf_tells,
  deaf_in_time,
)

-- ---- what came behind the subscription

-- two clients with the same of each are one
alike : (a b : ClientView) → a.parts ≡ b.parts → a.made ≡ b.made → a.timeout ≡ b.timeout → a.is_shut ≡ b.is_shut → a ≡ b
alike a b p m t s = λ i. record { parts = p i; made = m i; timeout = t i; is_shut = s i }

sends_timeout : (v0 v1 v2 : ClientView)
    → v1 ≡ record v0 { parts = v0.parts - 1; made = v0.made + 1 }
    → v2 ≡ record v1 { made = v2.made } → v2.timeout ≡ v0.timeout
sends_timeout v0 v1 v2 p q = ap (λ (v : ClientView). v.timeout) q ∙ ap (λ (v : ClientView). v.timeout) p

sends_shut : (v0 v1 v2 : ClientView)
    → v1 ≡ record v0 { parts = v0.parts - 1; made = v0.made + 1 }
    → v2 ≡ record v1 { made = v2.made } → v2.is_shut ≡ v0.is_shut
sends_shut v0 v1 v2 p q = ap (λ (v : ClientView). v.is_shut) q ∙ ap (λ (v : ClientView). v.is_shut) p

sends_parts : (v0 v1 v2 : ClientView)
    → v1 ≡ record v0 { parts = v0.parts - 1; made = v0.made + 1 }
    → v2 ≡ record v1 { made = v2.made } → v2.parts ≡ v0.parts - 1
sends_parts v0 v1 v2 p q = ap (λ (v : ClientView). v.parts) q ∙ ap (λ (v : ClientView). v.parts) p

-- a client that has what it had, and made further calls
holds : {A : Type 0} (answer : Result A E) (old new : ClientView)
    → new.parts ≡ old.parts → new.timeout ≡ old.timeout → new.is_shut ≡ old.is_shut → HoldsAt answer old new
holds (Ok m) old new p t s = alike new (record old { made = new.made }) p refl t s
holds (Err (kinds.NoMemory, source)) old new p t s =
    (alike new (record old { parts = new.parts; made = new.made }) refl refl t s, omega (arith, p), omega (arith, p))
holds (Err (kinds.TimedOut, source)) old new p t s = alike new (record old { made = new.made }) p refl t s
holds (Err (kinds.NoResponders, source)) old new p t s = alike new (record old { made = new.made }) p refl t s
holds (Err (kinds.InvalidSubject, source)) old new p t s = alike new (record old { made = new.made }) p refl t s
holds (Err (kinds.MaxPayloadExceeded, source)) old new p t s = alike new (record old { made = new.made }) p refl t s
holds (Err (kinds.Other, source)) old new p t s = alike new (record old { made = new.made }) p refl t s

pub all_holds : {A : Type 0} (v0 v1 v2 v3 : ClientView) (answer result : Result A E) → 1 < v0.parts
    → v1 ≡ record v0 { parts = v0.parts - 1; made = v0.made + 1 } → v2 ≡ record v1 { made = v2.made }
    → Ends answer result v2 v3 → HoldsAt result v0 v3
all_holds v0 v1 v2 v3 answer result some p q (inl (is, (closes, least, most))) =
    let parts : v3.parts ≡ v2.parts + 1 = ap (λ (v : ClientView). v.parts) closes in
    let before = sends_parts v0 v1 v2 p q in
    holds result v0 v3 (omega (arith, some, parts, before))
    (ap (λ (v : ClientView). v.timeout) closes ∙ sends_timeout v0 v1 v2 p q)
    (ap (λ (v : ClientView). v.is_shut) closes ∙ sends_shut v0 v1 v2 p q)
all_holds v0 v1 v2 v3 answer result some p q (inr (is, same)) =
    let parts : v3.parts ≡ v0.parts - 1 = ap (λ (v : ClientView). v.parts) same ∙ sends_parts v0 v1 v2 p q in
    subst (λ r. HoldsAt r v0 v3) (sym is) (
      alike v3 (record v0 { parts = v3.parts; made = v3.made }) refl refl
          (ap (λ (v : ClientView). v.timeout) same ∙ sends_timeout v0 v1 v2 p q)
          (ap (λ (v : ClientView). v.is_shut) same ∙ sends_shut v0 v1 v2 p q),
      omega (arith, parts),
      omega (arith, parts, some),
    )

-- a message counts once at most
sent_most : {A : Type 0} (answer : Result A E) (a b : ℕ) → CountsSent answer a b → (a ≤ b) × (b ≤ a + 1)
sent_most (Ok m) a b counts = (omega (arith, counts), omega (arith, counts))
sent_most (Err (kinds.TimedOut, s)) a b counts = (omega (arith, counts), omega (arith, counts))
sent_most (Err (kinds.NoResponders, s)) a b counts = (omega (arith, counts), omega (arith, counts))
sent_most (Err (kinds.Other, Some cause.BrokenPipe)) a b counts = (omega (arith, counts), omega (arith, counts))
sent_most (Err (kinds.Other, s)) a b counts = (omega (arith, counts), omega (arith, counts))
sent_most (Err (kinds.NoMemory, s)) a b counts = counts
sent_most (Err (kinds.InvalidSubject, s)) a b counts = (omega (arith, counts), omega (arith, counts))
sent_most (Err (kinds.MaxPayloadExceeded, s)) a b counts = (omega (arith, counts), omega (arith, counts))

-- the subscription before it, and that it was let go behind it
counts_behind : {A : Type 0} (answer : Result A E) (n a b c : ℕ)
    → a ≡ n + 1 → CountsSent answer a b → b ≤ c → c ≤ b + 1 → CountsAt answer n c
counts_behind (Ok m) n a b c one counts least most =
    (omega (arith, one, counts, least, most), omega (arith, one, counts, least, most))
counts_behind (Err (kinds.TimedOut, s)) n a b c one counts least most =
    (omega (arith, one, counts, least, most), omega (arith, one, counts, least, most))
counts_behind (Err (kinds.NoResponders, s)) n a b c one counts least most =
    (omega (arith, one, counts, least, most), omega (arith, one, counts, least, most))
counts_behind (Err (kinds.Other, Some cause.BrokenPipe)) n a b c one counts least most =
    (omega (arith, one, counts, least, most), omega (arith, one, counts, least, most))
counts_behind (Err (kinds.Other, s)) n a b c one counts least most =
    (omega (arith, one, counts, least, most), omega (arith, one, counts, least, most))
counts_behind (Err (kinds.NoMemory, s)) n a b c one counts least most =
    (omega (arith, one, counts.0, counts.1, least, most), omega (arith, one, counts.0, counts.1, least, most))
counts_behind (Err (kinds.InvalidSubject, s)) n a b c one counts least most =
    (omega (arith, one, counts, least, most), omega (arith, one, counts, least, most))
counts_behind (Err (kinds.MaxPayloadExceeded, s)) n a b c one counts least most =
    (omega (arith, one, counts, least, most), omega (arith, one, counts, least, most))

pub all_counts : {A : Type 0} (v0 v1 v2 v3 : ClientView) (answer result : Result A E)
    → v1 ≡ record v0 { parts = v0.parts - 1; made = v0.made + 1 }
    → CountsSent answer v1.made v2.made → Ends answer result v2 v3 → CountsAt result v0.made v3.made
all_counts v0 v1 v2 v3 answer result p counts (inl (is, (closes, least, most))) =
    subst (λ r. CountsAt r v0.made v3.made) (sym is)
    (counts_behind answer v0.made v1.made v2.made v3.made (ap (λ (v : ClientView). v.made) p) counts least most)
all_counts v0 v1 v2 v3 answer result p counts (inr (is, same)) =
    let one : v1.made ≡ v0.made + 1 = ap (λ (v : ClientView). v.made) p in
    let made : v3.made ≡ v2.made = ap (λ (v : ClientView). v.made) same in
    let most = sent_most answer v1.made v2.made counts in
    subst (λ r. CountsAt r v0.made v3.made) (sym is)
    (omega (arith, one, made, most.0), omega (arith, one, made, most.1))

-- what the message's refusal tells is told of the request
sent_tells : (parts : ℕ) (subject payload : List ℕ) (headers : Option Headers) (m : OutboundMessage) (e : E) → 1 < parts
    → m.payload ≡ payload → m.headers ≡ headers → RefusesSent (Publish m) e.0 e.1
    → RefusesAt parts (requested subject payload headers) e.0 e.1
sent_tells parts s p hs m (kinds.Other, Some cause.BrokenPipe) some same also tells = some
sent_tells parts s p hs m (kinds.Other, Some cause.Closed) some same also tells = some
sent_tells parts s p hs m (kinds.Other, source) some same also tells = absurd tells
sent_tells parts s p hs m (kinds.MaxPayloadExceeded, Some (cause.Payload limit size)) some same also tells =
    (tells.0 ∙ (λ i. size_of (requested s (same i) (also i))), tells.1)
sent_tells parts s p hs m (kinds.MaxPayloadExceeded, source) some same also tells = absurd tells
sent_tells parts s p hs m (kinds.TimedOut, source) some same also tells = tells
sent_tells parts s p hs m (kinds.NoResponders, source) some same also tells = tells
sent_tells parts s p hs m (kinds.InvalidSubject, source) some same also tells = tells
sent_tells parts s p hs m (kinds.NoMemory, source) some same also tells = tells

pub all_tells : {A : Type 0} (parts : ℕ) (subject payload : List ℕ) (headers : Option Headers) (m : OutboundMessage)
    (v2 v3 : ClientView) (answer result : Result A E) → 1 < parts → m.payload ≡ payload → m.headers ≡ headers
    → IfErr answer (λ e. RefusesSent (Publish m) e.0 e.1) → Ends answer result v2 v3
    → IfErr result (λ e. RefusesAt parts (requested subject payload headers) e.0 e.1)
all_tells {A = A} parts s p hs m v2 v3 answer result some same also tells (inl (is, closes)) =
    subst (λ r. IfErr r (λ e. RefusesAt parts (requested s p hs) e.0 e.1)) (sym is)
    (each answer tells)
  where
    each : (answer : Result A E) → IfErr answer (λ e. RefusesSent (Publish m) e.0 e.1)
        → IfErr answer (λ e. RefusesAt parts (requested s p hs) e.0 e.1)
    each (Ok message) tells = tt
    each (Err e) tells = sent_tells parts s p hs m e some same also tells
all_tells parts s p hs m v2 v3 answer result some same also tells (inr (is, unchanged)) =
    subst (λ r. IfErr r (λ e. RefusesAt parts (requested s p hs) e.0 e.1)) (sym is) refl

pub all_in_time : {A : Type 0} (Late : Type 0) (v2 v3 : ClientView) (answer result : Result A E)
    → IfErr answer (λ e. e.0 ≡ kinds.TimedOut → Late) → Ends answer result v2 v3
    → IfErr result (λ e. e.0 ≡ kinds.TimedOut → Late)
all_in_time Late v2 v3 answer result late (inl (is, closes)) =
    subst (λ r. IfErr r (λ e. e.0 ≡ kinds.TimedOut → Late)) (sym is) late
all_in_time Late v2 v3 answer result late (inr (is, unchanged)) =
    subst (λ r. IfErr r (λ e. e.0 ≡ kinds.TimedOut → Late)) (sym is) (λ told. cc)
