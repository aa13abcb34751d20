-- Several steps at once: what they write, and behind it their events.
use Rattle.std.proofs.Common.{◌≡◌, ℕ, zero, suc, arith, Bool, true, false, cond, not, min, List, [], ◌∷◌, ◌++◌, length, take, Option, Some, None, is_some, refl, sym, ◌∙◌, ap}
use Rattle.std.proofs.lemmas.List.{append-nil, append_assoc}
use Rattle.std.proofs.lemmas.Bool.{false≢true}
use Rattle.nats_names.specs.declared.event.Event.{Event}
use Rattle.nats_history.specs.declared.transcript.LinkWord.{LinkWord}
use Rattle.nats_history.specs.declared.transcript.LinkWord.TheVariants as word
use Rattle.nats_history.specs.declared.call.CallReply.{CallReply}
use Rattle.nats_history.specs.declared.turn.Turn.TheVariants.{Write}
use Rattle.nats_history.specs.History.{Step, accepted, taken, ticked, passed, link_end, closed, at_place}
use Rattle.nats_history.specs.Tickets.{grown_tickets, settle_once, settle_rows}
use Rattle.nats_tables.specs.Numbers.{at_number}
use Rattle.nats_history.specs.Parts.{Parts}
use Rattle.nats_history.specs.Schedule.{due, chain, closes, closing, ending}
use Rattle.nats_history.specs.After.{after, after_all, events_of, settled_of}
use Rattle.nats_session.specs.Handler.{Seen, push_all, seen_after, seen_all, all_events, all_settled, end_in, can_play}
use Rattle.nats_session.specs.Sheet.{Sheet, row_with, write_step, write_events, write_tickets}
use Rattle.nats_session.specs.Machine.{quiet, sheet_noted, sheet_recorded, sheet_written, write_end}
use Rattle.nats_tickets.proofs.Marks.{pushed}
use Rattle.nats_session.proofs.Handlers.{both_true}

at_place_append : {A : Type 0} (place : ℕ) (xs ys : List A) → at_place place (xs ++ ys) ≡ at_place place xs ++ at_place place ys
at_place_append place [] ys = refl
at_place_append place (x ∷ xs) ys = ap (λ zs. (place, x) ∷ zs) (at_place_append place xs ys)

events_append : (place : ℕ) (xs ys : List Event) (sheet : Sheet) → write_events place ys (write_events place xs sheet) ≡ write_events place (xs ++ ys) sheet
events_append place xs ys sheet =
    ap (λ es. record sheet { events = es }) (append_assoc sheet.events (at_place place xs) (at_place place ys) ∙ ap (λ es. sheet.events ++ es) (sym (at_place_append place xs ys)))

pub no_events : (place : ℕ) (sheet : Sheet) → write_events place [] sheet ≡ sheet
no_events place sheet = ap (λ es. record sheet { events = es }) (append-nil sheet.events)

-- what steps write hangs on no event
events_behind : (place : ℕ) (steps : List Step) (p : Parts) (es : List Event) (sheet : Sheet)
    → sheet_written place steps p (write_events place es sheet) ≡ write_events place es (sheet_written place steps p sheet)
events_behind place [] p es sheet = refl
events_behind place (step ∷ steps) p es sheet = events_behind place steps (after p step) es (write_step place p step sheet)

-- ---- settled tickets

-- a step that gives a ticket
abbrev gives : Step → Bool
gives (accepted call) = true
gives step = false

-- no ticket is given by these
abbrev pub NoneGiven : List Step → Type 0
NoneGiven [] = Unit {0}
NoneGiven (step ∷ steps) = (gives step ≡ false) × NoneGiven steps

pub closing_gives_none : (b : Bool) → NoneGiven (closing b)
closing_gives_none true = (refl, tt)
closing_gives_none false = tt

pub ending_gives_none : (drained : Bool) (end : Option LinkWord) → NoneGiven (ending drained end)
ending_gives_none drained None = tt
ending_gives_none drained (Some end) = (refl, closing_gives_none (closes drained end))

pub hangup_gives_none : (p : Parts) (up : Bool) → NoneGiven (cond up (chain p (link_end word.Hangup)) (chain p closed))
hangup_gives_none p true = (refl, (refl, tt))
hangup_gives_none p false = (refl, tt)

pub tick_gives_none : (p : Parts) (last : Bool) → NoneGiven (cond last (chain p (link_end word.Ticks)) (chain p ticked))
tick_gives_none p true = (refl, closing_gives_none (closes p.drain.is_handled word.Ticks))
tick_gives_none p false = (refl, tt)

pub deadline_gives_none : (p : Parts) (ticket : ℕ) (unsettled : Bool) → NoneGiven (cond unsettled (chain p (passed ticket)) [])
deadline_gives_none p ticket true = (refl, tt)
deadline_gives_none p ticket false = tt

grown_same : {A : Type 0} (step : Step) (rows : List (Option A)) → gives step ≡ false → grown_tickets step rows ≡ rows
grown_same (accepted call) rows e = absurd (false≢true (sym e))
grown_same step rows e = refl

settle_append : (place : ℕ) (xs ys : List (ℕ × CallReply)) (rows : List (Option (ℕ × CallReply))) → settle_rows place ys (settle_rows place xs rows) ≡ settle_rows place (xs ++ ys) rows
settle_append place [] ys rows = refl
settle_append place ((ticket, reply) ∷ xs) ys rows =
    settle_append place xs ys (at_number ticket (settle_once (place, reply)) rows)

-- what such steps write hangs on no settled ticket
settled_behind : (place : ℕ) (steps : List Step) (p : Parts) (rs : List (ℕ × CallReply)) (sheet : Sheet) → NoneGiven steps
    → sheet_written place steps p (write_tickets place rs sheet) ≡ write_tickets place rs (sheet_written place steps p sheet)
settled_behind place [] p rs sheet none = refl
settled_behind place (step ∷ steps) p rs sheet none =
    let here : write_step place p step (write_tickets place rs sheet) ≡ write_tickets place rs (write_step place p step sheet) =
    ap (λ rows. record (write_step place p step sheet) { tickets = rows })
    (grown_same step (settle_rows place rs sheet.tickets) none.0 ∙ sym (ap (settle_rows place rs) (grown_same step sheet.tickets none.0)))
    in
    ap (sheet_written place steps (after p step)) here ∙ settled_behind place steps (after p step) rs (write_step place p step sheet) none.1

-- several steps are what they write, then their events, then the tickets that they settle
pub recorded : (place : ℕ) (steps : List Step) (p : Parts) (sheet : Sheet) → NoneGiven steps
    → sheet_recorded place steps p sheet ≡ write_tickets place (all_settled p steps) (write_events place (all_events p steps) (sheet_written place steps p sheet))
recorded place [] p sheet none = sym (no_events place sheet)
recorded place (step ∷ steps) p sheet none =
    let q = after p step in
    let one = write_step place p step sheet in
    let rest = sheet_written place steps q one in
    recorded place steps q (sheet_noted place step p sheet) none.1
    ∙ (ap (λ s. write_tickets place (all_settled q steps) (write_events place (all_events q steps) s))
    (settled_behind place steps q (settled_of p step) (write_events place (events_of p step) one) none.1 ∙ ap (write_tickets place (settled_of p step)) (events_behind place steps q (events_of p step) one))
    ∙ (ap (λ s. write_tickets place (all_settled q steps) (write_tickets place (settled_of p step) s)) (events_append place (events_of p step) (all_events q steps) rest)
    ∙ ap (λ rows. record (write_events place (events_of p step ++ all_events q steps) rest) { tickets = rows }) (settle_append place (settled_of p step) (all_settled q steps) rest.tickets)))

abbrev seen_of : Parts → List Event → List (ℕ × CallReply) → Seen
seen_of p es rs = record { parts = p; events = es; ready = rs }

push_append : {A : Type 0} (xs ys waiting : List A) → push_all xs waiting ++ ys ≡ waiting ++ (xs ++ ys)
push_append xs ys waiting = ap (λ zs. zs ++ ys) (pushed xs waiting) ∙ append_assoc waiting xs ys

seen_together : (old : Seen) (steps : List Step)
    → seen_all old steps ≡ seen_of (after_all old.parts steps) (old.events ++ all_events old.parts steps) (old.ready ++ all_settled old.parts steps)
seen_together old [] =
    ap (λ es. seen_of old.parts es old.ready) (sym (append-nil old.events))
    ∙ ap (λ rs. seen_of old.parts (old.events ++ []) rs) (sym (append-nil old.ready))
seen_together old (step ∷ steps) =
    let p = old.parts in
    let q = after p step in
    let news = seen_after old step in
    seen_together news steps
    ∙ (ap (λ es. seen_of (after_all q steps) es (news.ready ++ all_settled q steps)) (push_append (events_of p step) (all_events q steps) old.events)
    ∙ ap (λ rs. seen_of (after_all q steps) (old.events ++ (events_of p step ++ all_events q steps)) rs) (push_append (settled_of p step) (all_settled q steps) old.ready))

-- where none waits
pub seen_quiet : (old : Seen) (steps : List Step) → old.events ≡ [] → old.ready ≡ []
    → seen_all old steps ≡ seen_of (after_all old.parts steps) (all_events old.parts steps) (all_settled old.parts steps)
seen_quiet old steps none settled =
    seen_together old steps
    ∙ (ap (λ es. seen_of (after_all old.parts steps) (es ++ all_events old.parts steps) (old.ready ++ all_settled old.parts steps)) none
    ∙ ap (λ rs. seen_of (after_all old.parts steps) (all_events old.parts steps) (rs ++ all_settled old.parts steps)) settled)

-- ---- a link that ends, and the close

pub end_written : (place : ℕ) (p : Parts) (end : LinkWord) (sheet : Sheet) → write_end (Some end) p sheet ≡ sheet_written place (chain p (link_end end)) p sheet
end_written place p end sheet = by_closing (closes p.drain.is_handled end)
  where
    by_closing : (b : Bool) → write_end (Some end) p sheet ≡ sheet_written place (link_end end ∷ closing b) p sheet
    by_closing true = refl
    by_closing false = refl

pub hangup_written : (place : ℕ) (p : Parts) (up : Bool) (sheet : Sheet)
    → write_end (end_in (cond up (chain p (link_end word.Hangup)) (chain p closed))) p sheet ≡ sheet_written place (cond up (chain p (link_end word.Hangup)) (chain p closed)) p sheet
hangup_written place p true sheet = refl
hangup_written place p false sheet = refl

pub tick_written : (place : ℕ) (p : Parts) (last : Bool) (sheet : Sheet)
    → write_end (end_in (cond last (chain p (link_end word.Ticks)) (chain p ticked))) p sheet ≡ sheet_written place (cond last (chain p (link_end word.Ticks)) (chain p ticked)) p sheet
tick_written place p true sheet = end_written place p word.Ticks sheet
tick_written place p false sheet = refl

pub deadline_written : (place : ℕ) (p : Parts) (ticket : ℕ) (unsettled : Bool) (sheet : Sheet)
    → sheet ≡ sheet_written place (cond unsettled (chain p (passed ticket)) []) p sheet
deadline_written place p ticket true sheet = refl
deadline_written place p ticket false sheet = refl

-- what follows a step at once where the link ends by this word, or does not
pub ending_written : (place : ℕ) (p q : Parts) (drained : Bool) (end : Option LinkWord) (sheet : Sheet) → q.link.wire.waiting ≡ p.link.wire.waiting
    → write_end (end_in (ending drained end)) p sheet ≡ sheet_written place (ending drained end) q sheet
ending_written place p q drained None sheet same = refl
ending_written place p q drained (Some end) sheet same =
    ap (λ left. record sheet { links = sheet.links ++ row_with end sheet.taken left ∷ []; taken = [] }) (sym same) ∙ by_closing (closes drained end)
  where
    by_closing : (b : Bool) → write_end (Some end) q sheet ≡ sheet_written place (link_end end ∷ closing b) q sheet
    by_closing true = refl
    by_closing false = refl

-- steps that were played, after what they write was written, and then their events and the tickets that they settle
pub played : (place : ℕ) (steps : List Step) (old new last : Seen) (s0 s1 s2 : Sheet) → NoneGiven steps → old.events ≡ [] → old.ready ≡ [] → new ≡ seen_all old steps
    → s1 ≡ sheet_written place steps old.parts s0 → s2 ≡ write_tickets place new.ready (write_events place new.events s1)
    → last ≡ record new { events = []; ready = [] }
    → (last ≡ quiet (after_all old.parts steps)) × (s2 ≡ sheet_recorded place steps old.parts s0)
played place steps old new last s0 s1 s2 gives_none none settled plays written news handed =
    let seen = plays ∙ seen_quiet old steps none settled in (
      handed ∙ ap (λ (s : Seen). record s { events = []; ready = [] }) seen,
      news
          ∙ (ap (λ (s : Seen). write_tickets place s.ready (write_events place s.events s1)) seen
          ∙ (ap (λ s. write_tickets place (all_settled old.parts steps) (write_events place (all_events old.parts steps) s)) written ∙ sym (recorded place steps old.parts s0 gives_none))),
    )

-- where nothing waits the link takes nothing
pub none_taken : (n : ℕ) (sheet : Sheet) (bytes : List ℕ) → length bytes ≡ 0 → sheet ≡ record sheet { taken = sheet.taken ++ take (min n (length bytes)) bytes }
none_taken n sheet [] none =
    sym (ap (λ xs. record sheet { taken = sheet.taken ++ xs }) (of_none (min n 0)) ∙ ap (λ xs. record sheet { taken = xs }) (append-nil sheet.taken))
  where
    of_none : (k : ℕ) → ◌≡◌ {A = List ℕ} (take k []) []
    of_none zero = refl
    of_none (suc k) = refl
none_taken n sheet (b ∷ bytes) none = absurd (omega (arith, none))

-- a write, after the bytes that the link takes were written
pub write_noted : (place n : ℕ) (old new : Seen) (s0 s1 s2 : Sheet) → can_play old.parts (Write n) ≡ true → old.events ≡ [] → old.ready ≡ []
    → s1 ≡ record s0 { taken = s0.taken ++ take (min n (length old.parts.link.wire.waiting)) old.parts.link.wire.waiting }
    → new ≡ seen_after old (taken (min n (length old.parts.link.wire.waiting))) → s2 ≡ write_tickets place new.ready (write_events place new.events s1)
    → s2 ≡ sheet_noted place (taken (min n (length old.parts.link.wire.waiting))) old.parts s0
write_noted place n old new s0 s1 s2 may none settled noted plays news =
    let bytes = old.parts.link.wire.waiting in
    let step = taken (min n (length bytes)) in
    let up : old.parts.link.is_up ≡ true = both_true old.parts.link.is_up (not (is_some (due old.parts))) may in
    let written : s1 ≡ sheet_written place (step ∷ []) old.parts s0 =
    noted ∙ sym (ap (λ b. record s0 { taken = cond b (s0.taken ++ take (min n (length bytes)) bytes) [] }) up)
    in
    (played place (step ∷ []) old new (record new { events = []; ready = [] }) s0 s1 s2 (refl, tt) none settled plays written news refl).1
