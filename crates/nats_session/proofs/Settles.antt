-- Laws on due steps as they are played, written and played out.
use Rattle.std.specs.Option.{option_map}
use Rattle.std.proofs.Common.{◌≡◌, ℕ, ◌<◌, Bool, true, false, cond, not, ◌&&◌, ◌||◌, ◌==◌, length, arith, List, [], ◌∷◌, ◌++◌, Option, Some, None, is_some, refl, sym, ◌∙◌, ap, subst}
use Rattle.std.proofs.lemmas.Bool.{false≢true, eqb-true}
use Rattle.std.proofs.lemmas.Option.{none-some, same_Some}
use Rattle.nats_lines.specs.Operations.{peeked_view, message, pong_op, Front, got, unfinished, fault, front}
use Rattle.nats_history.specs.declared.call.Call.{Call}
use Rattle.nats_history.specs.declared.call.Call.TheVariants.{Reconnect}
use Rattle.nats_history.specs.declared.turn.Due.{Due}
use Rattle.nats_history.specs.declared.turn.Due.TheVariants as due_names
use Rattle.nats_session.specs.declared.handler.due.Look.{Look}
use Rattle.nats_session.specs.declared.handler.due.Look.TheVariants as looks
use Rattle.nats_subs.specs.declared.subs.subscription.Delivery.{Delivery}
use Rattle.nats_subs.specs.declared.subs.subscription.Delivery.TheVariants.{Put, Dropped, Unwanted, Ignored}
use Rattle.nats_history.specs.declared.transcript.LinkWord.{LinkWord}
use Rattle.nats_history.specs.declared.transcript.LinkWord.TheVariants as word
use Rattle.nats_history.specs.Queue.{first}
use Rattle.nats_history.specs.History.{Step, opened, fed, read, ticked, taken, accepted, handled, took, gone, passed, link_end, closed}
use Rattle.nats_history.specs.Parts.{Parts}
use Rattle.nats_history.specs.Schedule.{closes, ending, ends_link, read_end, pong_end, chain, due_call, due_by, due, due_chain, most_due}
use Rattle.nats_history.specs.After.{after, after_all, due_steps}
use Rattle.nats_history.proofs.Dues.{bound_falls, none_due, one_due, after_append}
use Rattle.nats_session.specs.Handler.{Seen, delivery_name, delivery_of, end_in, ended_or, name_of, Advances, Sees, is_at_rest, is_nothing}
use Rattle.nats_session.specs.Sheet.{Sheet, write_delivery, write_due, write_events, write_tickets}
use Rattle.nats_session.specs.Machine.{quiet, sheet_noted, sheet_recorded, sheet_written, settled_parts, settled_sheet, write_op, write_look, write_before, write_coming, write_end, Notes}
use Rattle.nats_session.proofs.Handlers.{none_unread}
use Rattle.nats_session.proofs.Chains.{NoneGiven, ending_gives_none, closing_gives_none, no_events, end_written, ending_written, played}

-- ---- what can be due

abbrev CanBeDue : Step → Type 0
CanBeDue (read operation) = Unit {0}
CanBeDue (handled call) = Unit {0}
CanBeDue (link_end end) = Unit {0}
CanBeDue step = ⊥

can_be_due : (p : Parts) (step : Step) → due p ≡ Some step → CanBeDue step
can_be_due p step e = by_up p.link.is_up e
  where
    by_call : (room : Bool) (calls : List Call) → due_call room calls ≡ Some step → CanBeDue step
    by_call true (call ∷ more) e = subst CanBeDue (same_Some (handled call) step e) tt
    by_call true [] e = absurd (none-some step e)
    by_call false calls e = absurd (none-some step e)

    by_front : (f : Front) → due_by f p ≡ Some step → CanBeDue step
    by_front (got operation n) e = subst CanBeDue (same_Some (read operation) step e) tt
    by_front (fault n) e = subst CanBeDue (same_Some (link_end word.Fault) step e) tt
    by_front unfinished e = by_call _ p.calls e

    by_up : (up : Bool) → cond up (due_by (front p.link.wire.unread) p) None ≡ Some step → CanBeDue step
    by_up true e = by_front (front p.link.wire.unread) e
    by_up false e = absurd (none-some step e)

-- ---- what is written of a due step

-- an operation that is no message is written by the link's end alone
unnamed : (place : ℕ) (end : Option LinkWord) (sheet : Sheet) → write_due place (ended_or end due_names.Read) sheet ≡ sheet
unnamed place None sheet = refl
unnamed place (Some end) sheet = refl

written_due : (place : ℕ) (p : Parts) (step : Step) (sheet : Sheet) → CanBeDue step
    → write_due place (name_of p step) (write_end (end_in (chain p step)) p (write_before place p (Some step) sheet)) ≡ sheet_written place (chain p step) p sheet
written_due place p (read (message sid m)) sheet can = by_delivery (delivery_of p sid)
  where
    by_delivery : (d : Delivery) → write_due place (delivery_name sid m d) (write_coming place sid m d sheet) ≡ record sheet { subs = write_delivery place sid m d sheet.subs }
    by_delivery Put = refl
    by_delivery Dropped = refl
    by_delivery Unwanted = refl
    by_delivery Ignored = refl
written_due place p (read pong_op) sheet can =
    let end = pong_end (first p.link.pings) in
    let drained = p.drain.is_handled in
    unnamed place (end_in (ending drained end)) (write_end (end_in (ending drained end)) p sheet) ∙ ending_written place p (after p (read pong_op)) drained end sheet refl
written_due place p (read operation) sheet can = refl
written_due place p (handled Reconnect) sheet can =
    ending_written place p (after p (handled Reconnect)) p.drain.is_handled (Some word.Reconnect) sheet refl
written_due place p (handled call) sheet can = refl
written_due place p (link_end end) sheet can = end_written place p end sheet
written_due place p (opened info) sheet can = absurd can
written_due place p (fed bytes) sheet can = absurd can
written_due place p (taken n) sheet can = absurd can
written_due place p (accepted call) sheet can = absurd can
written_due place p (took sid) sheet can = absurd can
written_due place p (gone sid) sheet can = absurd can
written_due place p closed sheet can = absurd can
written_due place p ticked sheet can = absurd can
written_due place p (passed ticket) sheet can = absurd can

chain_gives_none : (p : Parts) (step : Step) → CanBeDue step → NoneGiven (chain p step)
chain_gives_none p (read operation) can = (refl, ending_gives_none p.drain.is_handled (read_end p.link.pings operation))
chain_gives_none p (handled call) can = (refl, ending_gives_none p.drain.is_handled (ends_link call))
chain_gives_none p (link_end end) can = (refl, closing_gives_none (closes p.drain.is_handled end))
chain_gives_none p (opened info) can = absurd can
chain_gives_none p (fed bytes) can = absurd can
chain_gives_none p (taken n) can = absurd can
chain_gives_none p (accepted call) can = absurd can
chain_gives_none p (took sid) can = absurd can
chain_gives_none p (gone sid) can = absurd can
chain_gives_none p closed can = absurd can
chain_gives_none p ticked can = absurd can
chain_gives_none p (passed ticket) can = absurd can

-- a due step that was played, written and whose events and settled tickets were handed out
pub noted : (place : ℕ) (next : Option Step) (old new last : Seen) (name : Due) (s0 s1 s2 s3 : Sheet)
    → due old.parts ≡ next → old.events ≡ [] → old.ready ≡ [] → Advances next old name new
    → s1 ≡ write_end (end_in (due_chain old.parts next)) old.parts (write_before place old.parts next s0) → s2 ≡ write_due place name s1
    → s3 ≡ write_tickets place new.ready (write_events place new.events s2)
    → last ≡ record new { events = []; ready = [] } → Notes next place old.parts s0 last s3
noted place None old new last name s0 s1 s2 s3 is none settled plays a b d e = (
  e ∙ ap (λ (s : Seen). record s { events = []; ready = [] }) plays.1,
  d ∙ (ap (λ (s : Seen). write_tickets place s.ready (write_events place s.events s2)) plays.1
      ∙ (ap (λ rs. write_tickets place rs (write_events place old.events s2)) settled
      ∙ (ap (λ es. write_events place es s2) none ∙ (no_events place s2 ∙ (b ∙ (ap (λ n. write_due place n s1) plays.0 ∙ a)))))),
)
noted place (Some step) old new last name s0 s1 s2 s3 is none settled plays a b d e =
    let p = old.parts in
    let written : s2 ≡ sheet_written place (chain p step) p s0 =
    b ∙ (ap (λ n. write_due place n s1) plays.0 ∙ (ap (write_due place (name_of p step)) a ∙ written_due place p step s0 (can_be_due p step is)))
    in
    played place (chain p step) old new last s0 s2 s3 (chain_gives_none p step (can_be_due p step is)) none settled plays.1 written d e

-- ---- a look

some_handled : (calls : List Call) → is_some (first calls) ≡ true → is_some (option_map handled (first calls)) ≡ true
some_handled [] e = absurd (false≢true e)
some_handled (call ∷ more) e = refl

pub some_seen : (p : Parts) (look : Look) → Sees p look → is_nothing look ≡ false → is_some (due p) ≡ true
some_seen p looks.Nothing sees is = absurd (false≢true (sym is))
some_seen p (looks.Read peeked delivery) sees is = ap is_some sees.0
some_seen p looks.Fault sees is = ap is_some sees
some_seen p looks.Command sees is = ap is_some sees.0 ∙ some_handled p.calls sees.1

-- what a look has written is what the step that is due writes
pub look_written : (place : ℕ) (p : Parts) (look : Look) (sheet : Sheet) → Sees p look → write_look place look sheet ≡ write_before place p (due p) sheet
look_written place p looks.Nothing sheet sees = sym (ap (λ next. write_before place p next sheet) sees)
look_written place p (looks.Read peeked delivery) sheet sees =
    ap (λ d. write_op place d (peeked_view peeked.op) sheet) sees.4 ∙ sym (ap (λ next. write_before place p next sheet) sees.0)
look_written place p looks.Fault sheet sees = sym (ap (λ next. write_before place p next sheet) sees)
look_written place p looks.Command sheet sees = sym (ap (λ next. write_before place p next sheet) sees.0 ∙ by_calls p.calls)
  where
    by_calls : (calls : List Call) → write_before place p (option_map handled (first calls)) sheet ≡ sheet
    by_calls [] = refl
    by_calls (call ∷ more) = refl

-- ---- until none is due

pub record Goes (place : ℕ) (p : Parts) (sheet : Sheet) (seen : Seen) (sheet' : Sheet) : Type 0 where
  pub falls : most_due seen.parts < most_due p
  pub none : seen.events ≡ []
  pub settled : seen.ready ≡ []
  pub same_parts : settled_parts seen.parts ≡ settled_parts p
  pub same_sheet : settled_sheet place seen.parts sheet' ≡ settled_sheet place p sheet

recorded_append : (place : ℕ) (xs ys : List Step) (p : Parts) (sheet : Sheet) → sheet_recorded place (xs ++ ys) p sheet ≡ sheet_recorded place ys (after_all p xs) (sheet_recorded place xs p sheet)
recorded_append place [] ys p sheet = refl
recorded_append place (x ∷ xs) ys p sheet = recorded_append place xs ys (after p x) (sheet_noted place x p sheet)

settle_parts : (p : Parts) (step : Step) → due p ≡ Some step → settled_parts (after_all p (chain p step)) ≡ settled_parts p
settle_parts p step e =
    sym (ap (after_all p) (one_due p step e) ∙ after_append (chain p step) (due_steps (after_all p (chain p step))) p)

settle_sheet : (place : ℕ) (p : Parts) (step : Step) (sheet : Sheet) → due p ≡ Some step → settled_sheet place (after_all p (chain p step)) (sheet_recorded place (chain p step) p sheet) ≡ settled_sheet place p sheet
settle_sheet place p step sheet e =
    sym (ap (λ steps. sheet_recorded place steps p sheet) (one_due p step e) ∙ recorded_append place (chain p step) (due_steps (after_all p (chain p step))) p sheet)

pub goes : (place : ℕ) (next : Option Step) (p : Parts) (seen : Seen) (sheet sheet' : Sheet) → due p ≡ next → is_some next ≡ true → Notes next place p sheet seen sheet' → Goes place p sheet seen sheet'
goes place None p seen sheet sheet' is some notes = absurd (false≢true some)
goes place (Some step) p seen sheet sheet' is some notes =
    let more = after_all p (chain p step) in
    let parts : seen.parts ≡ more = ap (λ (s : Seen). s.parts) notes.0 in
    record {
      falls = subst (λ q. most_due q < most_due p) (sym parts) (bound_falls p step is);
      none = ap (λ (s : Seen). s.events) notes.0;
      settled = ap (λ (s : Seen). s.ready) notes.0;
      same_parts = ap settled_parts parts ∙ settle_parts p step is;
      same_sheet = ap (λ q. settled_sheet place q sheet') parts ∙ (ap (settled_sheet place more) notes.1 ∙ settle_sheet place p step sheet is);
    }

pub stops : (place : ℕ) (p : Parts) (sheet : Sheet) → due p ≡ None → (p ≡ settled_parts p) × (sheet ≡ settled_sheet place p sheet)
stops place p sheet is = (
  sym (ap (λ steps. after_all p steps) (none_due p is)),
  sym (ap (λ steps. sheet_recorded place steps p sheet) (none_due p is)),
)

-- none is due where no link is up, or nothing is unread and no call waits
no_calls : (room : Bool) (calls : List Call) → length calls ≡ 0 → due_call room calls ≡ None
no_calls true [] none = refl
no_calls false [] none = refl
no_calls room (call ∷ more) none = absurd (omega (arith, none))

pub at_rest_none : (p : Parts) → is_at_rest p ≡ true → due p ≡ None
at_rest_none p rest = by_up p.link.is_up rest
  where
    both : (a b : Bool) → (a && b) ≡ true → (a ≡ true) × (b ≡ true)
    both true b e = (refl, e)
    both false b e = absurd (false≢true e)

    by_up : (up : Bool) → (not up || (length p.link.wire.unread == 0 && length p.calls == 0)) ≡ true → cond up (due_by (front p.link.wire.unread) p) None ≡ None
    by_up false e = refl
    by_up true e =
        let left = both (length p.link.wire.unread == 0) (length p.calls == 0) e in
        ap (λ f. due_by f p) (none_unread p.link.wire.unread (eqb-true (length p.link.wire.unread) 0 left.0)) ∙ no_calls _ p.calls (eqb-true (length p.calls) 0 left.1)

pub rests_here : (place from : ℕ) (seen : Seen) (p : Parts) (sheet before : Sheet) → is_at_rest seen.parts ≡ true → seen.events ≡ [] → seen.ready ≡ []
    → settled_parts seen.parts ≡ settled_parts p → settled_sheet place seen.parts sheet ≡ settled_sheet from p before
    → (seen ≡ quiet (settled_parts p)) × (sheet ≡ settled_sheet from p before)
rests_here place from seen p sheet before rest none settled same_parts same_sheet =
    let stop = stops place seen.parts sheet (at_rest_none seen.parts rest) in (
      ap (λ es. record { parts = seen.parts; events = es; ready = seen.ready }) none
          ∙ (ap (λ rs. record { parts = seen.parts; events = []; ready = rs }) settled ∙ ap quiet (stop.0 ∙ same_parts)),
      stop.1 ∙ same_sheet,
    )

-- a round of playing, where the look saw a step
pub goes_by : (place : ℕ) (p : Parts) (look : Look) (seen : Seen) (sheet sheet' : Sheet) → Sees p look → is_nothing look ≡ false → Notes (due p) place p sheet seen sheet' → Goes place p sheet seen sheet'
goes_by place p look seen sheet sheet' sees is notes = goes place (due p) p seen sheet sheet' refl (some_seen p look sees is) notes
