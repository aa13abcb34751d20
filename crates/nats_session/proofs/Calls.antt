-- What is written of a call that was answered.
use Rattle.std.proofs.Common.{◌≡◌, ℕ, suc, Bool, true, false, not, cond, ◌&&◌, List, [], ◌∷◌, ◌++◌, Option, Some, None, refl, sym, ◌∙◌, ap, nat_lt}
use Rattle.std.proofs.lemmas.Bool.{false≢true}
use Rattle.std.proofs.lemmas.List.{append-nil}
use Rattle.nats_history.specs.declared.call.Call.{Call}
use Rattle.nats_history.specs.declared.call.CallReply.{CallReply}
use Rattle.nats_history.specs.declared.call.CallReply.TheVariants.{Accepted, Numbered, InvalidSubject, InvalidQueueName, MaxPayloadExceeded, Closed, NoNumber, Full}
use Rattle.nats_history.specs.declared.turn.Turn.TheVariants.{Do}
use Rattle.nats_history.specs.declared.transcript.SubRow.{SubRow}
use Rattle.nats_history.specs.declared.call.Call.TheVariants.{Flush, Request}
use Rattle.nats_history.specs.History.{accepted, subscribes, takes_ticket, lets_go}
use Rattle.nats_history.specs.Parts.{Parts}
use Rattle.nats_history.specs.Schedule.{has_subjects, has_group, size_of, has_no_number, is_full, takes_no_call, refusal, accepted_reply, reply_by, call_reply, accepted_step, gone_step}
use Rattle.nats_history.specs.Transcripts.{called}
use Rattle.nats_history.specs.After.{after}
use Rattle.nats_session.specs.Sheet.{Sheet, new_row, added, added_ticket, write_answer}
use Rattle.nats_session.specs.Machine.{sheet_noted, sheet_recorded, own_sheet}

abbrev Tickets : Type 0
Tickets = List (Option (ℕ × CallReply))

-- ---- no call is refused by a number

abbrev is_numbered : Option CallReply → Bool
is_numbered (Some (Numbered n)) = true
is_numbered reply = false

refused_by : (subjects group large over none full : Bool) (limit size : ℕ)
    → is_numbered (cond (not subjects) (Some InvalidSubject) (cond (not group) (Some InvalidQueueName) (cond large (Some (MaxPayloadExceeded limit size)) (cond over (Some Closed) (cond none (Some NoNumber) (cond full (Some Full) None)))))) ≡ false
refused_by false group large over none full limit size = refl
refused_by true false large over none full limit size = refl
refused_by true true true over none full limit size = refl
refused_by true true false true none full limit size = refl
refused_by true true false false true full limit size = refl
refused_by true true false false false true limit size = refl
refused_by true true false false false false limit size = refl

not_numbered : (p : Parts) (call : Call) → is_numbered (refusal p call) ≡ false
not_numbered p call =
    refused_by (has_subjects p.config call) (has_group call) (nat_lt p.link.max_payload (size_of call)) (takes_no_call p) (has_no_number p call) (is_full p) p.link.max_payload (size_of call)

not_added : (reply : CallReply) (rows : List SubRow) → is_numbered (Some reply) ≡ false → added reply rows ≡ rows
not_added (Numbered n) rows e = absurd (false≢true (sym e))
not_added reply rows e = refl

no_ticket : (reply : CallReply) (rows : Tickets) → is_numbered (Some reply) ≡ false → added_ticket reply rows ≡ rows
no_ticket (Numbered n) rows e = absurd (false≢true (sym e))
no_ticket reply rows e = refl

-- ---- the steps of a call

-- the sheet with these rows and tickets
abbrev sheet_of : Sheet → List SubRow → Tickets → Sheet
sheet_of sheet rows tickets = record sheet { subs = rows; tickets = tickets }

abbrev more_rows : Call → Sheet → List SubRow
more_rows call sheet = cond (subscribes call) (sheet.subs ++ new_row ∷ []) sheet.subs

abbrev more_tickets : Call → Sheet → Tickets
more_tickets call sheet = cond (takes_ticket call) (sheet.tickets ++ None ∷ []) sheet.tickets

noted_accepted : (place : ℕ) (p : Parts) (call : Call) (sheet : Sheet)
    → sheet_noted place (accepted call) p sheet ≡ sheet_of sheet (more_rows call sheet) (more_tickets call sheet)
noted_accepted place p call sheet =
    ap (λ es. record (sheet_of sheet (more_rows call sheet) (more_tickets call sheet)) { events = es }) (append-nil sheet.events)

recorded_gone : (place : ℕ) (name : Option ℕ) (p : Parts) (sheet : Sheet) → sheet_recorded place (gone_step name) p sheet ≡ sheet
recorded_gone place None p sheet = refl
recorded_gone place (Some s) p sheet = ap (λ es. record sheet { events = es }) (append-nil sheet.events)

recorded_accepted : (place : ℕ) (name : Option ℕ) (p : Parts) (call : Call) (sheet : Sheet)
    → sheet_recorded place (accepted call ∷ gone_step name) p sheet ≡ sheet_of sheet (more_rows call sheet) (more_tickets call sheet)
recorded_accepted place name p call sheet =
    recorded_gone place name (after p (accepted call)) (sheet_noted place (accepted call) p sheet) ∙ noted_accepted place p call sheet

-- the row or the ticket that was given a number, and the reply
abbrev answered : ℕ → Sheet → Bool → CallReply → Sheet
answered place sheet flush reply = record sheet {
  subs = cond flush sheet.subs (added reply sheet.subs);
  tickets = cond flush (added_ticket reply sheet.tickets) sheet.tickets;
  calls = sheet.calls ++ (place, reply) ∷ [];
}

abbrev written : ℕ → Sheet → CallReply → List SubRow → Tickets → Sheet
written place sheet reply rows tickets = record sheet { subs = rows; tickets = tickets; calls = sheet.calls ++ (place, reply) ∷ [] }

refused_sheet : (place : ℕ) (sheet : Sheet) (flush : Bool) (reply : CallReply) → is_numbered (Some reply) ≡ false
    → answered place sheet flush reply ≡ written place sheet reply sheet.subs sheet.tickets
refused_sheet place sheet true reply e = ap (λ ks. written place sheet reply sheet.subs ks) (no_ticket reply sheet.tickets e)
refused_sheet place sheet false reply e = ap (λ rows. written place sheet reply rows sheet.tickets) (not_added reply sheet.subs e)

accepted_sheet : (place given ticket : ℕ) (sheet : Sheet) (subscribe flush : Bool) → (subscribe && flush) ≡ false
    → answered place sheet flush (cond subscribe (Numbered given) (cond flush (Numbered ticket) Accepted))
    ≡ written place sheet (cond subscribe (Numbered given) (cond flush (Numbered ticket) Accepted)) (cond subscribe (sheet.subs ++ new_row ∷ []) sheet.subs) (cond flush (sheet.tickets ++ None ∷ []) sheet.tickets)
accepted_sheet place given ticket sheet true true e = absurd (false≢true (sym e))
accepted_sheet place given ticket sheet true false e = refl
accepted_sheet place given ticket sheet false true e = refl
accepted_sheet place given ticket sheet false false e = refl

not_both : (call : Call) → (subscribes call && takes_ticket call) ≡ false
not_both Flush = refl
not_both (Request subject payload headers token) = refl
not_both call = and_false (subscribes call)
  where
    and_false : (b : Bool) → (b && false) ≡ false
    and_false true = refl
    and_false false = refl

called_sheet : (place : ℕ) (p : Parts) (call : Call) (sheet : Sheet) → answered place sheet (takes_ticket call) (call_reply p call) ≡ own_sheet place (Do call) p sheet
called_sheet place p call sheet = by_refusal (refusal p call) (not_numbered p call)
  where
    by_refusal : (refused : Option CallReply) → is_numbered refused ≡ false
        → answered place sheet (takes_ticket call) (reply_by refused (accepted_reply p call))
        ≡ write_answer place (called (reply_by refused (accepted_reply p call))) (sheet_recorded place (accepted_step refused call ++ gone_step (lets_go call)) p sheet)
    by_refusal None e =
        accepted_sheet place (suc p.subs.given) (suc p.tickets.given) sheet (subscribes call) (takes_ticket call) (not_both call)
        ∙ sym (ap (write_answer place (called (accepted_reply p call))) (recorded_accepted place (lets_go call) p call sheet))
    by_refusal (Some reply) e =
        refused_sheet place sheet (takes_ticket call) reply e ∙ sym (ap (write_answer place (called reply)) (recorded_gone place (lets_go call) p sheet))

-- the same of a call that asks for no ticket
pub plain_sheet : (place : ℕ) (p : Parts) (call : Call) (sheet : Sheet) → takes_ticket call ≡ false
    → record sheet { subs = added (call_reply p call) sheet.subs; calls = sheet.calls ++ (place, call_reply p call) ∷ [] } ≡ own_sheet place (Do call) p sheet
plain_sheet place p call sheet plain =
    sym (ap (λ b. answered place sheet b (call_reply p call)) plain) ∙ called_sheet place p call sheet

-- and of one that does
pub ticket_sheet : (place : ℕ) (p : Parts) (call : Call) (sheet : Sheet) → takes_ticket call ≡ true
    → record sheet { tickets = added_ticket (call_reply p call) sheet.tickets; calls = sheet.calls ++ (place, call_reply p call) ∷ [] } ≡ own_sheet place (Do call) p sheet
ticket_sheet place p call sheet flush =
    sym (ap (λ b. answered place sheet b (call_reply p call)) flush) ∙ called_sheet place p call sheet
