-- The reply is written, and the row of a subscription or the ticket that was given a number.
use Rattle.std.proofs.Common.{◌∷◌, [], ◌++◌, sym, ◌∙◌, ap}
use Rattle.std.proofs.lemmas.Result.{on_ok_weaker}
use Rattle.nats_history.specs.Schedule.{call_steps, call_reply}
use Rattle.nats_session.specs.Handler.{seen_all}
use Rattle.nats_session.specs.Sheet.{added, added_ticket}
use Rattle.nats_session.proofs.Handlers.{on_ok_of, call_quiet}
use Rattle.nats_session.proofs.Calls.{plain_sheet, ticket_sheet}
use Rattle.nats_session.proofs.play.play_call.Goals as goal

pub returns-then-takes_ticket-clause-parts : goal.returns-then-takes_ticket-clause-parts
returns-then-takes_ticket-clause-parts c =
    let old = c.args.handler.now in
    on_ok_of c.note_ticket.result (c.in-Ok.ensures.submits.1
    ∙ (ap (λ call. seen_all old (call_steps old.parts call)) c.in_ok-copy.ensures ∙ call_quiet old c.args.call.now c.requires.none c.requires.settled))

pub returns-then-takes_ticket-clause-sheet : goal.returns-then-takes_ticket-clause-sheet
returns-then-takes_ticket-clause-sheet c =
    let p = c.args.handler.now.parts in
    let draft = c.args.draft.now in
    let reply = c.in-Ok.ensures.submits.0 ∙ ap (call_reply p) c.in_ok-copy.ensures in
    on_ok_weaker c.note_ticket.result
    (λ noted. noted ∙ (ap (λ r. record draft { tickets = added_ticket r draft.tickets; calls = draft.calls ++ (c.args.place, r) ∷ [] }) reply
    ∙ ticket_sheet c.args.place p c.args.call.now draft (sym c.takes_ticket.ensures ∙ c.if-takes_ticket.true)))
    c.note_ticket.ensures

pub returns-clause-parts : goal.returns-clause-parts
returns-clause-parts c =
    let old = c.args.handler.now in
    on_ok_of c.note_call.result (c.in-Ok.ensures.submits.1
    ∙ (ap (λ call. seen_all old (call_steps old.parts call)) c.in_ok-copy.ensures ∙ call_quiet old c.args.call.now c.requires.none c.requires.settled))

pub returns-clause-sheet : goal.returns-clause-sheet
returns-clause-sheet c =
    let p = c.args.handler.now.parts in
    let draft = c.args.draft.now in
    let reply = c.in-Ok.ensures.submits.0 ∙ ap (call_reply p) c.in_ok-copy.ensures in
    on_ok_weaker c.note_call.result
    (λ noted. noted ∙ (ap (λ r. record draft { subs = added r draft.subs; calls = draft.calls ++ (c.args.place, r) ∷ [] }) reply
    ∙ plain_sheet c.args.place p c.args.call.now draft (sym c.takes_ticket.ensures ∙ c.if-takes_ticket.false)))
    c.note_call.ensures
