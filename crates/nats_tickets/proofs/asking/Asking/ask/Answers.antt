-- The latest comes last, and the one that waited for the same subject goes.
use Rattle.std.proofs.Common.{◌≡◌, ◌++◌, ◌∷◌, [], ℕ, ◌∙◌, ap, sym, subst}
use Rattle.nats_tables.specs.Rows.{look}
use Rattle.nats_history.specs.Tickets.{request_at, requests_elsewhere, requests_but}
use Rattle.nats_tickets.specs.Asking.{AllUnder, but_if, gone_at, Indexed}
use Rattle.nats_tickets.proofs.Asks.{found_is, asked_is, indexed_more, inserted, last_but}
use Rattle.nats_tickets.proofs.asking.Asking.ask.Goals as goal

pub invariant_of-self-in-Ok : goal.invariant_of-self-in-Ok
invariant_of-self-in-Ok c =
    let es = c.self.inside.subjects.entries in
    let mid = c.put_last.new.subjects.entries in
    let fs = c.forget_if.new.subjects.entries in
    indexed_more c.args.ticket c.args.subject.now es mid fs c.self.inside.tickets.entries c.note-note.new.tickets.entries
    (subst (AllUnder c.args.ticket) (sym c.self.view_is) c.requires) c.self.invariant c.in_ok-put_last.ensures.updated
    (subst (λ o. (k : ℕ) → look k fs ≡ gone_at o k (look k mid)) c.in-Ok.ensures.earlier c.forget_if.ensures.updated) c.in-Ok.ensures.ok

pub invariant_of-self-in-Err : goal.invariant_of-self-in-Err
invariant_of-self-in-Err c =
    let es = c.self.inside.subjects.entries in
    let under = subst (AllUnder c.args.ticket) (sym c.self.view_is) c.requires in
    let same : c.forget.new.subjects.entries ≡ es =
    c.forget.ensures.entries
    ∙ (ap (requests_but c.args.ticket) (c.in_ok-put_last.ensures.ok ∙ inserted c.args.ticket c.args.subject.now es under) ∙ last_but c.args.ticket c.args.subject.now es under)
    in
    subst (λ index. Indexed c.forget.new.subjects.entries index) (sym c.in-Err.ensures.err)
    (subst (λ xs. Indexed xs c.self.inside.tickets.entries) (sym same) c.self.invariant)

pub returns-in-Ok-clause-displaced : goal.returns-in-Ok-clause-displaced
returns-in-Ok-clause-displaced c =
    c.in-Ok.ensures.earlier
    ∙ ((found_is c.args.subject.now c.self.inside.subjects.entries c.self.inside.tickets.entries c.self.invariant c.ordered.ensures).0 ∙ ap (request_at c.args.subject.now) c.self.view_is)

pub returns-in-Ok-clause-ok : goal.returns-in-Ok-clause-ok
returns-in-Ok-clause-ok c =
    let es = c.self.inside.subjects.entries in
    let mid = c.put_last.new.subjects.entries in
    asked_is c.args.ticket c.args.subject.now es mid c.forget_if.new.subjects.entries c.self.inside.tickets.entries
    (subst (AllUnder c.args.ticket) (sym c.self.view_is) c.requires) c.self.invariant c.ordered.ensures c.in_ok-put_last.ensures.ok
    (c.forget_if.ensures.entries ∙ ap (λ o. but_if o mid) c.in-Ok.ensures.earlier)
    ∙ ap (λ xs. requests_elsewhere c.args.subject.now xs ++ (c.args.ticket, c.args.subject.now) ∷ []) c.self.view_is

pub returns-in-Err-clause-err : goal.returns-in-Err-clause-err
returns-in-Err-clause-err c =
    let es = c.self.inside.subjects.entries in
    let under = subst (AllUnder c.args.ticket) (sym c.self.view_is) c.requires in
    c.forget.ensures.entries
    ∙ (ap (requests_but c.args.ticket) (c.in_ok-put_last.ensures.ok ∙ inserted c.args.ticket c.args.subject.now es under)
    ∙ (last_but c.args.ticket c.args.subject.now es under ∙ c.self.view_is))
