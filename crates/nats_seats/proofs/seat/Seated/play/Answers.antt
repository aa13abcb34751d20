-- The desk's answer is what the lock wants to be given back, and what the seat knows then.
use Rattle.std.proofs.Common.{◌∙◌, subst}
use Rattle.nats_desk.specs.declared.entry.SeatEntry.{SeatEntry}
use Rattle.nats_desk.specs.Journal.{entry}
use Rattle.nats_seats.specs.Seats.{Plays}
use Rattle.nats_seats.proofs.Playing.{entry_ready, journal_more, seated_more, plays_at, sees_right}
use Rattle.nats_seats.proofs.seat.Seated.play.Goals as goal

pub leave_entry-requires-clause-entry : goal.leave_entry-requires-clause-entry
leave_entry-requires-clause-entry g c =
    entry_ready c.enter-ticket.new.place c.self.inside.place.me.0 _ _ c.self.inside.number c.enter-ticket.result.1 c.play.new.self c.args.turn c.in-Ok.reply c.enter-ticket.ensures.place.1
    c.in-Ok.ensures.played c.self.invariant.5 c.self.invariant.4

pub invariant_of-self : goal.invariant_of-self
invariant_of-self g c =
    let e : SeatEntry = entry c.self.inside.number c.args.turn c.in-Ok.reply in
    let journal = journal_more c.enter-ticket.new.place c.self.inside.place.me.0 _ _ c.enter-ticket.result.1 c.play.new.self e c.enter-ticket.ensures.place.1 c.in-Ok.ensures.played in
    seated_more c.self.inside.lock.value c.self.inside.place c.enter-ticket.new.place c.leave_entry.new.place _ _ _ c.self.inside.number c.self.inside.joined _ e
    c.self.invariant (c.leave_entry.ensures.0.0 ∙ c.enter-ticket.ensures.place.0.0) c.enter-ticket.ensures.place.1 (c.leave_entry.ensures.1 e journal).0

pub returns-in-Ok-clause-played : goal.returns-in-Ok-clause-played
returns-in-Ok-clause-played g c =
    subst (λ k. Plays k (c.leave_entry.new.place.table_id, c.leave_entry.new.place.me.0) c.args.turn (record { place = c.len-place.result; reply = c.in-Ok.reply })) c.self.view_is
    (plays_at c.self.inside.place c.enter-ticket.new.place c.leave_entry.new.place _ _ c.self.inside.number c.enter-ticket.result.1 c.play.new.self c.args.turn (record { place = c.len-place.result; reply = c.in-Ok.reply })
    (c.leave_entry.ensures.0.0 ∙ c.enter-ticket.ensures.place.0.0) c.enter-ticket.ensures.place.1 c.in-Ok.ensures.played c.self.invariant.5 c.self.invariant.4 c.leave_entry.ensures.1
    c.enter-ticket.ensures.seen.0 c.enter-ticket.ensures.seen.3 c.in-Ok.ensures.exact c.len-place.ensures.count)

pub returns-in-Ok-clause-right : goal.returns-in-Ok-clause-right
returns-in-Ok-clause-right g c =
    let e : SeatEntry = entry c.self.inside.number c.args.turn c.in-Ok.reply in
    let journal = journal_more c.enter-ticket.new.place c.self.inside.place.me.0 _ _ c.enter-ticket.result.1 c.play.new.self e c.enter-ticket.ensures.place.1 c.in-Ok.ensures.played in
    sees_right c.self.inside.place c.enter-ticket.new.place c.leave_entry.new.place _ _ c.enter-ticket.result.1 c.play.new.self e
    c.enter-ticket.ensures.place.1 c.in-Ok.ensures.played (c.leave_entry.ensures.1 e journal).0 c.enter-ticket.ensures.seen.3 c.play.ensures.right
