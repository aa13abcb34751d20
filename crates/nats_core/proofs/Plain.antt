-- The reply of a call holds no message, and that of a take the one that waited first.
use Rattle.std.proofs.Common.{◌≡◌, suc, Bool, true, false, not, cond, nat_lt, List, [], ◌∷◌, Option, Some, None, refl, ◌∙◌}
use Rattle.std.proofs.lemmas.Bool.{false≢true}
use Rattle.nats_message.specs.declared.message.Message.{Message}
use Rattle.nats_history.specs.declared.call.Call.{Call}
use Rattle.nats_history.specs.declared.call.CallReply.{CallReply}
use Rattle.nats_history.specs.declared.call.CallReply.TheVariants.{Accepted, Numbered, InvalidSubject, InvalidQueueName, MaxPayloadExceeded, Closed, NoNumber, Full}
use Rattle.nats_history.specs.declared.turn.Turn.{Turn}
use Rattle.nats_history.specs.declared.turn.Turn.TheVariants.{Do, Take}
use Rattle.nats_history.specs.Queue.{first}
use Rattle.nats_history.specs.History.{subscribes, takes_ticket, Sub}
use Rattle.nats_history.specs.Parts.{Parts}
use Rattle.nats_history.specs.Schedule.{is_full, has_subjects, has_group, size_of, has_no_number, takes_no_call, refusal, reply_by, accepted_reply, call_reply, is_closed_sub, oldest, take_reply_of, is_there}
use Rattle.nats_tables.specs.Numbers.{item_of}
use Rattle.nats_subs.specs.Delivery.{first_of}
use Rattle.nats_session.specs.Handler.{can_play}
use Rattle.nats_session.proofs.Handlers.{may_take}
use Rattle.nats_core.specs.Journal.{reply_to}
use Rattle.nats_core.specs.Replies.{IsPlain, IsPlainReply, message_of, taken_message, waiting_for}

abbrev IsPlainOrNone : Option CallReply → Type 0
IsPlainOrNone None = Unit {0}
IsPlainOrNone (Some reply) = IsPlain reply

-- the first of these that holds refuses
plain_first : (a b d e f g : Bool) (m : CallReply) → IsPlain m
    → IsPlainOrNone (cond a (Some InvalidSubject) (cond b (Some InvalidQueueName) (cond d (Some m) (cond e (Some Closed) (cond f (Some NoNumber) (cond g (Some Full) None))))))
plain_first true b d e f g m plain = tt
plain_first false true d e f g m plain = tt
plain_first false false true e f g m plain = plain
plain_first false false false true f g m plain = tt
plain_first false false false false true g m plain = tt
plain_first false false false false false true m plain = tt
plain_first false false false false false false m plain = tt

plain_either : (b : Bool) (reply other : CallReply) → IsPlain reply → IsPlain other → IsPlain (cond b reply other)
plain_either true reply other here there = here
plain_either false reply other here there = there

plain_refusal : (p : Parts) (call : Call) → IsPlainOrNone (refusal p call)
plain_refusal p call =
    plain_first (not (has_subjects p.config call)) (not (has_group call)) (nat_lt p.link.max_payload (size_of call)) (takes_no_call p) (has_no_number p call) (is_full p)
    (MaxPayloadExceeded p.link.max_payload (size_of call)) tt

plain_accepted : (p : Parts) (call : Call) → IsPlain (accepted_reply p call)
plain_accepted p call =
    let ticket = cond (takes_ticket call) (Numbered (suc p.tickets.given)) Accepted in
    plain_either (subscribes call) (Numbered (suc p.subs.given)) ticket tt (plain_either (takes_ticket call) (Numbered (suc p.tickets.given)) Accepted tt tt)

plain_by : (refused : Option CallReply) (reply : CallReply) → IsPlainOrNone refused → IsPlain reply → IsPlain (reply_by refused reply)
plain_by None reply refused plain = plain
plain_by (Some other) reply refused plain = refused

pub plain_call : (p : Parts) (call : Call) → IsPlain (call_reply p call)
plain_call p call = plain_by (refusal p call) (accepted_reply p call) (plain_refusal p call) (plain_accepted p call)

pub plain_reply : (p : Parts) (t : Turn) → IsPlainReply (reply_to p t)
plain_reply p (Do call) = plain_call p call
plain_reply p (Take sid) = tt
plain_reply p t = tt

by_waiting : (over : Bool) (waiting : List Message) → first waiting ≡ taken_message (oldest over waiting)
by_waiting true [] = refl
by_waiting false [] = refl
by_waiting over (m ∷ waiting) = refl

by_gone : (gone : Bool) (waiting : List Message) → not gone ≡ true → cond gone None (first waiting) ≡ first waiting
by_gone true waiting there = absurd (false≢true there)
by_gone false waiting there = refl

by_sub : (o : Option Sub) → is_there o ≡ true → first_of o ≡ taken_message (take_reply_of o)
by_sub None there = refl
by_sub (Some sub) there = by_gone sub.is_gone sub.waiting there ∙ by_waiting (is_closed_sub sub) sub.waiting

pub message_is : (p : Parts) (t : Turn) → can_play p t ≡ true → waiting_for p t ≡ message_of (reply_to p t)
message_is p (Take sid) may = by_sub (item_of sid p.subs.rows) (may_take p sid may)
message_is p (Do call) may = refl
message_is p t may = refl
