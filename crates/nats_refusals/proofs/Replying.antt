-- What a reply comes to, whatever the session is.
use Rattle.std.proofs.Common.{◌≡◌, ℕ, suc, Bool, true, false, not, ◌&&◌, ◌||◌, nat_lt, List, Option, Some, None, refl, sym, ◌∙◌, ap, arith, if◌then◌else◌}
use Rattle.std.proofs.lemmas.Bool.{false≢true}
use Rattle.std.proofs.lemmas.Bool.Decides.{nat_tests}
use Rattle.nats_names.specs.Names.{is_nonempty, is_separator, is_publishable}
use Rattle.std.specs.List.{list_all}
use Rattle.nats_history.specs.declared.config.Config.{Config}
use Rattle.nats_history.specs.declared.call.Call.{Call}
use Rattle.nats_history.specs.declared.call.Call.TheVariants.{Publish, Subscribe, Request}
use Rattle.nats_history.specs.declared.call.CallReply.TheVariants.{Accepted, Numbered, InvalidSubject, InvalidQueueName, MaxPayloadExceeded, Closed, NoNumber, Full}
use Rattle.nats_history.specs.History.{subscribes, takes_ticket}
use Rattle.nats_history.specs.Parts.{Parts}
use Rattle.nats_history.specs.Schedule.{may_publish_to, passes, has_subjects, has_group, size_of, has_no_number, takes_no_call, is_full, accepted_reply, reply_by, call_reply}
use Rattle.nats_refusals.specs.Refusals.{answer_of, FailsNames, MayAnswer, may_call}

first_true : (a b : Bool) → (a && b) ≡ true → a ≡ true
first_true true b is = refl
first_true false b is = absurd (false≢true is)

second_true : (a b : Bool) → (a && b) ≡ true → b ≡ true
second_true true b is = is
second_true false b is = absurd (false≢true is)

-- a publishable subject may be published to, whatever the settings skip
allowed : (nonempty skip rest : Bool) → (nonempty && rest) ≡ true → (nonempty && (skip || (nonempty && rest))) ≡ true
allowed true true rest is = refl
allowed true false rest is = is
allowed false skip rest is = absurd (false≢true is)

may_where : (c : Config) (s : List ℕ) → is_publishable s ≡ true → may_publish_to c s ≡ true
may_where c s is = allowed (is_nonempty s) c.skip_subject_validation (list_all (λ b. not (is_separator b)) s) is

pass_where : (c : Config) (r : Option (List ℕ)) → passes is_publishable r ≡ true → passes (may_publish_to c) r ≡ true
pass_where c None is = refl
pass_where c (Some s) is = may_where c s is

both : (a b : Bool) → a ≡ true → b ≡ true → (a && b) ≡ true
both a b first second = ap (λ x. x && b) first ∙ second

fails : (c : Config) (s : List ℕ) (r : Option (List ℕ)) (x : Bool) → (is_publishable s && passes is_publishable r) ≡ x
    → (may_publish_to c s && passes (may_publish_to c) r) ≡ false → x ≡ false
fails c s r false is bad = refl
fails c s r true is bad = absurd (false≢true (sym bad ∙ both (may_publish_to c s) (passes (may_publish_to c) r)
    (may_where c s (first_true (is_publishable s) (passes is_publishable r) is))
    (pass_where c r (second_true (is_publishable s) (passes is_publishable r) is))))

-- a call whose subjects may not stand there fails by its names
pub fails_names : (c : Config) (call : Call) → has_subjects c call ≡ false → FailsNames call
fails_names c (Publish m) bad = fails c m.subject m.reply (is_publishable m.subject && passes is_publishable m.reply) refl bad
fails_names c (Subscribe subject group) bad = bad
fails_names c (Request subject payload headers token) bad = tt
fails_names c call bad = absurd (false≢true (sym bad))

one_numbered : (a x b y : Bool) → ((a && x) || (b && y)) ≡ true → (a || b) ≡ true
one_numbered true x b y is = refl
one_numbered false x true y is = refl
one_numbered false x false y is = absurd (false≢true is)

accepted_is : (waits : Bool) (p : Parts) (call : Call) (s t : Bool) → subscribes call ≡ s → takes_ticket call ≡ t
    → MayAnswer waits call (answer_of (if s then Numbered (suc p.subs.given) else (if t then Numbered (suc p.tickets.given) else Accepted)))
accepted_is waits p call true t is is' = sym (ap (λ b. b || takes_ticket call) is)
accepted_is waits p call false true is is' = sym (ap (λ b. b || takes_ticket call) is ∙ is')
accepted_is waits p call false false is is' = sym (ap (λ b. b || takes_ticket call) is ∙ is')

-- want of room is told only to one that does not wait for it
told_full : (waits : Bool) → (waits ≡ true → false ≡ true) → waits ≡ false
told_full true room = absurd (false≢true (room refl))
told_full false room = refl

chosen : (waits : Bool) (p : Parts) (call : Call) (subjects group large closed numbered full : Bool)
    → has_subjects p.config call ≡ subjects → has_group call ≡ group → nat_lt p.link.max_payload (size_of call) ≡ large
    → takes_no_call p ≡ closed → has_no_number p call ≡ numbered → is_full p ≡ full
    → (waits ≡ true → (not full || closed) ≡ true)
    → MayAnswer waits call (answer_of (reply_by
    (if not subjects then Some InvalidSubject else
    (if not group then Some InvalidQueueName else
    (if large then Some (MaxPayloadExceeded p.link.max_payload (size_of call)) else
    (if closed then Some Closed else
    (if numbered then Some NoNumber else
    (if full then Some Full else None)))))) (accepted_reply p call)))
chosen w p call false g l c n f i0 i1 i2 i3 i4 i5 room = fails_names p.config call i0
chosen w p call true false l c n f i0 i1 i2 i3 i4 i5 room = i1
chosen w p call true true true c n f i0 i1 i2 i3 i4 i5 room = (refl, grind (arith, nat_tests, i2))
chosen w p call true true false true n f i0 i1 i2 i3 i4 i5 room = tt
chosen w p call true true false false true f i0 i1 i2 i3 i4 i5 room = one_numbered (subscribes call) _ (takes_ticket call) _ i4
chosen w p call true true false false false true i0 i1 i2 i3 i4 i5 room = told_full w room
chosen w p call true true false false false false i0 i1 i2 i3 i4 i5 room = accepted_is w p call (subscribes call) (takes_ticket call) refl refl

answered : (waits : Bool) (p : Parts) (call : Call) → (waits ≡ true → (not (is_full p) || takes_no_call p) ≡ true) → MayAnswer waits call (answer_of (call_reply p call))
answered waits p call room =
    chosen waits p call (has_subjects p.config call) (has_group call) (nat_lt p.link.max_payload (size_of call)) (takes_no_call p) (has_no_number p call) (is_full p) refl refl refl refl refl refl room

-- whatever the session is, a call comes to what it may
pub may_answer : (p : Parts) (call : Call) → MayAnswer false call (answer_of (call_reply p call))
may_answer p call = answered false p call (λ is. absurd (false≢true is))

closed_takes_none : (closed drained full : Bool) → (not full || closed) ≡ true → (not full || (closed || drained)) ≡ true
closed_takes_none true drained false is = refl
closed_takes_none true drained true is = refl
closed_takes_none false drained false is = refl
closed_takes_none false drained true is = absurd (false≢true is)

-- one for which there is room, or which finds the session closed, is never refused for want of room
pub never_full : (p : Parts) (call : Call) → may_call p ≡ true → MayAnswer true call (answer_of (call_reply p call))
never_full p call may = answered true p call (λ is. closed_takes_none p.is_closed p.drain.is_accepted (is_full p) may)
