-- Receiving, as its loops see it: subscribing, writes, takes and reads.
use Rattle.std.proofs.Common.{◌≡◌, refl, ◌∙◌, sym, ap, subst, inl, inr, ◌⊎◌, ℕ, zero, suc, ◌+◌, ◌-◌, ◌<◌, ◌≤◌, arith, Bool, true, false, true≢false, not, nat_lt, le-ltb, List, [], ◌∷◌, ◌++◌, length, take, drop, append_assoc, append-nil, length-append, length-take, drop-drop, take-add, flat_map, Option, Some, None, option_map, if◌then◌else◌, Result, Ok}
use Rattle.std.specs.List.{concat}
use Rattle.std.specs.Io.KnownBytes.{append_known}
use Rattle.std.proofs.lemmas.Bool.{false≢true}
use Rattle.std.proofs.lemmas.List.{take-append-le}
use Rattle.std.proofs.lemmas.Grind.{flat_map-append}
use Rattle.std.proofs.lemmas.Option.{none-some}
use Rattle.nats_names.specs.Names.{is_valid}
use Rattle.nats_outside.specs.Told.{ReadTold, WriteTold, piece_more}
use Rattle.nats_dial.specs.Lines.{Took}
use Rattle.nats_message.specs.declared.message.Message.{Message}
use Rattle.nats_lines.specs.Operations.{Operation, Front, unfinished, front, operations}
use Rattle.nats_history.specs.declared.call.Call.{Call}
use Rattle.nats_history.specs.declared.call.Call.TheVariants as call
use Rattle.nats_history.specs.declared.call.CallReply.{CallReply}
use Rattle.nats_history.specs.declared.call.CallReply.TheVariants as replies
use Rattle.nats_history.specs.declared.call.TakeReply.{TakeReply}
use Rattle.nats_history.specs.declared.call.TakeReply.TheVariants as takes
use Rattle.nats_history.specs.declared.turn.Turn.TheVariants as turns
use Rattle.nats_history.specs.History as history
use Rattle.nats_history.specs.Schedule.{due, due_by, is_valid_turn, take_reply, refusal, reply_by, accepted_reply, accepted_step, own_steps}
use Rattle.nats_session.specs.Handler.{Seen, seen_all, seen_after}
use Rattle.nats_core.specs.declared.answers.ReadOnce.TheVariants as reads
use Rattle.nats_core.specs.declared.answers.WriteOnce.{WriteOnce}
use Rattle.nats_core.specs.declared.answers.WriteOnce.TheVariants as writes
use Rattle.nats_core.specs.declared.entry.StepReply.{StepReply}
use Rattle.nats_core.specs.declared.entry.StepReply.TheVariants as answers
use Rattle.nats_core.specs.Journal.{Logged, all_due, reply_to}
use Rattle.nats_core.specs.Links.{GivesNone}
use Rattle.nats_core.proofs.Dues.{none_played, none_after_all}
use Rattle.nats_message_text.specs.Printed.{message_line}
use Rattle.nats_live.specs.declared.error.LiveError.{LiveError}
use Rattle.nats_live.specs.Ended.{messages, pongs, ends_in_fault}
use Rattle.nats_live.specs.State.{Noise, state, begun}
use Rattle.nats_live.specs.Steps.{PlaysWhole, ReadsWhole, WritesWhole}
use Rattle.nats_live.specs.Flow.{GoesOn, HasBegun, Receives, Subscribes, GaveLater, IsOver, IsReceiving, IsWritten, TakesOne, TakesAll, message_in, receiving, sub_text, subscribed_text, subscribe_answer, unasked}
use Rattle.nats_live.proofs.Begins.{nothing_there}
use Rattle.nats_live.proofs.Flushing.{failed_once, took_failed, took_more}
use Rattle.nats_live.proofs.Hearing.{hearing_all, hearing_fed, hearing_over, hearing_receives}
use Rattle.nats_live.proofs.Ops.{messages_more}
use Rattle.nats_live.proofs.Posting.{noise_accepted, settled_played, settled_reply}
use Rattle.nats_live.proofs.Quiet.{Quiet, quiet_all, quiet_lost, quiet_receives, quiet_take, quiet_up, quiet_write, receives_quiet, Took1}

-- ---- subscribing

-- what refuses it
abbrev refused_by : Bool → Option CallReply
refused_by may = if may then None else Some replies.InvalidSubject

sub_refused : (mux : List ℕ) (n : Noise) (up : Bool) (unread waiting subject : List ℕ) (may : Bool)
    → is_valid subject ≡ may
    → refusal (state mux n (begun up unread waiting)).parts (call.Subscribe subject None) ≡ refused_by may
sub_refused mux n up unread waiting subject true is =
    ap (λ (b : Bool). if not b then Some replies.InvalidSubject else
    (if nat_lt n.most 0 then Some (replies.MaxPayloadExceeded n.most 0) else None)) is
    ∙ ap (λ (b : Bool). if b then Some (replies.MaxPayloadExceeded n.most 0) else None) (le-ltb n.most 0 (omega arith))
sub_refused mux n up unread waiting subject false is =
    ap (λ (b : Bool). if not b then Some replies.InvalidSubject else
    (if nat_lt n.most 0 then Some (replies.MaxPayloadExceeded n.most 0) else None)) is

sub_text_is : (subject waiting : List ℕ) (first : List Operation) → waiting ≡ pongs first
    → waiting ++ sub_text subject ≡ subscribed_text subject first []
sub_text_is subject waiting first is =
    ap (λ (w : List ℕ). w ++ sub_text subject) is
    ∙ sym (append-nil (pongs first ++ sub_text subject))

sub_accepted : (most : ℕ) (joined subject : List ℕ) (seen : Seen) (b : HasBegun most joined seen)
    → Quiet subject joined (operations joined) [] [] 0 b.up
    (seen_after seen (history.accepted (call.Subscribe subject None)))
sub_accepted most joined subject seen b = record {
  mux = b.mux;
  noise = noise_accepted b.mux (call.Subscribe subject None) b.noise;
  opened = false;
  puts = 0;
  unread = b.unread;
  waiting = b.waiting;
  is = ap (λ (s : Seen). seen_after s (history.accepted (call.Subscribe subject None))) b.is;
  all = sym (append-nil (operations joined));
  fits = omega arith;
  fresh = λ closed. refl;
  ups = λ up. (
    nothing_there (front b.unread) b.mux b.noise (begun b.up b.unread b.waiting) up
        (ap (λ (s : Seen). due s.parts) (sym b.is) ∙ b.settled) refl,
    subst (λ (ops : List Operation). GoesOn joined ops b.unread) (sym (append-nil (operations joined))) (b.ups up).0,
    sub_text_is subject b.waiting (operations joined) (b.ups up).1,
  );
  left = subscribed_text subject (operations joined) [];
  text = refl;
}

abbrev subbed : Option CallReply → List ℕ → Seen → Seen
subbed r subject seen = all_due (seen_all seen (accepted_step r (call.Subscribe subject None) ++ []))

subscribes_by : (most : ℕ) (joined subject : List ℕ) (seen : Seen) → HasBegun most joined seen → (may : Bool)
    → is_valid subject ≡ may
    → (r : Option CallReply) → r ≡ refused_by may
    → Subscribes joined subject
    (subscribe_answer (answers.Call (reply_by r (accepted_reply seen.parts (call.Subscribe subject None))))) seen
    (subbed r subject seen)
subscribes_by most joined subject seen b true may_is r is =
    let next = seen_after seen (history.accepted (call.Subscribe subject None)) in
    let quiet = quiet_all subject joined (operations joined) [] [] 0 b.up next
    (sub_accepted most joined subject seen b) in
    subst (λ (x : Option CallReply). Subscribes joined subject
    (subscribe_answer (answers.Call (reply_by x (accepted_reply seen.parts (call.Subscribe subject None))))) seen
    (subbed x subject seen))
    (sym is) (
      quiet_up subject joined (operations joined) [] [] 0 b.up (all_due next) quiet
          ∙ sym (ap (λ (s : Seen). s.parts.link.is_up) b.is),
      (λ up. quiet_receives subject joined (operations joined) [] [] 0 b.up (all_due next) quiet
          (none_after_all next)),
    )
subscribes_by most joined subject seen b false may_is r is =
    subst (λ (x : Option CallReply). Subscribes joined subject
    (subscribe_answer (answers.Call (reply_by x (accepted_reply seen.parts (call.Subscribe subject None))))) seen
    (subbed x subject seen))
    (sym is) (refl, may_is)

pub subscribes : (most : ℕ) (joined subject : List ℕ) (seen : Seen) → HasBegun most joined seen
    → Subscribes joined subject (subscribe_answer (reply_to seen.parts (turns.Do (call.Subscribe subject None)))) seen
    (all_due (seen_all seen (own_steps seen.parts (turns.Do (call.Subscribe subject None)))))
subscribes most joined subject seen b =
    subscribes_by most joined subject seen b (is_valid subject) refl (refusal seen.parts (call.Subscribe subject None))
    (ap (λ (s : Seen). refusal s.parts (call.Subscribe subject None)) b.is
    ∙ sub_refused b.mux b.noise b.up b.unread b.waiting subject (is_valid subject) refl)

-- ---- writing all that waits

-- the session on the way: it took more
pub record WritesOn (subject joined : List ℕ) (first since : List Operation) (had : List ℕ) (taken : ℕ)
    (head : List ℕ) (was : Bool)
    (seen : Seen) (before w : WriteTold) : Type 0 where
  pub more : List ℕ
  pub receives : Receives subject joined first since (had ++ more) taken seen
  pub wrote : Took (head ++ (had ++ more)) w
  pub faults : before.faults ≤ w.faults
  pub over : seen.parts.link.is_up ≡ false → (was ≡ false) ⊎ (1 ≤ w.faults)

pub writes_begin : (subject joined : List ℕ) (first since : List Operation) (had : List ℕ) (taken : ℕ) (head : List ℕ)
    (seen : Seen) (w : WriteTold)
    → Receives subject joined first since had taken seen → Took (head ++ had) w
    → WritesOn subject joined first since had taken head seen.parts.link.is_up seen w w
writes_begin subject joined first since had taken head seen w receives wrote = record {
  more = [];
  receives = subst (λ (t : List ℕ). Receives subject joined first since t taken seen) (sym (append-nil had)) receives;
  wrote = subst (λ (t : List ℕ). Took (head ++ t) w) (sym (append-nil had)) wrote;
  faults = omega arith;
  over = λ down. inl down;
}

-- the session of a link that is up
up_quiet : (subject joined : List ℕ) (first since : List Operation) (took : List ℕ) (taken : ℕ) (seen : Seen)
    → Receives subject joined first since took taken seen → seen.parts.link.is_up ≡ true
    → Quiet subject joined first since took taken true seen
up_quiet subject joined first since took taken seen r up =
    subst (λ (b : Bool). Quiet subject joined first since took taken b seen)
    (sym (ap (λ (s : Seen). s.parts.link.is_up) r.is) ∙ up)
    (receives_quiet subject joined first since took taken seen r)

pub writes_more : (subject joined : List ℕ) (first since : List Operation) (had : List ℕ) (taken : ℕ) (head : List ℕ)
    (was : Bool)
    (old new : Logged) (before w after : WriteTold) (n : ℕ)
    → WritesOn subject joined first since had taken head was old.session before w
    → WritesWhole old w after (Ok (writes.Wrote n)) new
    → WritesOn subject joined first since had taken head was new.session before after
writes_more subject joined first since had taken head was old new before w after n on wrote =
    let same = none_played old.session on.receives.settled in
    let bytes = old.session.parts.link.wire.waiting in
    let up : old.session.parts.link.is_up ≡ true = ap (λ (s : Seen). s.parts.link.is_up) (sym same) ∙ wrote.0 in
    let fits : n ≤ length bytes = subst (λ (s : Seen). n ≤ length s.parts.link.wire.waiting) same wrote.2 in
    let q = up_quiet subject joined first since (had ++ on.more) taken old.session on.receives up in
    let next = seen_all old.session (own_steps old.session.parts (turns.Write n)) in
    let far = quiet_all subject joined first since ((had ++ on.more) ++ take n bytes) taken true next
    (quiet_write subject joined first since (had ++ on.more) taken n old.session q fits) in
    let is : new.session ≡ all_due next =
    ap (λ (c : Logged). c.session) wrote.4
    ∙ ap (λ (s : Seen). all_due (seen_all s (own_steps s.parts (turns.Write n)))) same in
    let joins = append_assoc had on.more (take n bytes) in
    record {
      more = on.more ++ take n bytes;
      receives = subst (λ (s : Seen). Receives subject joined first since (had ++ (on.more ++ take n bytes)) taken s)
          (sym is)
          (subst (λ (t : List ℕ). Receives subject joined first since t taken (all_due next)) joins
          (quiet_receives subject joined first since ((had ++ on.more) ++ take n bytes) taken true
          (all_due next) far (none_after_all next)));
      wrote = subst (λ (t : List ℕ). Took t after)
          (append_assoc head (had ++ on.more) (take n bytes) ∙ ap (λ (t : List ℕ). head ++ t) joins)
          (took_more (head ++ (had ++ on.more)) (take n bytes) w after on.wrote
          (wrote.3 ∙ ap (λ (s : Seen). record w
          { taken = append_known w.taken (take n s.parts.link.wire.waiting) }) same));
      faults = omega (arith, on.faults, ap (λ (x : WriteTold). x.faults) wrote.3);
      over = λ down. absurd (true≢false
          (sym (quiet_up subject joined first since ((had ++ on.more) ++ take n bytes) taken true (all_due next) far)
          ∙ (ap (λ (s : Seen). s.parts.link.is_up) (sym is) ∙ down)));
    }

-- nothing waits: the subscribe was handled too
opened_by : (mux subject : List ℕ) (n : Noise) (b : Bool) (puts : ℕ) (queue : List Message) (unread : List ℕ)
    → front unread ≡ unfinished
    → due (state mux n (receiving true b subject puts queue unread [])).parts ≡ None → b ≡ true
opened_by mux subject n true puts queue unread none idle = refl
opened_by mux subject n false puts queue unread none idle =
    let p = (state mux n (receiving true false subject puts queue unread [])).parts in
    absurd (none-some (history.handled (call.Subscribe subject None)) (sym idle ∙ ap (λ (f : Front). due_by f p) none))

idle_opened : (subject joined : List ℕ) (first since : List Operation) (took : List ℕ) (taken : ℕ) (seen : Seen)
    → (q : Quiet subject joined first since took taken true seen) → due seen.parts ≡ None
    → seen.parts.link.wire.waiting ≡ []
    → (q.opened ≡ true) × (took ≡ subscribed_text subject first since)
idle_opened subject joined first since took taken seen q idle empty =
    let queue = drop taken (messages 1 since) in
    let facts = q.ups refl in
    let none : q.waiting ≡ [] = sym (ap (λ (s : Seen). s.parts.link.wire.waiting) q.is) ∙ empty in
    let is_opened = opened_by q.mux subject q.noise q.opened q.puts queue q.unread facts.0
    (ap (λ (w : List ℕ). due
    (state q.mux q.noise (receiving true q.opened subject q.puts queue q.unread w)).parts) (sym none)
    ∙ (ap (λ (s : Seen). due s.parts) (sym q.is) ∙ idle)) in (
      is_opened,
      sym (append-nil took)
          ∙ (ap (λ (w : List ℕ). took ++ w)
          (ap (λ (b : Bool). [] ++ unasked b subject) (sym is_opened)
          ∙ ap (λ (w : List ℕ). w ++ unasked q.opened subject) (sym none))
          ∙ facts.2),
    )

pub writes_idle : (subject joined : List ℕ) (first since : List Operation) (had : List ℕ) (taken : ℕ) (head : List ℕ)
    (was : Bool)
    (old new : Logged) (before w after : WriteTold)
    → WritesOn subject joined first since had taken head was old.session before w
    → WritesWhole old w after (Ok writes.Idle) new
    → IsWritten subject joined first since had taken head was (Ok tt) new.session before after
writes_idle subject joined first since had taken head was old new before w after on wrote =
    let same = none_played old.session on.receives.settled in
    let up : old.session.parts.link.is_up ≡ true = ap (λ (s : Seen). s.parts.link.is_up) (sym same) ∙ wrote.0 in
    let q = up_quiet subject joined first since (had ++ on.more) taken old.session on.receives up in
    let empty = ap (λ (s : Seen). s.parts.link.wire.waiting) (sym same) ∙ wrote.1 in
    let all = idle_opened subject joined first since (had ++ on.more) taken old.session q on.receives.settled empty in
    let is : new.session ≡ old.session = ap (λ (c : Logged). c.session) wrote.3 ∙ same in
    subst (λ (x : WriteTold). IsWritten subject joined first since had taken head was (Ok tt) new.session before x)
    (sym wrote.2)
    (subst (λ (s : Seen). IsWritten subject joined first since had taken head was (Ok tt) s before w) (sym is)
    (on.more, on.receives, on.wrote, on.faults, (λ it_is. all.1), on.over))

pub writes_lost : (subject joined : List ℕ) (first since : List Operation) (had : List ℕ) (taken : ℕ) (head : List ℕ)
    (was : Bool)
    (old new : Logged) (before w after : WriteTold)
    → WritesOn subject joined first since had taken head was old.session before w
    → WritesWhole old w after (Ok writes.Lost) new
    → IsWritten subject joined first since had taken head was (Ok tt) new.session before after
writes_lost subject joined first since had taken head was old new before w after on wrote =
    let same = none_played old.session on.receives.settled in
    let up : old.session.parts.link.is_up ≡ true = ap (λ (s : Seen). s.parts.link.is_up) (sym same) ∙ wrote.0 in
    let q = up_quiet subject joined first since (had ++ on.more) taken old.session on.receives up in
    let next = seen_all old.session (own_steps old.session.parts turns.Lost) in
    let far = quiet_all subject joined first since (had ++ on.more) taken false next
    (quiet_lost subject joined first since (had ++ on.more) taken old.session q) in
    let is : new.session ≡ all_due next =
    ap (λ (c : Logged). c.session) wrote.2
    ∙ ap (λ (s : Seen). all_due (seen_all s (own_steps s.parts turns.Lost))) same in
    let down = quiet_up subject joined first since (had ++ on.more) taken false (all_due next) far in
    let failed = failed_once w after wrote.1 in
    subst (λ (s : Seen). IsWritten subject joined first since had taken head was (Ok tt) s before after) (sym is) (
      on.more,
      quiet_receives subject joined first since (had ++ on.more) taken false (all_due next) far (none_after_all next),
      took_failed (head ++ (had ++ on.more)) w after on.wrote wrote.1,
      omega (arith, on.faults, failed.1),
      (λ it_is. absurd (false≢true (sym down ∙ it_is))),
      (λ it_is_not. inr failed.0),
    )

pub writes_gone : (subject joined : List ℕ) (first since : List Operation) (had : List ℕ) (taken : ℕ) (head : List ℕ)
    (was : Bool)
    (old new : Logged) (before w after : WriteTold)
    → WritesOn subject joined first since had taken head was old.session before w
    → WritesWhole old w after (Ok writes.Gone) new
    → IsWritten subject joined first since had taken head was (Ok tt) new.session before after
writes_gone subject joined first since had taken head was old new before w after on wrote =
    let same = none_played old.session on.receives.settled in
    let down : old.session.parts.link.is_up ≡ false = ap (λ (s : Seen). s.parts.link.is_up) (sym same) ∙ wrote.0 in
    let is : new.session ≡ old.session = ap (λ (c : Logged). c.session) wrote.2 ∙ same in
    subst (λ (x : WriteTold). IsWritten subject joined first since had taken head was (Ok tt) new.session before x)
    (sym wrote.1)
    (subst (λ (s : Seen). IsWritten subject joined first since had taken head was (Ok tt) s before w) (sym is)
    (on.more, on.receives, on.wrote, on.faults, (λ it_is. absurd (false≢true (sym down ∙ it_is))), on.over))

-- a write that is the last of them
pub writes_done : (subject joined : List ℕ) (first since : List Operation) (had : List ℕ) (taken : ℕ) (head : List ℕ)
    (was : Bool)
    (old new : Logged) (before w after : WriteTold) (once : WriteOnce)
    → (once ≡ writes.Idle) ⊎ ((once ≡ writes.Lost) ⊎ (once ≡ writes.Gone))
    → WritesOn subject joined first since had taken head was old.session before w
    → WritesWhole old w after (Ok once) new
    → IsWritten subject joined first since had taken head was (Ok tt) new.session before after
writes_done subject joined first since had taken head was old new before w after once (inl is) on wrote =
    writes_idle subject joined first since had taken head was old new before w after on
    (subst (λ (o : WriteOnce). WritesWhole old w after (Ok o) new) is wrote)
writes_done subject joined first since had taken head was old new before w after once (inr (inl is)) on wrote =
    writes_lost subject joined first since had taken head was old new before w after on
    (subst (λ (o : WriteOnce). WritesWhole old w after (Ok o) new) is wrote)
writes_done subject joined first since had taken head was old new before w after once (inr (inr is)) on wrote =
    writes_gone subject joined first since had taken head was old new before w after on
    (subst (λ (o : WriteOnce). WritesWhole old w after (Ok o) new) is wrote)

-- ---- taking all that waits

-- one message more was taken: so far the text, and how many are left
pub lines_more : (taken wanted left : ℕ) (ms : List Message) (m : Message) (before text : List ℕ) → suc left ≤ wanted
    → take 1 (drop (taken + (wanted - suc left)) ms) ≡ m ∷ []
    → text ≡ before ++ flat_map message_line (take (wanted - suc left) (drop taken ms))
    → text ++ message_line m ≡ before ++ flat_map message_line (take (wanted - left) (drop taken ms))
lines_more taken wanted left ms m before text fits is text_is =
    let k = wanted - suc left in
    let rest = drop taken ms in
    let one : take 1 (drop k rest) ≡ m ∷ [] = ap (take 1) (drop-drop k taken ms) ∙ is in
    let line : flat_map message_line (take (k + 1) rest) ≡ flat_map message_line (take k rest) ++ message_line m =
    ap (flat_map message_line) (take-add k 1 rest ∙ ap (λ (ms : List Message). take k rest ++ ms) one)
    ∙ (flat_map-append message_line (take k rest) (m ∷ [])
    ∙ ap (λ (t : List ℕ). flat_map message_line (take k rest) ++ t) (append-nil (message_line m))) in
    let count : k + 1 ≡ wanted - left = omega (arith, fits) in
    ap (λ (t : List ℕ). t ++ message_line m) text_is
    ∙ (append_assoc before (flat_map message_line (take k rest)) (message_line m)
    ∙ ap (λ (t : List ℕ). before ++ t) (sym line ∙ ap (λ (i : ℕ). flat_map message_line (take i rest)) count))

-- what was printed goes on
pub printed_more : (taken more : ℕ) (ms : List Message) (before after : List ℕ)
    → before ≡ flat_map message_line (take taken ms)
    → after ≡ before ++ flat_map message_line (take more (drop taken ms))
    → after ≡ flat_map message_line (take (taken + more) ms)
printed_more taken more ms before after was is =
    is
    ∙ (ap (λ (t : List ℕ). t ++ flat_map message_line (take more (drop taken ms))) was
    ∙ (sym (flat_map-append message_line (take taken ms) (take more (drop taken ms)))
    ∙ ap (flat_map message_line) (sym (take-add taken more ms))))

-- what a reply to a take comes to
abbrev pub takes_of : TakeReply → Result (Option Message) LiveError
takes_of r = Ok (message_in (answers.Take r))

takes_by : (subject joined : List ℕ) (first since : List Operation) (had : List ℕ) (count : ℕ) (up : Bool)
    (r : TakeReply) (next : Seen)
    → Took1 subject joined first since had count up r next → TakesOne subject joined first since had count up
    (takes_of r) (all_due next)
takes_by subject joined first since had count up (takes.Message m) next took =
    let far = quiet_all subject joined first since had (count + 1) up next took.0 in (
      quiet_up subject joined first since had (count + 1) up (all_due next) far,
      quiet_receives subject joined first since had (count + 1) up (all_due next) far (none_after_all next),
      took.1,
    )
takes_by subject joined first since had count up takes.Empty next took =
    let far = quiet_all subject joined first since had count up next took.0 in (
      quiet_up subject joined first since had count up (all_due next) far,
      quiet_receives subject joined first since had count up (all_due next) far (none_after_all next),
      took.1,
    )
takes_by subject joined first since had count up takes.Ended next took = absurd took

-- a take of the one subscription
takes_reply : (subject joined : List ℕ) (first since : List Operation) (had : List ℕ) (count : ℕ) (old new : Logged)
    (reply : StepReply)
    → Receives subject joined first since had count old.session → PlaysWhole old (turns.Take 1) (Ok reply) new
    → (r : TakeReply) × (reply ≡ answers.Take r)
    × TakesOne subject joined first since had count old.session.parts.link.is_up (takes_of r) new.session
takes_reply subject joined first since had count old new reply receives plays =
    let same = none_played old.session receives.settled in
    let next = seen_all old.session (own_steps old.session.parts (turns.Take 1)) in
    let is : new.session ≡ all_due next = settled_played old new (turns.Take 1) receives.settled plays.2 in
    let r = take_reply old.session.parts 1 in
    let up : receives.up ≡ old.session.parts.link.is_up = sym (ap (λ (s : Seen). s.parts.link.is_up) receives.is) in
    let quiet = receives_quiet subject joined first since had count old.session receives in (
      r,
      settled_reply old (turns.Take 1) reply receives.settled plays.1,
      subst (TakesOne subject joined first since had count old.session.parts.link.is_up (takes_of r)) (sym is)
          (subst (λ (b : Bool). TakesOne subject joined first since had count b (takes_of r) (all_due next)) up
          (takes_by subject joined first since had count receives.up r next
          (quiet_take subject joined first since had count receives.up old.session quiet))),
    )

-- what it comes to by its reply
pub took_one : (subject joined : List ℕ) (first since : List Operation) (had : List ℕ) (count : ℕ) (old new : Logged)
    (reply : StepReply)
    → Receives subject joined first since had count old.session → PlaysWhole old (turns.Take 1) (Ok reply) new
    → TakesOne subject joined first since had count old.session.parts.link.is_up (Ok (message_in reply)) new.session
took_one subject joined first since had count old new reply receives plays =
    let r = takes_reply subject joined first since had count old new reply receives plays in
    subst (λ (x : StepReply). TakesOne subject joined first since had count old.session.parts.link.is_up
    (Ok (message_in x)) new.session)
    (sym r.1) r.2

-- such a take may always come
pub take_comes : (subject joined : List ℕ) (first since : List Operation) (had : List ℕ) (count : ℕ) (old : Logged)
    → Receives subject joined first since had count old.session
    → is_valid_turn (all_due old.session).parts (turns.Take 1) ≡ true
take_comes subject joined first since had count old r =
    ap (λ (s : Seen). is_valid_turn s.parts (turns.Take 1)) (none_played old.session r.settled ∙ r.is)

-- the loop of takes: so many are left of those wanted
abbrev pub TakesSoFar : List ℕ → List ℕ → List Operation → List Operation → List ℕ → ℕ → Bool → ℕ → List ℕ → ℕ → Seen
    → List ℕ → Type 0
TakesSoFar subject joined first since had taken up wanted before left seen text =
    (left ≤ wanted) × (seen.parts.link.is_up ≡ up)
    × Receives subject joined first since had (taken + (wanted - left)) seen
    × (text ≡ before ++ flat_map message_line (take (wanted - left) (drop taken (messages 1 since))))

pub takes_begin : (subject joined : List ℕ) (first since : List Operation) (had : List ℕ) (taken wanted : ℕ)
    (before : List ℕ) (seen : Seen)
    → Receives subject joined first since had taken seen
    → TakesSoFar subject joined first since had taken seen.parts.link.is_up wanted before wanted seen before
takes_begin subject joined first since had taken wanted before seen receives =
    let none : 0 ≡ wanted - wanted = omega arith in
    let same : taken ≡ taken + (wanted - wanted) = omega arith in (
      omega arith,
      refl,
      subst (λ (n : ℕ). Receives subject joined first since had n seen) same receives,
      sym (append-nil before)
          ∙ ap (λ (k : ℕ). before ++ flat_map message_line (take k (drop taken (messages 1 since)))) none,
    )

pub takes_step : (subject joined : List ℕ) (first since : List Operation) (had : List ℕ) (taken : ℕ) (up : Bool)
    (wanted left less : ℕ)
    (before text after : List ℕ) (old new : Seen) (m : Message) → suc less ≡ left
    → TakesSoFar subject joined first since had taken up wanted before left old text
    → TakesOne subject joined first since had (taken + (wanted - left)) old.parts.link.is_up (Ok (Some m)) new
    → after ≡ text ++ message_line m
    → TakesSoFar subject joined first since had taken up wanted before less new after
takes_step subject joined first since had taken up wanted left less before text after old new m fewer far one line =
    let fits : suc less ≤ wanted = omega (arith, fewer, far.0) in
    let next : (taken + (wanted - left)) + 1 ≡ taken + (wanted - less) = omega (arith, fewer, far.0) in
    let queue = subst (λ (k : ℕ). take 1 (drop (taken + (wanted - k)) (messages 1 since)) ≡ m ∷ [])
    (sym fewer) one.2 in
    let so_far = subst (λ (k : ℕ). text ≡ before ++ flat_map message_line
    (take (wanted - k) (drop taken (messages 1 since)))) (sym fewer) far.3 in (
      omega (arith, fits),
      one.0 ∙ far.1,
      subst (λ (n : ℕ). Receives subject joined first since had n new) next one.1,
      line ∙ lines_more taken wanted less (messages 1 since) m before text fits queue so_far,
    )

pub takes_end : (subject joined : List ℕ) (first since : List Operation) (had : List ℕ) (taken : ℕ) (up : Bool)
    (wanted left : ℕ)
    (before text : List ℕ) (old new : Seen) → TakesSoFar subject joined first since had taken up wanted before left
    old text
    → TakesOne subject joined first since had (taken + (wanted - left)) old.parts.link.is_up (Ok None) new
    → TakesAll subject joined first since had taken up wanted before (Ok left) new text
takes_end subject joined first since had taken up wanted left before text old new far none =
    (far.0, none.0 ∙ far.1, none.1, far.3, inr none.2)

pub takes_done : (subject joined : List ℕ) (first since : List Operation) (had : List ℕ) (taken : ℕ) (up : Bool)
    (wanted left : ℕ)
    (before text : List ℕ) (seen : Seen) → left ≡ 0 → TakesSoFar subject joined first since had taken up wanted before
    left seen text
    → TakesAll subject joined first since had taken up wanted before (Ok 0) seen text
takes_done subject joined first since had taken up wanted left before text seen none far =
    let all = subst (λ (k : ℕ). TakesSoFar subject joined first since had taken up wanted before k seen text) none far
    in
    (all.0, all.1, all.2, all.3, inl refl)

-- ---- reading a piece

-- ---- what a half gave

pieces_known : (n : ℕ) (buf : List ℕ) (later : List (List ℕ)) (known : Option (List (List ℕ))) → 0 < n
    → piece_more n buf (option_map (λ (ps : List (List ℕ)). ps ++ later) known)
    ≡ option_map (λ (ps : List (List ℕ)). ps ++ (later ++ take n buf ∷ [])) known
pieces_known zero buf later known some = absurd (omega (arith, some))
pieces_known (suc n) buf later None some = refl
pieces_known (suc n) buf later (Some ps) some = ap Some (append_assoc ps later (take (suc n) buf ∷ []))

concat_one : (later : List (List ℕ)) (piece : List ℕ) → concat (later ++ piece ∷ []) ≡ concat later ++ piece
concat_one [] piece = append-nil piece
concat_one (p ∷ later) piece =
    ap (λ (t : List ℕ). p ++ t) (concat_one later piece) ∙ sym (append_assoc p (concat later) piece)

pub gave_more : (bytes buf : List ℕ) (n : ℕ) (r0 r after : ReadTold) → 0 < n → GaveLater bytes r0 r
    → after.pieces ≡ piece_more n buf r.pieces → GaveLater (bytes ++ take n buf) r0 after
gave_more bytes buf n r0 r after some gave is = record {
  later = gave.later ++ take n buf ∷ [];
  pieces = is ∙ (ap (piece_more n buf) gave.pieces ∙ pieces_known n buf gave.later r0.pieces some);
  joined = concat_one gave.later (take n buf) ∙ ap (λ (t : List ℕ). t ++ take n buf) gave.joined;
}

pub gave_none : (bytes : List ℕ) (r0 r after : ReadTold) → GaveLater bytes r0 r → after.pieces ≡ r.pieces
    → GaveLater bytes r0 after
gave_none bytes r0 r after gave is = record { later = gave.later; pieces = is ∙ gave.pieces; joined = gave.joined }

same_pieces : (r after : ReadTold) → GivesNone r after → after.pieces ≡ r.pieces
same_pieces r after (inl is) = ap (λ (x : ReadTold). x.pieces) is
same_pieces r after (inr is) = ap (λ (x : ReadTold). x.pieces) is

gives_over : (joined : List ℕ) (r after : ReadTold) (w : WriteTold) → GivesNone r after → IsOver joined after w
gives_over joined r after w (inl is) = inr (inl (subst (λ (x : ReadTold). 1 ≤ x.ends) (sym is) (omega arith)))
gives_over joined r after w (inr is) = inl (subst (λ (x : ReadTold). 1 ≤ x.faults + w.faults) (sym is) (omega arith))

-- the text of the subscribe is there wherever the whole text is
asked_by : (subject took : List ℕ) (first since : List Operation) → took ≡ subscribed_text subject first since
    → (answered : List ℕ) × (took ≡ subscribed_text subject first [] ++ answered)
asked_by subject took first since is = (
  pongs since,
  is ∙ ap (λ (t : List ℕ). t ++ pongs since) (sym (append-nil (pongs first ++ sub_text subject))),
)

-- once the whole text was taken nothing waits
nil_of : (xs : List ℕ) → length xs ≡ 0 → xs ≡ []
nil_of [] none = refl
nil_of (x ∷ xs) none = absurd (omega (arith, none))

waits_none : (took waiting rest text : List ℕ) → took ++ (waiting ++ rest) ≡ text → took ≡ text → waiting ≡ []
waits_none took waiting rest text is whole =
    nil_of waiting (omega
    (arith, ap length is, ap length whole, length-append took (waiting ++ rest), length-append waiting rest))

-- and the subscription is open
whole_opened : (subject joined : List ℕ) (first since : List Operation) (took : List ℕ) (taken : ℕ) (seen : Seen)
    → (r : Receives subject joined first since took taken seen) → r.up ≡ true
    → took ≡ subscribed_text subject first since → r.opened ≡ true
whole_opened subject joined first since took taken seen r up whole =
    let queue = drop taken (messages 1 since) in
    let k = receiving r.up r.opened subject r.puts queue r.unread r.waiting in
    let none = waits_none took r.waiting (unasked r.opened subject) (subscribed_text subject first since)
    (r.ups up).1 whole in
    let idle = ap (λ (s : Seen). due s.parts) (sym r.is) ∙ r.settled in
    let there = nothing_there (front r.unread) r.mux r.noise k up idle refl in
    opened_by r.mux subject r.noise r.opened r.puts queue r.unread there
    (ap (λ (b : Bool). due (state r.mux r.noise (receiving b r.opened subject r.puts queue r.unread [])).parts)
    (sym up)
    ∙ (ap (λ (w : List ℕ). due (state r.mux r.noise (receiving r.up r.opened subject r.puts queue r.unread w)).parts)
    (sym none) ∙ idle))

-- a piece is read once all that waited was written and taken
pub read_more : (subject joined : List ℕ) (first : List Operation) (taken : ℕ) (head buf : List ℕ) (n : ℕ)
    (old new : Logged)
    (r0 r after : ReadTold) (w : WriteTold) (far : IsReceiving subject joined first taken head old.session r0 r w)
    → taken ≡ length (messages 1 far.since) → far.took ≡ subscribed_text subject first far.since → length buf < 65536
    → ReadsWhole old buf r after (Ok (reads.Played n)) new
    → (next : IsReceiving subject joined first taken head new.session r0 after w)
    × (more : List Operation) × (next.since ≡ far.since ++ more)
read_more subject joined first taken head buf n old new r0 r after w far all whole fits read =
    let receives = far.receives in
    let same = none_played old.session receives.settled in
    let up : old.session.parts.link.is_up ≡ true = ap (λ (s : Seen). s.parts.link.is_up) (sym same) ∙ read.0 in
    let here : receives.up ≡ true = sym (ap (λ (s : Seen). s.parts.link.is_up) receives.is) ∙ up in
    let bytes = joined ++ far.bytes in
    let is_opened = whole_opened subject bytes first far.since far.took taken old.session receives here whole in
    let piece = take n buf in
    let short : length piece < 65536 = omega (arith, fits, length-take n buf) in
    let next = seen_all old.session (own_steps old.session.parts (turns.Piece piece)) in
    let heard = hearing_all subject (bytes ++ piece) first far.since far.took taken next
    (hearing_fed subject bytes piece first far.since far.took taken old.session receives here is_opened all short) in
    let is : new.session ≡ all_due next =
    ap (λ (c : Logged). c.session) read.4
    ∙ ap (λ (s : Seen). all_due (seen_all s (own_steps s.parts (turns.Piece piece)))) same in
    let joins = append_assoc joined far.bytes piece in
    let received = subst (λ (b : List ℕ). Receives subject b first heard.since far.took taken (all_due next)) joins
    (hearing_receives subject (bytes ++ piece) first far.since far.took taken (all_due next) heard
    (none_after_all next)) in (
      record {
        bytes = far.bytes ++ piece;
        since = heard.since;
        took = far.took;
        gave = gave_more far.bytes buf n r0 r after read.1 far.gave (ap (λ (x : ReadTold). x.pieces) read.3);
        receives = subst (λ (s : Seen). Receives subject (joined ++ (far.bytes ++ piece)) first heard.since far.took
            taken s) (sym is) received;
        wrote = far.wrote;
        asked = inr (asked_by subject far.took first far.since whole);
        over = λ down. inr (inr (subst (λ (b : List ℕ). ends_in_fault b ≡ true) joins
            (hearing_over subject (bytes ++ piece) first far.since far.took taken (all_due next) heard
            (ap (λ (s : Seen). s.parts.link.is_up) (sym is) ∙ down))));
      },
      heard.more,
      heard.grew,
    )

-- the link gave no more
pub read_lost : (subject joined : List ℕ) (first : List Operation) (taken : ℕ) (head buf : List ℕ) (old new : Logged)
    (r0 r after : ReadTold) (w : WriteTold) (far : IsReceiving subject joined first taken head old.session r0 r w)
    → ReadsWhole old buf r after (Ok reads.Lost) new
    → (next : IsReceiving subject joined first taken head new.session r0 after w) × (next.since ≡ far.since)
read_lost subject joined first taken head buf old new r0 r after w far read =
    let receives = far.receives in
    let bytes = joined ++ far.bytes in
    let same = none_played old.session receives.settled in
    let up : old.session.parts.link.is_up ≡ true = ap (λ (s : Seen). s.parts.link.is_up) (sym same) ∙ read.0 in
    let q = up_quiet subject bytes first far.since far.took taken old.session receives up in
    let next = seen_all old.session (own_steps old.session.parts turns.Lost) in
    let quiet = quiet_all subject bytes first far.since far.took taken false next
    (quiet_lost subject bytes first far.since far.took taken old.session q) in
    let is : new.session ≡ all_due next =
    ap (λ (c : Logged). c.session) read.2
    ∙ ap (λ (s : Seen). all_due (seen_all s (own_steps s.parts turns.Lost))) same in (
      record {
        bytes = far.bytes;
        since = far.since;
        took = far.took;
        gave = gave_none far.bytes r0 r after far.gave (same_pieces r after read.1);
        receives = subst (λ (s : Seen). Receives subject bytes first far.since far.took taken s) (sym is)
            (quiet_receives subject bytes first far.since far.took taken false (all_due next) quiet
            (none_after_all next));
        wrote = far.wrote;
        asked = far.asked;
        over = λ down. gives_over bytes r after w read.1;
      },
      refl,
    )

-- the text of the first messages is the same as more operations are read
pub printed_same : (taken : ℕ) (since more later : List Operation) (text : List ℕ) → taken ≤ length (messages 1 since)
    → later ≡ since ++ more → text ≡ flat_map message_line (take taken (messages 1 since))
    → text ≡ flat_map message_line (take taken (messages 1 later))
printed_same taken since more later text fits is text_is =
    text_is
    ∙ ap (flat_map message_line)
    (sym (ap (λ (ops : List Operation). take taken (messages 1 ops)) is
    ∙ (ap (take taken) (messages_more 1 since more) ∙ take-append-le taken (messages 1 since)
    (messages 1 more) fits)))

-- ---- what was written, while receiving

-- the text of the subscribe stays taken
pub asked_more : (subject took more : List ℕ) (first since : List Operation)
    → (since ≡ []) ⊎ ((answered : List ℕ) × (took ≡ subscribed_text subject first [] ++ answered))
    → (since ≡ []) ⊎ ((answered : List ℕ) × (took ++ more ≡ subscribed_text subject first [] ++ answered))
asked_more subject took more first since (inl none) = inl none
asked_more subject took more first since (inr some) = inr (
  some.0 ++ more,
  ap (λ (t : List ℕ). t ++ more) some.1 ∙ append_assoc (subscribed_text subject first []) some.0 more,
)

-- a link that is over stays so, and one whose half failed is
more_faults : (joined : List ℕ) (r : ReadTold) (before after : WriteTold) → before.faults ≤ after.faults
    → IsOver joined r before
    → IsOver joined r after
more_faults joined r before after le (inl faults) = inl (omega (arith, faults, le))
more_faults joined r before after le (inr other) = inr other

pub over_more : (joined : List ℕ) (r : ReadTold) (before after : WriteTold) (was : Bool) → before.faults ≤ after.faults
    → (was ≡ false → IsOver joined r before) → (was ≡ false) ⊎ (1 ≤ after.faults) → IsOver joined r after
over_more joined r before after was le over (inl down) = more_faults joined r before after le (over down)
over_more joined r before after was le over (inr failed) = inl (omega (arith, failed))

-- ---- as the calls see it

-- a subscribe that was played
pub subscribed_by : (most : ℕ) (joined subject : List ℕ) (old new : Logged) (text : List ℕ) (reply : StepReply)
    → HasBegun most joined old.session → text ≡ subject → PlaysWhole old (turns.Do (call.Subscribe text None))
    (Ok reply) new
    → Subscribes joined subject (subscribe_answer reply) old.session new.session
subscribed_by most joined subject old new text reply b is plays =
    let turn = turns.Do (call.Subscribe subject None) in
    let here = subst (λ (t : List ℕ). PlaysWhole old (turns.Do (call.Subscribe t None)) (Ok reply) new) is plays in
    subst (λ (s : Seen). Subscribes joined subject (subscribe_answer reply) old.session s)
    (sym (settled_played old new turn b.settled here.2))
    (subst (λ (r : StepReply). Subscribes joined subject (subscribe_answer r) old.session
    (all_due (seen_all old.session (own_steps old.session.parts turn))))
    (sym (settled_reply old turn reply b.settled here.1))
    (subscribes most joined subject old.session b))
