-- A publish, and then a flush, are accepted by a session that has begun, or refused.
use Rattle.std.proofs.Common.{◌≡◌, refl, ◌∙◌, sym, ap, subst, ℕ, ◌+◌, ◌<◌, arith, Bool, true, false, true≢false, not, ◌&&◌, nat_lt, List, [], ◌++◌, length, le-ltb, ltb-true, Option, Some, None, if◌then◌else◌, Result, Ok, Err}
use Rattle.std.specs.List.{list_all}
use Rattle.nats_names.specs.Names.{is_separator, is_nonempty, is_publishable}
use Rattle.nats_message.specs.declared.message.OutboundMessage.{OutboundMessage}
use Rattle.nats_lines.specs.Operations.{front, unfinished}
use Rattle.nats_history.specs.declared.call.Call.{Call}
use Rattle.nats_history.specs.declared.call.Call.TheVariants as call
use Rattle.nats_history.specs.declared.call.CallReply.{CallReply}
use Rattle.nats_history.specs.declared.call.CallReply.TheVariants as replies
use Rattle.nats_history.specs.declared.turn.Turn.{Turn}
use Rattle.nats_history.specs.declared.turn.Turn.TheVariants as turns
use Rattle.nats_history.specs.History.{accepted}
use Rattle.nats_history.specs.Counts.{statistics_after}
use Rattle.nats_history.specs.Schedule.{due, is_valid_turn, refusal, reply_by, accepted_reply, accepted_step, own_steps}
use Rattle.nats_session.specs.Handler.{Seen, seen_all, seen_after}
use Rattle.nats_core.specs.declared.answers.StepError.{StepError}
use Rattle.nats_core.specs.declared.answers.StepError.TheVariants.{OutOfTurn, LinkGone, NoMemory as Wanting}
use Rattle.nats_core.specs.declared.entry.StepReply.{StepReply}
use Rattle.nats_core.specs.declared.entry.StepReply.TheVariants as answers
use Rattle.nats_core.specs.Calls.{parts_in}
use Rattle.nats_core.specs.Journal.{Logged, all_due, caught_up, reply_to}
use Rattle.nats_core.proofs.Dues.{none_played, none_after_all}
use Rattle.nats_live.specs.declared.error.LiveError.{LiveError}
use Rattle.nats_live.specs.declared.error.LiveError.TheVariants as refused
use Rattle.nats_live.specs.State.{Noise, default_config, state, begun}
use Rattle.nats_live.specs.Steps.{PlaysWhole, step_refused, wholly_played}
use Rattle.nats_live.specs.Flow.{Phase, sending, both, sent, flush_waits, flush_awaits, flush_done, HasBegun, Accepts, at_phase, publish_text, published_text, publish_answer, ticket_of, unwritten_at}
use Rattle.nats_live.proofs.Begins.{nothing_there}
use Rattle.nats_live.proofs.Sending.{Going, has_flush, going_all, going_up, flushes_going}

-- ---- a turn of a session of which nothing was due

pub settled_played : (old new : Logged) (t : Turn) → due old.session.parts ≡ None → new ≡ wholly_played t old
    → new.session ≡ all_due (seen_all old.session (own_steps old.session.parts t))
settled_played old new t none is =
    ap (λ (c : Logged). c.session) is
    ∙ ap (λ (s : Seen). all_due (seen_all s (own_steps s.parts t))) (none_played old.session none)

pub settled_reply : (old : Logged) (t : Turn) (reply : StepReply) → due old.session.parts ≡ None
    → reply ≡ reply_to (all_due old.session).parts t → reply ≡ reply_to old.session.parts t
settled_reply old t reply none is = is ∙ ap (λ (s : Seen). reply_to s.parts t) (none_played old.session none)

-- ---- what refuses a publish

abbrev pub message_of : List ℕ → List ℕ → OutboundMessage
message_of subject payload = record { subject = subject; reply = None; payload = payload; headers = None }

both_ways : (a b : Bool) → ((a && (a && b)) && true) ≡ (a && b)
both_ways true true = refl
both_ways true false = refl
both_ways false b = refl

-- the first of subject and size
abbrev refused_by : Bool → ℕ → ℕ → Option CallReply
refused_by may most size =
    if not may then Some replies.InvalidSubject else
    (if nat_lt most size then Some (replies.MaxPayloadExceeded most size) else None)

publish_refused : (mux : List ℕ) (n : Noise) (up : Bool) (unread waiting subject payload : List ℕ)
    → refusal (state mux n (begun up unread waiting)).parts (call.Publish (message_of subject payload))
    ≡ refused_by (is_publishable subject) n.most (length payload)
publish_refused mux n up unread waiting subject payload =
    let size : 0 + length payload ≡ length payload = omega arith in
    λ i. refused_by
    (both_ways (is_nonempty subject) (list_all (λ b. not (is_separator b)) subject) i) n.most (size i)

-- ---- a publish

abbrev pub noise_accepted : List ℕ → Call → Noise → Noise
noise_accepted mux c n = record {
  number = n.number;
  most = n.most;
  info = n.info;
  infos = n.infos;
  reads = n.reads;
  statistics = statistics_after (default_config mux) (accepted c) n.statistics;
  events = n.events;
}

-- it is accepted: it waits to be handled
publish_accepted : (most : ℕ) (joined subject payload : List ℕ) (seen : Seen) (b : HasBegun most joined seen)
    → Going (published_text joined subject payload) [] false b.up
    (seen_after seen (accepted (call.Publish (message_of subject payload))))
publish_accepted most joined subject payload seen b =
    let m = message_of subject payload in
    record {
      mux = b.mux;
      noise = noise_accepted b.mux (call.Publish m) b.noise;
      phase = sending m;
      unread = b.unread;
      waiting = b.waiting;
      is = ap (λ (s : Seen). seen_after s (accepted (call.Publish m))) b.is;
      kind = refl;
      fits = tt;
      ups = λ up. (
        nothing_there (front b.unread) b.mux b.noise (begun b.up b.unread b.waiting) up
            (ap (λ (s : Seen). due s.parts) (sym b.is) ∙ b.settled) refl,
        ap (λ (w : List ℕ). w ++ publish_text m) (b.ups up).1,
      );
      downs = λ down. refl;
    }

-- what a publish comes to: it waits to be handled or was handled, or it is refused
abbrev pub Posts : ℕ → List ℕ → List ℕ → List ℕ → Result (Unit {0}) LiveError → Seen → Seen → Type 0
Posts limit joined subject payload (Ok done) old mid = (up : Bool) × (old.parts.link.is_up ≡ up)
    × Going (published_text joined subject payload) [] false up mid × (due mid.parts ≡ None)
Posts limit joined subject payload (Err e) old mid = Accepts limit joined subject payload (Err e) old mid

abbrev posted : Option CallReply → OutboundMessage → Seen → Seen
posted r m seen = all_due (seen_all seen (accepted_step r (call.Publish m) ++ []))

posts_by : (most : ℕ) (joined subject payload : List ℕ) (seen : Seen) (b : HasBegun most joined seen) (may big : Bool)
    → is_publishable subject ≡ may → nat_lt b.noise.most (length payload) ≡ big
    → (r : Option CallReply) → r ≡ refused_by (is_publishable subject) b.noise.most (length payload)
    → Posts most joined subject payload (publish_answer (answers.Call (reply_by r replies.Accepted))) seen
    (posted r (message_of subject payload) seen)
posts_by most joined subject payload seen b false big may_is big_is r is =
    subst (λ (x : Option CallReply). Posts most joined subject payload
    (publish_answer (answers.Call (reply_by x replies.Accepted))) seen
    (posted x (message_of subject payload) seen))
    (sym (is ∙ ap (λ (m : Bool). refused_by m b.noise.most (length payload)) may_is)) (refl, may_is)
posts_by most joined subject payload seen b true true may_is big_is r is =
    subst (λ (x : Option CallReply). Posts most joined subject payload
    (publish_answer (answers.Call (reply_by x replies.Accepted))) seen
    (posted x (message_of subject payload) seen))
    (sym (is ∙ (ap (λ (m : Bool). refused_by m b.noise.most (length payload)) may_is
    ∙ ap (λ (g : Bool). if g then Some (replies.MaxPayloadExceeded b.noise.most (length payload)) else None)
    big_is)))
    (b.limit, refl, subst (λ (l : ℕ). l < length payload) b.limit (ltb-true b.noise.most (length payload) big_is))
posts_by most joined subject payload seen b true false may_is big_is r is =
    let m = message_of subject payload in
    let next = seen_after seen (accepted (call.Publish m)) in
    subst (λ (x : Option CallReply). Posts most joined subject payload
    (publish_answer (answers.Call (reply_by x replies.Accepted))) seen
    (posted x m seen))
    (sym (is ∙ (ap (λ (p : Bool). refused_by p b.noise.most (length payload)) may_is
    ∙ ap (λ (g : Bool). if g then Some (replies.MaxPayloadExceeded b.noise.most (length payload)) else None)
    big_is))) (
      b.up,
      ap (λ (s : Seen). s.parts.link.is_up) b.is,
      going_all (published_text joined subject payload) [] false b.up next
          (publish_accepted most joined subject payload seen b),
      none_after_all next,
    )

pub posts : (most : ℕ) (joined subject payload : List ℕ) (seen : Seen) → HasBegun most joined seen
    → Posts most joined subject payload
    (publish_answer (reply_to seen.parts (turns.Do (call.Publish (message_of subject payload))))) seen
    (all_due (seen_all seen (own_steps seen.parts (turns.Do (call.Publish (message_of subject payload))))))
posts most joined subject payload seen b =
    let m = message_of subject payload in
    posts_by most joined subject payload seen b (is_publishable subject)
    (nat_lt b.noise.most (length payload)) refl refl
    (refusal seen.parts (call.Publish m))
    (ap (λ (s : Seen). refusal s.parts (call.Publish m)) b.is
    ∙ publish_refused b.mux b.noise b.up b.unread b.waiting subject payload)

-- ---- a flush behind it

-- nothing refuses it
unrefused : (mux : List ℕ) (n : Noise) (phase : Phase) (up : Bool) (unread waiting : List ℕ) → has_flush phase ≡ false
    → refusal (state mux n (at_phase phase up unread waiting)).parts call.Flush ≡ None
unrefused mux n (sending m) up unread waiting kind =
    ap (λ (b : Bool). if b then Some (replies.MaxPayloadExceeded n.most 0) else None) (le-ltb n.most 0 (omega arith))
unrefused mux n sent up unread waiting kind =
    ap (λ (b : Bool). if b then Some (replies.MaxPayloadExceeded n.most 0) else None) (le-ltb n.most 0 (omega arith))
unrefused mux n (both m) up unread waiting kind = absurd (true≢false kind)
unrefused mux n flush_waits up unread waiting kind = absurd (true≢false kind)
unrefused mux n flush_awaits up unread waiting kind = absurd (true≢false kind)
unrefused mux n flush_done up unread waiting kind = absurd (true≢false kind)

-- its ticket is the first
first_ticket : (mux : List ℕ) (n : Noise) (phase : Phase) (up : Bool) (unread waiting : List ℕ)
    → has_flush phase ≡ false
    → accepted_reply (state mux n (at_phase phase up unread waiting)).parts call.Flush ≡ replies.Numbered 1
first_ticket mux n (sending m) up unread waiting kind = refl
first_ticket mux n sent up unread waiting kind = refl
first_ticket mux n (both m) up unread waiting kind = absurd (true≢false kind)
first_ticket mux n flush_waits up unread waiting kind = absurd (true≢false kind)
first_ticket mux n flush_awaits up unread waiting kind = absurd (true≢false kind)
first_ticket mux n flush_done up unread waiting kind = absurd (true≢false kind)

-- it waits behind the publish, or alone
flushed_at : (text mux : List ℕ) (n : Noise) (phase : Phase) (up : Bool) (unread waiting : List ℕ)
    → has_flush phase ≡ false
    → (up ≡ true → (front unread ≡ unfinished) × (waiting ++ unwritten_at phase ≡ text))
    → Going text [] true up (seen_after (state mux n (at_phase phase up unread waiting)) (accepted call.Flush))
flushed_at text mux n (sending m) up unread waiting kind ups = record {
  mux = mux;
  noise = noise_accepted mux call.Flush n;
  phase = both m;
  unread = unread;
  waiting = waiting;
  is = refl;
  kind = refl;
  fits = tt;
  ups = ups;
  downs = λ down. refl;
}
flushed_at text mux n sent up unread waiting kind ups = record {
  mux = mux;
  noise = noise_accepted mux call.Flush n;
  phase = flush_waits;
  unread = unread;
  waiting = waiting;
  is = refl;
  kind = refl;
  fits = tt;
  ups = ups;
  downs = λ down. refl;
}
flushed_at text mux n (both m) up unread waiting kind ups = absurd (true≢false kind)
flushed_at text mux n flush_waits up unread waiting kind ups = absurd (true≢false kind)
flushed_at text mux n flush_awaits up unread waiting kind ups = absurd (true≢false kind)
flushed_at text mux n flush_done up unread waiting kind ups = absurd (true≢false kind)

pub flush_accepted : (text : List ℕ) (up : Bool) (seen : Seen) → Going text [] false up seen
    → Going text [] true up (seen_all seen (own_steps seen.parts (turns.Do call.Flush)))
flush_accepted text up seen g =
    let s = state g.mux g.noise (at_phase g.phase up g.unread g.waiting) in
    subst (λ (x : Seen). Going text [] true up (seen_all x (own_steps x.parts (turns.Do call.Flush)))) (sym g.is)
    (subst (λ (r : Option CallReply). Going text [] true up (seen_all s (accepted_step r call.Flush ++ [])))
    (sym (unrefused g.mux g.noise g.phase up g.unread g.waiting g.kind))
    (flushed_at text g.mux g.noise g.phase up g.unread g.waiting g.kind g.ups))

pub flush_reply : (text : List ℕ) (up : Bool) (seen : Seen) → Going text [] false up seen
    → reply_to seen.parts (turns.Do call.Flush) ≡ answers.Call (replies.Numbered 1)
flush_reply text up seen g =
    let s = state g.mux g.noise (at_phase g.phase up g.unread g.waiting) in
    ap (λ (x : Seen). reply_to x.parts (turns.Do call.Flush)) g.is
    ∙ (ap (λ (r : Option CallReply). answers.Call (reply_by r (accepted_reply s.parts call.Flush)))
    (unrefused g.mux g.noise g.phase up g.unread g.waiting g.kind)
    ∙ ap answers.Call (first_ticket g.mux g.noise g.phase up g.unread g.waiting g.kind))

-- ---- both calls

-- the flush's ticket is answered
pub accepts : (limit : ℕ) (joined subject payload : List ℕ) (old mid new : Seen) (reply : StepReply)
    → Posts limit joined subject payload (Ok tt) old mid
    → reply ≡ reply_to mid.parts (turns.Do call.Flush)
    → new ≡ all_due (seen_all mid (own_steps mid.parts (turns.Do call.Flush)))
    → Accepts limit joined subject payload (ticket_of reply) old new
accepts limit joined subject payload old mid new reply (up, was, g, none) answered is =
    let text = published_text joined subject payload in
    let next = seen_all mid (own_steps mid.parts (turns.Do call.Flush)) in
    let after = going_all text [] true up next (flush_accepted text up mid g) in
    subst (λ (r : StepReply). Accepts limit joined subject payload (ticket_of r) old new)
    (sym (answered ∙ flush_reply text up mid g))
    (subst (λ (s : Seen). Accepts limit joined subject payload (Ok 1) old s) (sym is) (
      refl,
      flushes_going text [] up (all_due next) after (none_after_all next),
      going_up text [] true up (all_due next) after ∙ sym was,
    ))

-- ---- as the calls see it

-- a publish that was played
pub posted_by : (limit : ℕ) (joined subject payload : List ℕ) (old mid : Logged) (message : OutboundMessage)
    (reply : StepReply)
    → HasBegun limit joined old.session → message ≡ message_of subject payload
    → PlaysWhole old (turns.Do (call.Publish message)) (Ok reply) mid
    → Posts limit joined subject payload (publish_answer reply) old.session mid.session
posted_by limit joined subject payload old mid message reply b is plays =
    let turn = turns.Do (call.Publish (message_of subject payload)) in
    let here = subst (λ (m : OutboundMessage). PlaysWhole old (turns.Do (call.Publish m)) (Ok reply) mid) is plays in
    subst (λ (s : Seen). Posts limit joined subject payload (publish_answer reply) old.session s)
    (sym (settled_played old mid turn b.settled here.2))
    (subst (λ (r : StepReply). Posts limit joined subject payload (publish_answer r) old.session
    (all_due (seen_all old.session (own_steps old.session.parts turn))))
    (sym (settled_reply old turn reply b.settled here.1))
    (posts limit joined subject payload old.session b))

-- it was accepted
pub posted_ok : (limit : ℕ) (joined subject payload : List ℕ) (old mid : Seen) (answer : Result (Unit {0}) LiveError)
    → answer ≡ Ok tt
    → Posts limit joined subject payload answer old mid → Posts limit joined subject payload (Ok tt) old mid
posted_ok limit joined subject payload old mid answer is posts =
    subst (λ (r : Result (Unit {0}) LiveError). Posts limit joined subject payload r old mid) is posts

-- and then a flush that was played
pub flushed_by : (limit : ℕ) (joined subject payload : List ℕ) (old : Seen) (mid new : Logged) (reply : StepReply)
    → Posts limit joined subject payload (Ok tt) old mid.session → PlaysWhole mid (turns.Do call.Flush) (Ok reply) new
    → Accepts limit joined subject payload (ticket_of reply) old new.session
flushed_by limit joined subject payload old mid new reply posts plays =
    accepts limit joined subject payload old mid.session new.session reply posts
    (settled_reply mid (turns.Do call.Flush) reply posts.3 plays.1)
    (settled_played mid new (turns.Do call.Flush) posts.3 plays.2)

-- a turn that may come is refused for want of memory alone
pub refused_play : (old new : Logged) (t : Turn) (e : StepError) → is_valid_turn (parts_in (caught_up old)) t ≡ true
    → PlaysWhole old t (Err e) new → step_refused e ≡ refused.NoMemory
refused_play old new t OutOfTurn may plays = absurd (true≢false (sym may ∙ plays.0))
refused_play old new t (LinkGone current) may plays = absurd plays
refused_play old new t Wanting may plays = refl
