-- A publish and a flush on a session that has begun: what one due step, one write and the link's end make of them.
use Rattle.std.proofs.Common.{◌≡◌, refl, ◌∙◌, sym, ap, subst, ℕ, zero, suc, ◌+◌, ◌-◌, ◌≤◌, arith, min, Bool, true, false, true≢false, nat_lt, nat_le, List, [], ◌∷◌, ◌++◌, length, take, drop, append_assoc, append-nil, take-append-drop, length-drop, drop_of_length-le, leb-true, leb-false, Some, None, if◌then◌else◌}
use Rattle.std.proofs.lemmas.Bool.{false≢true}
use Rattle.std.proofs.lemmas.Option.{none-some}
use Rattle.nats_message.specs.declared.message.OutboundMessage.{OutboundMessage}
use Rattle.nats_lines.specs.Operations.{Front, unfinished, front}
use Rattle.nats_history.specs.declared.call.Call.{Call}
use Rattle.nats_history.specs.declared.call.Call.TheVariants as call
use Rattle.nats_history.specs.declared.call.CallReply.{CallReply}
use Rattle.nats_history.specs.declared.call.CallReply.TheVariants as replies
use Rattle.nats_history.specs.declared.transcript.LinkWord.TheVariants as word
use Rattle.nats_history.specs.declared.turn.Turn.TheVariants as turns
use Rattle.nats_history.specs.History.{handled, taken, link_end}
use Rattle.nats_history.specs.Tickets.{replied}
use Rattle.nats_history.specs.Counts.{statistics_after}
use Rattle.nats_history.specs.Schedule.{due, due_by, due_call, due_chain, own_steps, write_limit}
use Rattle.nats_session.specs.Handler.{Seen, seen_all, seen_after, push_all}
use Rattle.nats_core.specs.Journal.{due_round, due_rounds, all_due}
use Rattle.nats_core.proofs.Dues.{none_played}
use Rattle.nats_tickets.specs.Kept.{reply_in}
use Rattle.nats_live.specs.State.{Noise, default_config, state, no_subs}
use Rattle.nats_live.specs.Flow.{Phase, sending, both, sent, flush_waits, flush_awaits, flush_done, HasFlush, FitsPhase, Flushes, at_phase, ready_at, unwritten_at, publish_text, one_flush}
use Rattle.nats_live.proofs.Begins.{all_rounds, nothing_there}
use Rattle.nats_live.proofs.States.{round_by, round_up, round_down}

-- ---- how far a publish and a flush are

-- the flush was accepted
abbrev pub has_flush : Phase → Bool
has_flush (sending m) = false
has_flush sent = false
has_flush phase = true

-- the session is in a phase, with its link up or not; while the link is up no operation is unread, and what the link took, what waits and what is unwritten
-- are this text
pub record Going (text took : List ℕ) (flushed up : Bool) (seen : Seen) : Type 0 where
  pub mux : List ℕ
  pub noise : Noise
  pub phase : Phase
  pub unread : List ℕ
  pub waiting : List ℕ
  pub is : seen ≡ state mux noise (at_phase phase up unread waiting)
  pub kind : has_flush phase ≡ flushed
  pub fits : FitsPhase phase waiting
  pub ups : up ≡ true → (front unread ≡ unfinished) × (took ++ (waiting ++ unwritten_at phase) ≡ text)
  pub downs : up ≡ false → ready_at phase ≡ []

-- ---- one due step

-- the oldest call is handled, where there is room
abbrev called : Bool → Seen → Seen
called room seen = seen_all seen (due_chain seen.parts (due_call room seen.parts.calls))

abbrev pub noise_handled : List ℕ → Call → Noise → Noise
noise_handled mux c n = record {
  number = n.number;
  most = n.most;
  info = n.info;
  infos = n.infos;
  reads = n.reads;
  statistics = statistics_after (default_config mux) (handled c) n.statistics;
  events = n.events;
}

stays : (text took mux : List ℕ) (n : Noise) (phase : Phase) (unread waiting : List ℕ) (flushed : Bool)
    → front unread ≡ unfinished
    → has_flush phase ≡ flushed → FitsPhase phase waiting → took ++ (waiting ++ unwritten_at phase) ≡ text
    → Going text took flushed true (state mux n (at_phase phase true unread waiting))
stays text took mux n phase unread waiting flushed e kind fits is = record {
  mux = mux;
  noise = n;
  phase = phase;
  unread = unread;
  waiting = waiting;
  is = refl;
  kind = kind;
  fits = fits;
  ups = λ up. (e, is);
  downs = λ down. absurd (true≢false down);
}

-- the publish is handled: its text waits
publish_handled : (text took mux : List ℕ) (n : Noise) (phase : Phase) (m : OutboundMessage) (unread waiting : List ℕ)
    (flushed : Bool) (seen : Seen)
    → seen ≡ state mux n (at_phase phase true unread (waiting ++ publish_text m)) → front unread ≡ unfinished
    → has_flush phase ≡ flushed → FitsPhase phase (waiting ++ publish_text m) → unwritten_at phase ≡ []
    → took ++ (waiting ++ publish_text m) ≡ text → Going text took flushed true seen
publish_handled text took mux n phase m unread waiting flushed seen same e kind fits none is = record {
  mux = mux;
  noise = n;
  phase = phase;
  unread = unread;
  waiting = waiting ++ publish_text m;
  is = same;
  kind = kind;
  fits = fits;
  ups = λ up. (
    e,
    ap (λ (u : List ℕ). took ++ ((waiting ++ publish_text m) ++ u)) none
        ∙ (ap (λ (w : List ℕ). took ++ w) (append-nil (waiting ++ publish_text m)) ∙ is),
  );
  downs = λ down. absurd (true≢false down);
}

-- a due call, while the link is up and nothing is to be read
going_called : (text took mux : List ℕ) (n : Noise) (room : Bool) (phase : Phase) (unread waiting : List ℕ)
    (flushed : Bool)
    → front unread ≡ unfinished → has_flush phase ≡ flushed → FitsPhase phase waiting
    → took ++ (waiting ++ unwritten_at phase) ≡ text
    → Going text took flushed true (called room (state mux n (at_phase phase true unread waiting)))
going_called text took mux n false phase unread waiting flushed e kind fits is =
    stays text took mux n phase unread waiting flushed e kind fits is
going_called text took mux n true (sending m) unread waiting flushed e kind fits is =
    publish_handled text took mux (noise_handled mux (call.Publish m) n) sent m unread waiting flushed
    (called true (state mux n (at_phase (sending m) true unread waiting))) refl e kind tt refl is
going_called text took mux n true (both m) unread waiting flushed e kind fits is =
    publish_handled text took mux (noise_handled mux (call.Publish m) n) flush_waits m unread waiting flushed
    (called true (state mux n (at_phase (both m) true unread waiting))) refl e kind tt refl is
going_called text took mux n true flush_waits unread [] flushed e kind fits is =
    stays text took mux (noise_handled mux call.Flush n) flush_done unread [] flushed e kind refl is
going_called text took mux n true flush_waits unread (x ∷ xs) flushed e kind fits is =
    stays text took mux (noise_handled mux call.Flush n) flush_awaits unread (x ∷ xs) flushed e kind (omega arith) is
going_called text took mux n true sent unread waiting flushed e kind fits is =
    stays text took mux n sent unread waiting flushed e kind fits is
going_called text took mux n true flush_awaits unread waiting flushed e kind fits is =
    stays text took mux n flush_awaits unread waiting flushed e kind fits is
going_called text took mux n true flush_done unread waiting flushed e kind fits is =
    stays text took mux n flush_done unread waiting flushed e kind fits is

pub going_round : (text took : List ℕ) (flushed up : Bool) (seen : Seen) → Going text took flushed up seen
    → Going text took flushed up (due_round seen)
going_round text took flushed true seen g =
    let facts = g.ups refl in
    let k = at_phase g.phase true g.unread g.waiting in
    let room = nat_lt (length g.waiting) write_limit in
    subst (Going text took flushed true)
    (sym (ap due_round g.is ∙ (round_up g.mux g.noise k refl
    ∙ ap (λ (f : Front). round_by f (state g.mux g.noise k)) facts.0)))
    (going_called text took g.mux g.noise room g.phase g.unread g.waiting flushed facts.0 g.kind g.fits facts.1)
going_round text took flushed false seen g =
    let k = at_phase g.phase false g.unread g.waiting in
    subst (Going text took flushed false) (sym (ap due_round g.is ∙ (round_down g.mux g.noise k refl ∙ sym g.is))) g

going_rounds : (text took : List ℕ) (flushed up : Bool) (k : ℕ) (seen : Seen) → Going text took flushed up seen
    → Going text took flushed up (due_rounds k seen)
going_rounds text took flushed up zero seen g = g
going_rounds text took flushed up (suc k) seen g =
    going_round text took flushed up (due_rounds k seen) (going_rounds text took flushed up k seen g)

pub going_all : (text took : List ℕ) (flushed up : Bool) (seen : Seen) → Going text took flushed up seen
    → Going text took flushed up (all_due seen)
going_all text took flushed up seen g =
    let all = all_rounds seen in
    subst (Going text took flushed up) (sym all.1) (going_rounds text took flushed up all.0 seen g)

-- ---- bytes are taken

pub split_text : (took w u : List ℕ) (k : ℕ) → (took ++ take k w) ++ (drop k w ++ u) ≡ took ++ (w ++ u)
split_text took w u k =
    append_assoc took (take k w) (drop k w ++ u)
    ∙ ap (λ (t : List ℕ). took ++ t)
    (sym (append_assoc (take k w) (drop k w) u) ∙ ap (λ (t : List ℕ). t ++ u) (take-append-drop k w))

abbrev pub noise_taken : List ℕ → ℕ → Noise → Noise
noise_taken mux k n = record {
  number = n.number;
  most = n.most;
  info = n.info;
  infos = n.infos;
  reads = n.reads;
  statistics = statistics_after (default_config mux) (taken k) n.statistics;
  events = n.events;
}

-- a phase without a flush that awaits bytes stays
taken_plain : (text took mux : List ℕ) (n : Noise) (phase : Phase) (unread waiting : List ℕ) (k : ℕ) (seen : Seen)
    → seen ≡ state mux (noise_taken mux k n) (at_phase phase true unread (drop k waiting)) → front unread ≡ unfinished
    → has_flush phase ≡ true → FitsPhase phase (drop k waiting) → took ++ (waiting ++ unwritten_at phase) ≡ text
    → Going text (took ++ take k waiting) true true seen
taken_plain text took mux n phase unread waiting k seen same e kind fits is = record {
  mux = mux;
  noise = noise_taken mux k n;
  phase = phase;
  unread = unread;
  waiting = drop k waiting;
  is = same;
  kind = kind;
  fits = fits;
  ups = λ up. (e, split_text took waiting (unwritten_at phase) k ∙ is);
  downs = λ down. absurd (true≢false down);
}

-- a flush awaits bytes, of which these may be the last
abbrev reached : List ℕ → Noise → List ℕ → List ℕ → ℕ → ℕ → Bool → Seen
reached mux n unread waiting k ahead b = state mux n (record {
  up = true;
  calls = [];
  subs = no_subs;
  tickets = one_flush 1 [] (if b then [] else record { ticket = 1; ahead = ahead } ∷ []);
  ready = push_all (replied replies.Flushed (if b then 1 ∷ [] else [])) [];
  unread = unread;
  waiting = drop k waiting;
})

taken_awaiting : (text took mux : List ℕ) (n : Noise) (unread waiting : List ℕ) (k : ℕ) → front unread ≡ unfinished
    → took ++ (waiting ++ []) ≡ text
    → Going text (took ++ take k waiting) true true
    (seen_after (state mux n (at_phase flush_awaits true unread waiting)) (taken k))
taken_awaiting text took mux n unread waiting k e is = by (nat_le (length waiting) k) refl
  where
    by : (b : Bool) → nat_le (length waiting) k ≡ b
        → Going text (took ++ take k waiting) true true
        (seen_after (state mux n (at_phase flush_awaits true unread waiting)) (taken k))
    by true le =
        taken_plain text took mux n flush_done unread waiting k
        (seen_after (state mux n (at_phase flush_awaits true unread waiting)) (taken k))
        (ap (reached mux (noise_taken mux k n) unread waiting k (length waiting - k)) le) e refl
        (drop_of_length-le waiting (leb-true (length waiting) k le)) is
    by false more =
        taken_plain text took mux n flush_awaits unread waiting k
        (seen_after (state mux n (at_phase flush_awaits true unread waiting)) (taken k))
        (ap (reached mux (noise_taken mux k n) unread waiting k (length waiting - k)) more
        ∙ ap (λ (a : ℕ). reached mux (noise_taken mux k n) unread waiting k a false) (sym (length-drop k waiting)))
        e refl (omega (arith, length-drop k waiting, leb-false (length waiting) k more)) is

going_taken : (text took mux : List ℕ) (n : Noise) (phase : Phase) (unread waiting : List ℕ) (k : ℕ)
    → front unread ≡ unfinished
    → has_flush phase ≡ true → FitsPhase phase waiting → took ++ (waiting ++ unwritten_at phase) ≡ text
    → Going text (took ++ take k waiting) true true
    (seen_after (state mux n (at_phase phase true unread waiting)) (taken k))
going_taken text took mux n (sending m) unread waiting k e kind fits is = absurd (false≢true kind)
going_taken text took mux n sent unread waiting k e kind fits is = absurd (false≢true kind)
going_taken text took mux n (both m) unread waiting k e kind fits is =
    taken_plain text took mux n (both m) unread waiting k
    (seen_after (state mux n (at_phase (both m) true unread waiting)) (taken k)) refl e kind tt is
going_taken text took mux n flush_waits unread waiting k e kind fits is =
    taken_plain text took mux n flush_waits unread waiting k
    (seen_after (state mux n (at_phase flush_waits true unread waiting)) (taken k)) refl e kind tt is
going_taken text took mux n flush_awaits unread waiting k e kind fits is =
    taken_awaiting text took mux n unread waiting k e is
going_taken text took mux n flush_done unread waiting k e kind fits is =
    taken_plain text took mux n flush_done unread waiting k
    (seen_after (state mux n (at_phase flush_done true unread waiting)) (taken k)) refl e kind
    (drop_of_length-le waiting (omega (arith, ap length fits))) is

-- so many of the bytes that wait are taken
pub going_write : (text took : List ℕ) (n : ℕ) (seen : Seen) → Going text took true true seen
    → n ≤ length seen.parts.link.wire.waiting
    → Going text (took ++ take n seen.parts.link.wire.waiting) true true
    (seen_all seen (own_steps seen.parts (turns.Write n)))
going_write text took n seen g le =
    let facts = g.ups refl in
    let k = at_phase g.phase true g.unread g.waiting in
    let fits : n ≤ length g.waiting = subst (λ (s : Seen). n ≤ length s.parts.link.wire.waiting) g.is le in
    let all : min n (length g.waiting) ≡ n = omega (arith, fits) in
    subst (λ (s : Seen). Going text (took ++ take n s.parts.link.wire.waiting) true true
    (seen_all s (own_steps s.parts (turns.Write n))))
    (sym g.is)
    (subst (λ (i : ℕ). Going text (took ++ take n g.waiting) true true (seen_after (state g.mux g.noise k) (taken i)))
    (sym all)
    (going_taken text took g.mux g.noise g.phase g.unread g.waiting n facts.0 g.kind g.fits facts.1))

-- ---- the link ends

-- no link is up, and no flush was flushed that was not handed out
pub record IsOff (seen : Seen) : Type 0 where
  pub down : seen.parts.link.is_up ≡ false
  pub none : reply_in 1 seen.ready ≡ Some replies.Flushed → ⊥

pub none_flushed : (ready : List (ℕ × CallReply)) → ready ≡ [] → reply_in 1 ready ≡ Some replies.Flushed → ⊥
none_flushed ready none is = none-some replies.Flushed (sym (ap (reply_in 1) none) ∙ is)

lost_at : (mux : List ℕ) (n : Noise) (phase : Phase) (unread waiting : List ℕ) → reply_in 1 (ready_at phase) ≡ None
    → IsOff (seen_after (state mux n (at_phase phase true unread waiting)) (link_end word.Lost))
lost_at mux n (sending m) unread waiting none = record { down = refl; none = none_flushed [] refl }
lost_at mux n sent unread waiting none = record { down = refl; none = none_flushed [] refl }
lost_at mux n (both m) unread waiting none = record { down = refl; none = none_flushed [] refl }
lost_at mux n flush_waits unread waiting none = record { down = refl; none = none_flushed [] refl }
lost_at mux n flush_awaits unread waiting none = record { down = refl; none = λ is. cc }
lost_at mux n flush_done unread waiting none = absurd (none-some replies.Flushed (sym none))

-- the link is lost before the flush is settled
pub going_lost : (text took : List ℕ) (seen : Seen) → Going text took true true seen → reply_in 1 seen.ready ≡ None
    → IsOff (seen_all seen (own_steps seen.parts turns.Lost))
going_lost text took seen g none =
    subst (λ (s : Seen). IsOff (seen_all s (own_steps s.parts turns.Lost))) (sym g.is)
    (lost_at g.mux g.noise g.phase g.unread g.waiting (sym (ap (λ (s : Seen). reply_in 1 s.ready) g.is) ∙ none))

-- nothing is due of it
pub off_due : (seen : Seen) → seen.parts.link.is_up ≡ false → due seen.parts ≡ None
off_due seen down = ap (λ (b : Bool). if b then due_by (front seen.parts.link.wire.unread) seen.parts else None) down

pub off_all : (seen : Seen) → IsOff seen → IsOff (all_due seen)
off_all seen off = subst IsOff (sym (none_played seen (off_due seen off.down))) off

-- ---- the flush as its loop sees it

has : (phase : Phase) → has_flush phase ≡ true → HasFlush phase
has (sending m) is = absurd (false≢true is)
has sent is = absurd (false≢true is)
has (both m) is = tt
has flush_waits is = tt
has flush_awaits is = tt
has flush_done is = tt

had : (phase : Phase) → HasFlush phase → has_flush phase ≡ true
had (sending m) is = absurd is
had sent is = absurd is
had (both m) is = refl
had flush_waits is = refl
had flush_awaits is = refl
had flush_done is = refl

-- whether the link is up
pub going_up : (text took : List ℕ) (flushed up : Bool) (seen : Seen) → Going text took flushed up seen
    → seen.parts.link.is_up ≡ up
going_up text took flushed up seen g = ap (λ (s : Seen). s.parts.link.is_up) g.is

pub flushes_going : (text took : List ℕ) (up : Bool) (seen : Seen) → Going text took true up seen
    → due seen.parts ≡ None
    → Flushes text took seen
flushes_going text took up seen g none =
    let here = going_up text took true up seen g in (
      g.phase,
      has g.phase g.kind,
      record {
        settled = none;
        ups = λ it_is.
            let is_up : up ≡ true = sym here ∙ it_is in (
              g.mux,
              g.noise,
              g.unread,
              g.waiting,
              g.is ∙ ap (λ (b : Bool). state g.mux g.noise (at_phase g.phase b g.unread g.waiting)) is_up,
              g.fits,
              (g.ups is_up).1,
            );
        downs = λ down. none_flushed seen.ready (ap (λ (s : Seen). s.ready) g.is ∙ g.downs (sym here ∙ down));
      },
    )

pub flushes_off : (text took : List ℕ) (seen : Seen) → IsOff seen → Flushes text took seen
flushes_off text took seen off = (
  flush_done,
  tt,
  record {
    settled = off_due seen off.down;
    ups = λ up. absurd (false≢true (sym off.down ∙ up));
    downs = λ down. off.none;
  },
)

pub going_flushes : (text took : List ℕ) (seen : Seen) → Flushes text took seen → seen.parts.link.is_up ≡ true
    → Going text took true true seen
going_flushes text took seen (phase, flush, s) up =
    let u = s.ups up in
    let k = at_phase phase true u.2 u.3 in
    record {
      mux = u.0;
      noise = u.1;
      phase = phase;
      unread = u.2;
      waiting = u.3;
      is = u.4;
      kind = had phase flush;
      fits = u.5;
      ups = λ it_is. (
        nothing_there (front u.2) u.0 u.1 k refl (ap (λ (x : Seen). due x.parts) (sym u.4) ∙ s.settled) refl,
        u.6,
      );
      downs = λ down. absurd (true≢false down);
    }
