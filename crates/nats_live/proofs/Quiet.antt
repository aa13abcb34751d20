-- A subscription on a session of which no operation is unread: what one due step, one write, one take and the link's end make of it.
use Rattle.std.proofs.Common.{◌≡◌, refl, ◌∙◌, sym, ap, subst, ℕ, zero, suc, ◌+◌, ◌≤◌, arith, min, Bool, true, false, true≢false, nat_lt, List, [], ◌∷◌, ◌++◌, length, take, drop, append-nil, length-drop, drop-drop, None}
use Rattle.std.proofs.lemmas.Bool.{false≢true}
use Rattle.nats_message.specs.declared.message.Message.{Message}
use Rattle.nats_lines.specs.Operations.{Operation, Front, unfinished, front, operations}
use Rattle.nats_history.specs.declared.call.Call.TheVariants as call
use Rattle.nats_history.specs.declared.call.TakeReply.{TakeReply}
use Rattle.nats_history.specs.declared.call.TakeReply.TheVariants as takes
use Rattle.nats_history.specs.declared.transcript.LinkWord.TheVariants as word
use Rattle.nats_history.specs.declared.turn.Turn.TheVariants as turns
use Rattle.nats_history.specs.History as history
use Rattle.nats_history.specs.Counts.{statistics_after}
use Rattle.nats_history.specs.Schedule.{due, due_call, due_chain, own_steps, take_reply, took_step, write_limit}
use Rattle.nats_session.specs.Handler.{Seen, seen_all, seen_after, push_all}
use Rattle.nats_core.specs.Journal.{due_round, due_rounds, all_due}
use Rattle.nats_live.specs.Ended.{messages}
use Rattle.nats_live.specs.State.{Noise, default_config, state}
use Rattle.nats_live.specs.Flow.{GoesOn, Receives, receiving, sub_text, subscribed_text, unasked}
use Rattle.nats_live.proofs.Begins.{all_rounds, nothing_there}
use Rattle.nats_live.proofs.Sending.{noise_handled, noise_taken, split_text}
use Rattle.nats_live.proofs.States.{round_by, round_up, round_down}

-- the session of `Receives`, whether or not its subscribe is due
pub record Quiet (subject joined : List ℕ) (first since : List Operation) (took : List ℕ) (taken : ℕ) (up : Bool)
    (seen : Seen) : Type 0 where
  pub mux : List ℕ
  pub noise : Noise
  pub opened : Bool
  pub puts : ℕ
  pub unread : List ℕ
  pub waiting : List ℕ
  pub is : seen ≡ state mux noise (receiving up opened subject puts (drop taken (messages 1 since)) unread waiting)
  pub all : operations joined ≡ first ++ since
  pub fits : taken ≤ length (messages 1 since)
  pub fresh : opened ≡ false → since ≡ []
  pub ups : up ≡ true → (front unread ≡ unfinished) × GoesOn joined (first ++ since) unread
      × (took ++ (waiting ++ unasked opened subject) ≡ subscribed_text subject first since)
  pub left : List ℕ
  pub text : took ++ left ≡ subscribed_text subject first since

-- ---- one due step

abbrev called : Bool → Seen → Seen
called room seen = seen_all seen (due_chain seen.parts (due_call room seen.parts.calls))

quiet_called : (subject joined : List ℕ) (first since : List Operation) (took : List ℕ) (taken : ℕ) (seen : Seen)
    → (q : Quiet subject joined first since took taken true seen) → (room opened : Bool) → q.opened ≡ opened
    → Quiet subject joined first since took taken true (called room seen)
quiet_called subject joined first since took taken seen q false opened is = q
quiet_called subject joined first since took taken seen q true true is =
    let same : seen ≡ state q.mux q.noise
    (receiving true true subject q.puts (drop taken (messages 1 since)) q.unread q.waiting) =
    q.is ∙ ap (λ (b : Bool). state q.mux q.noise
    (receiving true b subject q.puts (drop taken (messages 1 since)) q.unread q.waiting)) is in
    subst (λ (s : Seen). Quiet subject joined first since took taken true (called true s)) (sym same)
    (subst (λ (s : Seen). Quiet subject joined first since took taken true s) same q)
quiet_called subject joined first since took taken seen q true false is =
    let queue = drop taken (messages 1 since) in
    let same : seen ≡ state q.mux q.noise (receiving true false subject q.puts queue q.unread q.waiting) =
    q.is ∙ ap (λ (b : Bool). state q.mux q.noise (receiving true b subject q.puts queue q.unread q.waiting)) is in
    let facts = q.ups refl in
    record {
      mux = q.mux;
      noise = noise_handled q.mux (call.Subscribe subject None) q.noise;
      opened = true;
      puts = q.puts;
      unread = q.unread;
      waiting = q.waiting ++ sub_text subject;
      is = ap (called true) same;
      all = q.all;
      fits = q.fits;
      fresh = λ closed. absurd (true≢false closed);
      ups = λ up. (
        facts.0,
        facts.1,
        ap (λ (w : List ℕ). took ++ w) (append-nil (q.waiting ++ sub_text subject))
            ∙ (ap (λ (b : Bool). took ++ (q.waiting ++ unasked b subject)) (sym is) ∙ facts.2),
      );
      left = q.left;
      text = q.text;
    }

pub quiet_round : (subject joined : List ℕ) (first since : List Operation) (took : List ℕ) (taken : ℕ) (up : Bool)
    (seen : Seen)
    → Quiet subject joined first since took taken up seen → Quiet subject joined first since took taken up
    (due_round seen)
quiet_round subject joined first since took taken true seen q =
    let k = receiving true q.opened subject q.puts (drop taken (messages 1 since)) q.unread q.waiting in
    let room = nat_lt (length q.waiting) write_limit in
    subst (Quiet subject joined first since took taken true)
    (sym (ap due_round q.is ∙ (round_up q.mux q.noise k refl
    ∙ (ap (λ (f : Front). round_by f (state q.mux q.noise k)) (q.ups refl).0 ∙ ap (called room) (sym q.is)))))
    (quiet_called subject joined first since took taken seen q room q.opened refl)
quiet_round subject joined first since took taken false seen q =
    let k = receiving false q.opened subject q.puts (drop taken (messages 1 since)) q.unread q.waiting in
    subst (Quiet subject joined first since took taken false)
    (sym (ap due_round q.is ∙ (round_down q.mux q.noise k refl ∙ sym q.is))) q

quiet_rounds : (subject joined : List ℕ) (first since : List Operation) (took : List ℕ) (taken : ℕ) (up : Bool)
    (k : ℕ) (seen : Seen)
    → Quiet subject joined first since took taken up seen → Quiet subject joined first since took taken up
    (due_rounds k seen)
quiet_rounds subject joined first since took taken up zero seen q = q
quiet_rounds subject joined first since took taken up (suc k) seen q =
    quiet_round subject joined first since took taken up (due_rounds k seen)
    (quiet_rounds subject joined first since took taken up k seen q)

pub quiet_all : (subject joined : List ℕ) (first since : List Operation) (took : List ℕ) (taken : ℕ) (up : Bool)
    (seen : Seen)
    → Quiet subject joined first since took taken up seen → Quiet subject joined first since took taken up
    (all_due seen)
quiet_all subject joined first since took taken up seen q =
    let all = all_rounds seen in
    subst (Quiet subject joined first since took taken up) (sym all.1)
    (quiet_rounds subject joined first since took taken up all.0 seen q)

pub quiet_up : (subject joined : List ℕ) (first since : List Operation) (took : List ℕ) (taken : ℕ) (up : Bool)
    (seen : Seen)
    → Quiet subject joined first since took taken up seen → seen.parts.link.is_up ≡ up
quiet_up subject joined first since took taken up seen q = ap (λ (s : Seen). s.parts.link.is_up) q.is

-- ---- once nothing is due

pub quiet_receives : (subject joined : List ℕ) (first since : List Operation) (took : List ℕ) (taken : ℕ) (up : Bool)
    (seen : Seen)
    → Quiet subject joined first since took taken up seen → due seen.parts ≡ None
    → Receives subject joined first since took taken seen
quiet_receives subject joined first since took taken up seen q none = record {
  mux = q.mux;
  noise = q.noise;
  up = up;
  opened = q.opened;
  puts = q.puts;
  unread = q.unread;
  waiting = q.waiting;
  is = q.is;
  settled = none;
  all = q.all;
  fits = q.fits;
  fresh = q.fresh;
  ups = λ it_is. ((q.ups it_is).1, (q.ups it_is).2);
  left = q.left;
  text = q.text;
}

pub receives_quiet : (subject joined : List ℕ) (first since : List Operation) (took : List ℕ) (taken : ℕ) (seen : Seen)
    → (r : Receives subject joined first since took taken seen) → Quiet subject joined first since took taken r.up seen
receives_quiet subject joined first since took taken seen r =
    let k = receiving r.up r.opened subject r.puts (drop taken (messages 1 since)) r.unread r.waiting in
    record {
      mux = r.mux;
      noise = r.noise;
      opened = r.opened;
      puts = r.puts;
      unread = r.unread;
      waiting = r.waiting;
      is = r.is;
      all = r.all;
      fits = r.fits;
      fresh = r.fresh;
      ups = λ it_is. (
        nothing_there (front r.unread) r.mux r.noise k it_is (ap (λ (s : Seen). due s.parts) (sym r.is) ∙ r.settled)
            refl,
        (r.ups it_is).0,
        (r.ups it_is).1,
      );
      left = r.left;
      text = r.text;
    }

-- ---- bytes are taken

pub quiet_write : (subject joined : List ℕ) (first since : List Operation) (took_so : List ℕ) (taken_so n : ℕ)
    (seen : Seen)
    → Quiet subject joined first since took_so taken_so true seen → n ≤ length seen.parts.link.wire.waiting
    → Quiet subject joined first since (took_so ++ take n seen.parts.link.wire.waiting) taken_so true
    (seen_all seen (own_steps seen.parts (turns.Write n)))
quiet_write subject joined first since took_so taken_so n seen q le =
    let queue = drop taken_so (messages 1 since) in
    let k = receiving true q.opened subject q.puts queue q.unread q.waiting in
    let fits : n ≤ length q.waiting = subst (λ (s : Seen). n ≤ length s.parts.link.wire.waiting) q.is le in
    let all : min n (length q.waiting) ≡ n = omega (arith, fits) in
    let facts = q.ups refl in
    let split = split_text took_so q.waiting (unasked q.opened subject) n ∙ facts.2 in
    subst (λ (s : Seen). Quiet subject joined first since (took_so ++ take n s.parts.link.wire.waiting) taken_so true
    (seen_all s (own_steps s.parts (turns.Write n))))
    (sym q.is)
    (subst (λ (i : ℕ). Quiet subject joined first since (took_so ++ take n q.waiting) taken_so true
    (seen_after (state q.mux q.noise k) (history.taken i)))
    (sym all)
    (record {
      mux = q.mux;
      noise = noise_taken q.mux n q.noise;
      opened = q.opened;
      puts = q.puts;
      unread = q.unread;
      waiting = drop n q.waiting;
      is = refl;
      all = q.all;
      fits = q.fits;
      fresh = q.fresh;
      ups = λ it_is. (facts.0, facts.1, split);
      left = drop n q.waiting ++ unasked q.opened subject;
      text = split;
    }))

-- ---- the link ends

abbrev noise_lost : List ℕ → Noise → Noise
noise_lost mux n = record {
  number = n.number;
  most = n.most;
  info = n.info;
  infos = n.infos;
  reads = n.reads;
  statistics = statistics_after (default_config mux) (history.link_end word.Lost) n.statistics;
  events = push_all (history.end_events word.Lost) n.events;
}

lost_state : (mux subject : List ℕ) (n : Noise) (opened : Bool) (puts : ℕ) (queue : List Message)
    (unread waiting : List ℕ)
    → seen_all (state mux n (receiving true opened subject puts queue unread waiting))
    (own_steps (state mux n (receiving true opened subject puts queue unread waiting)).parts turns.Lost)
    ≡ state mux (noise_lost mux n) (receiving false opened subject puts queue [] [])
lost_state mux subject n true puts queue unread waiting = refl
lost_state mux subject n false puts queue unread waiting = refl

pub quiet_lost : (subject joined : List ℕ) (first since : List Operation) (took_so : List ℕ) (taken_so : ℕ)
    (seen : Seen)
    → Quiet subject joined first since took_so taken_so true seen
    → Quiet subject joined first since took_so taken_so false (seen_all seen (own_steps seen.parts turns.Lost))
quiet_lost subject joined first since took_so taken_so seen q = record {
  mux = q.mux;
  noise = noise_lost q.mux q.noise;
  opened = q.opened;
  puts = q.puts;
  unread = [];
  waiting = [];
  is = ap (λ (s : Seen). seen_all s (own_steps s.parts turns.Lost)) q.is
      ∙ lost_state q.mux subject q.noise q.opened q.puts (drop taken_so (messages 1 since)) q.unread q.waiting;
  all = q.all;
  fits = q.fits;
  fresh = q.fresh;
  ups = λ up. absurd (false≢true up);
  left = q.left;
  text = q.text;
}

-- ---- a take

-- none waits
take_none : (mux subject : List ℕ) (n : Noise) (up opened : Bool) (puts : ℕ) (unread waiting : List ℕ)
    → take_reply (state mux n (receiving up opened subject puts [] unread waiting)).parts 1 ≡ takes.Empty
take_none mux subject n up true puts unread waiting = refl
take_none mux subject n up false puts unread waiting = refl

-- the oldest is taken
took_state : (mux subject : List ℕ) (n : Noise) (up opened : Bool) (puts : ℕ) (m : Message) (more : List Message)
    (unread waiting : List ℕ)
    → seen_all (state mux n (receiving up opened subject puts (m ∷ more) unread waiting))
    (own_steps (state mux n (receiving up opened subject puts (m ∷ more) unread waiting)).parts (turns.Take 1))
    ≡ state mux (record n { statistics = statistics_after (default_config mux) (history.took 1) n.statistics })
    (receiving up opened subject puts more unread waiting)
took_state mux subject n up true puts m more unread waiting = refl
took_state mux subject n up false puts m more unread waiting = refl

-- what a take comes to
abbrev pub Took1 : List ℕ → List ℕ → List Operation → List Operation → List ℕ → ℕ → Bool → TakeReply → Seen → Type 0
Took1 subject joined first since took_so taken_so up (takes.Message m) new =
    Quiet subject joined first since took_so (taken_so + 1) up new
    × (take 1 (drop taken_so (messages 1 since)) ≡ m ∷ [])
Took1 subject joined first since took_so taken_so up takes.Empty new =
    Quiet subject joined first since took_so taken_so up new × (taken_so ≡ length (messages 1 since))
Took1 subject joined first since took_so taken_so up takes.Ended new = ⊥

take_by : (subject joined : List ℕ) (first since : List Operation) (took_so : List ℕ) (taken_so : ℕ) (up : Bool)
    (seen : Seen)
    → (q : Quiet subject joined first since took_so taken_so up seen) → (queue : List Message)
    → drop taken_so (messages 1 since) ≡ queue
    → Took1 subject joined first since took_so taken_so up
    (take_reply (state q.mux q.noise (receiving up q.opened subject q.puts queue q.unread q.waiting)).parts 1)
    (seen_all (state q.mux q.noise (receiving up q.opened subject q.puts queue q.unread q.waiting))
    (own_steps (state q.mux q.noise (receiving up q.opened subject q.puts queue q.unread q.waiting)).parts
    (turns.Take 1)))
take_by subject joined first since took_so taken_so up seen q [] is =
    let s = state q.mux q.noise (receiving up q.opened subject q.puts [] q.unread q.waiting) in
    let none = take_none q.mux subject q.noise up q.opened q.puts q.unread q.waiting in
    let same : seen ≡ s = q.is
    ∙ ap (λ (queue : List Message). state q.mux q.noise
    (receiving up q.opened subject q.puts queue q.unread q.waiting)) is in
    subst (λ (r : TakeReply). Took1 subject joined first since took_so taken_so up r (seen_all s (took_step 1 r)))
    (sym none) (
      subst (Quiet subject joined first since took_so taken_so up) same q,
      omega (arith, q.fits, sym (length-drop taken_so (messages 1 since)) ∙ ap length is),
    )
take_by subject joined first since took_so taken_so up seen q (m ∷ more) is =
    let later : drop (taken_so + 1) (messages 1 since) ≡ more =
    sym (drop-drop 1 taken_so (messages 1 since)) ∙ ap (drop 1) is in (
      record {
        mux = q.mux;
        noise = record q.noise
            { statistics = statistics_after (default_config q.mux) (history.took 1) q.noise.statistics };
        opened = q.opened;
        puts = q.puts;
        unread = q.unread;
        waiting = q.waiting;
        is = took_state q.mux subject q.noise up q.opened q.puts m more q.unread q.waiting
            ∙ ap (λ (queue : List Message). state q.mux
            (record q.noise {
              statistics = statistics_after (default_config q.mux) (history.took 1)
                  q.noise.statistics;
            })
            (receiving up q.opened subject q.puts queue q.unread q.waiting)) (sym later);
        all = q.all;
        fits = omega (arith, q.fits, sym (length-drop taken_so (messages 1 since)) ∙ ap length is);
        fresh = q.fresh;
        ups = q.ups;
        left = q.left;
        text = q.text;
      },
      ap (take 1) is,
    )

pub quiet_take : (subject joined : List ℕ) (first since : List Operation) (took_so : List ℕ) (taken_so : ℕ)
    (up : Bool) (seen : Seen)
    → Quiet subject joined first since took_so taken_so up seen
    → Took1 subject joined first since took_so taken_so up (take_reply seen.parts 1)
    (seen_all seen (own_steps seen.parts (turns.Take 1)))
quiet_take subject joined first since took_so taken_so up seen q =
    subst (λ (s : Seen). Took1 subject joined first since took_so taken_so up (take_reply s.parts 1)
    (seen_all s (own_steps s.parts (turns.Take 1))))
    (sym q.is)
    (take_by subject joined first since took_so taken_so up seen q (drop taken_so (messages 1 since)) refl)
