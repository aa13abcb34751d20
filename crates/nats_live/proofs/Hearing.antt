-- A subscription on a session that reads: what one due step makes of it, while no message of its queue may be too many.
use Rattle.std.proofs.Common.{◌≡◌, refl, ◌∙◌, sym, ap, subst, ℕ, zero, suc, ◌+◌, ◌<◌, ◌≤◌, arith, Bool, true, false, true≢false, ◌==◌, ◌||◌, ◌&&◌, nat_lt, lt-ltb, ne_eqb, List, [], ◌∷◌, ◌++◌, length, length-append, drop, append_assoc, append-nil, length-drop, drop_of_length-le, Option, Some, None, if◌then◌else◌}
use Rattle.std.proofs.lemmas.List.{drop-append-le}
use Rattle.std.proofs.lemmas.Bool.{false≢true}
use Rattle.nats_message.specs.declared.message.Message.{Message}
use Rattle.nats_message.specs.declared.op.ClientOp.{ClientOp}
use Rattle.nats_lines.specs.Operations.{Operation, message, info_op, error_op, ok_op, ping_op, pong_op, Front, unfinished, got, fault, front, past, operations}
use Rattle.nats_lines.proofs.Fronts.{front_fits, front_takes}
use Rattle.nats_history.specs.declared.call.CallReply.{CallReply}
use Rattle.nats_history.specs.declared.stage.Stage.TheVariants as stages
use Rattle.nats_history.specs.History as history
use Rattle.nats_history.specs.History.{Step, Sub, cut, is_closing_at, is_over, forgotten, end_if, unsubscribe_command}
use Rattle.nats_history.specs.Schedule.{due, due_chain, own_steps, write_limit}
use Rattle.nats_history.specs.Counts.{statistics_after}
use Rattle.nats_history.specs.declared.turn.Turn.TheVariants as turns
use Rattle.nats_history.specs.After.{sub_after, written}
use Rattle.nats_tables.specs.Numbers.{at_number, item_of}
use Rattle.nats_tables.specs.Rows.{tidied}
use Rattle.nats_session.specs.Handler.{Seen, seen_all, push_all}
use Rattle.nats_core.specs.Journal.{due_round, due_rounds, all_due}
use Rattle.nats_live.specs.Ended.{messages, pong, pongs, is_fault, ends_in_fault}
use Rattle.nats_live.specs.State.{Noise, default_config, state}
use Rattle.nats_live.specs.Flow.{GoesOn, Receives, one_sub, receiving, sub_text, subscribed_text, unasked}
use Rattle.nats_live.proofs.Begins.{all_rounds, nothing_there}
use Rattle.nats_live.proofs.Beyond.{front_beyond}
use Rattle.nats_live.proofs.Ops.{messages_more, pongs_one, goes_fed, goes_read, goes_over, goes_fault, not_got_unfinished, not_got_fault}
use Rattle.nats_live.proofs.States.{round_by, round_up, round_down, noise_read, noise_end, none_asked, none_settled, no_call}

-- ---- what a message for some subscription makes of the one

abbrev default_room : ℕ
default_room = 65536

-- it is put where there is room
abbrev heard_sub : List ℕ → ℕ → List Message → Message → Bool → Sub
heard_sub subject puts queue m room = tidied is_over forgotten (record {
  interest = Some (record { subject = subject; queue_group = None });
  stage = end_if (false || (room && false)) stages.Open;
  is_shut = false;
  is_gone = false;
  is_draining = false;
  limit = None;
  puts = if true && room then cut (suc puts) else puts;
  waiting = if true && room then queue ++ m ∷ [] else queue;
})

put_there : (mux subject : List ℕ) (puts : ℕ) (queue : List Message) (m : Message) → length queue < default_room
    → sub_after (default_config mux) (history.read (message 1 m)) (one_sub true subject puts queue)
    ≡ one_sub true subject (cut (suc puts)) (queue ++ m ∷ [])
put_there mux subject puts queue m less = ap (heard_sub subject puts queue m) (lt-ltb (length queue) default_room less)

-- the subscriptions, as one message more is there
pub rows_heard : (mux subject : List ℕ) (puts : ℕ) (queue : List Message) (sid : ℕ) (m : Message)
    → length queue < default_room
    → (later : ℕ) × (at_number sid (sub_after (default_config mux) (history.read (message sid m)))
    (one_sub true subject puts queue ∷ [])
    ≡ one_sub true subject later (queue ++ messages 1 (message sid m ∷ [])) ∷ [])
rows_heard mux subject puts queue zero m less =
    (puts, ap (λ (q : List Message). one_sub true subject puts q ∷ []) (sym (append-nil queue)))
rows_heard mux subject puts queue (suc zero) m less =
    (cut (suc puts), ap (λ (sub : Sub). sub ∷ []) (put_there mux subject puts queue m less))
rows_heard mux subject puts queue (suc (suc k)) m less =
    let other : (suc (suc k) == 1) ≡ false = ne_eqb (suc (suc k)) 1 (λ e. absurd (omega (arith, e))) in (
      puts,
      ap (λ (q : List Message). one_sub true subject puts q ∷ [])
          (sym (append-nil queue) ∙ ap (λ (b : Bool). queue ++ (if b then m ∷ [] else [])) (sym other)),
    )

-- nothing asks for it no more
none_closing : (subject : List ℕ) (puts : ℕ) (queue : List Message) (sid : ℕ)
    → unsubscribe_command (is_closing_at (item_of sid (one_sub true subject puts queue ∷ []))) sid None ≡ []
none_closing subject puts queue zero = refl
none_closing subject puts queue (suc zero) = refl
none_closing subject puts queue (suc (suc k)) = refl

-- ---- an operation is read

abbrev heard_with : List ℕ → Noise → List Sub → List (ℕ × List ℕ) → List (ℕ × CallReply) → List ℕ → List ℕ → Seen
heard_with mux n rows asking ready unread waiting = state mux n (record {
  up = true;
  calls = [];
  subs = record { given = 1; subscribed = 1; rows = rows };
  tickets = record { given = 0; handled = 0; of_request = []; queued = []; flushing = []; asking = asking };
  ready = ready;
  unread = unread;
  waiting = waiting;
})

-- what reading it makes of the state
abbrev pub Hears : List ℕ → Noise → List ℕ → ℕ → List Message → List ℕ → List ℕ → Operation → ℕ → Type 0
Hears mux n subject puts queue unread waiting op m = (noise : Noise) × (later : ℕ)
    × (round_by (got op m) (state mux n (receiving true true subject puts queue unread waiting))
    ≡ state mux noise (receiving true true subject later (queue ++ messages 1 (op ∷ [])) (past (front unread) unread)
    (waiting ++ pong op)))

hears_plain : (mux : List ℕ) (n noise : Noise) (subject : List ℕ) (puts : ℕ) (queue : List Message)
    (unread waiting written : List ℕ) (op : Operation)
    (m : ℕ) → messages 1 (op ∷ []) ≡ [] → written ≡ waiting ++ pong op
    → round_by (got op m) (state mux n (receiving true true subject puts queue unread waiting))
    ≡ state mux noise (receiving true true subject puts queue (past (front unread) unread) written)
    → Hears mux n subject puts queue unread waiting op m
hears_plain mux n noise subject puts queue unread waiting written op m none wrote is = (
  noise,
  puts,
  is
      ∙ (ap (λ (q : List Message). state mux noise
      (receiving true true subject puts q (past (front unread) unread) written))
      (sym (ap (λ (more : List Message). queue ++ more) none ∙ append-nil queue))
      ∙ ap (λ (w : List ℕ). state mux noise
      (receiving true true subject puts (queue ++ messages 1 (op ∷ [])) (past (front unread) unread) w)) wrote),
)

pub hears : (mux : List ℕ) (n : Noise) (subject : List ℕ) (puts : ℕ) (queue : List Message) (unread waiting : List ℕ)
    (op : Operation) (m : ℕ)
    → length queue < default_room → Hears mux n subject puts queue unread waiting op m
hears mux n subject puts queue unread waiting (message sid text) m less =
    let op = message sid text in
    let sub = one_sub true subject puts queue in
    let rows = rows_heard mux subject puts queue sid text less in
    let noise = noise_read mux (sub ∷ []) op n in
    let wrote : written true (unsubscribe_command (is_closing_at (item_of sid (sub ∷ []))) sid None) waiting ≡ waiting
    ++ pong op =
    ap (λ (commands : List ClientOp). written true commands waiting) (none_closing subject puts queue sid)
    ∙ sym (append-nil waiting) in (
      noise,
      rows.0,
      (λ i. heard_with mux noise (rows.1 i) (none_asked op i) (push_all (none_settled op i) [])
          (past (front unread) unread) (wrote i)),
    )
hears mux n subject puts queue unread waiting (info_op info) m less =
    hears_plain mux n (noise_read mux (one_sub true subject puts queue ∷ []) (info_op info) n) subject puts queue
    unread waiting waiting
    (info_op info) m refl (sym (append-nil waiting)) refl
hears mux n subject puts queue unread waiting (error_op e) m less =
    hears_plain mux n (noise_read mux (one_sub true subject puts queue ∷ []) (error_op e) n) subject puts queue unread
    waiting waiting
    (error_op e) m refl (sym (append-nil waiting)) refl
hears mux n subject puts queue unread waiting ok_op m less =
    hears_plain mux n (noise_read mux (one_sub true subject puts queue ∷ []) ok_op n) subject puts queue unread
    waiting waiting
    ok_op m refl (sym (append-nil waiting)) refl
hears mux n subject puts queue unread waiting ping_op m less =
    hears_plain mux n (noise_read mux (one_sub true subject puts queue ∷ []) ping_op n) subject puts queue unread
    waiting (waiting ++ pong ping_op)
    ping_op m refl refl refl
hears mux n subject puts queue unread waiting pong_op m less =
    hears_plain mux n (noise_read mux (one_sub true subject puts queue ∷ []) pong_op n) subject puts queue unread
    waiting waiting
    pong_op m refl (sym (append-nil waiting)) refl

-- what is no operation ends the link
pub hears_fault : (mux : List ℕ) (n : Noise) (subject : List ℕ) (puts : ℕ) (queue : List Message)
    (unread waiting : List ℕ) (m : ℕ)
    → round_by (fault m) (state mux n (receiving true true subject puts queue unread waiting))
    ≡ state mux (noise_end mux n) (receiving false true subject puts queue [] [])
hears_fault mux n subject puts queue unread waiting m = refl

hears_less : (mux : List ℕ) (n : Noise) (subject : List ℕ) (puts : ℕ) (queue : List Message) (unread waiting : List ℕ)
    → round_by unfinished (state mux n (receiving true true subject puts queue unread waiting))
    ≡ state mux n (receiving true true subject puts queue unread waiting)
hears_less mux n subject puts queue unread waiting =
    let s = state mux n (receiving true true subject puts queue unread waiting) in
    ap (λ (next : Option Step). seen_all s (due_chain s.parts next)) (no_call (nat_lt (length waiting) write_limit))

-- ---- a piece is read

-- as many bytes at most are unread as there is room for messages; or none of a piece of so many bytes was read, and no message waits
pub data Room (unread : List ℕ) (queue : List Message) : Type 0 where
  below : length queue + length unread < default_room → Room unread queue
  fresh : (old more : List ℕ) → unread ≡ old ++ more → front old ≡ unfinished → length more < default_room → queue ≡ []
      → Room unread queue

room_now : (unread : List ℕ) (queue : List Message) → Room unread queue → length queue < default_room
room_now unread queue (below less) = omega (arith, less)
room_now unread queue (fresh old more is none less empty) = omega (arith, ap length empty)

-- an operation is at most one message, and takes a byte
at_most_one : (op : Operation) → length (messages 1 (op ∷ [])) ≤ 1
at_most_one (message sid m) = by (sid == 1)
  where
    by : (b : Bool) → length (if b then m ∷ [] else []) ≤ 1
    by true = omega arith
    by false = omega arith
at_most_one (info_op info) = omega arith
at_most_one (error_op e) = omega arith
at_most_one ok_op = omega arith
at_most_one ping_op = omega arith
at_most_one pong_op = omega arith

room_read : (unread : List ℕ) (queue : List Message) (op : Operation) (n : ℕ) → front unread ≡ got op n
    → Room unread queue
    → Room (drop n unread) (queue ++ messages 1 (op ∷ []))
room_read unread queue op n e (below less) =
    below (omega (
      arith,
      less,
      length-append queue (messages 1 (op ∷ [])),
      at_most_one op,
      length-drop n unread,
      front_fits unread op n e,
      front_takes unread op n e,
    ))
room_read unread queue op n e (fresh old more is none less empty) =
    below (omega (
      arith,
      less,
      length-append queue (messages 1 (op ∷ [])),
      at_most_one op,
      length-drop n unread,
      ap length empty,
      ap length is,
      length-append old more,
      front_fits unread op n e,
      front_beyond old more op n none (sym (ap front is) ∙ e),
    ))

-- the subscription is open, and some operations were read since a moment; while the link is up it goes on with what is unread
pub record Hearing (subject joined : List ℕ) (first was : List Operation) (took : List ℕ) (taken : ℕ)
    (seen : Seen) : Type 0 where
  pub since : List Operation
  pub more : List Operation
  pub grew : since ≡ was ++ more
  pub mux : List ℕ
  pub noise : Noise
  pub up : Bool
  pub puts : ℕ
  pub unread : List ℕ
  pub waiting : List ℕ
  pub is : seen ≡ state mux noise (receiving up true subject puts (drop taken (messages 1 since)) unread waiting)
  pub fits : taken ≤ length (messages 1 since)
  pub ups : up ≡ true → GoesOn joined (first ++ since) unread × (took ++ waiting ≡ subscribed_text subject first since)
      × Room unread (drop taken (messages 1 since))
  pub downs : up ≡ false → (operations joined ≡ first ++ since) × (ends_in_fault joined ≡ true)
  pub left : List ℕ
  pub text : took ++ left ≡ subscribed_text subject first since

-- the text with one operation more
subscribed_one : (subject : List ℕ) (first since : List Operation) (op : Operation)
    → subscribed_text subject first since ++ pong op ≡ subscribed_text subject first (since ++ op ∷ [])
subscribed_one subject first since op =
    append_assoc (pongs first ++ sub_text subject) (pongs since) (pong op)
    ∙ ap (λ (t : List ℕ). (pongs first ++ sub_text subject) ++ t) (sym (pongs_one since op))

text_one : (subject had rest : List ℕ) (first since : List Operation) (op : Operation)
    → had ++ rest ≡ subscribed_text subject first since
    → had ++ (rest ++ pong op) ≡ subscribed_text subject first (since ++ op ∷ [])
text_one subject had rest first since op is =
    sym (append_assoc had rest (pong op))
    ∙ (ap (λ (t : List ℕ). t ++ pong op) is ∙ subscribed_one subject first since op)

-- the queue with one operation more
queue_one : (taken : ℕ) (since : List Operation) (op : Operation) → taken ≤ length (messages 1 since)
    → drop taken (messages 1 since) ++ messages 1 (op ∷ []) ≡ drop taken (messages 1 (since ++ op ∷ []))
queue_one taken since op fits =
    sym (drop-append-le taken (messages 1 since) (messages 1 (op ∷ [])) fits)
    ∙ ap (drop taken) (sym (messages_more 1 since (op ∷ [])))

hearing_got : (subject joined : List ℕ) (first was : List Operation) (took : List ℕ) (taken : ℕ) (seen : Seen)
    → (h : Hearing subject joined first was took taken seen) → (op : Operation) (n : ℕ) → front h.unread ≡ got op n
    → h.up ≡ true
    → Hearing subject joined first was took taken
    (round_by (got op n) (state h.mux h.noise
    (receiving true true subject h.puts (drop taken (messages 1 h.since)) h.unread h.waiting)))
hearing_got subject joined first was took taken seen h op n e up =
    let facts = h.ups up in
    let queue = drop taken (messages 1 h.since) in
    let step = hears h.mux h.noise subject h.puts queue h.unread h.waiting op n (room_now h.unread queue facts.2) in
    let grown = queue_one taken h.since op h.fits in
    record {
      since = h.since ++ op ∷ [];
      more = h.more ++ op ∷ [];
      grew = ap (λ (ops : List Operation). ops ++ op ∷ []) h.grew ∙ append_assoc was h.more (op ∷ []);
      mux = h.mux;
      noise = step.0;
      up = true;
      puts = step.1;
      unread = drop n h.unread;
      waiting = h.waiting ++ pong op;
      is = step.2
          ∙ (ap (λ (f : Front). state h.mux step.0 (receiving true true subject step.1 (queue ++ messages 1 (op ∷ []))
          (past f h.unread) (h.waiting ++ pong op))) e
          ∙ ap (λ (q : List Message). state h.mux step.0
          (receiving true true subject step.1 q (drop n h.unread) (h.waiting ++ pong op))) grown);
      fits = omega (
        arith,
        h.fits,
        ap length (messages_more 1 h.since (op ∷ [])),
        length-append (messages 1 h.since)
            (messages 1 (op ∷ [])),
      );
      ups = λ it_is. (
        subst (λ (ops : List Operation). GoesOn joined ops (drop n h.unread)) (append_assoc first h.since (op ∷ []))
            (goes_read joined (first ++ h.since) h.unread op n e facts.0),
        text_one subject took h.waiting first h.since op facts.1,
        subst (Room (drop n h.unread)) grown (room_read h.unread queue op n e facts.2),
      );
      downs = λ down. absurd (true≢false down);
      left = h.left ++ pong op;
      text = text_one subject took h.left first h.since op h.text;
    }

hearing_front : (subject joined : List ℕ) (first was : List Operation) (took : List ℕ) (taken : ℕ) (seen : Seen)
    → (h : Hearing subject joined first was took taken seen) → (f : Front) → front h.unread ≡ f → h.up ≡ true
    → Hearing subject joined first was took taken
    (round_by f (state h.mux h.noise
    (receiving true true subject h.puts (drop taken (messages 1 h.since)) h.unread h.waiting)))
hearing_front subject joined first was took taken seen h unfinished e up =
    let queue = drop taken (messages 1 h.since) in
    subst (Hearing subject joined first was took taken)
    (h.is ∙ (ap (λ (b : Bool). state h.mux h.noise (receiving b true subject h.puts queue h.unread h.waiting)) up
    ∙ sym (hears_less h.mux h.noise subject h.puts queue h.unread h.waiting))) h
hearing_front subject joined first was took taken seen h (got op n) e up =
    hearing_got subject joined first was took taken seen h op n e up
hearing_front subject joined first was took taken seen h (fault n) e up = record {
  since = h.since;
  more = h.more;
  grew = h.grew;
  mux = h.mux;
  noise = noise_end h.mux h.noise;
  up = false;
  puts = h.puts;
  unread = [];
  waiting = [];
  is = hears_fault h.mux h.noise subject h.puts (drop taken (messages 1 h.since)) h.unread h.waiting n;
  fits = h.fits;
  ups = λ it_is. absurd (false≢true it_is);
  downs = λ down. (
    goes_over joined (first ++ h.since) h.unread (h.ups up).0 (not_got_fault (front h.unread) n e),
    goes_fault joined (first ++ h.since) h.unread (h.ups up).0 (not_got_fault (front h.unread) n e) ∙ ap is_fault e,
  );
  left = h.left;
  text = h.text;
}

pub hearing_round : (subject joined : List ℕ) (first was : List Operation) (took : List ℕ) (taken : ℕ) (seen : Seen)
    → Hearing subject joined first was took taken seen → Hearing subject joined first was took taken (due_round seen)
hearing_round subject joined first was took taken seen h = by h.up refl
  where
    by : (b : Bool) → h.up ≡ b → Hearing subject joined first was took taken (due_round seen)
    by true up =
        let queue = drop taken (messages 1 h.since) in
        let k = receiving h.up true subject h.puts queue h.unread h.waiting in
        subst (Hearing subject joined first was took taken)
        (sym (ap due_round h.is ∙ (round_up h.mux h.noise k up
        ∙ ap (λ (b : Bool). round_by (front h.unread)
        (state h.mux h.noise (receiving b true subject h.puts queue h.unread h.waiting))) up)))
        (hearing_front subject joined first was took taken seen h (front h.unread) refl up)
    by false down =
        let k = receiving h.up true subject h.puts (drop taken (messages 1 h.since)) h.unread h.waiting in
        subst (Hearing subject joined first was took taken)
        (sym (ap due_round h.is ∙ (round_down h.mux h.noise k down ∙ sym h.is))) h

hearing_rounds : (subject joined : List ℕ) (first was : List Operation) (took : List ℕ) (taken : ℕ) (k : ℕ)
    (seen : Seen)
    → Hearing subject joined first was took taken seen → Hearing subject joined first was took taken
    (due_rounds k seen)
hearing_rounds subject joined first was took taken zero seen h = h
hearing_rounds subject joined first was took taken (suc k) seen h =
    hearing_round subject joined first was took taken (due_rounds k seen)
    (hearing_rounds subject joined first was took taken k seen h)

pub hearing_all : (subject joined : List ℕ) (first was : List Operation) (took : List ℕ) (taken : ℕ) (seen : Seen)
    → Hearing subject joined first was took taken seen → Hearing subject joined first was took taken (all_due seen)
hearing_all subject joined first was took taken seen h =
    let all = all_rounds seen in
    subst (Hearing subject joined first was took taken) (sym all.1)
    (hearing_rounds subject joined first was took taken all.0 seen h)

-- ---- once nothing is due

pub hearing_receives : (subject joined : List ℕ) (first was : List Operation) (took : List ℕ) (taken : ℕ) (seen : Seen)
    → (h : Hearing subject joined first was took taken seen) → due seen.parts ≡ None
    → Receives subject joined first h.since took taken seen
hearing_receives subject joined first was took taken seen h none = record {
  mux = h.mux;
  noise = h.noise;
  up = h.up;
  opened = true;
  puts = h.puts;
  unread = h.unread;
  waiting = h.waiting;
  is = h.is;
  settled = none;
  all = by h.up refl;
  fits = h.fits;
  fresh = λ closed. absurd (true≢false closed);
  ups = λ it_is. ((h.ups it_is).0, ap (λ (w : List ℕ). took ++ w) (append-nil h.waiting) ∙ (h.ups it_is).1);
  left = h.left;
  text = h.text;
}
  where
    by : (b : Bool) → h.up ≡ b → operations joined ≡ first ++ h.since
    by true up =
        let k = receiving h.up true subject h.puts (drop taken (messages 1 h.since)) h.unread h.waiting in
        goes_over joined (first ++ h.since) h.unread (h.ups up).0 (not_got_unfinished (front h.unread)
        (nothing_there (front h.unread) h.mux h.noise k up
        (ap (λ (s : Seen). due s.parts) (sym h.is) ∙ none) refl))
    by false down = (h.downs down).0

-- where the link is over what came ends in no operation
pub hearing_over : (subject joined : List ℕ) (first was : List Operation) (took : List ℕ) (taken : ℕ) (seen : Seen)
    → Hearing subject joined first was took taken seen → seen.parts.link.is_up ≡ false → ends_in_fault joined ≡ true
hearing_over subject joined first was took taken seen h down =
    (h.downs (sym (ap (λ (s : Seen). s.parts.link.is_up) h.is) ∙ down)).1

-- ---- a piece comes

abbrev noise_fed : List ℕ → List ℕ → Noise → Noise
noise_fed mux bytes n = record {
  number = n.number;
  most = n.most;
  info = n.info;
  infos = n.infos;
  reads = n.reads;
  statistics = statistics_after (default_config mux) (history.fed bytes) n.statistics;
  events = n.events;
}

pub hearing_fed : (subject joined bytes : List ℕ) (first since : List Operation) (took : List ℕ) (taken : ℕ)
    (seen : Seen)
    → (r : Receives subject joined first since took taken seen) → r.up ≡ true → r.opened ≡ true
    → taken ≡ length (messages 1 since)
    → length bytes < default_room
    → Hearing subject (joined ++ bytes) first since took taken
    (seen_all seen (own_steps seen.parts (turns.Piece bytes)))
hearing_fed subject joined bytes first since took taken seen r up is_opened all_taken less =
    let queue = drop taken (messages 1 since) in
    let k = receiving r.up r.opened subject r.puts queue r.unread r.waiting in
    let facts = r.ups up in
    let empty : queue ≡ [] = drop_of_length-le (messages 1 since) (omega (arith, all_taken)) in
    let none = nothing_there (front r.unread) r.mux r.noise k up
    (ap (λ (s : Seen). due s.parts) (sym r.is) ∙ r.settled) refl in
    record {
      since = since;
      more = [];
      grew = sym (append-nil since);
      mux = r.mux;
      noise = noise_fed r.mux bytes r.noise;
      up = true;
      puts = r.puts;
      unread = r.unread ++ bytes;
      waiting = r.waiting;
      is = ap (λ (s : Seen). seen_all s (own_steps s.parts (turns.Piece bytes)))
          (r.is ∙ (ap (λ (b : Bool). state r.mux r.noise (receiving b r.opened subject r.puts queue r.unread r.waiting)) up
          ∙ ap (λ (b : Bool). state r.mux r.noise (receiving true b subject r.puts queue r.unread r.waiting)) is_opened));
      fits = r.fits;
      ups = λ it_is. (
        goes_fed joined (first ++ since) r.unread bytes facts.0,
        sym (ap (λ (w : List ℕ). took ++ w) (append-nil r.waiting))
            ∙ (ap (λ (b : Bool). took ++ (r.waiting ++ unasked b subject)) (sym is_opened) ∙ facts.1),
        fresh r.unread bytes refl none less empty,
      );
      downs = λ down. absurd (true≢false down);
      left = r.left;
      text = r.text;
    }
