-- A session of one link, written out: what one due step makes of it is computed.
use Rattle.std.proofs.Common.{◌≡◌, refl, ◌∙◌, sym, ap, ℕ, zero, suc, ◌==◌, Bool, true, false, nat_lt, List, [], ◌++◌, length, append-nil, Option, None, if◌then◌else◌}
use Rattle.nats_lines.specs.Operations.{Operation, message, info_op, error_op, ok_op, ping_op, pong_op, Front, unfinished, got, fault, front, past}
use Rattle.nats_history.specs.declared.call.CallReply.{CallReply}
use Rattle.nats_history.specs.declared.transcript.LinkWord.TheVariants as word
use Rattle.nats_history.specs.History.{Step, read, link_end, Sub, max_payload_after, info_after, infos_after, all_reads_after, new_events, end_events, unsubscribe_command, is_closing_at}
use Rattle.nats_history.specs.Tickets.{requests_elsewhere, request_at, request_reply, replied_if, asking_after, settled_by}
use Rattle.nats_history.specs.Counts.{statistics_after}
use Rattle.nats_history.specs.Schedule.{due_by, due_chain, due_call, write_limit}
use Rattle.nats_history.specs.After.{sub_after, written}
use Rattle.nats_session.specs.Handler.{Seen, seen_all, push_all}
use Rattle.nats_core.specs.Journal.{due_round}
use Rattle.nats_tables.specs.Numbers.{at_number, item_of}
use Rattle.nats_live.specs.Ended.{pong}
use Rattle.nats_live.specs.State.{Noise, Kept, default_config, state, begun}

-- ---- one due step

-- a round by what stands at the front, while a link is up
abbrev pub round_by : Front → Seen → Seen
round_by f seen = seen_all seen (due_chain seen.parts (due_by f seen.parts))

pub round_up : (mux : List ℕ) (n : Noise) (k : Kept) → k.up ≡ true
    → due_round (state mux n k) ≡ round_by (front k.unread) (state mux n k)
round_up mux n k up =
    ap (λ (b : Bool). seen_all (state mux n k)
    (due_chain (state mux n k).parts (if b then due_by (front k.unread) (state mux n k).parts else None))) up

pub round_down : (mux : List ℕ) (n : Noise) (k : Kept) → k.up ≡ false → due_round (state mux n k) ≡ state mux n k
round_down mux n k down =
    ap (λ (b : Bool). seen_all (state mux n k)
    (due_chain (state mux n k).parts (if b then due_by (front k.unread) (state mux n k).parts else None))) down

-- ---- an operation is read

abbrev pub noise_read : List ℕ → List Sub → Operation → Noise → Noise
noise_read mux rows op n = record {
  number = n.number;
  most = max_payload_after (read op) n.most;
  info = info_after (read op) n.info;
  infos = infos_after (read op) n.infos;
  reads = all_reads_after (read op) n.reads;
  statistics = statistics_after (default_config mux) (read op) n.statistics;
  events = push_all (new_events (default_config mux) rows (read op)) n.events;
}

-- nobody asked for a reply
no_asking : (b : Bool) (subject : List ℕ) → (if b then requests_elsewhere subject [] else []) ≡ []
no_asking true subject = refl
no_asking false subject = refl

pub none_asked : (op : Operation) → asking_after op [] ≡ []
none_asked (message sid m) = no_asking (sid == 0) m.subject
none_asked (info_op info) = refl
none_asked (error_op e) = refl
none_asked ok_op = refl
none_asked ping_op = refl
none_asked pong_op = refl

no_settled : (b : Bool) (subject : List ℕ) (reply : CallReply)
    → (if b then replied_if reply (request_at subject []) else []) ≡ []
no_settled true subject reply = refl
no_settled false subject reply = refl

pub none_settled : (op : Operation) → settled_by op [] ≡ []
none_settled (message sid m) = no_settled (sid == 0) m.subject (request_reply m)
none_settled (info_op info) = refl
none_settled (error_op e) = refl
none_settled ok_op = refl
none_settled ping_op = refl
none_settled pong_op = refl

-- ---- before any call

no_rows : (sid : ℕ) (f : Sub → Sub) → at_number sid f [] ≡ []
no_rows zero f = refl
no_rows (suc k) f = refl

no_item : (sid : ℕ) → item_of {A = Sub} sid [] ≡ None
no_item zero = refl
no_item (suc k) = refl

-- nothing asks for a message that has no subscription
unasked : (sid : ℕ) (waiting : List ℕ) → written true (unsubscribe_command (is_closing_at (item_of sid [])) sid None)
    waiting ≡ waiting ++ []
unasked sid waiting =
    ap (λ (o : Option Sub). written true (unsubscribe_command (is_closing_at o) sid None) waiting) (no_item sid)
    ∙ sym (append-nil waiting)

-- such a session by what an operation may change of it
abbrev begun_with : List ℕ → Noise → List Sub → List (ℕ × List ℕ) → List (ℕ × CallReply) → List ℕ → List ℕ → Seen
begun_with mux n rows asking ready unread waiting = state mux n (record {
  up = true;
  calls = [];
  subs = record { given = 0; subscribed = 0; rows = rows };
  tickets = record { given = 0; handled = 0; of_request = []; queued = []; flushing = []; asking = asking };
  ready = ready;
  unread = unread;
  waiting = waiting;
})

-- an operation is read: a PING is answered, and nothing else changes that matters
pub begun_read : (mux : List ℕ) (n : Noise) (unread waiting : List ℕ) (op : Operation) (m : ℕ)
    → round_by (got op m) (state mux n (begun true unread waiting))
    ≡ state mux (noise_read mux [] op n) (begun true (past (front unread) unread) (waiting ++ pong op))
begun_read mux n unread waiting (message sid m) k = λ i. begun_with mux (noise_read mux [] (message sid m) n)
    (no_rows sid (sub_after (default_config mux) (read (message sid m))) i) (none_asked (message sid m) i)
    (push_all (none_settled (message sid m) i) []) (past (front unread) unread) (unasked sid waiting i)
begun_read mux n unread waiting (info_op info) k =
    ap (λ (w : List ℕ). state mux (noise_read mux [] (info_op info) n) (begun true (past (front unread) unread) w))
    (sym (append-nil waiting))
begun_read mux n unread waiting (error_op e) k =
    ap (λ (w : List ℕ). state mux (noise_read mux [] (error_op e) n) (begun true (past (front unread) unread) w))
    (sym (append-nil waiting))
begun_read mux n unread waiting ok_op k =
    ap (λ (w : List ℕ). state mux (noise_read mux [] ok_op n) (begun true (past (front unread) unread) w))
    (sym (append-nil waiting))
begun_read mux n unread waiting ping_op k = refl
begun_read mux n unread waiting pong_op k =
    ap (λ (w : List ℕ). state mux (noise_read mux [] pong_op n) (begun true (past (front unread) unread) w))
    (sym (append-nil waiting))

abbrev pub noise_end : List ℕ → Noise → Noise
noise_end mux n = record {
  number = n.number;
  most = n.most;
  info = n.info;
  infos = n.infos;
  reads = n.reads;
  statistics = statistics_after (default_config mux) (link_end word.Fault) n.statistics;
  events = push_all (end_events word.Fault) n.events;
}

-- what is no operation ends the link
pub begun_fault : (mux : List ℕ) (n : Noise) (unread waiting : List ℕ) (m : ℕ)
    → round_by (fault m) (state mux n (begun true unread waiting)) ≡ state mux (noise_end mux n) (begun false [] [])
begun_fault mux n unread waiting m = refl

pub no_call : (room : Bool) → due_call room [] ≡ None
no_call true = refl
no_call false = refl

-- less than an operation leaves it as it is
pub begun_waits : (mux : List ℕ) (n : Noise) (unread waiting : List ℕ)
    → round_by unfinished (state mux n (begun true unread waiting)) ≡ state mux n (begun true unread waiting)
begun_waits mux n unread waiting =
    let s = state mux n (begun true unread waiting) in
    ap (λ (next : Option Step). seen_all s (due_chain s.parts next)) (no_call (nat_lt (length waiting) write_limit))
