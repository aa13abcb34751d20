-- How a session begins: its link comes up, and the bytes that came behind the handshake are its first piece.
use Rattle.std.proofs.Common.{◌≡◌, refl, ◌∙◌, sym, ap, subst, ℕ, true, nat_lt, List, [], length, None, Ok}
use Rattle.nats_info.specs.declared.info.ServerInfo.{ServerInfo}
use Rattle.nats_lines.specs.Operations.{Front, unfinished, front, sight}
use Rattle.nats_history.specs.declared.turn.Turn.TheVariants as turns
use Rattle.nats_history.specs.History.{opened, fed}
use Rattle.nats_history.specs.Schedule.{due, due_by, is_valid_turn, write_limit}
use Rattle.nats_session.specs.Handler.{Seen, idle, seen_after}
use Rattle.nats_core.specs.declared.entry.StepReply.{StepReply}
use Rattle.nats_core.specs.Journal.{Logged, all_due, new_core}
use Rattle.nats_core.proofs.Dues.{none_played, none_after_all}
use Rattle.nats_live.specs.Ended.{limit_with}
use Rattle.nats_live.specs.Flow.{HasBegun}
use Rattle.nats_live.specs.State.{default_config}
use Rattle.nats_live.specs.Steps.{PlaysWhole}
use Rattle.nats_live.proofs.Begins.{has_begun, reading_all, reading_fed, reading_up}
use Rattle.nats_live.proofs.Posting.{settled_played}
use Rattle.nats_live.proofs.States.{no_call}

-- nothing stands at the front of no bytes
front_none : front [] ≡ unfinished
unfolding front sight
front_none = refl

abbrev fresh : List ℕ → Seen
fresh mux = record { parts = idle (default_config mux); events = []; ready = [] }

-- nothing is due of a link that just came up
none_due : (mux : List ℕ) (info : ServerInfo) → due (seen_after (fresh mux) (opened info)).parts ≡ None
none_due mux info =
    let p = (seen_after (fresh mux) (opened info)).parts in
    ap (λ (f : Front). due_by f p) front_none ∙ no_call (nat_lt (length p.link.wire.waiting) write_limit)

-- a link came up on a new core
pub up_begun : (core new : Logged) (mux : List ℕ) (info : ServerInfo) (reply : StepReply)
    → core ≡ new_core (default_config mux) true
    → PlaysWhole core (turns.Up info) (Ok reply) new
    → HasBegun info.max_payload [] new.session × (new.session.parts.link.is_up ≡ true)
up_begun core new mux info reply is plays =
    let here = subst (λ (c : Logged). PlaysWhole c (turns.Up info) (Ok reply) new) is plays in
    let next = seen_after (fresh mux) (opened info) in
    let none : due (fresh mux).parts ≡ None = refl in
    let same : new.session ≡ all_due next =
    settled_played (new_core (default_config mux) true) new (turns.Up info) none here.2 in
    let reading = reading_all info.max_payload [] next (reading_up mux info) in (
      subst (HasBegun info.max_payload []) (sym same)
          (has_begun info.max_payload [] (all_due next) reading (none_after_all next)),
      ap (λ (s : Seen). s.parts.link.is_up) (same ∙ none_played next (none_due mux info)),
    )

-- it may always come up on one
pub up_comes : (core : Logged) (mux : List ℕ) (info : ServerInfo) → core ≡ new_core (default_config mux) true
    → is_valid_turn (all_due core.session).parts (turns.Up info) ≡ true
up_comes core mux info is =
    let none : due (fresh mux).parts ≡ None = refl in
    ap (λ (s : Seen). is_valid_turn s.parts (turns.Up info))
    (ap (λ (c : Logged). all_due c.session) is ∙ none_played (fresh mux) none)

-- the first piece came
pub fed_begun : (most : ℕ) (bytes : List ℕ) (old new : Logged) (reply : StepReply) → HasBegun most [] old.session
    → old.session.parts.link.is_up ≡ true → PlaysWhole old (turns.Piece bytes) (Ok reply) new
    → HasBegun (limit_with most bytes) bytes new.session
fed_begun most bytes old new reply b up plays =
    let next = seen_after old.session (fed bytes) in
    let same : new.session ≡ all_due next = settled_played old new (turns.Piece bytes) b.settled plays.2 in
    subst (HasBegun (limit_with most bytes) bytes) (sym same)
    (has_begun most bytes (all_due next) (reading_all most bytes next (reading_fed most bytes old.session b up))
    (none_after_all next))

-- it may come while the link is up
pub piece_comes : (most : ℕ) (bytes : List ℕ) (old : Logged) → HasBegun most [] old.session
    → old.session.parts.link.is_up ≡ true
    → is_valid_turn (all_due old.session).parts (turns.Piece bytes) ≡ true
piece_comes most bytes old b up = ap (λ (s : Seen). s.parts.link.is_up) (none_played old.session b.settled) ∙ up
