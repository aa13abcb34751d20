-- A flush, as its loop sees it: what the link took goes on to the whole text, until the flush is settled.
use Rattle.std.proofs.Common.{◌≡◌, refl, ◌∙◌, sym, ap, subst, inl, inr, ◌⊎◌, ℕ, ◌+◌, ◌≤◌, arith, Bool, true, false, true≢false, ◌==◌, List, [], ◌∷◌, ◌++◌, length, take, append_assoc, append-nil, Option, Some, None, IfSome, if◌then◌else◌, Result, Ok, Err}
use Rattle.std.specs.Io.KnownBytes.{append_known}
use Rattle.std.proofs.lemmas.Bool.{false≢true}
use Rattle.std.proofs.lemmas.Option.{none-some}
use Rattle.nats_addr.specs.Resolving.{risen}
use Rattle.nats_outside.specs.Told.{WriteTold}
use Rattle.nats_dial.specs.Lines.{Took}
use Rattle.nats_history.specs.declared.call.CallReply.{CallReply}
use Rattle.nats_history.specs.declared.call.CallReply.TheVariants as replies
use Rattle.nats_history.specs.declared.turn.Turn.TheVariants as turns
use Rattle.nats_history.specs.Schedule.{due, own_steps}
use Rattle.nats_session.specs.Handler.{Seen, seen_all}
use Rattle.nats_tickets.specs.Kept.{reply_in, without}
use Rattle.nats_core.specs.declared.answers.WriteOnce.{WriteOnce}
use Rattle.nats_core.specs.declared.answers.WriteOnce.TheVariants as writes
use Rattle.nats_core.specs.Journal.{Logged, all_due}
use Rattle.nats_core.proofs.Dues.{none_played, none_after_all}
use Rattle.nats_live.specs.declared.error.LiveError.{LiveError}
use Rattle.nats_live.specs.Flow.{Phase, sending, both, sent, flush_waits, flush_awaits, flush_done, FitsPhase, Flushes, FlushEnds, IsSettled, ready_at, unwritten_at}
use Rattle.nats_live.specs.Steps.{WritesWhole}
use Rattle.nats_live.proofs.Sending.{Going, going_all, going_flushes, going_lost, going_up, going_write, flushes_going, flushes_off, off_all}

-- ---- what a half took

took_known : (text more : List ℕ) (known : Option (List ℕ)) → IfSome known (λ (b : List ℕ). b ≡ text)
    → IfSome (append_known known more) (λ (b : List ℕ). b ≡ text ++ more)
took_known text more None is = tt
took_known text more (Some bytes) is = ap (λ (b : List ℕ). b ++ more) is

-- it took more
pub took_more : (text more : List ℕ) (w after : WriteTold) → Took text w
    → after ≡ record w { taken = append_known w.taken more } → Took (text ++ more) after
took_more text more w after took is = subst (Took (text ++ more)) (sym is) (took_known text more w.taken took)

-- or it failed
pub took_failed : (text : List ℕ) (w after : WriteTold) → Took text w → after ≡ record w { faults = risen 1 w.faults }
    → Took text after
took_failed text w after took is = subst (Took text) (sym is) took

pub failed_once : (w after : WriteTold) → after ≡ record w { faults = risen 1 w.faults }
    → (1 ≤ after.faults) × (w.faults ≤ after.faults)
failed_once w after is =
    subst (λ (x : WriteTold). (1 ≤ x.faults) × (w.faults ≤ x.faults)) (sym is) (omega arith, omega arith)

-- ---- a flush on the way

-- the flush's session on a link that took some text before; where it is over it was so from the beginning, or the half failed
pub record FlushesOn (text head : List ℕ) (up : Bool) (seen : Seen) (w : WriteTold) : Type 0 where
  pub took : List ℕ
  pub flushes : Flushes text took seen
  pub wrote : Took (head ++ took) w
  pub over : seen.parts.link.is_up ≡ false → (up ≡ false) ⊎ (1 ≤ w.faults)

-- a reply that isn't there is not handed out
none_without : (t : ℕ) (xs : List (ℕ × CallReply)) → reply_in t xs ≡ None → without t xs ≡ xs
none_without t [] none = refl
none_without t (x ∷ xs) none = by (t == x.0) (none_without t xs) none
  where
    by : (b : Bool) → (reply_in t xs ≡ None → without t xs ≡ xs) → (if b then Some x.1 else reply_in t xs) ≡ None
        → (if b then xs else x ∷ without t xs) ≡ x ∷ xs
    by true rest is = absurd (none-some x.1 (sym is))
    by false rest is = ap (λ (l : List (ℕ × CallReply)). x ∷ l) (rest is)

-- a session whose flush is not settled, once nothing is due, is as it was
unsettled : (old mid : Logged) → due old.session.parts ≡ None → IsSettled 1 old None mid
    → all_due mid.session ≡ old.session
unsettled old mid none settled =
    ap (λ (c : Logged). all_due c.session) settled.2
    ∙ (ap (λ (ready : List (ℕ × CallReply)). all_due (record old.session { ready = ready }))
    (none_without 1 old.session.ready settled.0)
    ∙ none_played old.session none)

-- one write
pub flush_step : (text head : List ℕ) (up : Bool) (old mid new : Logged) (w after : WriteTold) (once : WriteOnce)
    → IsSettled 1 old None mid → FlushesOn text head up old.session w → WritesWhole mid w after (Ok once) new
    → FlushesOn text head up new.session after
flush_step text head up old mid new w after (writes.Wrote n) settled on wrote =
    let same = unsettled old mid on.flushes.2.settled settled in
    let bytes = old.session.parts.link.wire.waiting in
    let g = going_flushes text on.took old.session on.flushes settled.1 in
    let next = seen_all old.session (own_steps old.session.parts (turns.Write n)) in
    let fits : n ≤ length bytes = subst (λ (s : Seen). n ≤ length s.parts.link.wire.waiting) same wrote.2 in
    let far = going_all text (on.took ++ take n bytes) true true next
    (going_write text on.took n old.session g fits) in
    let is : new.session ≡ all_due next =
    ap (λ (c : Logged). c.session) wrote.4
    ∙ ap (λ (s : Seen). all_due (seen_all s (own_steps s.parts (turns.Write n)))) same in
    record {
      took = on.took ++ take n bytes;
      flushes = subst (Flushes text (on.took ++ take n bytes)) (sym is)
          (flushes_going text (on.took ++ take n bytes) true (all_due next) far (none_after_all next));
      wrote = subst (λ (t : List ℕ). Took t after) (append_assoc head on.took (take n bytes))
          (took_more (head ++ on.took) (take n bytes) w after on.wrote
          (wrote.3 ∙ ap (λ (s : Seen). record w
          { taken = append_known w.taken (take n s.parts.link.wire.waiting) }) same));
      over = λ down. absurd (true≢false
          (sym (going_up text (on.took ++ take n bytes) true true (all_due next) far)
          ∙ (ap (λ (s : Seen). s.parts.link.is_up) (sym is) ∙ down)));
    }
flush_step text head up old mid new w after writes.Idle settled on wrote =
    let same = unsettled old mid on.flushes.2.settled settled in
    let is : new.session ≡ old.session = ap (λ (c : Logged). c.session) wrote.3 ∙ same in
    subst (λ (x : WriteTold). FlushesOn text head up new.session x) (sym wrote.2)
    (subst (λ (s : Seen). FlushesOn text head up s w) (sym is) on)
flush_step text head up old mid new w after writes.Lost settled on wrote =
    let same = unsettled old mid on.flushes.2.settled settled in
    let g = going_flushes text on.took old.session on.flushes settled.1 in
    let next = seen_all old.session (own_steps old.session.parts turns.Lost) in
    let is : new.session ≡ all_due next =
    ap (λ (c : Logged). c.session) wrote.2
    ∙ ap (λ (s : Seen). all_due (seen_all s (own_steps s.parts turns.Lost))) same in
    record {
      took = on.took;
      flushes = subst (Flushes text on.took) (sym is)
          (flushes_off text on.took (all_due next) (off_all next (going_lost text on.took old.session g settled.0)));
      wrote = took_failed (head ++ on.took) w after on.wrote wrote.1;
      over = λ down. inr (failed_once w after wrote.1).0;
    }
flush_step text head up old mid new w after writes.Gone settled on wrote =
    let same = unsettled old mid on.flushes.2.settled settled in
    absurd (false≢true (sym wrote.0 ∙ (ap (λ (s : Seen). s.parts.link.is_up) same ∙ settled.1)))

-- ---- its end

-- the reply that is there, by the phase
reply_at : (phase : Phase) → (reply_in 1 (ready_at phase) ≡ None)
    ⊎ (reply_in 1 (ready_at phase) ≡ Some replies.Flushed)
reply_at (sending m) = inl refl
reply_at sent = inl refl
reply_at (both m) = inl refl
reply_at flush_waits = inl refl
reply_at flush_awaits = inl refl
reply_at flush_done = inr refl

-- once it is flushed all was taken
all_taken : (text took waiting : List ℕ) (phase : Phase) → reply_in 1 (ready_at phase) ≡ Some replies.Flushed
    → FitsPhase phase waiting
    → took ++ (waiting ++ unwritten_at phase) ≡ text → took ≡ text
all_taken text took waiting (sending m) reply fits is = absurd (none-some replies.Flushed reply)
all_taken text took waiting sent reply fits is = absurd (none-some replies.Flushed reply)
all_taken text took waiting (both m) reply fits is = absurd (none-some replies.Flushed reply)
all_taken text took waiting flush_waits reply fits is = absurd (none-some replies.Flushed reply)
all_taken text took waiting flush_awaits reply fits is = absurd (none-some replies.Flushed reply)
all_taken text took waiting flush_done reply fits is =
    sym (append-nil took) ∙ (ap (λ (w : List ℕ). took ++ (w ++ [])) (sym fits) ∙ is)

flushed_all : (text head : List ℕ) (up : Bool) (seen : Seen) (w : WriteTold) → FlushesOn text head up seen w
    → reply_in 1 seen.ready ≡ Some replies.Flushed → Took (head ++ text) w
flushed_all text head up seen w on reply = by seen.parts.link.is_up refl
  where
    by : (b : Bool) → seen.parts.link.is_up ≡ b → Took (head ++ text) w
    by true it_is =
        let g = going_flushes text on.took seen on.flushes it_is in
        subst (λ (t : List ℕ). Took (head ++ t) w)
        (all_taken text on.took g.waiting g.phase (ap (λ (s : Seen). reply_in 1 s.ready) (sym g.is) ∙ reply) g.fits
        (g.ups refl).1)
        on.wrote
    by false it_is_not = absurd (on.flushes.2.downs it_is_not reply)

over_by : (text head : List ℕ) (up : Bool) (seen : Seen) (w : WriteTold) → FlushesOn text head up seen w
    → ((reply_in 1 seen.ready ≡ Some replies.Flushed) → ⊥) →
    ((reply_in 1 seen.ready ≡ None) → seen.parts.link.is_up ≡ false)
    → (up ≡ false) ⊎ (1 ≤ w.faults)
over_by text head up seen w on unflushed gone = by seen.parts.link.is_up refl
  where
    by_reply : (g : Going text on.took true true seen)
        → (reply_in 1 (ready_at g.phase) ≡ None) ⊎ (reply_in 1 (ready_at g.phase) ≡ Some replies.Flushed)
        → seen.parts.link.is_up ≡ true → (up ≡ false) ⊎ (1 ≤ w.faults)
    by_reply g (inl none) it_is = on.over (gone (ap (λ (s : Seen). reply_in 1 s.ready) g.is ∙ none))
    by_reply g (inr flushed) it_is = absurd (unflushed (ap (λ (s : Seen). reply_in 1 s.ready) g.is ∙ flushed))

    by : (b : Bool) → seen.parts.link.is_up ≡ b → (up ≡ false) ⊎ (1 ≤ w.faults)
    by true it_is =
        let g = going_flushes text on.took seen on.flushes it_is in
        by_reply g (reply_at g.phase) it_is
    by false it_is_not = on.over it_is_not

-- it is settled
pub flush_ends : (text head : List ℕ) (up : Bool) (old new : Logged) (w : WriteTold)
    (end : Result (Unit {0}) LiveError)
    → IsSettled 1 old (Some end) new → FlushesOn text head up old.session w → FlushEnds up (head ++ text) end w
flush_ends text head up old new w (Ok done) settled on = flushed_all text head up old.session w on settled
flush_ends text head up old new w (Err e) settled on =
    subst (λ (x : LiveError). FlushEnds up (head ++ text) (Err x) w) (sym settled.0)
    (over_by text head up old.session w on settled.1.0 settled.1.1)

-- how it begins
pub flush_begins : (text took head : List ℕ) (seen : Seen) (w : WriteTold) → Flushes text took seen
    → Took (head ++ took) w
    → FlushesOn text head seen.parts.link.is_up seen w
flush_begins text took head seen w flushes wrote =
    record { took = took; flushes = flushes; wrote = wrote; over = λ down. inl down }
