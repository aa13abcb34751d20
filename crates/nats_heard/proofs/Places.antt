-- Puts and drops by their places are in the order of reading.
use Rattle.std.proofs.Common.{◌≡◌, ℕ, zero, suc, ◌<◌, ◌≤◌, Bool, true, false, not, ◌&&◌, cond, List, [], ◌∷◌, ◌++◌, length, drop, filter, map, Option, Some, None, ◌⊎◌, inl, inr, refl, sym, ◌∙◌, ap, append_assoc, arith, subst}
use Rattle.std.specs.Prelude.{nat_lt, if◌then◌else◌}
use Rattle.std.proofs.lemmas.List.{append-nil, map-append, length-append, length-drop}
use Rattle.std.proofs.lemmas.Bool.{false≢true, ltb-false, lt-ltb, le-ltb}
use Rattle.nats_message.specs.declared.message.Message.{Message}
use Rattle.nats_lines.specs.Operations.{message, Front, front, got, unfinished, fault}
use Rattle.nats_history.specs.declared.config.Config.{Config}
use Rattle.nats_history.specs.declared.call.Call.{Call}
use Rattle.nats_history.specs.declared.call.TakeReply.{TakeReply}
use Rattle.nats_history.specs.declared.call.TakeReply.TheVariants as takes
use Rattle.nats_history.specs.declared.stage.Stage.{Stage}
use Rattle.nats_history.specs.declared.stage.Stage.TheVariants.{Asked, Open, Ended}
use Rattle.nats_history.specs.declared.turn.Turn.{Turn}
use Rattle.nats_history.specs.declared.turn.Turn.TheVariants.{Up, Piece, Write, Take}
use Rattle.nats_history.specs.History.{Step, read, took, gone, closed, History, second, concerns, at_of, Told, sub_of, is_open, listens, has_room, puts, drops, ends, opens, open_if, end_if, shut_after, puts_by, drops_by, told_after, told}
use Rattle.nats_history.specs.Parts.{Parts, parts_of}
use Rattle.nats_history.specs.Schedule.{chain, took_step, own_steps, take_reply, due_call, due_by, due, put_steps, most_due, write_limit, settled_within, after_turn, steps_from, steps}
use Rattle.nats_heard.specs.Heard.{heard, is_asked, is_before, is_from, by_place, HeardByPlace}
use Rattle.nats_heard.proofs.Steps.{Passes, AreAll, followers_all, OwnPasses, own_all}
use Rattle.nats_heard.proofs.Prefixes.{shut_stays, both}

abbrev Rows : Type 0
Rows = List (ℕ × Message)

-- ---- rows by their places

-- each stands before that place
abbrev AllBelow : ℕ → Rows → Type 0
AllBelow n [] = Unit {0}
AllBelow n (row ∷ rows) = (row.0 < n) × AllBelow n rows

below_more : (n m : ℕ) (rows : Rows) → n ≤ m → AllBelow n rows → AllBelow m rows
below_more n m [] more below = below
below_more n m (row ∷ rows) more below = (omega (arith, more, below.0), below_more n m rows more below.1)

below_both : (n : ℕ) (some more : Rows) → AllBelow n some → AllBelow n more → AllBelow n (some ++ more)
below_both n [] more below above = above
below_both n (row ∷ some) more below above = (below.0, below_both n some more below.1 above)

below_part : (n : ℕ) (f : ℕ × Message → Bool) (rows : Rows) → AllBelow n rows → AllBelow n (filter f rows)
below_part n f [] below = below
below_part n f (row ∷ rows) below = by (f row) (below_part n f rows below.1)
  where
    by : (b : Bool) → AllBelow n (filter f rows) → AllBelow n (cond b (row ∷ filter f rows) (filter f rows))
    by true more = (below.0, more)
    by false more = more

-- all that stand before a place are before it, and none is from it on
all_before : (n : ℕ) (rows : Rows) → AllBelow n rows → filter (is_before n) rows ≡ rows
all_before n [] below = refl
all_before n (row ∷ rows) below =
    ap (λ b. cond b (row ∷ filter (is_before n) rows) (filter (is_before n) rows)) (lt-ltb row.0 n below.0)
    ∙ ap (λ more. row ∷ more) (all_before n rows below.1)

none_from : (n : ℕ) (rows : Rows) → AllBelow n rows → filter (is_from n) rows ≡ []
none_from n [] below = refl
none_from n (row ∷ rows) below =
    ap (λ b. cond (not b) (row ∷ filter (is_from n) rows) (filter (is_from n) rows)) (lt-ltb row.0 n below.0)
    ∙ none_from n rows below.1

-- one more row is not before a place up to its own, and is from it on
last_before : (n : ℕ) (rows : Rows) (last : ℕ × Message) → n ≤ last.0 → filter (is_before n) (rows ++ last ∷ []) ≡ filter (is_before n) rows
last_before n [] last from = ap (λ b. cond b (last ∷ []) []) (le-ltb last.0 n from)
last_before n (row ∷ rows) last from =
    ap (λ more. cond (is_before n row) (row ∷ more) more) (last_before n rows last from)

last_from : (n : ℕ) (rows : Rows) (last : ℕ × Message) → n ≤ last.0
    → filter (is_from n) (rows ++ last ∷ []) ≡ filter (is_from n) rows ++ last ∷ []
last_from n [] last from = ap (λ b. cond (not b) (last ∷ []) []) (le-ltb last.0 n from)
last_from n (row ∷ rows) last from =
    ap (λ more. cond (is_from n row) (row ∷ more) more) (last_from n rows last from) ∙ by (is_from n row)
  where
    by : (b : Bool) → cond b (row ∷ (filter (is_from n) rows ++ last ∷ [])) (filter (is_from n) rows ++ last ∷ [])
        ≡ cond b (row ∷ filter (is_from n) rows) (filter (is_from n) rows) ++ last ∷ []
    by true = refl
    by false = refl

-- a drop that comes behind all puts is the last
one_dropped : (puts drops : Rows) (last : ℕ × Message) → AllBelow (suc last.0) puts
    → by_place puts (drops ++ last ∷ []) ≡ by_place puts drops ++ second last ∷ []
one_dropped [] drops last below = map-append second drops (last ∷ [])
one_dropped (put ∷ puts) drops last below =
    let from : put.0 ≤ last.0 = omega (arith, below.0) in
    let early = map second (filter (is_before put.0) drops) in
    ap (λ rows. map second rows ++ second put ∷ by_place puts (filter (is_from put.0) (drops ++ last ∷ []))) (last_before put.0 drops last from)
    ∙ ap (λ rows. early ++ second put ∷ by_place puts rows) (last_from put.0 drops last from)
    ∙ ap (λ more. early ++ second put ∷ more) (one_dropped puts (filter (is_from put.0) drops) last below.1)
    ∙ sym (append_assoc early (second put ∷ by_place puts (filter (is_from put.0) drops)) (second last ∷ []))

-- a put that comes behind all drops, at a later place, is the last
one_put : (puts drops : Rows) (last : ℕ × Message) → AllBelow last.0 drops
    → by_place (puts ++ last ∷ []) drops ≡ by_place puts drops ++ second last ∷ []
one_put [] drops last below =
    ap (λ rows. map second rows ++ second last ∷ map second (filter (is_from last.0) drops)) (all_before last.0 drops below)
    ∙ ap (λ rows. map second drops ++ second last ∷ map second rows) (none_from last.0 drops below)
one_put (put ∷ puts) drops last below =
    let early = map second (filter (is_before put.0) drops) in
    ap (λ more. early ++ second put ∷ more) (one_put puts (filter (is_from put.0) drops) last (below_part last.0 (is_from put.0) drops below))
    ∙ sym (append_assoc early (second put ∷ by_place puts (filter (is_from put.0) drops)) (second last ∷ []))

-- ---- what puts nothing more before the next take

record Blocked (c : Config) (t : Told) : Type 0 where
  begun : is_asked t.stage ≡ false
  none : (listens (sub_of t) ≡ false) ⊎ (has_room c (sub_of t) ≡ false)

-- a step that takes no message
abbrev is_calm : Step → Bool
is_calm (took sid) = false
is_calm step = true

calm_passes : Passes is_calm
calm_passes = record {
  ticks = refl;
  accepts = λ call. refl;
  goes = λ sid. refl;
  passes = λ ticket. refl;
  ends = λ end. refl;
  closes = refl;
}

pub begun_stays : (a b : Bool) (stage : Stage) → is_asked stage ≡ false → is_asked (end_if a (open_if b stage)) ≡ false
begun_stays a b Asked begun = absurd (false≢true (sym begun))
begun_stays true true Open begun = refl
begun_stays true false Open begun = refl
begun_stays false true Open begun = refl
begun_stays false false Open begun = refl
begun_stays true true Ended begun = refl
begun_stays true false Ended begun = refl
begun_stays false true Ended begun = refl
begun_stays false false Ended begun = refl

open_still : (shut later : Bool) → (later ≡ false → shut ≡ false) → not shut ≡ false → not later ≡ false
open_still shut true stays deaf = refl
open_still shut false stays deaf = sym (ap not (stays refl)) ∙ deaf

deaf_stays : (a b : Bool) (stage : Stage) (shut later : Bool) → is_asked stage ≡ false → (later ≡ false → shut ≡ false)
    → (is_open stage && not shut) ≡ false → (is_open (end_if a (open_if b stage)) && not later) ≡ false
deaf_stays a b Asked shut later begun stays deaf = absurd (false≢true (sym begun))
deaf_stays true true Open shut later begun stays deaf = refl
deaf_stays true false Open shut later begun stays deaf = refl
deaf_stays false true Open shut later begun stays deaf = open_still shut later stays deaf
deaf_stays false false Open shut later begun stays deaf = open_still shut later stays deaf
deaf_stays true true Ended shut later begun stays deaf = refl
deaf_stays true false Ended shut later begun stays deaf = refl
deaf_stays false true Ended shut later begun stays deaf = refl
deaf_stays false false Ended shut later begun stays deaf = refl

and_false : (b : Bool) → (b && false) ≡ false
and_false true = refl
and_false false = refl

as_many : (rows : Rows) → length (map second rows) ≡ length rows
as_many [] = refl
as_many (row ∷ rows) = ap suc (as_many rows)

full_stays : (capacity takes : ℕ) (some more : Rows) → nat_lt (length (map second (drop takes some))) capacity ≡ false
    → nat_lt (length (map second (drop takes (some ++ more)))) capacity ≡ false
full_stays capacity takes some more full =
    let most : capacity ≤ length (map second (drop takes some)) = ltb-false (length (map second (drop takes some))) capacity full in
    le-ltb (length (map second (drop takes (some ++ more)))) capacity
    (omega (arith, most, as_many (drop takes some), length-drop takes some, as_many (drop takes (some ++ more)), length-drop takes (some ++ more), length-append some more))

module _ (c : Config) (now : ℕ) where
  blocked_stays : (step : Step) (t : Told) → is_calm step ≡ true → Blocked c t → Blocked c (told_after c now step t)
  blocked_stays (took sid) t calm blocked = absurd (false≢true calm)
  blocked_stays (gone sid) t calm blocked = record {
    begun = begun_stays (ends c (sub_of t) (gone sid)) (opens (gone sid)) t.stage blocked.begun;
    none = inl (and_false (is_open (end_if (ends c (sub_of t) (gone sid)) (open_if (opens (gone sid)) t.stage))));
  }
  blocked_stays step t calm blocked = record {
    begun = begun_stays (ends c (sub_of t) step) (opens step) t.stage blocked.begun;
    none = none blocked.none;
  }
    where
      none : (listens (sub_of t) ≡ false) ⊎ (has_room c (sub_of t) ≡ false)
          → (listens (sub_of (told_after c now step t)) ≡ false) ⊎ (has_room c (sub_of (told_after c now step t)) ≡ false)
      none (inl deaf) = inl (deaf_stays (ends c (sub_of t) step) (opens step) t.stage t.is_shut (shut_after step t.is_shut) blocked.begun (shut_stays step t.is_shut) deaf)
      none (inr full) = inr (full_stays c.subscription_capacity t.takes t.puts (puts_by c now (sub_of t) step) full)

  -- what stands before the turn at a place, and while it is played: what is put and dropped is in order, and where a
  -- message was dropped in the turn none is put any more
  record Placed (t : Told) (xs : List Message) : Type 0 where
    puts_up : AllBelow (suc now) t.puts
    drops_up : AllBelow (suc now) t.drops
    merged : by_place t.puts t.drops ≡ xs
    clear : AllBelow now t.drops ⊎ Blocked c t

  -- a step that puts and drops nothing
  quiet_placed : (step : Step) (t t' : Told) (xs : List Message) → t'.puts ≡ t.puts ++ [] → t'.drops ≡ t.drops ++ []
      → (Blocked c t → AllBelow now t.drops ⊎ Blocked c t') → Placed t xs → Placed t' (xs ++ [])
  quiet_placed step t t' xs puts drops stays placed = record {
    puts_up = subst (AllBelow (suc now)) (sym same_puts) placed.puts_up;
    drops_up = subst (AllBelow (suc now)) (sym same_drops) placed.drops_up;
    merged = ap (λ rows. by_place rows t'.drops) same_puts ∙ ap (λ rows. by_place t.puts rows) same_drops ∙ placed.merged ∙ sym (append-nil xs);
    clear = still placed.clear;
  }
    where
      same_puts : t'.puts ≡ t.puts
      same_puts = puts ∙ append-nil t.puts

      same_drops : t'.drops ≡ t.drops
      same_drops = drops ∙ append-nil t.drops

      low : AllBelow now t.drops ⊎ Blocked c t' → AllBelow now t'.drops ⊎ Blocked c t'
      low (inl below) = inl (subst (AllBelow now) (sym same_drops) below)
      low (inr blocked) = inr blocked

      still : AllBelow now t.drops ⊎ Blocked c t → AllBelow now t'.drops ⊎ Blocked c t'
      still (inl below) = low (inl below)
      still (inr blocked) = low (stays blocked)

  -- a message that is read, by whether it is put and whether it is dropped
  message_placed : (m : Message) (t t' : Told) (xs : List Message) (is_put is_dropped : Bool)
      → t'.puts ≡ t.puts ++ (if is_put then (now, m) ∷ [] else []) → t'.drops ≡ t.drops ++ (if is_dropped then (now, m) ∷ [] else [])
      → (is_put ≡ true → is_dropped ≡ false) → (is_put ≡ true → AllBelow now t.drops) → (is_dropped ≡ true → Blocked c t')
      → (Blocked c t → Blocked c t') → Placed t xs
      → Placed t' (xs ++ map second ((if is_put then (now, m) ∷ [] else []) ++ (if is_dropped then (now, m) ∷ [] else [])))
  message_placed m t t' xs true true puts drops one low full stays placed = absurd (false≢true (sym (one refl)))
  message_placed m t t' xs true false puts drops one low full stays placed = record {
    puts_up = subst (AllBelow (suc now)) (sym puts) (below_both (suc now) t.puts ((now, m) ∷ []) placed.puts_up (omega arith, tt));
    drops_up = subst (AllBelow (suc now)) (sym same_drops) placed.drops_up;
    merged = ap (λ rows. by_place rows t'.drops) puts ∙ ap (λ rows. by_place (t.puts ++ (now, m) ∷ []) rows) same_drops
        ∙ one_put t.puts t.drops (now, m) (low refl) ∙ ap (λ ys. ys ++ m ∷ []) placed.merged;
    clear = inl (subst (AllBelow now) (sym same_drops) (low refl));
  }
    where
      same_drops : t'.drops ≡ t.drops
      same_drops = drops ∙ append-nil t.drops
  message_placed m t t' xs false true puts drops one low full stays placed = record {
    puts_up = subst (AllBelow (suc now)) (sym same_puts) placed.puts_up;
    drops_up = subst (AllBelow (suc now)) (sym drops) (below_both (suc now) t.drops ((now, m) ∷ []) placed.drops_up (omega arith, tt));
    merged = ap (λ rows. by_place rows t'.drops) same_puts ∙ ap (λ rows. by_place t.puts rows) drops
        ∙ one_dropped t.puts t.drops (now, m) placed.puts_up ∙ ap (λ ys. ys ++ m ∷ []) placed.merged;
    clear = inr (full refl);
  }
    where
      same_puts : t'.puts ≡ t.puts
      same_puts = puts ∙ append-nil t.puts
  message_placed m t t' xs false false puts drops one low full stays placed =
      quiet_placed closed t t' xs puts drops (λ blocked. inr (stays blocked)) placed

  not_both : (hears room : Bool) → (hears && room) ≡ true → (hears && not room) ≡ false
  not_both true true is = refl
  not_both true false is = absurd (false≢true is)
  not_both false room is = refl

  none_put : (t : Told) → Blocked c t → puts c (sub_of t) ≡ true → ⊥
  none_put t blocked is = by blocked.none (both (listens (sub_of t)) (has_room c (sub_of t)) is)
    where
      by : (listens (sub_of t) ≡ false) ⊎ (has_room c (sub_of t) ≡ false)
          → (listens (sub_of t) ≡ true) × (has_room c (sub_of t) ≡ true) → ⊥
      by (inl deaf) (hears, room) = absurd (false≢true (sym deaf ∙ hears))
      by (inr full) (hears, room) = absurd (false≢true (sym full ∙ room))

  -- a step that concerns the subscription
  told_placed : (step : Step) (t : Told) (xs : List Message) → (is_calm step ≡ true) ⊎ AllBelow now t.drops → Placed t xs
      → Placed (told_after c now step t) (xs ++ map second (puts_by c now (sub_of t) step ++ drops_by c now (sub_of t) step))
  told_placed (read (message sid m)) t xs may placed =
      message_placed m t (told_after c now (read (message sid m)) t) xs (puts c (sub_of t)) (drops c (sub_of t)) refl refl
      (not_both (listens (sub_of t)) (has_room c (sub_of t))) low full (blocked_stays (read (message sid m)) t refl) placed
    where
      low_by : AllBelow now t.drops ⊎ Blocked c t → puts c (sub_of t) ≡ true → AllBelow now t.drops
      low_by (inl below) is = below
      low_by (inr blocked) is = absurd (none_put t blocked is)

      low : puts c (sub_of t) ≡ true → AllBelow now t.drops
      low is = low_by placed.clear is

      begun : (stage : Stage) (shut : Bool) → (is_open stage && not shut) ≡ true → is_asked stage ≡ false
      begun Asked shut is = absurd (false≢true is)
      begun Open shut is = refl
      begun Ended shut is = absurd (false≢true is)

      full : drops c (sub_of t) ≡ true → Blocked c (told_after c now (read (message sid m)) t)
      full is = by (both (listens (sub_of t)) (not (has_room c (sub_of t))) is)
        where
          lost : (b : Bool) → not b ≡ true → b ≡ false
          lost true e = absurd (false≢true e)
          lost false e = refl

          by : (listens (sub_of t) ≡ true) × (not (has_room c (sub_of t)) ≡ true) → Blocked c (told_after c now (read (message sid m)) t)
          by (hears, none) = blocked_stays (read (message sid m)) t refl
              (record { begun = begun t.stage t.is_shut hears; none = inr (lost (has_room c (sub_of t)) none) })
  told_placed (took sid) t xs may placed =
      quiet_placed (took sid) t (told_after c now (took sid) t) xs refl refl (λ blocked. inl (by may)) placed
    where
      by : (false ≡ true) ⊎ AllBelow now t.drops → AllBelow now t.drops
      by (inl calm) = absurd (false≢true calm)
      by (inr below) = below
  told_placed step t xs may placed =
      quiet_placed step t (told_after c now step t) xs refl refl (λ blocked. inr (blocked_stays step t refl blocked)) placed

  module _ (s : ℕ) where
    -- what a history tells of the subscription
    abbrev Stands : History → Type 0
    Stands h = Placed (told c s h) (heard c s h)

    step_placed : (step : Step) (h : History) → (is_calm step ≡ true) ⊎ AllBelow now (told c s h).drops → Stands h → Stands ((now, step) ∷ h)
    step_placed step h may placed = by (concerns s (at_of h) step)
      where
        t : Told
        t = told c s h

        by : (b : Bool) → Placed (if b then told_after c now step t else t)
            (heard c s h ++ (if b then map second (puts_by c now (sub_of t) step ++ drops_by c now (sub_of t) step) else []))
        by true = told_placed step t (heard c s h) may placed
        by false = subst (Placed t) (sym (append-nil (heard c s h))) placed

    -- ---- the steps of a turn

    all_placed : (steps : List Step) (h : History) → AreAll is_calm steps → Stands h → Stands (put_steps now steps h)
    all_placed [] h calm placed = placed
    all_placed (step ∷ steps) h calm placed =
        all_placed steps ((now, step) ∷ h) calm.1 (step_placed step h (inl calm.0) placed)

    abbrev IsCalm : Option Step → Type 0
    IsCalm None = Unit {0}
    IsCalm (Some step) = is_calm step ≡ true

    due_calm : (p : Parts) → IsCalm (due p)
    due_calm p = by_up p.link.is_up
      where
        by_call : (b : Bool) (calls : List Call) → IsCalm (due_call b calls)
        by_call true [] = tt
        by_call true (call ∷ more) = refl
        by_call false calls = tt

        by_front : (found : Front) → IsCalm (due_by found p)
        by_front (got operation n) = refl
        by_front (fault n) = refl
        by_front unfinished = by_call (nat_lt (length p.link.wire.waiting) write_limit) p.calls

        by_up : (b : Bool) → IsCalm (if b then due_by (front p.link.wire.unread) p else None)
        by_up true = by_front (front p.link.wire.unread)
        by_up false = tt

    within_placed : (most : ℕ) (next : Option Step) (h : History) → IsCalm next → Stands h → Stands (settled_within c now most next h)
    within_placed most None h calm placed = placed
    within_placed zero (Some step) h calm placed = placed
    within_placed (suc most) (Some step) h calm placed =
        let more = put_steps now (chain (parts_of c h) step) h in
        within_placed most (due (parts_of c more)) more (due_calm (parts_of c more))
        (all_placed (chain (parts_of c h) step) h (calm, followers_all is_calm calm_passes (parts_of c h) step) placed)

    quiet_turn : (p : Parts) (turn : Turn) (h : History) → OwnPasses is_calm calm_passes turn → Stands h → Stands (put_steps now (own_steps p turn) h)
    quiet_turn p turn h calm placed = all_placed (own_steps p turn) h (own_all is_calm calm_passes p turn calm) placed

    -- a turn's own steps: a take is the first of its turn, before which none was dropped in it
    own_placed : (p : Parts) (turn : Turn) (h : History) → AllBelow now (told c s h).drops → Stands h → Stands (put_steps now (own_steps p turn) h)
    own_placed p (Take sid) h low placed = by (take_reply p sid)
      where
        by : (reply : TakeReply) → Stands (put_steps now (took_step sid reply) h)
        by (takes.Message m) = step_placed (took sid) h (inr low) placed
        by takes.Empty = placed
        by takes.Ended = placed
    own_placed p (Up info) h low placed = quiet_turn p (Up info) h refl placed
    own_placed p (Piece bytes) h low placed = quiet_turn p (Piece bytes) h refl placed
    own_placed p (Write n) h low placed = quiet_turn p (Write n) h (λ m. refl) placed
    own_placed p turn h low placed = quiet_turn p turn h tt placed

    turn_placed : (turn : Turn) (h : History) → AllBelow now (told c s h).drops → Stands h → Stands (after_turn c now turn h)
    turn_placed turn h low placed =
        let own = put_steps now (own_steps (parts_of c h) turn) h in
        within_placed (most_due (parts_of c own)) (due (parts_of c own)) own (due_calm (parts_of c own))
        (own_placed (parts_of c h) turn h low placed)

-- what stands behind one turn stands before the next
next_placed : (c : Config) (now : ℕ) (t : Told) (xs : List Message) → Placed c now t xs → Placed c (suc now) t xs
next_placed c now t xs placed = record {
  puts_up = below_more (suc now) (suc (suc now)) t.puts (omega arith) placed.puts_up;
  drops_up = below_more (suc now) (suc (suc now)) t.drops (omega arith) placed.drops_up;
  merged = placed.merged;
  clear = inl placed.drops_up;
}

turns_placed : (c : Config) (s now : ℕ) (turns : List Turn) (h : History) → AllBelow now (told c s h).drops → Placed c now (told c s h) (heard c s h)
    → (end : ℕ) × Placed c end (told c s (steps_from c now turns h)) (heard c s (steps_from c now turns h))
turns_placed c s now [] h low placed = (now, placed)
turns_placed c s now (turn ∷ turns) h low placed =
    let more = turn_placed c now s turn h low placed in
    turns_placed c s (suc now) turns (after_turn c now turn h) more.drops_up (next_placed c now _ _ more)

pub heard_by_place : HeardByPlace
heard_by_place c s turns =
    let placed = turns_placed c s 1 turns [] tt (record { puts_up = tt; drops_up = tt; merged = refl; clear = inl tt }) in
    placed.1.merged
