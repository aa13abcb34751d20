-- A limit holds: the puts of a subscription never pass it, but where there were more already.
use Rattle.std.proofs.Common.{◌≡◌, ℕ, suc, ◌≤◌, ◌<◌, ◌^◌, Bool, true, false, cond, not, eqb, nat_le, ◌&&◌, ◌||◌, [], ◌∷◌, ◌++◌, length, max, Option, Some, refl, sym, ◌∙◌, ap, subst, arith}
use Rattle.std.proofs.lemmas.List.{append-nil, length-append}
use Rattle.std.proofs.lemmas.Bool.{false≢true, eq-eqb, eqb-true, leb-false}
use Rattle.nats_message.specs.declared.message.Message.{Message}
use Rattle.nats_lines.specs.Operations.{message}
use Rattle.nats_history.specs.declared.config.Config.{Config}
use Rattle.nats_history.specs.declared.call.Call.TheVariants.{Limit}
use Rattle.nats_history.specs.declared.stage.Stage.{Stage}
use Rattle.nats_history.specs.declared.stage.Stage.TheVariants.{Asked, Open, Ended}
use Rattle.nats_history.specs.History.{Step, read, handled, History, cut, At, is_given, concerns, at_of, Told, sub_of, is_open, has_room, puts, reached, opens, ends, open_if, end_if, limit_after, puts_by, told_after, told}
use Rattle.nats_history.specs.Laws.{NoLimit, LimitHolds}
use Rattle.nats_history.proofs.Rows.{told_nothing}

-- ---- stages

is_asked : Stage → Bool
is_asked Asked = true
is_asked Open = false
is_asked Ended = false

-- one that began stays so
stays_begun : (a b : Bool) (stage : Stage) → (stage ≡ Asked → ⊥) → end_if a (open_if b stage) ≡ Asked → ⊥
unfolding is_asked
stays_begun a b Asked begun e = begun refl
stays_begun true true Open begun e = false≢true (ap is_asked e)
stays_begun true false Open begun e = false≢true (ap is_asked e)
stays_begun false true Open begun e = false≢true (ap is_asked e)
stays_begun false false Open begun e = false≢true (ap is_asked e)
stays_begun true true Ended begun e = false≢true (ap is_asked e)
stays_begun true false Ended begun e = false≢true (ap is_asked e)
stays_begun false true Ended begun e = false≢true (ap is_asked e)
stays_begun false false Ended begun e = false≢true (ap is_asked e)

-- one that is still open was, and did not end
was_open : (a b : Bool) (stage : Stage) → (stage ≡ Asked → ⊥) → end_if a (open_if b stage) ≡ Open → (stage ≡ Open) × (a ≡ false)
was_open a b Asked begun e = absurd (begun refl)
was_open true true Open begun e = absurd (false≢true (ap is_open e))
was_open true false Open begun e = absurd (false≢true (ap is_open e))
was_open false true Open begun e = (refl, refl)
was_open false false Open begun e = (refl, refl)
was_open true true Ended begun e = absurd (false≢true (ap is_open e))
was_open true false Ended begun e = absurd (false≢true (ap is_open e))
was_open false true Ended begun e = absurd (false≢true (ap is_open e))
was_open false false Ended begun e = absurd (false≢true (ap is_open e))

open_is : (stage : Stage) → is_open stage ≡ true → stage ≡ Open
open_is Open e = refl
open_is Asked e = absurd (false≢true e)
open_is Ended e = absurd (false≢true e)

both : (a b : Bool) → (a && b) ≡ true → (a ≡ true) × (b ≡ true)
both true true e = (refl, refl)
both true false e = absurd (false≢true e)
both false b e = absurd (false≢true e)

neither : (a b : Bool) → (a || b) ≡ false → (a ≡ false) × (b ≡ false)
neither false b e = (refl, e)
neither true b e = absurd (false≢true (sym e))

-- ---- under a limit

-- a subscription under a limit n, whose puts do not pass m
record Bounded (m n : ℕ) (t : Told) : Type 0 where
  within : length t.puts ≤ m
  while_open : t.stage ≡ Open → (t.limit ≡ Some n) × (length t.puts < n)
  begun : t.stage ≡ Asked → ⊥

module _ (c : Config) (m n : ℕ) (most : n ≤ m) (fits : n < 2 ^ 64) where
  -- after a step that puts nothing
  unput : (place : ℕ) (step : Step) (t : Told) → puts_by c place (sub_of t) step ≡ [] → limit_after step t.limit ≡ t.limit → Bounded m n t
      → Bounded m n (told_after c place step t)
  unput place step t none keeps b =
      let same : length (t.puts ++ puts_by c place (sub_of t) step) ≡ length t.puts = ap length (ap (λ xs. t.puts ++ xs) none ∙ append-nil t.puts) in
      record {
        within = omega (arith, same, b.within);
        while_open = λ o.
            let was = was_open (ends c (sub_of t) step) (opens step) t.stage b.begun o in
            let before = b.while_open was.0 in
            (keeps ∙ before.0, omega (arith, same, before.1));
        begun = stays_begun (ends c (sub_of t) step) (opens step) t.stage b.begun;
      }

  -- a limit that so many puts do not reach
  not_reached : (count : ℕ) (limit : Option ℕ) → limit ≡ Some n → reached limit (cut (suc (cut count))) ≡ false → suc count < n
  not_reached count limit is e =
      let below = leb-false n (cut (suc (cut count))) (sym (ap (λ l. reached l (cut (suc (cut count)))) is) ∙ e) in
      omega (arith, below, fits)

  -- after a message, which is put where it is open and has room
  message_bounded : (place sid : ℕ) (msg : Message) (t : Told) → Bounded m n t → Bounded m n (told_after c place (read (message sid msg)) t)
  message_bounded place sid msg t b = by_puts (puts c (sub_of t)) refl
    where
      by_puts : (put : Bool) → puts c (sub_of t) ≡ put → Bounded m n (told_after c place (read (message sid msg)) t)
      by_puts false is = unput place (read (message sid msg)) t (ap (λ p. cond p ((place, msg) ∷ []) []) is) refl b
      by_puts true is =
          let listening = both (is_open t.stage && not t.is_shut) (has_room c (sub_of t)) is in
          let was : t.stage ≡ Open = open_is t.stage (both (is_open t.stage) (not t.is_shut) listening.0).0 in
          let before = b.while_open was in
          let more : length (t.puts ++ puts_by c place (sub_of t) (read (message sid msg))) ≡ suc (length t.puts) =
          ap (λ p. length (t.puts ++ cond p ((place, msg) ∷ []) [])) is ∙ omega (arith, length-append t.puts ((place, msg) ∷ []))
          in
          record {
            within = omega (arith, more, before.1, most);
            while_open = λ o.
                let still = was_open (ends c (sub_of t) (read (message sid msg))) false t.stage b.begun o in
                let ended = neither t.is_shut (has_room c (sub_of t) && reached t.limit (cut (suc (cut (length t.puts))))) still.1 in
                let open_yet : reached t.limit (cut (suc (cut (length t.puts)))) ≡ false =
                sym (ap (λ r. r && reached t.limit (cut (suc (cut (length t.puts))))) listening.1) ∙ ended.1
                in
                let left = not_reached (length t.puts) t.limit before.0 open_yet in
                (before.0, omega (arith, more, left));
            begun = stays_begun (ends c (sub_of t) (read (message sid msg))) false t.stage b.begun;
          }

  bounded_after : (place : ℕ) (step : Step) (t : Told) → limit_after step t.limit ≡ t.limit → Bounded m n t → Bounded m n (told_after c place step t)
  bounded_after place (read (message sid msg)) t keeps b = message_bounded place sid msg t b
  bounded_after place (read operation) t keeps b = unput place (read operation) t refl keeps b
  bounded_after place step t keeps b = unput place step t refl keeps b

-- ---- over further steps

-- a step that handles no limit of subscription s, and is about it, keeps its limit
limit_kept : (s : ℕ) (at : At) (place : ℕ) (step : Step) (later : History) (limit : Option ℕ) → concerns s at step ≡ true → NoLimit s ((place, step) ∷ later)
    → limit_after step limit ≡ limit
limit_kept s at place (handled (Limit k n)) later limit is none = absurd (none.0 (eqb-true s k (both (eqb s k) (is_given s at) is).0))
limit_kept s at place (handled call) later limit is none = refl
limit_kept s at place step later limit is none = refl

none_later : (s place : ℕ) (step : Step) (later : History) → NoLimit s ((place, step) ∷ later) → NoLimit s later
none_later s place (handled (Limit k n)) later none = none.1
none_later s place (handled call) later none = none
none_later s place step later none = none

module _ (c : Config) (h : History) (place s n : ℕ) (is_open_then : is_open (told c s h).stage ≡ true) (fits : n < 2 ^ 64) where
  abbrev bound : ℕ
  bound = max n (length (told c s h).puts)

  given_then : is_given s (at_of h) ≡ true
  given_then = by_given (is_given s (at_of h)) refl
    where
      by_given : (b : Bool) → is_given s (at_of h) ≡ b → b ≡ true
      by_given true e = refl
      by_given false e = absurd (false≢true (sym (ap (λ (t : Told). is_open t.stage) (told_nothing c s h e)) ∙ is_open_then))

  was : (told c s h).stage ≡ Open
  was = open_is (told c s h).stage is_open_then

  -- the limit is handled
  limited : Bounded bound n (told_after c place (handled (Limit s n)) (told c s h))
  limited = by_reached (nat_le n (cut (length (told c s h).puts))) refl
    where
      by_reached : (b : Bool) → nat_le n (cut (length (told c s h).puts)) ≡ b → Bounded bound n (told_after c place (handled (Limit s n)) (told c s h))
      by_reached true is = record {
        within = omega (arith, length-append (told c s h).puts []);
        while_open = λ o. absurd (false≢true (ap is_open (sym (ap (λ b. end_if b (open_if false (told c s h).stage)) is ∙ ap (λ st. end_if true st) was) ∙ o)));
        begun = λ e. stays_begun (nat_le n (cut (length (told c s h).puts))) false (told c s h).stage (λ asked. false≢true (ap is_open (sym asked ∙ was))) e;
      }
      by_reached false is =
          let below = leb-false n (cut (length (told c s h).puts)) is in
          record {
            within = omega (arith, length-append (told c s h).puts []);
            while_open = λ o. (refl, omega (arith, below, fits, length-append (told c s h).puts []));
            begun = λ e. stays_begun (nat_le n (cut (length (told c s h).puts))) false (told c s h).stage (λ asked. false≢true (ap is_open (sym asked ∙ was))) e;
          }

  bounded_later : (later : History) → NoLimit s later → Bounded bound n (told c s (later ++ (place, handled (Limit s n)) ∷ h))
  bounded_later [] none =
      let here : concerns s (at_of h) (handled (Limit s n)) ≡ true = ap (λ b. b && is_given s (at_of h)) (eq-eqb s s refl) ∙ given_then in
      subst (λ b. Bounded bound n (cond b (told_after c place (handled (Limit s n)) (told c s h)) (told c s h))) (sym here) limited
  bounded_later ((p, step) ∷ later) none =
      let before = later ++ (place, handled (Limit s n)) ∷ h in
      by_concern (concerns s (at_of before) step) refl (bounded_later later (none_later s p step later none))
    where
      by_concern : (b : Bool) → concerns s (at_of (later ++ (place, handled (Limit s n)) ∷ h)) step ≡ b → Bounded bound n (told c s (later ++ (place, handled (Limit s n)) ∷ h))
          → Bounded bound n (cond b (told_after c p step (told c s (later ++ (place, handled (Limit s n)) ∷ h))) (told c s (later ++ (place, handled (Limit s n)) ∷ h)))
      by_concern true is b =
          let before = later ++ (place, handled (Limit s n)) ∷ h in
          let most : n ≤ bound = omega arith in
          bounded_after c bound n most fits p step (told c s before) (limit_kept s (at_of before) p step later (told c s before).limit is none) b
      by_concern false is b = b

pub limit_holds : LimitHolds
limit_holds c h place s n later is_open_then fits none = (bounded_later c h place s n is_open_then fits later none).within
