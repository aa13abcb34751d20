-- The subscriptions after one more step: what is told of them on the longer history is what the step makes of them.
use Rattle.std.proofs.Common.{◌≡◌, ℕ, zero, suc, ◌≤◌, Bool, true, false, cond, ◌&&◌, min, List, [], ◌∷◌, ◌++◌, length, drop, map, refl, sym, ◌∙◌, ap, arith}
use Rattle.std.proofs.lemmas.List.{append-nil, map-append, length-append, drop-append-le, drop_all}
use Rattle.std.proofs.lemmas.Bool.{ltb-false, lt-ltb, le-ltb, false≢true}
use Rattle.std.proofs.Math.Nat.{min-le_right}
use Rattle.nats_message.specs.declared.message.Message.{Message}
use Rattle.nats_lines.specs.Operations.{message}
use Rattle.nats_history.specs.declared.config.Config.{Config}
use Rattle.nats_history.specs.History.{Step, read, accepted, took, gone, History, cut, subscribes, At, given_after, at_after, at_of, given, about, is_given, concerns, Told, nothing_told, second, Sub, sub_of, is_ended, puts, opens, ends, open_if, end_if, stage_after, gone_after, puts_by, told_after, told, is_over, forgotten, kept, rows_of}
use Rattle.nats_history.specs.declared.stage.Stage.{Stage}
use Rattle.nats_history.specs.declared.stage.Stage.TheVariants.{Asked, Open, Ended}
use Rattle.nats_tables.specs.Numbers.{count_from, is_about, change}
use Rattle.nats_history.specs.After.{new_sub, changed_sub, sub_after, grown, rows_after}
use Rattle.nats_history.proofs.Words.{drop_one_more}
use Rattle.nats_tables.proofs.Numbers.{changed, same_up_to, one_more}

-- ---- numbers that were given

pub given_grows : (step : Step) (at : At) → at.given ≤ given_after step at
given_grows (accepted call) at = by_call (subscribes call)
  where
    by_call : (b : Bool) → at.given ≤ cond b (suc at.given) at.given
    by_call true = omega arith
    by_call false = omega arith
given_grows step at = omega arith

-- a number up to those given was given
pub is_given_to : (s : ℕ) (at : At) → 1 ≤ s → s ≤ at.given → is_given s at ≡ true
is_given_to zero at low high = absurd (omega arith)
is_given_to (suc k) at low high = lt-ltb k at.given high

not_given_yet : (s : ℕ) (step : Step) (at : At) → is_given s (at_after step at) ≡ false → is_given s at ≡ false
not_given_yet zero step at apart = refl
not_given_yet (suc k) step at apart =
    let past = ltb-false k (given_after step at) apart in
    let grows = given_grows step at in
    le-ltb k at.given (omega (arith, past, grows))

-- of a number that was not given nothing is told
pub told_nothing : (c : Config) (s : ℕ) (h : History) → is_given s (at_of h) ≡ false → told c s h ≡ nothing_told
told_nothing c s [] apart = refl
told_nothing c s ((place, step) ∷ h) apart =
    ap (λ b. cond b (told_after c place step (told c s h)) (told c s h)) (and_not (is_about s (about (at_of h) step)) _ apart) ∙ told_nothing c s h (not_given_yet s step (at_of h) apart)
  where
    and_not : (a b : Bool) → b ≡ false → (a && b) ≡ false
    and_not true b e = e
    and_not false b e = refl

-- ---- one subscription

fit_after : (c : Config) (place : ℕ) (step : Step) (t : Told) → t.takes ≤ length t.puts → (told_after c place step t).takes ≤ length (told_after c place step t).puts
fit_after c place (took sid) t fits = rw append-nil (min-le_right (suc t.takes) (length t.puts))
fit_after c place (gone sid) t fits = rw append-nil (omega arith)
fit_after c place step t fits = omega (arith, fits, length-append t.puts (puts_by c place (sub_of t) step))

pub takes_fit : (c : Config) (s : ℕ) (h : History) → (told c s h).takes ≤ length (told c s h).puts
takes_fit c s [] = omega arith
takes_fit c s ((place, step) ∷ h) =
    either (concerns s (at_of h) step) (told c s h) (told_after c place step (told c s h)) (takes_fit c s h) (fit_after c place step (told c s h) (takes_fit c s h))
  where
    either : (b : Bool) (t u : Told) → t.takes ≤ length t.puts → u.takes ≤ length u.puts → (cond b u t).takes ≤ length (cond b u t).puts
    either true t u p q = q
    either false t u p q = p

drop-map : {A B : Type 0} (f : A → B) (n : ℕ) (xs : List A) → drop n (map f xs) ≡ map f (drop n xs)
drop-map f zero xs = refl
drop-map f (suc n) [] = refl
drop-map f (suc n) (x ∷ xs) = drop-map f n xs

-- the waiting messages
abbrev rest_of : ℕ → List (ℕ × Message) → List Message
rest_of n puts = map second (drop n puts)

-- a changed subscription with this count of puts and these waiting messages
abbrev sub_with : Config → Step → Told → ℕ → List Message → Sub
sub_with c step t n waiting = record (changed_sub c step (sub_of t)) { puts = n; waiting = waiting }

-- the same by the puts, and by how many of them wait no more
abbrev sub_by : Config → Step → Told → ℕ → List (ℕ × Message) → Sub
sub_by c step t takes puts = sub_with c step t (cut (length puts)) (rest_of takes puts)

no_put : (c : Config) (step : Step) (t : Told) (takes : ℕ) → sub_by c step t takes (t.puts ++ []) ≡ sub_by c step t takes t.puts
no_put c step t takes = ap (sub_by c step t takes) (append-nil t.puts)

count_put : (puts : List (ℕ × Message)) (x : ℕ × Message) → cut (length (puts ++ x ∷ [])) ≡ cut (suc (cut (length puts)))
count_put puts x = omega (arith, length-append puts (x ∷ []))

-- what a step makes of what is told, it makes of the subscription
sub_told : (c : Config) (place : ℕ) (step : Step) (t : Told) → t.takes ≤ length t.puts → sub_of (told_after c place step t) ≡ changed_sub c step (sub_of t)
sub_told c place (read (message sid m)) t fits = by_room (puts c (sub_of t))
  where
    by_room : (b : Bool) → sub_by c (read (message sid m)) t t.takes (t.puts ++ cond b ((place, m) ∷ []) [])
        ≡ sub_with c (read (message sid m)) t (cond b (cut (suc (cut (length t.puts)))) (cut (length t.puts))) (cond b (rest_of t.takes t.puts ++ m ∷ []) (rest_of t.takes t.puts))
    by_room true =
        ap (λ n. sub_with c (read (message sid m)) t n (rest_of t.takes (t.puts ++ (place, m) ∷ []))) (count_put t.puts (place, m))
        ∙ ap (sub_with c (read (message sid m)) t (cut (suc (cut (length t.puts))))) (ap (map second) (drop-append-le t.takes t.puts ((place, m) ∷ []) fits) ∙ map-append second (drop t.takes t.puts) ((place, m) ∷ []))
    by_room false = no_put c (read (message sid m)) t t.takes
sub_told c place (took sid) t fits =
    no_put c (took sid) t (min (suc t.takes) (length t.puts))
    ∙ ap (sub_with c (took sid) t (cut (length t.puts))) (ap (map second) (drop_one_more t.takes t.puts) ∙ sym (drop-map second 1 (drop t.takes t.puts)))
sub_told c place (gone sid) t fits =
    no_put c (gone sid) t (length t.puts)
    ∙ ap (sub_with c (gone sid) t (cut (length t.puts))) (ap (map second) (drop_all (length t.puts) t.puts (omega arith)))
sub_told c place (read operation) t fits = no_put c (read operation) t t.takes
sub_told c place step t fits = no_put c step t t.takes

-- ---- one that is over stays so

pub ended_is : (stage : Stage) → is_ended stage ≡ true → stage ≡ Ended
ended_is Ended e = refl
ended_is Asked e = absurd (false≢true e)
ended_is Open e = absurd (false≢true e)

pub both_true : (a b : Bool) → (a && b) ≡ true → (a ≡ true) × (b ≡ true)
both_true true true e = (refl, refl)
both_true true false e = absurd (false≢true e)
both_true false b e = absurd (false≢true e)

ended_stays : (ending opening : Bool) → end_if ending (open_if opening Ended) ≡ Ended
ended_stays true true = refl
ended_stays true false = refl
ended_stays false true = refl
ended_stays false false = refl

gone_stays : (step : Step) → gone_after step true ≡ true
gone_stays (gone sid) = refl
gone_stays step = refl

over_stays : (c : Config) (step : Step) (sub : Sub) → is_over sub ≡ true → is_over (changed_sub c step sub) ≡ true
over_stays c step sub over =
    let both = both_true sub.is_gone (is_ended sub.stage) over in
    let stage : stage_after c step sub ≡ Ended =
    ap (λ s. end_if (ends c sub step) (open_if (opens step) s)) (ended_is sub.stage both.1) ∙ ended_stays (ends c sub step) (opens step)
    in
    ap (λ b. b && is_ended (stage_after c step sub)) (ap (gone_after step) both.0 ∙ gone_stays step) ∙ ap is_ended stage

kept_over : (sub : Sub) → is_over sub ≡ true → kept sub ≡ forgotten
kept_over sub over = ap (λ b. cond b forgotten sub) over

-- what is forgotten stays so
pub kept_changed : (c : Config) (step : Step) (sub : Sub) → sub_after c step (kept sub) ≡ sub_after c step sub
kept_changed c step sub = by_over (is_over sub) refl
  where
    by_over : (b : Bool) → is_over sub ≡ b → sub_after c step (cond b forgotten sub) ≡ sub_after c step sub
    by_over true over = kept_over (changed_sub c step forgotten) (over_stays c step forgotten refl) ∙ sym (kept_over (changed_sub c step sub) (over_stays c step sub over))
    by_over false over = refl

-- ---- the table

-- the old subscriptions, and one more where a number is given
rows_grown : (c : Config) (h : History) (step : Step) → map (λ s. kept (sub_of (told c s h))) (count_from 1 (given_after step (at_of h))) ≡ grown step (rows_of c h)
rows_grown c h (accepted call) = by_call (subscribes call)
  where
    not_yet : is_given (suc (given h)) (at_of h) ≡ false
    not_yet = le-ltb (given h) (given h) (omega arith)

    by_call : (b : Bool) → map (λ s. kept (sub_of (told c s h))) (count_from 1 (cond b (suc (given h)) (given h))) ≡ cond b (rows_of c h ++ new_sub ∷ []) (rows_of c h)
    by_call true =
        one_more (λ s. kept (sub_of (told c s h))) (given h) new_sub (ap (λ t. kept (sub_of t)) (told_nothing c (suc (given h)) h not_yet))
    by_call false = refl
rows_grown c h step = refl

-- what is told of one number, where it was given
one_told : (c : Config) (place : ℕ) (step : Step) (h : History) (s : ℕ) → is_given s (at_after step (at_of h)) ≡ true
    → kept (sub_of (told c s ((place, step) ∷ h))) ≡ cond (is_about s (about (at_of h) step)) (sub_after c step (kept (sub_of (told c s h)))) (kept (sub_of (told c s h)))
one_told c place step h s there = by_about (is_about s (about (at_of h) step)) _ there
  where
    by_about : (a b : Bool) → b ≡ true
        → kept (sub_of (cond (a && b) (told_after c place step (told c s h)) (told c s h))) ≡ cond a (sub_after c step (kept (sub_of (told c s h)))) (kept (sub_of (told c s h)))
    by_about true b e =
        ap (λ x. kept (sub_of (cond x (told_after c place step (told c s h)) (told c s h)))) e
        ∙ (ap kept (sub_told c place step (told c s h) (takes_fit c s h)) ∙ sym (kept_changed c step (sub_of (told c s h))))
    by_about false b e = refl

pub rows_told : (c : Config) (place : ℕ) (step : Step) (h : History) → rows_of c ((place, step) ∷ h) ≡ rows_after c (at_of h) step (rows_of c h)
rows_told c place step h =
    let n = given_after step (at_of h) in
    same_up_to _ _ n (λ s low high. one_told c place step h s (is_given_to s (at_after step (at_of h)) low high))
    ∙ (changed (about (at_of h) step) (sub_after c step) (λ s. kept (sub_of (told c s h))) n ∙ ap (change (about (at_of h) step) (sub_after c step)) (rows_grown c h step))
