-- All subscriptions, as a table of rows with a count of those subscribed.
use Rattle.std.specs.Prelude.{slice_get}
use Rattle.std.proofs.Common.{◌≡◌, Bool, true, false, not, ◌&&◌, cond, nat_lt, if◌then◌else◌, ℕ, zero, suc, ◌+◌, ◌-◌, ◌≤◌, List, [], ◌∷◌, ◌++◌, length, drop, map, Option, Some, None, refl, sym, ◌∙◌, ap, arith, add-one}
use Rattle.std.proofs.lemmas.List.{append-nil, append_assoc, length-append, length-map}
use Rattle.std.proofs.lemmas.Option.{none-some}
use Rattle.nats_message.specs.declared.op.ClientOp.{ClientOp}
use Rattle.nats_tables.specs.Numbers.{at_index, at_number, item_of}
use Rattle.nats_tables.specs.Rows.{kept_row, first_awake}
use Rattle.nats_tables.proofs.Numbers.{length-at_number}
use Rattle.nats_tables.proofs.Walks.{same_some, awake_low}
use Rattle.nats_history.specs.declared.call.Interest.{Interest}
use Rattle.nats_history.specs.History.{Sub, is_open, is_over, forgotten, kept, unsubscribe_command, subscribed_again, commands_from}
use Rattle.nats_history.specs.Parts.{Subs}
use Rattle.nats_history.specs.After.{new_sub}
use Rattle.nats_history.proofs.Rows.{ended_is}
use Rattle.nats_subs.specs.declared.subs.subscription.Alteration.{Alteration}
use Rattle.nats_subs.specs.declared.subs.subscription.Alteration.TheVariants as alterations
use Rattle.nats_subs.specs.Forgetting.{rests, over_rests, stage_stays, LeavesResting}
use Rattle.nats_subs.specs.Delivery.{altered, asked_sub, asking, rows_with, rows_named, given_one, subscribed_one, commands_by, commands_at}
use Rattle.nats_subs.specs.declared.subs.subscription.Texts.{Texts}
use Rattle.nats_subs.specs.declared.subs.subscription.Texts.TheVariants as which

abbrev pub as_subs : ℕ → List Sub → Subs
as_subs subscribed rows = record { given = length rows; subscribed = subscribed; rows = rows }

-- one row was changed, and no number was given
pub row_altered : (subscribed k : ℕ) (f : Sub → Sub) (rows new : List Sub) → new ≡ at_number k f rows
    → as_subs subscribed new ≡ record (as_subs subscribed rows) { rows = at_number k f rows }
row_altered subscribed k f rows new is =
    ap (as_subs subscribed) is ∙ ap (λ n. record (as_subs subscribed (at_number k f rows)) { given = n }) (length-at_number k f rows)

-- the next number that was given is subscribed
pub next_opens : (subscribed : ℕ) (rows new : List Sub) → nat_lt subscribed (length rows) ≡ true → new ≡ rows_with (suc subscribed) alterations.Open rows
    → as_subs (suc subscribed) new ≡ subscribed_one (as_subs subscribed rows)
next_opens subscribed rows new next is =
    row_altered (suc subscribed) (suc subscribed) (λ sub. kept (altered alterations.Open sub)) rows new is
    ∙ sym (ap (λ b. record (as_subs subscribed rows) {
      subscribed = if b then suc subscribed else subscribed;
      rows = rows_named (if b then Some (suc subscribed) else None) alterations.Open rows;
    }) next)

-- ---- each row

-- each was changed, and no number was given
pub rows_altered : (subscribed : ℕ) (f : Sub → Sub) (rows new : List Sub) → new ≡ map f rows → as_subs subscribed new ≡ record (as_subs subscribed rows) { rows = map f rows }
rows_altered subscribed f rows new is =
    ap (as_subs subscribed) is ∙ ap (λ n. record (as_subs subscribed (map f rows)) { given = n }) (length-map rows f)

-- these leave alone what rests
pub renew_leaves : LeavesResting alterations.Renew
renew_leaves sub rest = ap (λ stage. record sub { stage = stage }) (stage_stays sub.is_shut false sub.stage rest)

pub close_leaves : LeavesResting alterations.Close
close_leaves sub rest = ap (λ stage. record sub { stage = stage }) (stage_stays true true sub.stage rest)

pub kept_tidy : (sub : Sub) → (is_over sub ≡ true → sub ≡ forgotten) → kept sub ≡ sub
kept_tidy sub tidy = by (is_over sub) refl
  where
    by : (b : Bool) → is_over sub ≡ b → cond b forgotten sub ≡ sub
    by true over = sym (tidy over)
    by false over = refl

pub rests_still : (a : Alteration) → LeavesResting a → (sub : Sub) → rests sub ≡ true → (is_over sub ≡ true → sub ≡ forgotten) → kept (altered a sub) ≡ sub
rests_still a leaves sub rest tidy = ap kept (leaves sub rest) ∙ kept_tidy sub tidy

-- ---- one more number

at_last : {A : Type 0} (f : A → A) (xs : List A) (x : A) → at_index (length xs) f (xs ++ x ∷ []) ≡ xs ++ f x ∷ []
at_last f [] x = refl
at_last f (y ∷ ys) x = ap (λ zs. y ∷ zs) (at_last f ys x)

pub one_given : (subscribed : ℕ) (asked : Interest) (rows new : List Sub) → new ≡ rows ++ asked_sub asked ∷ [] → as_subs subscribed new ≡ given_one asked (as_subs subscribed rows)
one_given subscribed asked rows new is =
    let more : length (rows ++ asked_sub asked ∷ []) ≡ suc (length rows) = length-append rows (asked_sub asked ∷ []) ∙ add-one (length rows) in
    ap (as_subs subscribed) is
    ∙ (ap (λ n. record (as_subs subscribed (rows ++ asked_sub asked ∷ [])) { given = n }) more
    ∙ ap (λ rs. record (as_subs subscribed rows) { given = suc (length rows); rows = rs }) (sym (at_last (asking asked) rows new_sub)))

-- ---- commands of each

-- one that rests has none
resting_quiet : (t : Texts) (s : ℕ) (sub : Sub) → rests sub ≡ true → commands_by t s sub ≡ []
resting_quiet which.Again s sub rest =
    ap (λ stage. cond (is_open stage && not sub.is_shut) (subscribed_again s sub sub.interest) []) (ended_is sub.stage rest)
resting_quiet which.Unsubscribe s sub rest =
    ap (λ stage. unsubscribe_command (is_open stage) s None) (ended_is sub.stage rest)

pub commands_kept : (t : Texts) (s : ℕ) (row : Option Sub) → commands_at t s (kept_row is_over row) ≡ commands_at t s row
commands_kept t s None = refl
commands_kept t s (Some sub) = by_over (is_over sub) refl
  where
    by_over : (b : Bool) → is_over sub ≡ b → commands_at t s (cond b None (Some sub)) ≡ commands_by t s sub
    by_over true over = sym (resting_quiet t s sub (over_rests sub over))
    by_over false over = refl

abbrev Next : Texts → ℕ → ℕ → ℕ → List Sub → Type 0
Next t s d k subs = commands_from (commands_by t) s subs ≡ commands_at t k (slice_get subs d) ++ commands_from (commands_by t) (suc k) (drop (suc d) subs)

first_commands : (t : Texts) (s d k : ℕ) (subs : List Sub) → k ≡ s + d → first_awake rests s subs ≡ Some k → Next t s d k subs
first_commands t s d k [] e is = absurd (none-some k is)
first_commands t s zero k (sub ∷ more) e is = by (rests sub) is (awake_low rests (suc s) k more)
  where
    by : (b : Bool) → cond b (first_awake rests (suc s) more) (Some s) ≡ Some k → (first_awake rests (suc s) more ≡ Some k → suc s ≤ k) → Next t s zero k (sub ∷ more)
    by true is low = absurd (omega (arith, low is, e))
    by false is low = ap (λ j. commands_by t j sub ++ commands_from (commands_by t) (suc j) more) (same_some s k is)
first_commands t s (suc d) k (sub ∷ more) e is = by (rests sub) refl is (first_commands t (suc s) d k more (omega (arith, e)))
  where
    by : (b : Bool) → rests sub ≡ b → cond b (first_awake rests (suc s) more) (Some s) ≡ Some k → (first_awake rests (suc s) more ≡ Some k → Next t (suc s) d k more) → Next t s (suc d) k (sub ∷ more)
    by true rest is next = ap (λ ops. ops ++ commands_from (commands_by t) (suc s) more) (resting_quiet t s sub rest) ∙ next is
    by false rest is next = absurd (omega (arith, same_some s k is, e))

behind_commands : (t : Texts) (n s d i k : ℕ) (rows : List Sub) → i ≡ n + d → k ≡ s + d → first_awake rests s (drop n rows) ≡ Some k
    → commands_from (commands_by t) s (drop n rows) ≡ commands_at t k (slice_get rows i) ++ commands_from (commands_by t) (suc k) (drop (suc i) rows)
behind_commands t zero s d i k rows a b is =
    let e : d ≡ i = omega (arith, a) in
    first_commands t s d k rows b is ∙ ap (λ j. commands_at t k (slice_get rows j) ++ commands_from (commands_by t) (suc k) (drop (suc j) rows)) e
behind_commands t (suc n) s d i k [] a b is = absurd (none-some k is)
behind_commands t (suc n) s d zero k (row ∷ rows) a b is = absurd (omega (arith, a))
behind_commands t (suc n) s d (suc i) k (row ∷ rows) a b is = behind_commands t n s d i k rows (omega (arith, a)) b is

next_commands : (t : Texts) (n k : ℕ) (rows : List Sub) → first_awake rests (suc n) (drop n rows) ≡ Some k
    → commands_from (commands_by t) (suc n) (drop n rows) ≡ commands_at t k (item_of k rows) ++ commands_from (commands_by t) (suc k) (drop k rows)
next_commands t n zero rows is = absurd (omega (arith, awake_low rests (suc n) zero (drop n rows) is))
next_commands t n (suc i) rows is =
    let low = awake_low rests (suc n) (suc i) (drop n rows) is in
    behind_commands t n (suc n) (i - n) i (suc i) rows (omega (arith, low)) (omega (arith, low)) is

-- the commands of the next row that does not rest, where those behind the first n are left
pub one_command : (t : Texts) (n k : ℕ) (rows : List Sub) (old new all : List ClientOp) → old ++ commands_from (commands_by t) (suc n) (drop n rows) ≡ all → first_awake rests (suc n) (drop n rows) ≡ Some k
    → new ≡ old ++ commands_at t k (item_of k rows) → new ++ commands_from (commands_by t) (suc k) (drop k rows) ≡ all
one_command t n k rows old new all before next is =
    ap (λ ops. ops ++ commands_from (commands_by t) (suc k) (drop k rows)) is
    ∙ (append_assoc old (commands_at t k (item_of k rows)) (commands_from (commands_by t) (suc k) (drop k rows))
    ∙ (ap (λ ops. old ++ ops) (sym (next_commands t n k rows next)) ∙ before))

none_commands : (t : Texts) (s : ℕ) (subs : List Sub) → first_awake rests s subs ≡ None → commands_from (commands_by t) s subs ≡ []
none_commands t s [] is = refl
none_commands t s (sub ∷ more) is = by (rests sub) refl is (none_commands t (suc s) more)
  where
    by : (b : Bool) → rests sub ≡ b → cond b (first_awake rests (suc s) more) (Some s) ≡ None → (first_awake rests (suc s) more ≡ None → commands_from (commands_by t) (suc s) more ≡ []) → commands_from (commands_by t) s (sub ∷ more) ≡ []
    by true rest is next = ap (λ ops. ops ++ commands_from (commands_by t) (suc s) more) (resting_quiet t s sub rest) ∙ next is
    by false rest is next = absurd (none-some s (sym is))

-- no row is left
pub commands_done : (t : Texts) (n : ℕ) (rows : List Sub) (ops all : List ClientOp) → ops ++ commands_from (commands_by t) (suc n) (drop n rows) ≡ all → first_awake rests (suc n) (drop n rows) ≡ None → ops ≡ all
commands_done t n rows ops all before none =
    sym (append-nil ops) ∙ (ap (λ more. ops ++ more) (sym (none_commands t (suc n) (drop n rows) none)) ∙ before)
