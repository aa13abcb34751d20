-- What a seat knows where no seat was made, and where it closed the session.
use Rattle.std.proofs.Common.{◌≡◌, ℕ, ◌≤◌, Bool, true, false, List, [], ◌++◌, length, max, nat_le, Option, sym, ◌∙◌, ap, subst, arith}
use Rattle.std.proofs.lemmas.List.{append-nil}
use Rattle.atomic_table.specs.Seated.{TableId}
use Rattle.nats_history.specs.declared.config.Config.{Config}
use Rattle.nats_ticket_lock.specs.declared.rule.Stage.TheVariants.{Idle, Held}
use Rattle.nats_ticket_lock.specs.declared.rule.View.{View}
use Rattle.nats_ticket_lock.specs.Rule.{Begins, Owns}
use Rattle.nats_ticket_lock.specs.Steps.{Counted, HasAll, OnlyGiven, caught_up, joined, longer, pick, staged, told}
use Rattle.nats_ticket_lock.specs.Places.{Place}
use Rattle.nats_desk.specs.declared.desk.Desk.{Desk}
use Rattle.nats_desk.specs.declared.entry.SeatEntry.{SeatEntry}
use Rattle.nats_desk.specs.declared.errors.SplitError.{SplitError}
use Rattle.nats_desk.specs.declared.errors.SplitError.TheVariants.{NoNumber, NoMemory}
use Rattle.nats_desk.specs.Refusals.{Unnumbered}
use Rattle.nats_seats.specs.Seats.{Closes, HasOnly, NoSeat, Stays, by_seat}

-- ---- no seat was made

begins_pick : (is_longer : Bool) (xs ys : List SeatEntry) → Begins ys xs → Begins (pick is_longer ys xs) xs
begins_pick true xs ys begins = begins
begins_pick false xs ys begins = ([], sym (append-nil xs))

no_seat : (made : ℕ) (desk : Desk) (error : SplitError) → made ≡ desk.made → Unnumbered desk error → NoSeat made error
no_seat made desk NoNumber same unnumbered = same ∙ unnumbered
no_seat made desk NoMemory same unnumbered = tt

-- the seat after the new one was joined back
stays_joined : (id nid : TableId) (v new : View Config SeatEntry) (t : ℕ) (desk : Desk) (error : SplitError)
    → nid ≡ id → new ≡ joined v (staged Idle (caught_up (Held t) desk.journal desk.made (told v)))
    → Begins desk.journal v.seen → v.made ≤ desk.made → Unnumbered desk error
    → Stays (id, v) (nid, new) × NoSeat new.made error
stays_joined id nid v new t desk error same is begins less unnumbered =
    let made : new.made ≡ max v.made desk.made = ap (λ (w : View Config SeatEntry). w.made) is in
    let accounts : new.accounts ≡ v.accounts ++ [] = ap (λ (w : View Config SeatEntry). w.accounts) is in
    let seen : new.seen ≡ longer v.seen desk.journal = ap (λ (w : View Config SeatEntry). w.seen) is in
    let longest = begins_pick (nat_le (length v.seen) (length desk.journal)) v.seen desk.journal begins in (
      (
        (same, ap (λ (w : View Config SeatEntry). w.about) is),
        accounts ∙ append-nil v.accounts,
        subst (λ l. Begins l v.seen) (sym seen) longest,
      ),
      no_seat new.made desk error (omega (arith, made, less)) unnumbered,
    )

pub stays_at : (p kept given taken left r : Place Desk Config SeatEntry) (hand : List (ℕ × Option Desk)) (t : ℕ) (desk : Desk) (error : SplitError)
    → r.table_id ≡ p.table_id → kept.me ≡ p.me → given.me ≡ (told p.me.0, [])
    → taken.me ≡ (caught_up (Held t) desk.journal desk.made given.me.0, hand) → left.me ≡ (staged Idle taken.me.0, [])
    → r.me ≡ (joined kept.me.0 left.me.0, kept.me.1)
    → Begins desk.journal given.me.0.seen → given.me.0.made ≤ desk.made → Unnumbered desk error
    → Stays (p.table_id, p.me.0) (r.table_id, r.me.0) × NoSeat r.me.0.made error
stays_at p kept given taken left r hand t desk error same kept_is given_is taken_is left_is joined_is begins less unnumbered =
    let is : r.me.0 ≡ joined p.me.0 (staged Idle (caught_up (Held t) desk.journal desk.made (told p.me.0))) =
    ap (λ m. m.0) joined_is
    ∙ (ap (λ m. joined m.0 left.me.0) kept_is
    ∙ (ap (λ m. joined p.me.0 m.0) left_is
    ∙ (ap (λ m. joined p.me.0 (staged Idle m.0)) taken_is
    ∙ ap (λ m. joined p.me.0 (staged Idle (caught_up (Held t) desk.journal desk.made m.0))) given_is))) in
    let seen : given.me.0.seen ≡ p.me.0.seen = ap (λ m. m.0.seen) given_is in
    let made : given.me.0.made ≡ p.me.0.made = ap (λ m. m.0.made) given_is in
    stays_joined p.table_id r.table_id p.me.0 r.me.0 t desk error same is (subst (Begins desk.journal) seen begins) (subst (λ n. n ≤ desk.made) made less) unnumbered

-- ---- the session was closed

one_not_none : {n : ℕ} → n ≡ 1 → n ≡ 0 → ⊥
one_not_none one none = omega (arith, one, none)

pub closes_at : (p q : Place Desk Config SeatEntry) (hand : List (ℕ × Option Desk)) (t : ℕ) (desk : Desk) (journal : List SeatEntry)
    → q.me ≡ (caught_up (Held t) desk.journal desk.made p.me.0, hand) → Counted q.me.0 → OnlyGiven by_seat q.me.0 → length p.me.0.accounts ≡ desk.made
    → Begins desk.journal p.me.0.seen → Owns by_seat desk.journal p.me.0.accounts → journal ≡ desk.journal
    → Closes (p.table_id, p.me.0) journal
closes_at p q hand t desk journal entered counted given all begins owns is =
    let v : View Config SeatEntry = caught_up (Held t) desk.journal desk.made p.me.0 in
    let view : q.me.0 ≡ v = ap (λ m. m.0) entered in
    let has_all : HasAll v = (subst Counted view counted).0 all in
    let only : HasOnly (p.table_id, p.me.0) desk.journal =
    λ n none. subst (OnlyGiven by_seat) view given n (λ some few. one_not_none (has_all n some few) none) in
    subst (Closes (p.table_id, p.me.0)) (sym is) (begins, owns, (desk.made, all, has_all), only)
