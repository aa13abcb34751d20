-- What a seat knows once a turn of it was played.
use Rattle.std.proofs.Common.{◌≡◌, ℕ, ◌^◌, ◌<◌, ◌≤◌, true, List, [], ◌∷◌, ◌++◌, length, Option, Some, refl, sym, ◌∙◌, ap, subst, arith}
use Rattle.atomic_table.specs.Seated.{TableId}
use Rattle.nats_history.specs.declared.config.Config.{Config}
use Rattle.nats_history.specs.declared.turn.Turn.{Turn}
use Rattle.nats_core.specs.declared.entry.StepReply.{StepReply}
use Rattle.nats_ticket_lock.specs.declared.rule.Account.{Account}
use Rattle.nats_ticket_lock.specs.declared.rule.Stage.TheVariants.{Idle, Held}
use Rattle.nats_ticket_lock.specs.declared.rule.View.{View}
use Rattle.nats_ticket_lock.specs.declared.ticket.TicketLock.{TicketLock}
use Rattle.nats_ticket_lock.specs.Rule.{Begins, Owns, calls_of}
use Rattle.nats_ticket_lock.specs.Steps.{Sat, add_own, caught_up, first_number, recorded, staged}
use Rattle.nats_ticket_lock.specs.Places.{Place}
use Rattle.nats_desk.specs.declared.desk.Desk.{Desk}
use Rattle.nats_desk.specs.declared.entry.SeatEntry.{SeatEntry}
use Rattle.nats_desk.specs.Journal.{IsRightBySeat, entry, may_come, noted, reply_at}
use Rattle.nats_seats.specs.declared.receipt.Receipt.{Receipt}
use Rattle.nats_seats.specs.Seats.{Answers, IsSeated, Plays, SeesRight, by_seat, entry_by, first_own}

-- ---- accounts with an entry more

first_more : (e : SeatEntry) (accounts : List (Account SeatEntry)) → first_number (add_own e accounts) ≡ first_number accounts
first_more e [] = refl
first_more e (a ∷ rest) = refl

length_more : (e : SeatEntry) (accounts : List (Account SeatEntry)) → length (add_own e accounts) ≡ length accounts
length_more e [] = refl
length_more e (a ∷ rest) = refl

own_more : (e : SeatEntry) (accounts : List (Account SeatEntry)) → 0 < first_number accounts → first_own (add_own e accounts) ≡ first_own accounts ++ e ∷ []
own_more e [] some = absurd (omega arith)
own_more e (a ∷ rest) some = refl

owns_first : (all : List SeatEntry) (accounts : List (Account SeatEntry)) → 0 < first_number accounts → Owns by_seat all accounts
    → calls_of by_seat (first_number accounts) all ≡ first_own accounts
owns_first all [] some owns = absurd (omega arith)
owns_first all (a ∷ rest) some owns = owns.0

-- ---- the place

-- the journal that is given back
pub journal_more : (q : Place Desk Config SeatEntry) (v : View Config SeatEntry) (hand : List (ℕ × Option Desk)) (t : ℕ) (old desk : Desk) (e : SeatEntry)
    → q.me ≡ (caught_up (Held t) old.journal old.made v, hand) → desk ≡ noted e old → desk.journal ≡ q.me.0.seen ++ e ∷ []
journal_more q v hand t old desk e entered noted_is =
    let seen : q.me.0.seen ≡ old.journal = ap (λ m. m.0.seen) entered in
    ap (λ (d : Desk). d.journal) noted_is ∙ ap (λ l. l ++ e ∷ []) (sym seen)

-- the entry that is given back with it
pub entry_ready : (q : Place Desk Config SeatEntry) (v : View Config SeatEntry) (hand : List (ℕ × Option Desk)) (t number : ℕ) (old desk : Desk) (turn : Turn) (reply : StepReply)
    → q.me ≡ (caught_up (Held t) old.journal old.made v, hand) → desk ≡ noted (entry number turn reply) old → 0 < number → first_number v.accounts ≡ number
    → (e : SeatEntry) × (desk.journal ≡ q.me.0.seen ++ e ∷ []) × (0 < e.seat) × (first_number q.me.0.accounts ≡ e.seat)
entry_ready q v hand t number old desk turn reply entered noted_is some first =
    let e = entry number turn reply in
    let accounts : q.me.0.accounts ≡ v.accounts = ap (λ m. m.0.accounts) entered in
    (e, journal_more q v hand t old desk e entered noted_is, some, ap first_number accounts ∙ first)

-- the place after it was given back
left_with : (q r : Place Desk Config SeatEntry) (v : View Config SeatEntry) (hand : List (ℕ × Option Desk)) (e : SeatEntry)
    → q.me ≡ (v, hand) → r.me ≡ (staged Idle (recorded e q.me.0), []) → r.me ≡ (staged Idle (recorded e v), [])
left_with q r v hand e entered left = left ∙ (λ i. (staged Idle (recorded e (entered i).0), []))

-- a place that has an entry more is a seat's
pub seated_more : (lock : TicketLock Desk Config SeatEntry) (p q r : Place Desk Config SeatEntry) (hand : List (ℕ × Option Desk)) (t made number joined : ℕ) (before : List SeatEntry) (e : SeatEntry)
    → IsSeated lock p number joined → r.table_id ≡ p.table_id → q.me ≡ (caught_up (Held t) before made p.me.0, hand)
    → r.me ≡ (staged Idle (recorded e q.me.0), []) → IsSeated lock r number joined
seated_more lock p q r hand t made number joined before e seated same entered left =
    let is = left_with q r (caught_up (Held t) before made p.me.0) hand e entered left in
    let accounts : r.me.0.accounts ≡ add_own e p.me.0.accounts = ap (λ m. m.0.accounts) is in
    let count : length r.me.0.accounts ≡ length p.me.0.accounts = ap length accounts ∙ length_more e p.me.0.accounts in (
      same ∙ seated.0,
      ap (λ m. m.0.stage) is,
      ap (λ m. m.1) is,
      (seated.3.0, ap (λ m. m.0.about) is ∙ seated.3.1),
      ap first_number accounts ∙ (first_more e p.me.0.accounts ∙ seated.4),
      seated.5,
      count ∙ seated.6,
      subst (λ n. n ≤ 2 ^ 63) (sym count) seated.7,
    )

-- ---- what it knows

plays_new : (id nid : TableId) (v new : View Config SeatEntry) (t made : ℕ) (before : List SeatEntry) (turn : Turn) (receipt : Receipt)
    → nid ≡ id → 0 < first_number v.accounts
    → new ≡ staged Idle (recorded (entry_by (id, v) turn receipt) (caught_up (Held t) before made v))
    → Begins before v.seen
    → Owns by_seat (before ++ entry_by (id, v) turn receipt ∷ []) (add_own (entry_by (id, v) turn receipt) v.accounts)
    → Answers (id, v) before turn receipt.reply
    → receipt.place ≡ length (before ++ entry_by (id, v) turn receipt ∷ [])
    → Plays (id, v) (nid, new) turn receipt
plays_new id nid v new t made before turn receipt same some is begins owns answers place =
    let e = entry_by (id, v) turn receipt in
    let pos : 0 < first_number (add_own e v.accounts) = subst (λ n. 0 < n) (sym (first_more e v.accounts)) some in
    subst (λ (w : View Config SeatEntry). Plays (id, v) (nid, w) turn receipt) (sym is) (
      (same, refl),
      refl,
      (before, begins, refl, answers),
      place,
      own_more e v.accounts some,
      owns_first (before ++ e ∷ []) (add_own e v.accounts) pos owns,
      owns,
    )

pub plays_at : (p q r : Place Desk Config SeatEntry) (hand : List (ℕ × Option Desk)) (t number : ℕ) (old desk : Desk) (turn : Turn) (receipt : Receipt)
    → r.table_id ≡ p.table_id → q.me ≡ (caught_up (Held t) old.journal old.made p.me.0, hand)
    → desk ≡ noted (entry number turn receipt.reply) old → 0 < number → first_number p.me.0.accounts ≡ number
    → ((e : SeatEntry) → desk.journal ≡ q.me.0.seen ++ e ∷ []
    → (r.me ≡ (staged Idle (recorded e q.me.0), [])) × Owns by_seat (recorded e q.me.0).seen (recorded e q.me.0).accounts)
    → Begins old.journal p.me.0.seen → ((k : Config) → p.me.0.about ≡ Some k → old.config ≡ k)
    → (may_come old.config old.journal turn ≡ true) × (receipt.reply ≡ reply_at old.config old.journal turn)
    → receipt.place ≡ length desk.journal → Plays (p.table_id, p.me.0) (r.table_id, r.me.0) turn receipt
plays_at p q r hand t number old desk turn receipt same entered noted_is some first left begins suits exact place =
    let e : SeatEntry = entry (first_number p.me.0.accounts) turn receipt.reply in
    let desk_is : desk ≡ noted e old = noted_is ∙ ap (λ n. noted (entry n turn receipt.reply) old) (sym first) in
    let journal : desk.journal ≡ old.journal ++ e ∷ [] = ap (λ (d : Desk). d.journal) desk_is in
    let after = left e (journal_more q p.me.0 hand t old desk e entered desk_is) in
    let v : View Config SeatEntry = caught_up (Held t) old.journal old.made p.me.0 in
    let is = left_with q r v hand e entered after.0 in
    plays_new p.table_id r.table_id p.me.0 r.me.0 t old.made old.journal turn receipt same (subst (λ n. 0 < n) (sym first) some) (ap (λ m. m.0) is) begins
    (subst (λ (m : Sat Config SeatEntry Desk). Owns by_seat (recorded e m.0).seen (recorded e m.0).accounts) entered after.1)
    (λ c about. subst (λ k. (may_come k old.journal turn ≡ true) × (receipt.reply ≡ reply_at k old.journal turn)) (suits c about) exact)
    (place ∙ ap length journal)

-- what it has seen is right
pub sees_right : (p q r : Place Desk Config SeatEntry) (hand : List (ℕ × Option Desk)) (t : ℕ) (old desk : Desk) (e : SeatEntry)
    → q.me ≡ (caught_up (Held t) old.journal old.made p.me.0, hand) → desk ≡ noted e old
    → r.me ≡ (staged Idle (recorded e q.me.0), []) → ((k : Config) → p.me.0.about ≡ Some k → old.config ≡ k)
    → IsRightBySeat desk.config desk.journal → SeesRight (r.table_id, r.me.0)
sees_right p q r hand t old desk e entered noted_is left suits right c about =
    let v : View Config SeatEntry = caught_up (Held t) old.journal old.made p.me.0 in
    let is = left_with q r v hand e entered left in
    let seen : r.me.0.seen ≡ old.journal ++ e ∷ [] = ap (λ m. m.0.seen) is in
    let told : p.me.0.about ≡ Some c = sym (ap (λ m. m.0.about) is) ∙ about in
    let here : IsRightBySeat old.config (old.journal ++ e ∷ []) = subst (λ (d : Desk). IsRightBySeat d.config d.journal) noted_is right in
    subst (IsRightBySeat c) (sym seen) (subst (λ k. IsRightBySeat k (old.journal ++ e ∷ [])) (suits c told) here)
