-- What workers publish, one by one, and what the closed journal says of each.
use Rattle.std.proofs.Common.{◌≡◌, ℕ, zero, suc, ◌+◌, ◌-◌, ◌<◌, ◌≤◌, true, List, [], ◌∷◌, ◌++◌, length, map, Some, Result, Ok, Err, IfOk, refl, sym, ◌∙◌, ap, subst, arith}
use Rattle.std.proofs.lemmas.List.{append_assoc, map-append}
use native.Mathlib.Decide.{ℕ_discrete}
use Rattle.nats_ticket_lock.proofs.Tallies.{count_append}
use Rattle.nats_history.specs.declared.call.CallReply.TheVariants as calls
use Rattle.nats_history.specs.declared.config.Config.{Config}
use Rattle.nats_history.specs.declared.turn.Turn.{Turn}
use Rattle.nats_history.specs.declared.turn.Turn.TheVariants.{Up}
use Rattle.nats_info.specs.declared.info.ServerInfo.{ServerInfo}
use Rattle.nats_info.specs.Info.{default_info}
use Rattle.nats_core.specs.declared.entry.StepReply.{StepReply}
use Rattle.nats_core.specs.declared.entry.StepReply.TheVariants as replies
use Rattle.nats_ticket_lock.specs.declared.rule.Account.{Account}
use Rattle.nats_ticket_lock.specs.Tally.{count_in, same}
use Rattle.nats_ticket_lock.specs.Rule.{Owns, calls_of, newcomer}
use Rattle.nats_ticket_lock.specs.Steps.{add_own, first_number}
use Rattle.nats_desk.specs.declared.entry.SeatEntry.{SeatEntry}
use Rattle.nats_desk.specs.declared.errors.PlayError.{PlayError}
use Rattle.nats_desk.specs.Journal.{IsRightBySeat, entry, reply_at}
use Rattle.nats_seats.specs.declared.receipt.Receipt.{Receipt}
use Rattle.nats_seats.specs.Seats.{Closes, IsRightFor, IsSame, Joined, Known, Made, Plays, by_seat, first_own, number_of, the_number}
use Rattle.nats_seat_workers.specs.Publishing.{publish_of, accepted_entry, published, worked, is_accepted, up_turn, up_account, IsNew, PlaysOne, IsUp, IsFresh, Accepts, WasAccepted, WasPlayed, HasWorked, HasNoOthers, rows, AllWorked, EachPublished}

same_then : (a b c : Known) → IsSame a b → IsSame b c → IsSame a c
same_then a b c here there = (there.0 ∙ here.0, there.1 ∙ here.1)

-- ---- one publish

accepted_is : (reply : StepReply) → is_accepted reply ≡ true → reply ≡ replies.Call calls.Accepted
accepted_is replies.Done is = cc
accepted_is (replies.Call calls.Accepted) is = refl
accepted_is (replies.Call (calls.Numbered n)) is = cc
accepted_is (replies.Call calls.Flushed) is = cc
accepted_is (replies.Call (calls.Replied m)) is = cc
accepted_is (replies.Call calls.InvalidSubject) is = cc
accepted_is (replies.Call calls.InvalidQueueName) is = cc
accepted_is (replies.Call (calls.MaxPayloadExceeded limit size)) is = cc
accepted_is (replies.Call calls.Closed) is = cc
accepted_is (replies.Call calls.NoNumber) is = cc
accepted_is (replies.Call calls.Full) is = cc
accepted_is (replies.Call calls.FlushFailed) is = cc
accepted_is (replies.Call calls.NoResponders) is = cc
accepted_is (replies.Call calls.TimedOut) is = cc
accepted_is (replies.Call calls.Dropped) is = cc
accepted_is (replies.Take r) is = cc

-- a turn was played, and its reply is that it was accepted
accepts : (old new : Known) (turn played : Turn) (receipt : Receipt) → played ≡ turn → Plays old new played receipt → is_accepted receipt.reply ≡ true → Accepts old new turn
accepts old new turn played receipt same plays is = (
  plays.0,
  plays.1
      ∙ (ap (λ r. add_own (entry (number_of old) played r) old.1.accounts) (accepted_is receipt.reply is)
      ∙ ap (λ t. add_own (accepted_entry (number_of old) t) old.1.accounts) same),
)

-- a call was played, and accepted
pub accepted_then : (old new : Known) (turn made : Turn) (played : Result Receipt PlayError) → made ≡ turn → IfOk played (λ receipt. Plays old new made receipt) → WasAccepted played → Accepts old new turn
accepted_then old new turn made (Ok receipt) same plays is = accepts old new turn made receipt same plays is
accepted_then old new turn made (Err error) same plays is = absurd is

-- ---- the first seat

-- a turn was played
pub played_then : (old new : Known) (turn : Turn) (played : Result Receipt PlayError) → IfOk played (λ receipt. Plays old new turn receipt) → WasPlayed played → PlaysOne old new turn
played_then old new turn (Ok receipt) plays is = (receipt, plays)
played_then old new turn (Err error) plays is = absurd is

up_done : (c : Config) (before : List SeatEntry) → reply_at c before up_turn ≡ replies.Done
unfolding reply_at
up_done c before = refl

-- a link came up, and nothing happened before
pub is_up : (old new : Known) (info : ServerInfo) → IsNew old → info ≡ default_info → PlaysOne old new (Up (record info { max_payload = 1048576 })) → IsSame old new × IsUp new
is_up old new info (c, opened) is played =
    let (receipt, plays) : PlaysOne old new up_turn = subst (λ (i : ServerInfo). PlaysOne old new (Up (record i { max_payload = 1048576 }))) is played in
    let accounts : old.1.accounts ≡ record { number = 1; own = [] } ∷ [] = ap (λ v. v.accounts) opened in
    let about : old.1.about ≡ Some c = ap (λ v. v.about) opened in
    let done : receipt.reply ≡ replies.Done = (plays.2.3 c about).1 ∙ up_done c plays.2.0 in
    (plays.0, plays.1 ∙ (λ i. add_own (entry (first_number (accounts i)) up_turn (done i)) (accounts i)))

-- ---- a worker's seat

fresh_accounts : (accounts : List (Account SeatEntry)) (number : ℕ) → first_number accounts ≡ number → first_own accounts ≡ [] → length accounts ≡ 1
    → accounts ≡ record { number = number; own = [] } ∷ []
fresh_accounts [] number numbered none one = absurd (omega (arith, one))
fresh_accounts (a ∷ []) number numbered none one = λ i. record { number = numbered i; own = none i } ∷ []
fresh_accounts (a ∷ b ∷ rest) number numbered none one = absurd (omega (arith, one))

-- a seat that was made and has this number
pub fresh : (old seat : Known) (number : ℕ) → Made old seat → number_of seat ≡ number → (seat.0 ≡ old.0) × IsFresh seat number
fresh old seat number made numbered = (made.0.0, fresh_accounts seat.1.accounts number numbered made.3 made.4)

-- ---- publishes, one by one

published_more : (worker k : ℕ) → published worker (k + 1) ≡ published worker k ++ accepted_entry (suc worker) (publish_of worker (k + 1)) ∷ []
published_more worker k =
    let e : k + 1 ≡ suc k = omega arith in
    subst (λ n. published worker n ≡ published worker k ++ accepted_entry (suc worker) (publish_of worker n) ∷ []) (sym e) refl

-- one publish more
pub publish_step : (worker k : ℕ) (old mid new : Known) → HasWorked worker k old mid → Accepts mid new (publish_of worker (k + 1)) → HasWorked worker (k + 1) old new
publish_step worker k old mid new done accepts =
    let turn = publish_of worker (k + 1) in (
      same_then old mid new done.0 accepts.0,
      accepts.1
          ∙ (λ i. add_own (accepted_entry (first_number (done.1 i)) turn) (done.1 i))
          ∙ (λ i. record { number = suc worker; own = sym (published_more worker k) i } ∷ []),
    )

rows_more : (k worker left : ℕ) → 0 < left → rows k (worker + 1) (left - 1) ++ worked worker k ∷ [] ≡ rows k worker left
rows_more k worker zero some = absurd (omega arith)
rows_more k worker (suc left) some =
    let next : worker + 1 ≡ suc worker = omega arith in
    let one_less : suc left - 1 ≡ left = omega arith in
    ap (λ n. rows k n (suc left - 1) ++ worked worker k ∷ []) next ∙ ap (λ n. rows k (suc worker) n ++ worked worker k ∷ []) one_less

-- a worker more is joined
pub join_step : (k worker left : ℕ) (main mid seat other new : Known) → 0 < left → AllWorked k (worker + 1) (left - 1) main mid → HasWorked worker k seat other → Joined mid other new
    → AllWorked k worker left main new
join_step k worker left main mid seat other new some all one joined = (
  same_then main mid new all.0 joined.0,
  joined.1
      ∙ (ap (λ accounts. accounts ++ other.1.accounts) all.1
      ∙ (ap (λ accounts. (main.1.accounts ++ rows k (worker + 1) (left - 1)) ++ accounts) one.1
      ∙ (append_assoc main.1.accounts (rows k (worker + 1) (left - 1)) (worked worker k ∷ [])
      ∙ ap (λ accounts. main.1.accounts ++ accounts) (rows_more k worker left some)))),
)

-- ---- the closed journal

owns_first : (all : List SeatEntry) (xs ys : List (Account SeatEntry)) → Owns by_seat all (xs ++ ys) → Owns by_seat all xs × Owns by_seat all ys
owns_first all [] ys owns = (tt, owns)
owns_first all (x ∷ xs) ys owns = let rest = owns_first all xs ys owns.1 in ((owns.0, rest.0), rest.1)

each_row : (journal : List SeatEntry) (k first left : ℕ) → Owns by_seat journal (rows k first left) → (worker : ℕ) → first ≤ worker → worker < first + left
    → calls_of by_seat (suc worker) journal ≡ published worker k
each_row journal k first zero owns worker low high = absurd (omega arith)
each_row journal k first (suc left) owns worker low high = by (ℕ_discrete worker first) (owns_first journal (rows k (suc first) left) (worked first k ∷ []) owns)
    (λ later. each_row journal k (suc first) left later worker)
  where
    by : Dec (worker ≡ first) → (Owns by_seat journal (rows k (suc first) left) × Owns by_seat journal (worked first k ∷ []))
        → (Owns by_seat journal (rows k (suc first) left) → suc first ≤ worker → worker < suc first + left → calls_of by_seat (suc worker) journal ≡ published worker k)
        → calls_of by_seat (suc worker) journal ≡ published worker k
    by (yes e) both later = subst (λ w. calls_of by_seat (suc w) journal ≡ published w k) (sym e) both.1.0
    by (no ne) both later = later both.0 (omega arith) (omega arith)

pub each_published : (journal : List SeatEntry) (k workers : ℕ) (account : Account SeatEntry) (accounts : List (Account SeatEntry)) → accounts ≡ (account ∷ []) ++ rows k 1 workers
    → Owns by_seat journal accounts → EachPublished workers k journal
each_published journal k workers account accounts is owns worker low high =
    each_row journal k 1 workers (owns_first journal (account ∷ []) (rows k 1 workers) (subst (Owns by_seat journal) is owns)).1 worker (omega arith) (omega arith)

-- so says a main seat that joined all workers and closed the session
pub all_published : (main done : Known) (journal : List SeatEntry) (k workers : ℕ) → IsUp main → AllWorked k 1 workers main done → Closes done journal → EachPublished workers k journal
all_published main done journal k workers up all closes =
    each_published journal k workers up_account done.1.accounts (all.1 ∙ ap (λ accounts. accounts ++ rows k 1 workers) up) closes.1

apart : (n x : ℕ) → (n ≡ x → ⊥) → same n x ≡ 0
apart n x ne = by (ℕ_discrete n x)
  where
    by : Dec (n ≡ x) → same n x ≡ 0
    by (yes e) = absurd (ne e)
    by (no other) = omega (arith, other)

rows_lack : (n k first left : ℕ) → (first < n → n ≤ first + left → ⊥) → count_in n (map the_number (rows k first left)) ≡ 0
rows_lack n k first zero out = refl
rows_lack n k first (suc left) out =
    let before = rows_lack n k (suc first) left (λ low high. out (omega arith) (omega arith)) in
    let here : same n (suc first) ≡ 0 = apart n (suc first) (λ e. out (omega (arith, e)) (omega (arith, e))) in
    ap (count_in n) (map-append the_number (rows k (suc first) left) (worked first k ∷ []))
    ∙ (count_append n (map the_number (rows k (suc first) left)) (suc first ∷ []) ∙ omega (arith, before, here))

-- no other seat has an entry
pub no_others : (main done : Known) (journal : List SeatEntry) (k workers : ℕ) → IsUp main → AllWorked k 1 workers main done → Closes done journal → HasNoOthers workers journal
no_others main done journal k workers up all closes =
    let accounts : done.1.accounts ≡ (up_account ∷ []) ++ rows k 1 workers = all.1 ∙ ap (λ accounts. accounts ++ rows k 1 workers) up in (
      (subst (Owns by_seat journal) accounts closes.1).0,
      λ n out. closes.3 n (ap (λ xs. count_in n (map the_number xs)) accounts
          ∙ (let first : same n 1 ≡ 0 = apart n 1 (λ e. out (omega (arith, e)) (omega (arith, e))) in
          let rest = rows_lack n k 1 workers (λ low high. out (omega arith) (omega arith)) in omega (arith, first, rest))),
    )

-- its settings are those that the session was opened with
pub right_for : (opened main done : Known) (config : Config) (journal : List SeatEntry) → opened.1 ≡ newcomer config → IsSame opened main → IsSame main done → IsRightFor done journal
    → IsRightBySeat config journal
right_for opened main done config journal new begun worked right = right config (worked.1 ∙ (begun.1 ∙ ap (λ v. v.about) new))
