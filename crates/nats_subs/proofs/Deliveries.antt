-- What a message that comes makes of its subscription, by what becomes of it.
use Rattle.std.proofs.Common.{◌≡◌, ℕ, suc, Bool, true, false, not, cond, ◌&&◌, ◌||◌, List, [], ◌∷◌, ◌++◌, Option, Some, None, refl, sym, ◌∙◌, ap}
use Rattle.std.proofs.lemmas.Bool.{false≢true}
use Rattle.nats_names.specs.declared.event.Event.TheVariants.{SlowConsumer}
use Rattle.nats_message.specs.declared.message.Message.{Message}
use Rattle.nats_history.specs.declared.config.Config.{Config}
use Rattle.nats_history.specs.declared.call.Interest.{Interest}
use Rattle.nats_history.specs.declared.stage.Stage.{Stage}
use Rattle.nats_history.specs.declared.stage.Stage.TheVariants.{Asked, Open, Ended}
use Rattle.nats_tables.specs.Numbers.{at_number, item_of}
use Rattle.nats_tables.proofs.Numbers.{agree_at, at_number_same}
use Rattle.nats_history.specs.History.{came, cut, Sub, is_open, is_ended, has_room, reached, end_if, forgotten, kept, is_closing, is_closing_at, drop_events}
use Rattle.nats_history.specs.After.{changed_sub, sub_after}
use Rattle.nats_subs.specs.declared.subs.subscription.Delivery.{Delivery}
use Rattle.nats_subs.specs.declared.subs.subscription.Delivery.TheVariants.{Put, Dropped, Unwanted, Ignored}
use Rattle.nats_subs.specs.declared.subs.subscription.Alteration.TheVariants as alterations
use Rattle.nats_subs.specs.Delivery.{delivery, delivery_at, is_unwanted, delivery_events, put_into, deliver, altered, rows_with}

-- ---- one subscription, by its stage, whether it is shut, and whether it has room

abbrev delivered_by : Stage → Bool → Bool → Delivery
delivered_by stage shut room = cond (is_open stage) (cond shut Unwanted (cond room Put Dropped)) Ignored

-- the delivery leaves the subscription as it is
abbrev pub leaves : Delivery → Bool
leaves Dropped = true
leaves Unwanted = true
leaves Put = false
leaves Ignored = false

and_false : (b : Bool) → (b && false) ≡ false
and_false true = refl
and_false false = refl

left_facts : (stage : Stage) (shut room is_gone : Bool) (d : Delivery) → delivered_by stage shut room ≡ d → leaves d ≡ true
    → (((is_open stage && not shut) && room) ≡ false) × ((is_gone && is_ended stage) ≡ false)
left_facts Asked shut room is_gone d e l = absurd (false≢true (ap leaves e ∙ l))
left_facts Ended shut room is_gone d e l = absurd (false≢true (ap leaves e ∙ l))
left_facts Open true room is_gone d e l = (refl, and_false is_gone)
left_facts Open false true is_gone d e l = absurd (false≢true (ap leaves e ∙ l))
left_facts Open false false is_gone d e l = (refl, and_false is_gone)

left_sub : (c : Config) (m : Message) (sub : Sub) (d : Delivery) → delivery c sub ≡ d → leaves d ≡ true → kept (deliver c m sub) ≡ sub
left_sub c m sub d e l =
    let facts = left_facts sub.stage sub.is_shut (has_room c sub) sub.is_gone d e l in
    ap (λ b. kept (cond b (put_into m sub) sub)) facts.0 ∙ ap (λ b. cond b forgotten sub) facts.1

closing_by : (stage : Stage) (shut room : Bool) → (is_open stage && shut) ≡ is_unwanted (delivered_by stage shut room)
closing_by Asked shut room = refl
closing_by Ended shut room = refl
closing_by Open true room = refl
closing_by Open false true = refl
closing_by Open false false = refl

closing_sub : (c : Config) (sub : Sub) (d : Delivery) → delivery c sub ≡ d → is_closing sub ≡ is_unwanted d
closing_sub c sub d e = closing_by sub.stage sub.is_shut (has_room c sub) ∙ ap is_unwanted e

events_by : (sid : ℕ) (stage : Stage) (shut room : Bool)
    → cond ((is_open stage && not shut) && not room) (SlowConsumer sid ∷ []) [] ≡ delivery_events sid (delivered_by stage shut room)
events_by sid Asked shut room = refl
events_by sid Ended shut room = refl
events_by sid Open true room = refl
events_by sid Open false true = refl
events_by sid Open false false = refl

abbrev sub_as : Option Interest → Stage → Bool → Bool → Bool → Option ℕ → ℕ → List Message → Sub
sub_as asked stage shut is_gone draining limit n waiting = record { interest = asked; stage = stage; is_shut = shut; is_gone = is_gone; is_draining = draining; limit = limit; puts = n; waiting = waiting }

-- a message that does not end it
came_with : (asked : Option Interest) (stage : Stage) (shut is_gone draining : Bool) (limit : Option ℕ) (n : ℕ) (waiting : List Message) (m : Message) (room reach : Bool) → (is_open stage && shut) ≡ false
    → sub_as asked (end_if (shut || (room && reach)) stage) shut is_gone draining limit (cond ((is_open stage && not shut) && room) (cut (suc n)) n) (cond ((is_open stage && not shut) && room) (waiting ++ m ∷ []) waiting)
    ≡ cond ((is_open stage && not shut) && room) (sub_as asked (end_if reach stage) shut is_gone draining limit (cut (suc n)) (waiting ++ m ∷ [])) (sub_as asked stage shut is_gone draining limit n waiting)
came_with asked Asked true is_gone draining limit n waiting m room reach stays = refl
came_with asked Asked false is_gone draining limit n waiting m true true stays = refl
came_with asked Asked false is_gone draining limit n waiting m true false stays = refl
came_with asked Asked false is_gone draining limit n waiting m false reach stays = refl
came_with asked Ended true is_gone draining limit n waiting m room reach stays = refl
came_with asked Ended false is_gone draining limit n waiting m true true stays = refl
came_with asked Ended false is_gone draining limit n waiting m true false stays = refl
came_with asked Ended false is_gone draining limit n waiting m false reach stays = refl
came_with asked Open true is_gone draining limit n waiting m room reach stays = absurd (false≢true (sym stays))
came_with asked Open false is_gone draining limit n waiting m true reach stays = refl
came_with asked Open false is_gone draining limit n waiting m false reach stays = refl

came_delivered : (c : Config) (sid : ℕ) (m : Message) (sub : Sub) → is_closing sub ≡ false → changed_sub c (came sid m) sub ≡ deliver c m sub
came_delivered c sid m sub stays =
    came_with sub.interest sub.stage sub.is_shut sub.is_gone sub.is_draining sub.limit sub.puts sub.waiting m (has_room c sub) (reached sub.limit (cut (suc sub.puts))) stays

-- a message that ends it
ended_with : (asked : Option Interest) (stage : Stage) (shut is_gone draining : Bool) (limit : Option ℕ) (n : ℕ) (waiting : List Message) (m : Message) (room reach : Bool) → (is_open stage && shut) ≡ true
    → sub_as asked (end_if (shut || (room && reach)) stage) shut is_gone draining limit (cond ((is_open stage && not shut) && room) (cut (suc n)) n) (cond ((is_open stage && not shut) && room) (waiting ++ m ∷ []) waiting)
    ≡ sub_as asked (end_if true stage) shut is_gone draining limit n waiting
ended_with asked Asked shut is_gone draining limit n waiting m room reach goes = absurd (false≢true goes)
ended_with asked Ended shut is_gone draining limit n waiting m room reach goes = absurd (false≢true goes)
ended_with asked Open false is_gone draining limit n waiting m room reach goes = absurd (false≢true goes)
ended_with asked Open true is_gone draining limit n waiting m room reach goes = refl

came_ended : (c : Config) (sid : ℕ) (m : Message) (sub : Sub) → is_closing sub ≡ true → changed_sub c (came sid m) sub ≡ altered alterations.End sub
came_ended c sid m sub goes =
    ended_with sub.interest sub.stage sub.is_shut sub.is_gone sub.is_draining sub.limit sub.puts sub.waiting m (has_room c sub) (reached sub.limit (cut (suc sub.puts))) goes

-- ---- the subscription of a number

module _ (c : Config) (m : Message) (sid : ℕ) (rows : List Sub) (d : Delivery) (is : delivery_at c (item_of sid rows) ≡ d) where
  one : (sub : Sub) → item_of sid rows ≡ Some sub → delivery c sub ≡ d
  one sub there = sym (ap (delivery_at c) there) ∙ is

  -- a message that is dropped, or that ends its subscription, is not taken in
  pub left_alone : leaves d ≡ true → at_number sid (λ sub. kept (deliver c m sub)) rows ≡ rows
  left_alone l = agree_at sid (λ sub. kept (deliver c m sub)) (λ sub. sub) rows (λ sub there. left_sub c m sub d (one sub there) l) ∙ at_number_same sid rows

  -- what the step makes of the rows
  came_in : is_unwanted d ≡ false → at_number sid (sub_after c (came sid m)) rows ≡ at_number sid (λ sub. kept (deliver c m sub)) rows
  came_in stays =
      agree_at sid (sub_after c (came sid m)) (λ sub. kept (deliver c m sub)) rows (λ sub there. ap kept (came_delivered c sid m sub (closing_sub c sub d (one sub there) ∙ stays)))

  came_last : is_unwanted d ≡ true → at_number sid (sub_after c (came sid m)) rows ≡ rows_with sid alterations.End rows
  came_last goes =
      agree_at sid (sub_after c (came sid m)) (λ sub. kept (altered alterations.End sub)) rows (λ sub there. ap kept (came_ended c sid m sub (closing_sub c sub d (one sub there) ∙ goes)))

pub closing_at : (c : Config) (row : Option Sub) (d : Delivery) → delivery_at c row ≡ d → is_closing_at row ≡ is_unwanted d
closing_at c None d is = ap is_unwanted is
closing_at c (Some sub) d is = closing_sub c sub d is

pub events_at : (c : Config) (sid : ℕ) (row : Option Sub) → drop_events c sid row ≡ delivery_events sid (delivery_at c row)
events_at c sid None = refl
events_at c sid (Some sub) = events_by sid sub.stage sub.is_shut (has_room c sub)

-- the rows after a message, by what became of it
abbrev pub rows_by : Config → ℕ → Message → Delivery → List Sub → List Sub
rows_by c sid m Unwanted rows = rows_with sid alterations.End rows
rows_by c sid m Dropped rows = rows
rows_by c sid m Put rows = at_number sid (λ sub. kept (deliver c m sub)) rows
rows_by c sid m Ignored rows = at_number sid (λ sub. kept (deliver c m sub)) rows

pub rows_came : (c : Config) (m : Message) (sid : ℕ) (rows : List Sub) (d : Delivery) → delivery_at c (item_of sid rows) ≡ d
    → at_number sid (sub_after c (came sid m)) rows ≡ rows_by c sid m d rows
rows_came c m sid rows Unwanted is = came_last c m sid rows Unwanted is refl
rows_came c m sid rows Dropped is = came_in c m sid rows Dropped is refl ∙ left_alone c m sid rows Dropped is refl
rows_came c m sid rows Put is = came_in c m sid rows Put is refl
rows_came c m sid rows Ignored is = came_in c m sid rows Ignored is refl
