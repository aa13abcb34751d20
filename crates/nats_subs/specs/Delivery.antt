-- What becomes of a subscription: what is asked of it, and the messages that come for it.
use Rattle.std.specs.Prelude.{ℕ, suc, Bool, true, false, nat_lt, nat_le, List, [], ◌∷◌, ◌++◌, drop, map, Option, Some, None, if◌then◌else◌}
use Rattle.nats_names.specs.declared.event.Event.{Event}
use Rattle.nats_names.specs.declared.event.Event.TheVariants.{SlowConsumer}
use Rattle.nats_message.specs.declared.message.Message.{Message}
use Rattle.nats_message.specs.declared.op.ClientOp.{ClientOp}
use Rattle.nats_history.specs.declared.config.Config.{Config}
use Rattle.nats_history.specs.declared.call.Interest.{Interest}
use Rattle.nats_subs.specs.declared.subs.subscription.Delivery.{Delivery}
use Rattle.nats_subs.specs.declared.subs.subscription.Delivery.TheVariants.{Put, Dropped, Unwanted, Ignored}
use Rattle.nats_subs.specs.declared.subs.subscription.Alteration.{Alteration}
use Rattle.nats_subs.specs.declared.subs.subscription.Alteration.TheVariants as alterations
use Rattle.nats_history.specs.Queue.{first, last}
use Rattle.nats_tables.specs.Numbers.{named, at_number, change}
use Rattle.nats_subs.specs.declared.subs.subscription.Texts.{Texts}
use Rattle.nats_subs.specs.declared.subs.subscription.Texts.TheVariants as texts
use Rattle.nats_history.specs.History.{cut, Sub, is_open, has_room, puts, reached, open_if, end_if, kept, next_number, unsubscribed, again}
use Rattle.nats_history.specs.Parts.{Subs}
use Rattle.nats_history.specs.After.{new_sub}

-- ---- one subscription

-- put where there is room, dropped where there is none, unwanted where it is shut, ignored where it is not open
abbrev pub delivery : Config → Sub → Delivery
delivery c sub =
    if is_open sub.stage then (if sub.is_shut then Unwanted else (if has_room c sub then Put else Dropped)) else Ignored

-- the same of a table's item, where there is one
abbrev pub delivery_at : Config → Option Sub → Delivery
delivery_at c None = Ignored
delivery_at c (Some sub) = delivery c sub

abbrev pub is_unwanted : Delivery → Bool
is_unwanted Unwanted = true
is_unwanted Put = false
is_unwanted Dropped = false
is_unwanted Ignored = false

-- the events of a delivery
abbrev pub delivery_events : ℕ → Delivery → List Event
delivery_events sid Dropped = SlowConsumer sid ∷ []
delivery_events sid Put = []
delivery_events sid Unwanted = []
delivery_events sid Ignored = []

abbrev pub put_into : Message → Sub → Sub
put_into m sub = record sub {
  stage = end_if (reached sub.limit (cut (suc sub.puts))) sub.stage;
  puts = cut (suc sub.puts);
  waiting = sub.waiting ++ m ∷ [];
}

-- a subscription after a message, which does not end it where it is unwanted
abbrev pub deliver : Config → Message → Sub → Sub
deliver c m sub = if puts c sub then put_into m sub else sub

-- a subscription after what happens to it
abbrev pub altered : Alteration → Sub → Sub
altered alterations.Open sub = record sub { stage = open_if true sub.stage }
altered alterations.Shut sub = record sub { is_shut = true }
altered alterations.End sub = record sub { stage = end_if true sub.stage }
altered (alterations.Limit n) sub = record sub { stage = end_if (nat_le n sub.puts) sub.stage; limit = Some n }
altered alterations.Drain sub = record sub { is_draining = true }
altered alterations.LetGo sub = record sub { is_shut = true; is_gone = true; waiting = [] }
altered alterations.Renew sub = record sub { stage = end_if sub.is_shut sub.stage }
altered alterations.EndLink sub = record sub { stage = end_if sub.is_draining sub.stage }
altered alterations.Close sub = record sub { stage = end_if true (open_if true sub.stage) }

abbrev pub asking : Interest → Sub → Sub
asking asked sub = kept (record sub { interest = Some asked })

-- one that was just given its number, and asks for this
abbrev pub asked_sub : Interest → Sub
asked_sub asked = record new_sub { interest = Some asked }

abbrev pub take_from : Sub → Sub
take_from sub = record sub { waiting = drop 1 sub.waiting }

-- its youngest waiting message; none waits for one that its user let go
abbrev pub youngest_of : Sub → Option Message
youngest_of sub = if sub.is_gone then None else last sub.waiting

abbrev pub youngest : Option Sub → Option Message
youngest None = None
youngest (Some sub) = youngest_of sub

-- its oldest waiting message; none waits for one that its user let go
abbrev pub oldest_of : Sub → Option Message
oldest_of sub = if sub.is_gone then None else first sub.waiting

abbrev pub first_of : Option Sub → Option Message
first_of None = None
first_of (Some sub) = oldest_of sub

-- the commands that are written of the subscription of a number
abbrev pub commands_by : Texts → ℕ → Sub → List ClientOp
commands_by texts.Again = again
commands_by texts.Unsubscribe = unsubscribed

-- the same where there is one
abbrev pub commands_at : Texts → ℕ → Option Sub → List ClientOp
commands_at which s None = []
commands_at which s (Some sub) = commands_by which s sub

-- ---- all subscriptions

-- the subscription of a number after something happened to it
abbrev pub rows_with : ℕ → Alteration → List Sub → List Sub
rows_with sid a rows = at_number sid (λ sub. kept (altered a sub)) rows

-- the same of a number that may be left out
abbrev pub rows_named : Option ℕ → Alteration → List Sub → List Sub
rows_named name a rows = change (named name) (λ sub. kept (altered a sub)) rows

-- all of them after something happened to each
abbrev pub rows_each : Alteration → List Sub → List Sub
rows_each a rows = map (λ sub. kept (altered a sub)) rows

abbrev pub with_rows : List Sub → Subs → Subs
with_rows rows subs = record subs { rows = rows }

-- one more number is given, to a subscription that asks for this
abbrev pub given_one : Interest → Subs → Subs
given_one asked subs =
    record subs { given = suc subs.given; rows = at_number (suc subs.given) (asking asked) (subs.rows ++ new_sub ∷ []) }

-- the next number that was given is subscribed: its subscription opens
abbrev pub subscribed_one : Subs → Subs
subscribed_one subs = record subs {
  subscribed = if nat_lt subs.subscribed subs.given then suc subs.subscribed else subs.subscribed;
  rows = rows_named (next_number subs.given subs.subscribed) alterations.Open subs.rows;
}
