-- What a message that is read makes of a handler, by what becomes of it.
use Rattle.std.proofs.Common.{◌≡◌, ℕ, suc, ◌==◌, Bool, true, false, cond, List, [], ◌∷◌, ◌++◌, drop, None, refl, sym, ◌∙◌, ap}
use Rattle.std.proofs.lemmas.Bool.{eqb-true, eq-eqb, ne_eqb}
use Rattle.nats_names.specs.declared.event.Event.{Event}
use Rattle.nats_names.specs.declared.event.Event.TheVariants.{SlowConsumer}
use Rattle.nats_message.specs.declared.message.Message.{Message}
use Rattle.nats_lines.specs.Operations.{Operation, message, got, front, past}
use Rattle.nats_history.specs.Parts.{Subs}
use Rattle.nats_tables.specs.Numbers.{at_number, item_of}
use Rattle.nats_history.specs.History.{came, read, cut, Sub, kept, unsubscribe_command, is_closing_at, drop_events}
use Rattle.nats_history.specs.Tickets.{requests_elsewhere, request_at, request_reply, replied_if}
use Rattle.nats_history.specs.Counts.{message_counted}
use Rattle.nats_history.specs.Schedule.{chain}
use Rattle.nats_history.specs.After.{sub_after, written}
use Rattle.nats_subs.specs.declared.subs.subscription.Delivery.{Delivery}
use Rattle.nats_subs.specs.declared.subs.subscription.Delivery.TheVariants.{Put, Dropped, Unwanted, Ignored}
use Rattle.nats_subs.specs.Delivery.{delivery_at, is_unwanted, delivery_events, deliver, with_rows}
use Rattle.nats_subs.proofs.Deliveries.{closing_at, events_at, rows_by, rows_came}
use Rattle.nats_session.specs.Handler.{Seen, push_all, seen_after, seen_all, message_past, delivery_of, delivered_seen, after_message, arrived_seen, come_seen, delivery_name}
use Rattle.nats_history.specs.declared.turn.Due.TheVariants as due_names

-- ---- the handler

abbrev seen_with : ℕ → Seen → List ℕ → List ℕ → List Sub → List Event → Seen
seen_with len old unread waiting rows events = record old {
  parts = record old.parts {
    link = record old.parts.link { reads = cut (suc old.parts.link.reads); wire = record { unread = unread; waiting = waiting } };
    subs = with_rows rows old.parts.subs;
    statistics = message_counted len old.parts.statistics;
  };
  events = events;
}

seen_by : (old : Seen) (sid n : ℕ) (m : Message) (d : Delivery)
    → seen_with m.length old (drop n old.parts.link.wire.unread) (written true (unsubscribe_command (is_unwanted d) sid None) old.parts.link.wire.waiting) (rows_by old.parts.config sid m d old.parts.subs.rows) (push_all (delivery_events sid d) old.events)
    ≡ message_past n m.length (after_message sid m d old)
seen_by old sid n m Unwanted = refl
seen_by old sid n m Dropped = refl
seen_by old sid n m Put = refl
seen_by old sid n m Ignored = refl

-- the tickets after a message, where it came to the inbox or did not
abbrev ticketed : Bool → Message → Seen → Seen
ticketed b m old = record old {
  parts = record old.parts {
    tickets = record old.parts.tickets { asking = cond b (requests_elsewhere m.subject old.parts.tickets.asking) old.parts.tickets.asking };
  };
  ready = push_all (cond b (replied_if (request_reply m) (request_at m.subject old.parts.tickets.asking)) []) old.ready;
}

-- a message that was brought to its subscription and whose bytes were taken away was read
pub came_seen : (old : Seen) (sid n : ℕ) (m : Message) → (sid == 0) ≡ false → old.parts.link.is_up ≡ true → front old.parts.link.wire.unread ≡ got (message sid m) n
    → message_past n m.length (after_message sid m (delivery_at old.parts.config (item_of sid old.parts.subs.rows)) old) ≡ seen_after old (came sid m)
came_seen old sid n m other up here =
    let c = old.parts.config in
    let rows = old.parts.subs.rows in
    let wire = old.parts.link.wire in
    let item = item_of sid rows in
    let d = delivery_at c item in
    let command = unsubscribe_command (is_closing_at item) sid None in
    let after = at_number sid (sub_after c (came sid m)) rows in
    let events = push_all (drop_events c sid item) old.events in
    sym (ap (λ b. seen_with m.length (ticketed b m old) (past (front wire.unread) wire.unread) (written old.parts.link.is_up command wire.waiting) after events) other
    ∙ (ap (λ unread. seen_with m.length old unread (written old.parts.link.is_up command wire.waiting) after events) (ap (λ f. past f wire.unread) here)
    ∙ (ap (λ b. seen_with m.length old (drop n wire.unread) (written b command wire.waiting) after events) up
    ∙ (ap (λ b. seen_with m.length old (drop n wire.unread) (written true (unsubscribe_command b sid None) wire.waiting) after events) (closing_at c item d refl)
    ∙ (ap (λ xs. seen_with m.length old (drop n wire.unread) (written true (unsubscribe_command (is_unwanted d) sid None) wire.waiting) xs events) (rows_came c m sid rows d refl)
    ∙ (ap (λ es. seen_with m.length old (drop n wire.unread) (written true (unsubscribe_command (is_unwanted d) sid None) wire.waiting) (rows_by c sid m d rows) (push_all es old.events)) (events_at c sid item)
    ∙ seen_by old sid n m d))))))

-- a message that came to the inbox and whose bytes were taken away was read
inbox_seen : (old : Seen) (n : ℕ) (m : Message) → front old.parts.link.wire.unread ≡ got (message 0 m) n → message_past n m.length (arrived_seen m old) ≡ seen_after old (came 0 m)
inbox_seen old n m here =
    let wire = old.parts.link.wire in
    sym (ap (λ unread. seen_with m.length (arrived_seen m old) unread wire.waiting old.parts.subs.rows old.events) (ap (λ f. past f wire.unread) here))

pub come_read : (old : Seen) (sid n : ℕ) (m : Message) → old.parts.link.is_up ≡ true → front old.parts.link.wire.unread ≡ got (message sid m) n
    → message_past n m.length (come_seen sid m old) ≡ seen_after old (came sid m)
come_read old sid n m up here = by (sid == 0) refl
  where
    at_zero : sid ≡ 0 → message_past n m.length (arrived_seen m old) ≡ seen_after old (came sid m)
    at_zero is =
        inbox_seen old n m (here ∙ ap (λ s. got (message s m) n) is) ∙ sym (ap (λ s. seen_after old (came s m)) is)

    by : (b : Bool) → (sid == 0) ≡ b → message_past n m.length (cond (sid == 0) (arrived_seen m old) (after_message sid m (delivery_of old.parts sid) old)) ≡ seen_after old (came sid m)
    by true is = ap (λ b. message_past n m.length (cond b (arrived_seen m old) (after_message sid m (delivery_of old.parts sid) old))) is ∙ at_zero (eqb-true sid 0 is)
    by false is =
        ap (λ b. message_past n m.length (cond b (arrived_seen m old) (after_message sid m (delivery_of old.parts sid) old))) is ∙ came_seen old sid n m is up here

-- ---- what becomes of a message, by what the fields of the handler became

abbrev pub read_seen : ℕ → Message → Seen → Seen
read_seen sid m old = after_message sid m (delivery_at old.parts.config (item_of sid old.parts.subs.rows)) old

abbrev pub taken_in : ℕ → Message → Seen → Subs
taken_in sid m seen = with_rows (at_number sid (λ sub. kept (deliver seen.parts.config m sub)) seen.parts.subs.rows) seen.parts.subs

pub delivered : (seen old : Seen) (sid : ℕ) (m : Message) (subs : Subs) (d : Delivery) → seen ≡ old → subs ≡ taken_in sid m seen
    → delivery_of old.parts sid ≡ d → after_message sid m d seen ≡ delivered_seen sid m seen
    → record seen { parts = record seen.parts { subs = subs } } ≡ read_seen sid m old
delivered seen old sid m subs d same a is keeps =
    ap (λ x. record seen { parts = record seen.parts { subs = x } }) a
    ∙ (sym keeps ∙ (ap (after_message sid m d) same ∙ sym (ap (λ e. after_message sid m e old) is)))

pub dropped_one : (seen old : Seen) (sid : ℕ) (m : Message) (events : List Event) → seen ≡ old
    → delivery_of old.parts sid ≡ Dropped → events ≡ seen.events ++ SlowConsumer sid ∷ []
    → record seen { events = events } ≡ read_seen sid m old
dropped_one seen old sid m events same is b =
    ap (λ es. record seen { events = es }) b
    ∙ (ap (after_message sid m Dropped) same ∙ sym (ap (λ e. after_message sid m e old) is))

-- a message that was brought to its subscription, and whose bytes were then taken away
pub consumed_seen : (inside old new : Seen) (operation : Operation) (sid n : ℕ) (m : Message) → inside ≡ come_seen sid m old → new ≡ message_past n m.length inside
    → operation ≡ message sid m → old.parts.link.is_up ≡ true → front old.parts.link.wire.unread ≡ got operation n → new ≡ seen_all old (chain old.parts (read operation))
consumed_seen inside old new operation sid n m same taken is up here =
    taken
    ∙ (ap (message_past n m.length) same
    ∙ (come_read old sid n m up (here ∙ ap (λ o. got o n) is) ∙ sym (ap (λ o. seen_all old (chain old.parts (read o))) is)))

-- a message to the inbox, by what the tickets became
pub inbox_come : (seen old : Seen) (sid : ℕ) (m : Message) → seen ≡ arrived_seen m old → sid ≡ 0 → seen ≡ come_seen sid m old
inbox_come seen old sid m is zero_is =
    is ∙ sym (ap (λ b. cond b (arrived_seen m old) (after_message sid m (delivery_of old.parts sid) old)) (eq-eqb sid 0 zero_is))

pub other_come : (old : Seen) (sid : ℕ) (m : Message) → (sid ≡ 0 → ⊥) → after_message sid m (delivery_of old.parts sid) old ≡ come_seen sid m old
other_come old sid m other =
    sym (ap (λ b. cond b (arrived_seen m old) (after_message sid m (delivery_of old.parts sid) old)) (ne_eqb sid 0 other))

pub inbox_name : (old : Seen) (sid : ℕ) (m : Message) → sid ≡ 0 → due_names.Read ≡ delivery_name sid m (delivery_of old.parts sid)
inbox_name old sid m is = sym (ap (λ s. delivery_name s m (delivery_of old.parts s)) is)
