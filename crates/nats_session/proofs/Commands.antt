-- What the oldest waiting call makes of a handler, and the link that it may end.
use Rattle.std.specs.Option.{option_map}
use Rattle.std.proofs.Common.{◌≡◌, ℕ, suc, Bool, true, false, List, [], ◌∷◌, ◌++◌, drop, Option, Some, None, is_some, refl, sym, ◌∙◌, ap}
use Rattle.std.proofs.lemmas.Bool.{false≢true}
use Rattle.std.proofs.lemmas.Option.{none-some, same_Some}
use Rattle.nats_names.specs.declared.event.Event.{Event}
use Rattle.nats_message.specs.declared.op.ClientOp.{ClientOp}
use Rattle.nats_commands.specs.Commands.{command_text, command_texts}
use Rattle.nats_lines.specs.Operations.{Operation, pong_op, got, front, past}
use Rattle.nats_wire.specs.Wire.{Channel, new_channel, with_waiting}
use Rattle.nats_history.specs.declared.call.Call.{Call}
use Rattle.nats_history.specs.declared.call.Call.TheVariants.{Reconnect}
use Rattle.nats_history.specs.declared.ping.Ping.{Ping}
use Rattle.nats_history.specs.declared.ping.Ping.TheVariants as pinged
use Rattle.nats_history.specs.declared.turn.Due.TheVariants as due_names
use Rattle.nats_history.specs.declared.transcript.LinkWord.{LinkWord}
use Rattle.nats_history.specs.declared.transcript.LinkWord.TheVariants as word
use Rattle.nats_history.specs.Queue.{first}
use Rattle.nats_tables.specs.Numbers.{nobody, change}
use Rattle.nats_history.specs.History.{read, handled, link_end, drained_by, cut, Sub, texts, end_events}
use Rattle.nats_history.specs.Parts.{Parts}
use Rattle.nats_history.specs.Schedule.{closes, closing, ending, ends_link, pong_end, read_end, chain, due, due_chain}
use Rattle.nats_history.specs.After.{sub_after, write_all, written}
use Rattle.nats_history.proofs.Words.{written_all}
use Rattle.nats_subs.specs.Delivery.{with_rows}
use Rattle.nats_session.specs.Handler.{Seen, push_all, seen_after, seen_all, close_events, Advances, command_end, seen_handled, handled_first, name_of, ended_or, end_in, counted, read_past, pong_read}

end_in_ending : (drained : Bool) (end : Option LinkWord) → end_in (ending drained end) ≡ end
end_in_ending drained None = refl
end_in_ending drained (Some end) = refl

pub command_ends : (p : Parts) → due p ≡ handled_first p → end_in (due_chain p (due p)) ≡ command_end (first p.calls)
command_ends p is = ap (λ next. end_in (due_chain p next)) is ∙ by_first (first p.calls)
  where
    by_first : (call : Option Call) → end_in (due_chain p (option_map handled call)) ≡ command_end call
    by_first None = refl
    by_first (Some call) = end_in_ending p.drain.is_handled (ends_link call)

pub read_ends : (p : Parts) (operation : Operation) → due p ≡ Some (read operation) → end_in (due_chain p (due p)) ≡ read_end p.link.pings operation
read_ends p operation is =
    ap (λ next. end_in (due_chain p next)) is ∙ end_in_ending p.drain.is_handled (read_end p.link.pings operation)

-- a call by which the link goes on
pub handled_one : (old new : Seen) → is_some (first old.parts.calls) ≡ true → command_end (first old.parts.calls) ≡ None → new ≡ seen_handled (first old.parts.calls) old
    → Advances (handled_first old.parts) old due_names.Handled new
handled_one old new some stays is = by_first (first old.parts.calls) some stays is
  where
    by_first : (call : Option Call) → is_some call ≡ true → command_end call ≡ None → new ≡ seen_handled call old → Advances (option_map handled call) old due_names.Handled new
    by_first None some stays is = absurd (false≢true some)
    by_first (Some call) some stays is = (
      sym (ap (λ end. ended_or (end_in (ending old.parts.drain.is_handled end)) due_names.Handled) stays),
      is ∙ sym (ap (λ end. seen_all (seen_after old (handled call)) (ending old.parts.drain.is_handled end)) stays),
    )

-- ---- a link's end

-- what is seen after it, where these are the events
abbrev left_with : Seen → Bool → List Event → Seen
left_with old b events = record (seen_all (record old { events = events }) (link_end word.Hangup ∷ closing b)) { events = events }

left : (old : Seen) (end : LinkWord) (b : Bool) → left_with old b (push_all (close_events b) (push_all (end_events end) old.events)) ≡ seen_all old (link_end end ∷ closing b)
left old end true = refl
left old end false = refl

-- the same by what the fields of the handler became
pub left_by : (seen old new : Seen) (end : LinkWord) (b : Bool) (events : List Event) → seen ≡ old → b ≡ closes old.parts.drain.is_handled end
    → events ≡ push_all (close_events b) (push_all (end_events end) seen.events) → new ≡ left_with seen b events
    → new ≡ seen_all old (chain old.parts (link_end end))
left_by seen old new end b events same closing_is es is =
    is
    ∙ (ap (left_with seen b) es
    ∙ (left seen end b
    ∙ (ap (λ (s : Seen). seen_all s (link_end end ∷ closing b)) same ∙ ap (λ x. seen_all old (link_end end ∷ closing x)) closing_is)))

-- a call by which it ends
pub last_by : (seen old new : Seen) (end : LinkWord) (b : Bool) (calls : List Call) (events : List Event) → seen ≡ old → command_end (first old.parts.calls) ≡ Some end
    → b ≡ closes old.parts.drain.is_handled end → calls ≡ drop 1 seen.parts.calls → events ≡ push_all (close_events b) (push_all (end_events end) seen.events)
    → new ≡ left_with (record seen { parts = record seen.parts { calls = calls } }) b events
    → Advances (handled_first old.parts) old due_names.Ended new
last_by seen old new end b calls events same ends closing_is a es is = by_first (first old.parts.calls) ends
  where
    gone : Seen
    gone = record old { parts = record old.parts { calls = drop 1 old.parts.calls } }

    here : new ≡ seen_all gone (chain gone.parts (link_end end))
    here = left_by (record seen { parts = record seen.parts { calls = calls } }) gone new end b events (ap (λ cs. record seen { parts = record seen.parts { calls = cs } }) a ∙ ap (λ (s : Seen). record s { parts = record s.parts { calls = drop 1 s.parts.calls } }) same) closing_is es is

    by_call : (call : Call) → ends_link call ≡ Some end → Advances (Some (handled call)) old due_names.Ended new
    by_call Reconnect some = (refl, here ∙ ap (λ e. seen_all gone (chain gone.parts (link_end e))) (sym (same_Some word.Reconnect end some)))
    by_call call some = absurd (none-some end some)

    by_first : (call : Option Call) → command_end call ≡ Some end → Advances (option_map handled call) old due_names.Ended new
    by_first None some = absurd (none-some end some)
    by_first (Some call) some = by_call call some

-- ---- a PONG

abbrev with_unread : Seen → List ℕ → Seen
with_unread seen unread = record seen {
  parts = record seen.parts { link = record seen.parts.link { reads = cut (suc seen.parts.link.reads); wire = record seen.parts.link.wire { unread = unread } } };
}

-- by which the link goes on
pub answered : (old : Seen) (n : ℕ) → front old.parts.link.wire.unread ≡ got pong_op n → pong_end (first old.parts.link.pings) ≡ None
    → read_past n (pong_read old) ≡ seen_all old (chain old.parts (read pong_op))
answered old n here none =
    sym (ap (λ end. seen_all (seen_after old (read pong_op)) (ending old.parts.drain.is_handled end)) none ∙ ap (with_unread (pong_read old)) (ap (λ f. past f old.parts.link.wire.unread) here))

-- the same in two steps
pub answered_by : (seen old new : Seen) (n : ℕ) → seen ≡ pong_read old → new ≡ read_past n seen
    → front old.parts.link.wire.unread ≡ got pong_op n → pong_end (first old.parts.link.pings) ≡ None
    → new ≡ seen_all old (chain old.parts (read pong_op))
answered_by seen old new n same is here none = is ∙ (ap (read_past n) same ∙ answered old n here none)

drains_none : (ping : Option Ping) (end : LinkWord) → pong_end ping ≡ Some end → drained_by ping ≡ nobody
drains_none None end e = absurd (none-some end e)
drains_none (Some pinged.Tick) end e = absurd (none-some end e)
drains_none (Some (pinged.Drain s)) end e = absurd (none-some end e)
drains_none (Some pinged.DrainAll) end e = refl

counted_before : (old : Seen) (end : LinkWord) (b : Bool) → counted (seen_all old (link_end end ∷ closing b)) ≡ seen_all (counted old) (link_end end ∷ closing b)
counted_before old end true = refl
counted_before old end false = refl

-- by which it ends
pub drained : (old mid new : Seen) (end : LinkWord) → pong_end (first old.parts.link.pings) ≡ Some end → mid ≡ seen_all old (chain old.parts (link_end end))
    → new ≡ counted mid → new ≡ seen_all old (chain old.parts (read pong_op))
drained old mid new end ends is counts =
    let drain = old.parts.drain.is_handled in
    let rows = old.parts.subs.rows in
    let leaving = λ (rs : List Sub). seen_all (counted (record old { parts = record old.parts { subs = with_rows rs old.parts.subs } })) (link_end end ∷ closing (closes drain end)) in
    counts
    ∙ (ap counted is ∙ counted_before old end (closes drain end))
    ∙ sym (ap (λ e. seen_all (seen_after old (read pong_op)) (ending drain e)) ends
    ∙ ap leaving (ap (λ a. change a (sub_after old.parts.config (read pong_op)) rows) (drains_none (first old.parts.link.pings) end ends)))

pub pong_name : (p : Parts) (end : Option LinkWord) → pong_end (first p.link.pings) ≡ end → name_of p (read pong_op) ≡ ended_or end due_names.Read
pong_name p end is =
    ap (λ e. ended_or e due_names.Read) (end_in_ending p.drain.is_handled (pong_end (first p.link.pings)) ∙ is)

-- ---- commands that are written at once

pub written_up : (commands : List ClientOp) (waiting : List ℕ) → written true commands waiting ≡ write_all commands waiting
written_up [] waiting = refl
written_up (command ∷ more) waiting = refl

same_texts : (commands : List ClientOp) → command_texts commands ≡ texts commands
same_texts [] = refl
same_texts (command ∷ more) = ap (λ bytes. command_text command ++ bytes) (same_texts more)

pub written_ops : (ops commands : List ClientOp) (waiting : List ℕ) → ops ≡ commands → waiting ++ command_texts ops ≡ written true commands waiting
written_ops ops commands waiting is =
    ap (λ cs. waiting ++ command_texts cs) is
    ∙ (ap (λ text. waiting ++ text) (same_texts commands) ∙ (written_all commands waiting ∙ sym (written_up commands waiting)))

-- ---- a new link

-- buffers in which the texts of commands wait, written at once
pub written_at_once : (before channel : Channel) (ops commands : List ClientOp) → before ≡ new_channel → ops ≡ commands
    → channel ≡ with_waiting (before.wire.waiting ++ command_texts ops) before
    → channel.wire ≡ record { unread = []; waiting = write_all commands [] }
written_at_once before channel ops commands new same is =
    ap (λ (c : Channel). c.wire) is
    ∙ (ap (λ (c : Channel). record c.wire { waiting = c.wire.waiting ++ command_texts ops }) new
    ∙ ap (λ text. record { unread = []; waiting = text }) (ap (λ cs. [] ++ command_texts cs) same ∙ (ap (λ text. [] ++ text) (same_texts commands) ∙ written_all commands [])))
