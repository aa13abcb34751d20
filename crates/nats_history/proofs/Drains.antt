-- A subscription that is drained takes its messages in until the PONG of its drain.
use Rattle.std.proofs.Common.{◌≡◌, ℕ, Bool, true, false, cond, not, eqb, ◌&&◌, [], ◌∷◌, ◌++◌, Option, Some, None, refl, sym, ◌∙◌, ap}
use Rattle.std.proofs.lemmas.Bool.{false≢true, eq-eqb, eqb-true}
use Rattle.nats_lines.specs.Operations.{message, pong_op}
use Rattle.nats_tables.specs.Numbers.{is_about}
use Rattle.nats_history.specs.declared.config.Config.{Config}
use Rattle.nats_history.specs.declared.call.Call.TheVariants.{Drain}
use Rattle.nats_history.specs.declared.ping.Ping.{Ping}
use Rattle.nats_history.specs.declared.ping.Ping.TheVariants as pinged
use Rattle.nats_history.specs.declared.stage.Stage.{Stage}
use Rattle.nats_history.specs.declared.stage.Stage.TheVariants.{Asked, Open, Ended}
use Rattle.nats_history.specs.Queue.{first}
use Rattle.nats_history.specs.History.{Step, came, opened, read, handled, link_end, closed, History, drained_by, is_given, concerns, at_after, at_of, pings, Told, sub_of, is_open, has_room, listens, opens, ends, open_if, end_if, told_after, told}
use Rattle.nats_history.specs.Laws.{GoesOn, AllGoOn, DrainPuts}
use Rattle.nats_history.proofs.Rows.{told_nothing, both_true}

drained_is : (s : ℕ) (ping : Option Ping) → is_about s (drained_by ping) ≡ true → ping ≡ Some (pinged.Drain s)
drained_is s None e = absurd (false≢true e)
drained_is s (Some (pinged.Drain k)) e = ap (λ n. Some (pinged.Drain n)) (sym (eqb-true s k e))
drained_is s (Some pinged.Tick) e = absurd (false≢true e)
drained_is s (Some pinged.DrainAll) e = absurd (false≢true e)

-- none of these steps ends it
ends_not : (c : Config) (s : ℕ) (h : History) (step : Step) → GoesOn c s h step → concerns s (at_of h) step ≡ true → ends c (sub_of (told c s h)) step ≡ false
ends_not c s h (opened info) goes is = absurd goes
ends_not c s h (link_end end) goes is = absurd goes
ends_not c s h closed goes is = absurd goes
ends_not c s h (read pong_op) goes is =
    absurd (goes (drained_is s (first (pings h)) (both_true (is_about s (drained_by (first (pings h)))) (is_given s (at_after (read pong_op) (at_of h))) is).0))
ends_not c s h (read (message sid m)) goes is = goes (eqb-true s sid (both_true (eqb s sid) (is_given s (at_of h)) is).0)
ends_not c s h (read operation) goes is = refl
ends_not c s h (handled (Drain k)) goes is = refl
ends_not c s h (handled call) goes is = goes is
ends_not c s h step goes is = refl

open_stays : (b : Bool) → open_if b Open ≡ Open
open_stays true = refl
open_stays false = refl

open_is : (stage : Stage) → is_open stage ≡ true → stage ≡ Open
open_is Open e = refl
open_is Asked e = absurd (false≢true e)
open_is Ended e = absurd (false≢true e)

module _ (c : Config) (h : History) (s : ℕ) (is_open_then : is_open (told c s h).stage ≡ true) where
  still_open : (later : History) → AllGoOn c s h later → (told c s (later ++ h)).stage ≡ Open
  still_open [] goes = open_is (told c s h).stage is_open_then
  still_open ((place, step) ∷ later) goes = by_concern (concerns s (at_of (later ++ h)) step) refl (still_open later goes.1)
    where
      by_concern : (b : Bool) → concerns s (at_of (later ++ h)) step ≡ b → (told c s (later ++ h)).stage ≡ Open
          → (cond b (told_after c place step (told c s (later ++ h))) (told c s (later ++ h))).stage ≡ Open
      by_concern true is before =
          ap (λ e. end_if e (open_if (opens step) (told c s (later ++ h)).stage)) (ends_not c s (later ++ h) step goes.0 is)
          ∙ (ap (open_if (opens step)) before ∙ open_stays (opens step))
      by_concern false is before = before

-- an open subscription has a number that was given
open_given : (c : Config) (s : ℕ) (g : History) → (told c s g).stage ≡ Open → is_given s (at_of g) ≡ true
open_given c s g opened_is = by_given (is_given s (at_of g)) refl
  where
    by_given : (b : Bool) → is_given s (at_of g) ≡ b → b ≡ true
    by_given true e = refl
    by_given false e = absurd (false≢true (ap is_open (ap (λ (t : Told). t.stage) (sym (told_nothing c s g e)) ∙ opened_is)))

pub drain_puts : DrainPuts
drain_puts c h s place m later is_open_then goes unshut room =
    let g = later ++ h in
    let t = told c s g in
    let stays = still_open c h s is_open_then later goes in
    let here : concerns s (at_of g) (came s m) ≡ true = ap (λ b. b && is_given s (at_of g)) (eq-eqb s s refl) ∙ open_given c s g stays in
    let put : (listens (sub_of t) && has_room c (sub_of t)) ≡ true =
    ap (λ stage. (is_open stage && not t.is_shut) && has_room c (sub_of t)) stays ∙ (ap (λ b. not b && has_room c (sub_of t)) unshut ∙ room)
    in
    ap (λ b. (cond b (told_after c place (came s m) t) t).puts) here ∙ ap (λ b. t.puts ++ cond b ((place, m) ∷ []) []) put
