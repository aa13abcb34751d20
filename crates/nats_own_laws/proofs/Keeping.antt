-- What each step keeps by which no link comes up is kept by each such turn.
use Rattle.std.proofs.Common.{◌≡◌, ℕ, zero, suc, Bool, true, false, List, [], ◌∷◌, length, Option, Some, None, refl}
use Rattle.std.specs.Prelude.{nat_lt, if◌then◌else◌}
use Rattle.nats_lines.specs.Operations.{Front, front, got, unfinished, fault}
use Rattle.nats_history.specs.declared.config.Config.{Config}
use Rattle.nats_history.specs.declared.call.Call.{Call}
use Rattle.nats_history.specs.declared.turn.Turn.{Turn}
use Rattle.nats_history.specs.declared.turn.Turn.TheVariants.{Up, Piece, Write, Take}
use Rattle.nats_history.specs.History.{Step, opened, History}
use Rattle.nats_history.specs.Parts.{Parts, parts_of}
use Rattle.nats_history.specs.Schedule.{followers, chain, own_steps, due_call, due_by, due, put_steps, most_due, write_limit, settled_within, settled, after_turn, steps_from}
use Rattle.nats_heard.specs.Heard.{NoneUp}
use Rattle.nats_heard.proofs.Steps.{Passes, AreAll, followers_all, own_all}

-- a step by which no link comes up
abbrev pub is_further : Step → Bool
is_further (opened info) = false
is_further step = true

further_passes : Passes is_further
further_passes = record {
  ticks = refl;
  accepts = λ call. refl;
  goes = λ sid. refl;
  passes = λ ticket. refl;
  ends = λ end. refl;
  closes = refl;
}

abbrev IsFurther : Option Step → Type 0
IsFurther None = Unit {0}
IsFurther (Some step) = is_further step ≡ true

due_further : (p : Parts) → IsFurther (due p)
due_further p = by_up p.link.is_up
  where
    by_call : (b : Bool) (calls : List Call) → IsFurther (due_call b calls)
    by_call true [] = tt
    by_call true (call ∷ more) = refl
    by_call false calls = tt

    by_front : (found : Front) → IsFurther (due_by found p)
    by_front (got operation n) = refl
    by_front (fault n) = refl
    by_front unfinished = by_call (nat_lt (length p.link.wire.waiting) write_limit) p.calls

    by_up : (b : Bool) → IsFurther (if b then due_by (front p.link.wire.unread) p else None)
    by_up true = by_front (front p.link.wire.unread)
    by_up false = tt

own_further : (p : Parts) (turn : Turn) (turns : List Turn) → NoneUp (turn ∷ turns) → AreAll is_further (own_steps p turn)
own_further p (Up info) turns none = absurd none
own_further p (Piece bytes) turns none = own_all is_further further_passes p (Piece bytes) refl
own_further p (Write n) turns none = own_all is_further further_passes p (Write n) (λ m. refl)
own_further p (Take sid) turns none = own_all is_further further_passes p (Take sid) refl
own_further p turn turns none = own_all is_further further_passes p turn tt

pub later_none : (turn : Turn) (turns : List Turn) → NoneUp (turn ∷ turns) → NoneUp turns
later_none (Up info) turns none = absurd none
later_none turn turns none = none

module _ (c : Config) (Holds : History → Type 0) (keeps : (place : ℕ) (step : Step) (h : History) → is_further step ≡ true → Holds h → Holds ((place, step) ∷ h)) where
  all_keep : (place : ℕ) (steps : List Step) (h : History) → AreAll is_further steps → Holds h → Holds (put_steps place steps h)
  all_keep place [] h further holds = holds
  all_keep place (step ∷ steps) h further holds = all_keep place steps ((place, step) ∷ h) further.1 (keeps place step h further.0 holds)

  within_keep : (place most : ℕ) (next : Option Step) (h : History) → IsFurther next → Holds h → Holds (settled_within c place most next h)
  within_keep place most None h further holds = holds
  within_keep place zero (Some step) h further holds = holds
  within_keep place (suc most) (Some step) h further holds =
      let more = put_steps place (chain (parts_of c h) step) h in
      within_keep place most (due (parts_of c more)) more (due_further (parts_of c more))
      (all_keep place (followers (parts_of c h) step) ((place, step) ∷ h) (followers_all is_further further_passes (parts_of c h) step)
      (keeps place step h further holds))

  pub settled_keep : (place : ℕ) (h : History) → Holds h → Holds (settled c place h)
  settled_keep place h holds = within_keep place (most_due (parts_of c h)) (due (parts_of c h)) h (due_further (parts_of c h)) holds

  pub turn_keeps : (place : ℕ) (turn : Turn) (turns : List Turn) (h : History) → NoneUp (turn ∷ turns) → Holds h → Holds (after_turn c place turn h)
  turn_keeps place turn turns h none holds =
      settled_keep place (put_steps place (own_steps (parts_of c h) turn) h)
      (all_keep place (own_steps (parts_of c h) turn) h (own_further (parts_of c h) turn turns none) holds)

  pub turns_keep : (place : ℕ) (turns : List Turn) (h : History) → NoneUp turns → Holds h → Holds (steps_from c place turns h)
  turns_keep place [] h none holds = holds
  turns_keep place (turn ∷ turns) h none holds =
      turns_keep (suc place) turns (after_turn c place turn h) (later_none turn turns none) (turn_keeps place turn turns h none holds)
