-- A run is half way: playing the turns that are left from here is playing all of them from the beginning.
use Rattle.std.proofs.Common.{◌≡◌, ℕ, suc, ◌+◌, ◌≤◌, ◌<◌, true, false, cond, List, ◌∷◌, length, get_or, drop, Some, None, Result, Ok, Err, IsErr, IsErrAnd, refl, sym, ◌∙◌, ap, subst, add-one, drop-cons}
use Rattle.std.proofs.lemmas.List.{drop_all}
use Rattle.nats_history.specs.declared.config.Config.{Config}
use Rattle.nats_history.specs.declared.turn.Turn.{Turn}
use Rattle.nats_history.specs.Parts.{Parts}
use Rattle.nats_history.specs.Schedule.{is_valid_turn, due, out_of_turn}
use Rattle.nats_history.specs.Transcripts.{transcript, Plays}
use Rattle.nats_history.specs.declared.transcript.Transcript.{Transcript}
use Rattle.nats_history.specs.declared.transcript.RunError.{RunError}
use Rattle.nats_history.specs.declared.transcript.RunError.TheVariants as refused
use Rattle.nats_history.proofs.Dues.{none_left}
use Rattle.nats_session.specs.Handler.{idle}
use Rattle.nats_session.specs.Sheet.{Sheet, empty_sheet, finished}
use Rattle.nats_session.specs.Machine.{own_parts, turn_parts, turn_sheet, played_parts, played_sheet, first_out_of_turn}
use Rattle.nats_session.specs.Playing.{PlaysTo}
use Rattle.nats_session.proofs.Plays.{first_from_idle, transcript_from_idle}

-- the first i turns were played
pub record Running (c : Config) (turns : List Turn) (i : ℕ) (p : Parts) (sheet : Sheet) : Type 0 where
  pub none : due p ≡ None
  pub first : first_out_of_turn (suc i) (drop i turns) p ≡ first_out_of_turn 1 turns (idle c)
  pub parts : played_parts (drop i turns) p ≡ played_parts turns (idle c)
  pub written : played_sheet (suc i) (drop i turns) p sheet ≡ played_sheet 1 turns (idle c) empty_sheet

pub begins : (c : Config) (turns : List Turn) → Running c turns 0 (idle c) empty_sheet
begins c turns = record { none = refl; first = refl; parts = refl; written = refl }

pub begins_at : (c : Config) (turns : List Turn) (p : Parts) (sheet : Sheet) → p ≡ idle c → sheet ≡ empty_sheet
    → Running c turns 0 p sheet
begins_at c turns p sheet parts written = rw (parts, written) (begins c turns)

next_turn : (turns : List Turn) (i : ℕ) (turn : Turn) → i < length turns → turn ≡ get_or turns i turn → drop i turns ≡ turn ∷ drop (suc i) turns
next_turn turns i turn less at =
    drop-cons turns i turn less ∙ ap (λ t. t ∷ drop (suc i) turns) (sym at)

pub stops_at : (c : Config) (turns : List Turn) (i : ℕ) (turn : Turn) (p : Parts) (sheet : Sheet) → Running c turns i p sheet → i < length turns → turn ≡ get_or turns i turn → is_valid_turn p turn ≡ false → out_of_turn c turns ≡ Some (i + 1)
stops_at c turns i turn p sheet running less at bad =
    let here : first_out_of_turn (suc i) (drop i turns) p ≡ Some (i + 1) =
    ap (λ ts. first_out_of_turn (suc i) ts p) (next_turn turns i turn less at) ∙ (ap (λ b. cond b (first_out_of_turn (suc (suc i)) (drop (suc i) turns) (turn_parts turn p)) (Some (suc i))) bad ∙ ap Some (sym (add-one i)))
    in
    sym (first_from_idle c turns) ∙ (sym running.first ∙ here)

pub goes_on : (c : Config) (turns : List Turn) (i : ℕ) (turn : Turn) (p p' : Parts) (sheet sheet' : Sheet) → Running c turns i p sheet → i < length turns → turn ≡ get_or turns i turn → is_valid_turn p turn ≡ true
    → p' ≡ turn_parts turn p → sheet' ≡ turn_sheet (suc i) turn p sheet → Running c turns (suc i) p' sheet'
goes_on c turns i turn p p' sheet sheet' running less at good a b =
    let next = next_turn turns i turn less at in
    record {
      none = ap due a ∙ none_left (own_parts turn p);
      first = ap (first_out_of_turn (suc (suc i)) (drop (suc i) turns)) a ∙ (sym (ap (λ ts. first_out_of_turn (suc i) ts p) next ∙ ap (λ v. cond v (first_out_of_turn (suc (suc i)) (drop (suc i) turns) (turn_parts turn p)) (Some (suc i))) good) ∙ running.first);
      parts = ap (played_parts (drop (suc i) turns)) a ∙ (sym (ap (λ ts. played_parts ts p) next) ∙ running.parts);
      written = ap (λ q. played_sheet (suc (suc i)) (drop (suc i) turns) q sheet') a ∙ (ap (played_sheet (suc (suc i)) (drop (suc i) turns) (turn_parts turn p)) b ∙ (sym (ap (λ ts. played_sheet (suc i) ts p sheet) next) ∙ running.written));
    }

pub ends_at : (c : Config) (turns : List Turn) (i : ℕ) (p : Parts) (sheet : Sheet) → Running c turns i p sheet → length turns ≤ i → (out_of_turn c turns ≡ None) × (finished p sheet ≡ transcript c turns)
ends_at c turns i p sheet running past =
    let over = drop_all i turns past in
    let none : out_of_turn c turns ≡ None =
    sym (first_from_idle c turns) ∙ (sym running.first ∙ ap (λ ts. first_out_of_turn (suc i) ts p) over)
    in
    let parts : p ≡ played_parts turns (idle c) = sym (ap (λ ts. played_parts ts p) over) ∙ running.parts in
    let written : sheet ≡ played_sheet 1 turns (idle c) empty_sheet =
    sym (ap (λ ts. played_sheet (suc i) ts p sheet) over) ∙ running.written
    in
    (none, ap (λ q. finished q sheet) parts ∙ (ap (finished (played_parts turns (idle c))) written ∙ transcript_from_idle c turns none))

-- memory was wanting
pub wanting : (c : Config) (turns : List Turn) (r : Result Transcript RunError) → IsErr r × IsErrAnd r (λ e. e ≡ refused.NoMemory) → Plays c turns r
wanting c turns (Ok t) is = absurd is.1
wanting c turns (Err e) is = subst (λ x. Plays c turns (Err x)) (sym is.1) tt

-- the same before a transcript is made
pub wanted : (c : Config) (turns : List Turn) (r : Result (Unit {0}) RunError) (p : Parts) (sheet : Sheet)
    → IsErr r × IsErrAnd r (λ e. e ≡ refused.NoMemory) → PlaysTo c turns r p sheet
wanted c turns (Ok t) p sheet is = absurd is.1
wanted c turns (Err e) p sheet is = subst (λ x. PlaysTo c turns (Err x) p sheet) (sym is.1) tt

-- what stops the turns stops the run
pub refused_so : (c : Config) (turns : List Turn) (e : RunError) (p : Parts) (sheet : Sheet)
    → PlaysTo c turns (Err e) p sheet → Plays c turns (Err e)
refused_so c turns (refused.OutOfTurn place) p sheet is = is
refused_so c turns refused.NoMemory p sheet is = tt
