-- Each round plays the next turn, until one may not come or all were played.
use Rattle.std.proofs.Common.{sym, ◌∙◌, ap, subst, arith, add-one}
use Rattle.nats_session.specs.Handler.{Seen}
use Rattle.nats_history.specs.Schedule.{due}
use Rattle.nats_history.proofs.Dues.{none_left}
use Rattle.nats_session.specs.Machine.{quiet, own_parts, turn_sheet}
use Rattle.nats_session.proofs.Runs.{Running, begins_at, stops_at, goes_on, ends_at, wanted}
use Rattle.nats_session.proofs.play.play_all.Goals as goal

pub turns-init : goal.turns-init
turns-init c = record {
  seen = c.requires.clean;
  none = c.requires.none;
  running = λ config parts sheet. begins_at config c.args.turns.now c.args.handler.now.parts c.args.draft.now parts sheet;
}

pub returns-then-not-is_valid : goal.returns-then-not-is_valid
returns-then-not-is_valid c config parts sheet =
    stops_at config c.args.turns.now c.turns.index c.index-turns-index.result c.turns.handler.parts c.turns.draft
    (c.turns.invariant.running config parts sheet) (omega (arith, c.turns-test.true)) c.index-turns-index.is
    (sym c.is_valid.ensures ∙ c.if-not-is_valid.true)

pub turns-preserved : goal.turns-preserved
turns-preserved c =
    let played = c.in_ok-play_turn.ensures in
    let turn = c.index-turns-index.result in
    let p = c.turns.handler.parts in
    let moved = ap (λ (s : Seen). s.parts) played.parts in
    record {
      seen = played.parts ∙ sym (ap quiet moved);
      none = ap due moved ∙ none_left (own_parts turn p);
      running = λ config parts sheet.
          subst (λ i. Running config c.args.turns.now i c.play_turn.new.handler.parts c.play_turn.new.draft)
          (sym (add-one c.turns.index))
          (goes_on config c.args.turns.now c.turns.index turn p c.play_turn.new.handler.parts c.turns.draft
          c.play_turn.new.draft (c.turns.invariant.running config parts sheet)
          (omega (arith, c.turns-test.true)) c.index-turns-index.is
          (sym c.is_valid.ensures ∙ c.if-not-is_valid.false) moved
          (played.sheet ∙ ap (λ place. turn_sheet place turn p c.turns.draft) (add-one c.turns.index)));
    }

pub returns : goal.returns
returns c config parts sheet =
    ends_at config c.args.turns.now c.turns.index c.turns.handler.parts c.turns.draft
    (c.turns.invariant.running config parts sheet) (omega (arith, c.turns-test.false))

pub returns-in_err-play_turn : goal.returns-in_err-play_turn
returns-in_err-play_turn c config parts sheet =
    wanted config c.args.turns.now c.from_residual.result c.play_turn.new.handler.parts
    c.play_turn.new.draft c.from_residual.ensures
