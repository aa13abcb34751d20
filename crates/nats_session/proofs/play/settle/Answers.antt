-- Each round plays a due step, until none is due.
use Rattle.std.proofs.Common.{refl, sym, ◌∙◌}
use Rattle.nats_session.proofs.Settles.{goes_by, rests_here}
use Rattle.nats_session.proofs.play.settle.Goals as goal

pub due-smaller : goal.due-smaller
due-smaller c =
    (goes_by c.args.place c.due.handler.parts c.in_ok-look.look c.play_due.new.handler c.due.draft c.play_due.new.draft c.in_ok-look.ensures.sees (sym c.is_nothing.ensures ∙ c.if-is_nothing.false) c.in_ok-play_due.ensures).falls

pub due-preserved : goal.due-preserved
due-preserved c =
    let round = goes_by c.args.place c.due.handler.parts c.in_ok-look.look c.play_due.new.handler c.due.draft c.play_due.new.draft c.in_ok-look.ensures.sees (sym c.is_nothing.ensures ∙ c.if-is_nothing.false) c.in_ok-play_due.ensures in
    record {
      none = round.none;
      settled = round.settled;
      same_parts = round.same_parts ∙ c.due.invariant.same_parts;
      same_sheet = round.same_sheet ∙ c.due.invariant.same_sheet;
      place = refl;
    }

pub returns-then-is_at_rest-clause-parts : goal.returns-then-is_at_rest-clause-parts
returns-then-is_at_rest-clause-parts c =
    (rests_here c.args.place c.args.place c.due.handler c.args.handler.now.parts c.due.draft c.args.draft.now (sym c.is_at_rest.ensures ∙ c.if-is_at_rest.true)
    c.due.invariant.none c.due.invariant.settled c.due.invariant.same_parts c.due.invariant.same_sheet).0

pub returns-then-is_at_rest-clause-sheet : goal.returns-then-is_at_rest-clause-sheet
returns-then-is_at_rest-clause-sheet c =
    (rests_here c.args.place c.args.place c.due.handler c.args.handler.now.parts c.due.draft c.args.draft.now (sym c.is_at_rest.ensures ∙ c.if-is_at_rest.true)
    c.due.invariant.none c.due.invariant.settled c.due.invariant.same_parts c.due.invariant.same_sheet).1
