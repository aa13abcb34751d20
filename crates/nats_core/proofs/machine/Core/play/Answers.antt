-- A turn that may come is played and noted, and then due steps are played.
use Rattle.std.proofs.Common.{refl, sym, ◌∙◌}
use Rattle.nats_core.specs.Calls.{parts_in}
use Rattle.nats_core.proofs.Cores.{may_where_none, may_valid, plays_wanting, plays_ok}
use Rattle.nats_core.proofs.machine.Core.play.Goals as goal

pub returns-then-not-may : goal.returns-then-not-may
returns-then-not-may c = (
  sym (may_where_none (parts_in c.args.self.now) c.args.turn c.requires) ∙ (sym c.may.ensures ∙ c.if-not-may.true),
  refl,
)

pub note_turn-requires : goal.note_turn-requires
note_turn-requires c = sym c.may.ensures ∙ c.if-not-may.false

pub returns-in_err-reply : goal.returns-in_err-reply
returns-in_err-reply c =
    plays_wanting c.args.self.now c.note_turn.new.self c.args.turn c.from_residual.result c.from_residual.ensures
    (may_valid (parts_in c.args.self.now) c.args.turn (sym c.may.ensures ∙ c.if-not-may.false)) c.in_err-reply.ensures.err

pub returns : goal.returns
returns c =
    plays_ok c.args.self.now c.note_turn.new.self c.settle.new.self c.args.turn c.in_ok-reply.reply
    (may_valid (parts_in c.args.self.now) c.args.turn (sym c.may.ensures ∙ c.if-not-may.false)) c.in_ok-reply.ensures.reply c.in_ok-reply.ensures.ok c.settle.ensures
