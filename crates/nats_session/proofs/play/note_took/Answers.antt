-- Where nothing waits nothing is taken.
use Rattle.std.proofs.Common.{sym, ◌∙◌}
use Rattle.nats_session.proofs.Chains.{none_taken}
use Rattle.nats_session.proofs.play.note_took.Goals as goal

pub returns-then-pending-eq0 : goal.returns-then-pending-eq0
returns-then-pending-eq0 c =
    none_taken c.args.n c.args.draft.now c.args.handler.now.parts.link.wire.waiting (sym c.pending.ensures ∙ c.if-pending-eq0.true)
