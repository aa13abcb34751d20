-- Where no byte is unread nothing stands at the front.
use Rattle.std.proofs.Common.{length, ap, sym, ◌∙◌}
use Rattle.nats_session.specs.Handler.{Seen}
use Rattle.nats_session.proofs.Handlers.{none_unread}
use Rattle.nats_session.proofs.handler.ConnectionHandler.look.Goals as goal

pub look_at_calls-requires-clause-nothing_to_read : goal.look_at_calls-requires-clause-nothing_to_read
look_at_calls-requires-clause-nothing_to_read c =
    none_unread c.args.self.now.parts.link.wire.unread
    (ap (λ (s : Seen). length s.parts.link.wire.unread) (sym c.self.view_is) ∙ (sym c.unread.ensures ∙ c.if-unread-eq0.true))
