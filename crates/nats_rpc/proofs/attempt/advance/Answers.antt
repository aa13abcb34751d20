use Rattle.std.proofs.Common.{sym}
use Rattle.nats_rpc.proofs.Polls.{moves_live}
use Rattle.nats_rpc.proofs.attempt.advance.Goals as goal

pub returns-in-Live : goal.returns-in-Live
returns-in-Live c = moves_live c.args.asked.now.stage c.in-Live.attempt _ _ _ _ _ _ _ _ _ (sym c.in-Live.ensures)
    c.await_reply.ensures
