-- One more piece goes last.
use Rattle.std.proofs.Common.{ap, sym, ◌∙◌, ◌++◌, arith}
use Rattle.std.specs.List.{concat}
use Rattle.bytes.proofs.Chunks.{concat_push}
use Rattle.nats_outbuf.proofs.Pieces.{holds_piece}
use Rattle.nats_outbuf.proofs.chunks.Chunks.push.Goals as goal

pub invariant_of-self-2 : goal.invariant_of-self-2
invariant_of-self-2 c =
    holds_piece c.self.inside.pieces.items _ c.args.piece c.self.inside.len _ c.self.invariant (sym c.if-is_empty.ensures) c.in_ok-push_back.ensures.items (omega (arith, c.in-Some.ensures, c.len.ensures.value))

pub returns-clause-ok : goal.returns-clause-ok
returns-clause-ok c =
    ap concat c.in_ok-push_back.ensures.items ∙ concat_push c.self.inside.pieces.items c.args.piece ∙ ap (λ (l : _). l ++ c.args.piece) c.self.view_is
