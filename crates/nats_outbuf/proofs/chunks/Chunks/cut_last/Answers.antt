-- A part of the last piece goes, or all of it.
use Rattle.std.proofs.Common.{arith, ap, sym, ◌∙◌, ◌++◌, take, ◌-◌, ℕ, List}
use Rattle.std.specs.List.{concat}
use Rattle.bytes.proofs.Chunks.{concat_push}
use Rattle.nats_outbuf.specs.Buffers.{one_piece}
use Rattle.nats_outbuf.proofs.Pieces.{holds_less, cut_of, concat_one}
use Rattle.nats_outbuf.proofs.chunks.Chunks.cut_last.Goals as goal

pub invariant_of-self : goal.invariant_of-self
invariant_of-self c =
    let rest = c.pop_back.new.self.items in
    let taken = c.min-taken.result in
    let kept = c.truncate.ensures ∙ ap (λ (n : ℕ). take (n - taken) c.in-Some.last) c.len-2.ensures.value in
    holds_less c.self.inside.pieces.items rest _ c.in-Some.last c.self.inside.len taken c.self.invariant c.in-Some.ensures.items
    (omega (arith, c.min-taken.ensures, c.len.ensures.value)) (c.put_back.ensures ∙ ap (λ (l : List ℕ). rest ++ one_piece l) kept)

pub returns-clause-rest : goal.returns-clause-rest
returns-clause-rest c =
    let rest = c.pop_back.new.self.items in
    let taken = c.min-taken.result in
    let kept = c.truncate.ensures ∙ ap (λ (n : ℕ). take (n - taken) c.in-Some.last) c.len-2.ensures.value in
    let all = sym c.self.view_is ∙ ap concat c.in-Some.ensures.items ∙ concat_push rest c.in-Some.last in
    ap concat (c.put_back.ensures ∙ ap (λ (l : List ℕ). rest ++ one_piece l) kept) ∙ concat_one rest _
    ∙ cut_of c.args.self.now (concat rest) c.in-Some.last taken all (omega (arith, c.min-taken.ensures, c.len.ensures.value))
