-- The joined texts are one more piece.
use Rattle.std.proofs.Common.{rules, arith, ap, sym, ◌∙◌, ◌++◌, append-nil, ◌∷◌, [], List, ℕ}
use Rattle.std.proofs.lemmas.List.{take_all, drop_all}
use Rattle.std.specs.List.{concat}
use Rattle.bytes.proofs.Chunks.{concat_push}
use Rattle.nats_outbuf.proofs.Pieces.{holds_piece}
use Rattle.nats_outbuf.proofs.chunks.Chunks.seal.Goals as goal

pub invariant_of-self-2 : goal.invariant_of-self-2
invariant_of-self-2 c =
    let whole = c.in_ok-piece.ensures.front ∙ take_all c.len-count.result c.args.tail.now.items (omega (arith, c.len-count.ensures.value)) in
    holds_piece c.self.inside.pieces.items _ c.args.tail.now.items c.self.inside.len _ c.self.invariant (sym c.if-is_empty.ensures)
    (search rules) (search rules)

pub returns-clause-whole : goal.returns-clause-whole
returns-clause-whole c =
    let old = c.self.inside.pieces.items in
    let rest = c.freeze_to.new.self.items in
    let tail = c.args.tail.now.items in
    let whole = c.in_ok-piece.ensures.front ∙ take_all c.len-count.result tail (omega (arith, c.len-count.ensures.value)) in
    let none = c.in_ok-piece.ensures.rest.0 ∙ drop_all c.len-count.result tail (omega (arith, c.len-count.ensures.value)) in
    let items = c.push_back_reserved.ensures.items ∙ ap (λ (l : List (List ℕ)). l ++ c.in_ok-piece.piece ∷ []) c.in_ok-reserve.ensures.items in
    ap (λ (l : List (List ℕ)). concat l ++ rest) items
    ∙ ap (λ (l : List ℕ). l ++ rest) (concat_push old c.in_ok-piece.piece)
    ∙ ap (λ (r : List ℕ). (concat old ++ c.in_ok-piece.piece) ++ r) none
    ∙ append-nil (concat old ++ c.in_ok-piece.piece)
    ∙ ap (λ (l : List ℕ). concat old ++ l) whole
    ∙ ap (λ (l : List ℕ). l ++ tail) c.self.view_is
