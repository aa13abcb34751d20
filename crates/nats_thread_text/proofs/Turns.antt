-- The turns of a journal, one by one.
use Rattle.std.proofs.Common.{◌≡◌, List, [], ◌∷◌, ◌++◌, refl, ap}
use Rattle.nats_core.specs.declared.entry.Entry.{Entry}
use Rattle.nats_core.specs.Journal.{turns_of}

-- one entry more
pub turns_more : (journal : List Entry) (e : Entry) → turns_of (journal ++ e ∷ []) ≡ turns_of journal ++ e.turn ∷ []
turns_more [] e = refl
turns_more (first ∷ journal) e = ap (λ turns. first.turn ∷ turns) (turns_more journal e)
