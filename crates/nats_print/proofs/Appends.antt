-- Two texts are appended one after the other.
use Rattle.std.specs.Prelude.{OnOk}
use Rattle.std.proofs.Common.{◌≡◌, ℕ, List, ◌++◌, Result, Ok, Err, ap, ◌∙◌, append_assoc}

pub appends_two : {T E : Type 0} (r : Result T E) (old first second now new : List ℕ) → now ≡ old ++ first → OnOk r (new ≡ now ++ second)
    → OnOk r (new ≡ old ++ (first ++ second))
appends_two (Ok x) old first second now new before after = after ∙ ap (λ (l : List ℕ). l ++ second) before ∙ append_assoc old first second
appends_two (Err e) old first second now new before after = tt
