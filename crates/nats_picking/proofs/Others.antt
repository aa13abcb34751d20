-- Those that match, less the publisher's own.
use Rattle.std.proofs.Common.{◌≡◌, ℕ, Bool, true, false, ◌&&◌, List, [], ◌∷◌, filter, refl, ap, ◌∙◌}
use Rattle.std.specs.Prelude.{if◌then◌else◌}
use Rattle.nats_interests.specs.declared.interest.Interest.{Interest}
use Rattle.nats_interests.specs.Index.{is_match}
use Rattle.nats_picking.specs.Hearing.{is_other, heard}

pub without_own : (peer : ℕ) (subject : List ℕ) (interests : List Interest)
    → filter (is_other peer) (filter (is_match subject) interests) ≡ heard peer false subject interests
without_own peer subject [] = refl
without_own peer subject (i ∷ interests) = by (is_match subject i) (is_other peer i) refl (without_own peer subject interests)
  where
    others : List Interest
    others = heard peer false subject interests

    by : (a b : Bool) → is_other peer i ≡ b → filter (is_other peer) (filter (is_match subject) interests) ≡ others
        → filter (is_other peer) (if a then i ∷ filter (is_match subject) interests else filter (is_match subject) interests)
        ≡ (if b && a then i ∷ others else others)
    by true true at later = ap (λ c. if c then i ∷ filter (is_other peer) (filter (is_match subject) interests) else filter (is_other peer) (filter (is_match subject) interests)) at ∙ ap (λ (is : List Interest). i ∷ is) later
    by true false at later = ap (λ c. if c then i ∷ filter (is_other peer) (filter (is_match subject) interests) else filter (is_other peer) (filter (is_match subject) interests)) at ∙ later
    by false true at later = later
    by false false at later = later
