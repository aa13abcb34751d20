-- One more write.
use Rattle.std.proofs.Common.{◌≡◌, refl, ◌∙◌, ap, ℕ, List, ◌++◌, take, drop, append_assoc, Option, Some, None}
use Rattle.std.proofs.lemmas.List.{take-append-drop}
use Rattle.std.specs.Io.KnownBytes.{append_known}
use Rattle.nats_outside.specs.Told.{WriteTold}
use Rattle.nats_dial.specs.Lines.{wrote_all}

known_twice : (known : Option (List ℕ)) (first second : List ℕ)
    → append_known (append_known known first) second ≡ append_known known (first ++ second)
known_twice None first second = refl
known_twice (Some bytes) first second = ap Some (append_assoc bytes first second)

pub wrote_more : (w now next : WriteTold) (done more : List ℕ) → now ≡ wrote_all done w → next ≡ wrote_all more now
    → next ≡ wrote_all (done ++ more) w
wrote_more w now next done more e step =
    step ∙ ap (λ (v : WriteTold). wrote_all more v) e
    ∙ ap (λ (t : Option (List ℕ)). record w { taken = t }) (known_twice w.taken done more)

pub left_more : (bytes left rest done : List ℕ) (n : ℕ) → done ++ left ≡ bytes → rest ≡ drop n left
    → (done ++ take n left) ++ rest ≡ bytes
left_more bytes left rest done n e r =
    ap (λ (l : List ℕ). (done ++ take n left) ++ l) r ∙ append_assoc done (take n left) (drop n left)
    ∙ ap (λ (l : List ℕ). done ++ l) (take-append-drop n left) ∙ e
