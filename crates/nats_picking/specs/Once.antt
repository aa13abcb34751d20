-- Each group gets a message once: its member with the least count, of several such the oldest.
use Rattle.std.specs.Prelude.{◌≡◌, ℕ, List, [], ◌∷◌, filter}
use Rattle.std.proofs.Common.{Less, nat_cmp}
use Rattle.std.specs.Cmp.Lexicographic.{slice_cmp}
use Rattle.std.specs.List.{cons_option}
use Rattle.nats_interests.specs.declared.interest.Interest.{Interest}
use Rattle.nats_picking.specs.Hearing.{is_in, least}
use Rattle.nats_picking.specs.Picking.{group_name, picks}

-- the one of a group, where one of it matched
abbrev pub EachOnce : Type 0
EachOnce = (heard : List Interest) (name : List ℕ)
    → filter (is_in name) (picks heard) ≡ cons_option (least (filter (is_in name) heard)) []

abbrev pub Above : List ℕ → List Interest → Type 0
Above name [] = Unit {0}
Above name (i ∷ more) = (slice_cmp nat_cmp name (group_name i) ≡ Less) × Above name more

abbrev pub Ascend : List Interest → Type 0
Ascend [] = Unit {0}
Ascend (i ∷ more) = Above (group_name i) more × Ascend more

-- in the order of the names' bytes
abbrev pub InOrder : Type 0
InOrder = (heard : List Interest) → Ascend (picks heard)
