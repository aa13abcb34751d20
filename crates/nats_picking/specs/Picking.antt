-- How the code finds who gets a message: members of groups one by one.
use Rattle.std.specs.Prelude.{◌≡◌, ℕ, suc, ◌<◌, List, [], ◌∷◌, ◌++◌, length, take, drop, map, filter, fold, if◌then◌else◌}
use Rattle.std.specs.Ordering.{nat_cmp, match_ordering}
use Rattle.std.specs.Option.{unwrap_or}
use Rattle.std.specs.Cmp.Lexicographic.{slice_cmp}
pub use Rattle.nats_interests.specs.Index.{nows}
use Rattle.nats_interests.specs.declared.interest.Interest.{Interest}
use Rattle.nats_picking.specs.declared.picking.Target.{Target}
use Rattle.nats_picking.specs.declared.picking.Spot.{Spot}
use Rattle.nats_picking.specs.declared.picking.Spot.TheVariants.{Before, Same}
use Rattle.nats_picking.specs.Hearing.{is_plain, has_less}

abbrev pub target_of : Interest → Target
target_of i = record { peer = i.peer; sid = i.sid }

abbrev pub group_name : Interest → List ℕ
group_name i = unwrap_or i.group []

abbrev pub better : Interest → Interest → Interest
better i best = if has_less i best then i else best

-- the best of each group, by name, with one more member
abbrev pub onto_pick : Interest → List Interest → List Interest
onto_pick i [] = i ∷ []
onto_pick i (best ∷ more) =
    match_ordering (slice_cmp nat_cmp (group_name i) (group_name best))
    (i ∷ best ∷ more) (better i best ∷ more) (best ∷ onto_pick i more)

abbrev pub pick : List Interest → Interest → List Interest
pick picks i = if is_plain i then picks else onto_pick i picks

abbrev pub picks : List Interest → List Interest
picks heard = fold pick [] heard

-- where a member belongs
abbrev pub BelongsAt : Interest → List Interest → Spot → Type 0
BelongsAt i all (Before k) = (k < suc (length all)) × (onto_pick i all ≡ take k all ++ i ∷ drop k all)
BelongsAt i all (Same k) = (best : Interest) × (more : List Interest)
    × (drop k all ≡ best ∷ more) × (onto_pick i all ≡ take k all ++ better i best ∷ more)

abbrev pub plain_targets : List Interest → List Target
plain_targets heard = map target_of (filter is_plain heard)

-- who gets a message, of those that match it
abbrev pub targets_by : List Interest → List Target
targets_by heard = plain_targets heard ++ map target_of (picks heard)
