-- Which interests match a publish, and how members of a group are told apart.
use Rattle.std.specs.Prelude.{ℕ, Bool, true, false, not, ◌&&◌, ◌||◌, ◌==◌, nat_lt, List, [], ◌∷◌, filter, Option, Some, None}
use Rattle.std.specs.List.{best_of}
use Rattle.std.specs.Str.{bytes_eq}
use Rattle.nats_interests.specs.declared.interest.Interest.{Interest}
use Rattle.nats_matching.specs.Matching.{matches}

-- an interest of another peer
abbrev pub is_other : ℕ → Interest → Bool
is_other peer i = not (i.peer == peer)

-- the publisher's own interests match what it publishes only where it wants an echo
abbrev pub hears : ℕ → Bool → List ℕ → Interest → Bool
hears peer echo subject i = (echo || is_other peer i) && matches i.pattern subject

abbrev pub heard : ℕ → Bool → List ℕ → List Interest → List Interest
heard peer echo subject interests = filter (hears peer echo subject) interests

abbrev pub has_no_group : Option (List ℕ) → Bool
has_no_group None = true
has_no_group (Some group) = false

abbrev pub is_plain : Interest → Bool
is_plain i = has_no_group i.group

abbrev pub is_group : List ℕ → Option (List ℕ) → Bool
is_group name None = false
is_group name (Some group) = bytes_eq group name

abbrev pub is_in : List ℕ → Interest → Bool
is_in name i = is_group name i.group

abbrev pub has_less : Interest → Interest → Bool
has_less i best = nat_lt i.count best.count

-- the one with the least count, and of several such the oldest
abbrev pub least : List Interest → Option Interest
least [] = None
least (i ∷ interests) = Some (best_of has_less i interests)

-- an interest of a peer that matches the reply which it published
abbrev pub answers : ℕ → List ℕ → Interest → Bool
answers peer reply i = i.peer == peer && matches i.pattern reply
