-- The interests that are open, in order of making: how they come about, count and close.
use Rattle.std.specs.Prelude.{◌≡◌, ℕ, suc, ◌^◌, ◌-◌, min, Bool, true, false, not, ◌&&◌, ◌==◌, nat_le, List, [], ◌∷◌, ◌++◌, map, filter, Option, Some, None, slice_get, if◌then◌else◌}
use Rattle.std.specs.List.{list_any}
use Rattle.nats_interests.specs.declared.interest.Interest.{Interest}

-- a number that only grows
abbrev pub cut : ℕ → ℕ
cut n = min n (2 ^ 64 - 1)

-- the interest of a peer under a number
abbrev pub is_of : ℕ → ℕ → Interest → Bool
is_of peer sid i = i.peer == peer && i.sid == sid

-- how many messages it may get is there, and it got them
abbrev pub reached : Option ℕ → ℕ → Bool
reached None count = false
reached (Some most) count = nat_le most count

abbrev pub is_open : Interest → Bool
is_open i = not (reached i.most i.count)

-- something happens to one interest, which may close it
abbrev pub altered : ℕ → ℕ → (Interest → Interest) → List Interest → List Interest
altered peer sid f interests = filter is_open (map (λ i. if is_of peer sid i then f i else i) interests)

abbrev pub new_interest : ℕ → ℕ → List ℕ → Option (List ℕ) → Interest
new_interest peer sid pattern group =
    record { peer = peer; sid = sid; pattern = pattern; group = group; count = 0; most = None }

-- a subscribe of a number that the peer has open does nothing
abbrev pub subscribed : ℕ → ℕ → List ℕ → Option (List ℕ) → List Interest → List Interest
subscribed peer sid pattern group interests =
    if list_any (is_of peer sid) interests then interests else interests ++ new_interest peer sid pattern group ∷ []

-- without a maximum an interest closes, as one that may get none
abbrev pub most_of : Option ℕ → ℕ
most_of None = 0
most_of (Some most) = most

abbrev pub limit_to : ℕ → Interest → Interest
limit_to most i = record i { most = Some most }

-- an unsubscribe closes the interest once it got so many messages, at once where it did already
abbrev pub unsubscribed : ℕ → ℕ → Option ℕ → List Interest → List Interest
unsubscribed peer sid most interests = altered peer sid (limit_to (most_of most)) interests

abbrev pub count_one : Interest → Interest
count_one i = record i { count = cut (suc i.count) }

-- an interest gets a message
abbrev pub counted : ℕ → ℕ → List Interest → List Interest
counted peer sid interests = altered peer sid count_one interests

-- a peer ended
abbrev pub without_peer : ℕ → List Interest → List Interest
without_peer peer interests = filter (λ i. not (i.peer == peer)) interests

-- ---- what holds of those that are open

-- the peer and the number name one
abbrev pub AreDistinct : List Interest → Type 0
AreDistinct [] = Unit {0}
AreDistinct (i ∷ interests) = (list_any (is_of i.peer i.sid) interests ≡ false) × AreDistinct interests

abbrev pub AreOpen : List Interest → Type 0
AreOpen [] = Unit {0}
AreOpen (i ∷ interests) = (is_open i ≡ true) × AreOpen interests

abbrev pub AreKept : List Interest → Type 0
AreKept interests = AreDistinct interests × AreOpen interests

-- the interest of a peer under a number stands at a place
abbrev pub StandsAt : ℕ → ℕ → List Interest → ℕ → Type 0
StandsAt peer sid interests k = (i : Interest) × (slice_get interests k ≡ Some i) × (is_of peer sid i ≡ true)

abbrev pub Finds : ℕ → ℕ → List Interest → Option ℕ → Type 0
Finds peer sid interests None = list_any (is_of peer sid) interests ≡ false
Finds peer sid interests (Some k) = StandsAt peer sid interests k
