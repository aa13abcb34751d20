-- Where the interests stand that may match a subject.
use Rattle.std.specs.Prelude.{◌≡◌, ℕ, zero, suc, ◌+◌, ◌*◌, ◌%◌, ◌≤◌, Bool, not, ◌&&◌, ◌||◌, ◌==◌, nat_lt, length, List, [], ◌∷◌, ◌++◌, take, map, fold, Option, Some, None, slice_get, if◌then◌else◌}
use Rattle.std.specs.Option.{unwrap_or}
use Rattle.std.specs.List.{list_any}
use Rattle.std.specs.Borrow.{Bor}
use Rattle.nats_matching.specs.Matching.{matches}
use Rattle.nats_interests.specs.declared.interest.Interest.{Interest}

abbrev pub nows : List (Bor Interest) → List Interest
nows lent = map (λ i. i.now) lent

abbrev pub pattern_of : Interest → List ℕ
pattern_of i = i.pattern

abbrev pub is_match : List ℕ → Interest → Bool
is_match subject i = matches i.pattern subject

-- a byte of a wildcard
abbrev pub is_mark : ℕ → Bool
is_mark b = b == 42 || b == 62

abbrev pub has_mark : List ℕ → Bool
has_mark text = list_any is_mark text

-- a number by the bytes of a text
abbrev pub mixed : ℕ → ℕ → ℕ
mixed n b = n % 4294967291 * 31 + b

abbrev pub mix_of : List ℕ → ℕ
mix_of text = fold mixed 0 text

-- the slot of a text, of so many
abbrev pub slot_of : ℕ → List ℕ → ℕ
slot_of slots text = mix_of text % slots

-- the places, from one on, of the patterns that pass a test
abbrev pub places : ℕ → (List ℕ → Bool) → List (List ℕ) → List ℕ
places k test [] = []
places k test (pattern ∷ patterns) =
    if test pattern then k ∷ places (suc k) test patterns else places (suc k) test patterns

-- a pattern without a wildcard's byte stands in the slot of its text
abbrev pub is_in_slot : ℕ → ℕ → List ℕ → Bool
is_in_slot slots s pattern = not (has_mark pattern) && (slot_of slots pattern == s)

-- what is remembered of the first patterns: where those with such bytes stand, and the others by slot
pub record IndexSeen : Type 0 where
  pub marked : List ℕ
  pub slots : List (List ℕ)
  pub seen : ℕ

pub record Remembers (patterns : List (List ℕ)) (index : IndexSeen) : Type 0 where
  pub within : index.seen ≤ length patterns
  pub has_slots : length index.slots ≡ 0 → index.seen ≡ 0
  pub marked_places : index.marked ≡ places 0 has_mark (take index.seen patterns)
  pub slot_places : (s : ℕ) (slot : List ℕ) → slice_get index.slots s ≡ Some slot
      → slot ≡ places 0 (is_in_slot (length index.slots) s) (take index.seen patterns)

-- ---- both kinds in their order

abbrev pub below : ℕ → List ℕ → List ℕ
below k [] = []
below k (n ∷ ns) = if nat_lt n k then n ∷ below k ns else []

abbrev pub above : ℕ → List ℕ → List ℕ
above k [] = []
above k (n ∷ ns) = if nat_lt n k then above k ns else n ∷ ns

abbrev pub merged : List ℕ → List ℕ → List ℕ
merged [] others = others
merged (k ∷ ks) others = below k others ++ k ∷ merged ks (above k others)

abbrev pub slot_at : List ℕ → List (List ℕ) → List ℕ
slot_at subject slots = unwrap_or (slice_get slots (slot_of (length slots) subject)) []

-- where the first interests stand that may match a subject
abbrev pub candidates : List ℕ → IndexSeen → List ℕ
candidates subject index = merged (slot_at subject index.slots) index.marked

abbrev pub onto_gathered : (Interest → Bool) → Option Interest → List Interest → List Interest
onto_gathered test None more = more
onto_gathered test (Some i) more = if test i then i ∷ more else more

-- the interests at some places, those that pass a test
abbrev pub gathered : (Interest → Bool) → List Interest → List ℕ → List Interest
gathered test rows [] = []
gathered test rows (k ∷ ks) = onto_gathered test (slice_get rows k) (gathered test rows ks)

-- ---- one more

abbrev pub put_in : ℕ → ℕ → List (List ℕ) → List (List ℕ)
put_in s k [] = []
put_in zero k (slot ∷ slots) = (slot ++ k ∷ []) ∷ slots
put_in (suc s) k (slot ∷ slots) = slot ∷ put_in s k slots

abbrev pub AreEmpty : List (List ℕ) → Type 0
AreEmpty [] = Unit {0}
AreEmpty (slot ∷ slots) = (slot ≡ []) × AreEmpty slots

-- the next interest is remembered, behind which so many are
abbrev pub learned : List ℕ → ℕ → IndexSeen → IndexSeen
learned pattern next index =
    if has_mark pattern
    then record index { marked = index.marked ++ index.seen ∷ []; seen = next }
    else record index { slots = put_in (slot_of (length index.slots) pattern) index.seen index.slots; seen = next }

-- nothing is remembered
abbrev pub IsFresh : IndexSeen → Type 0
IsFresh index = (index.marked ≡ []) × (index.seen ≡ 0) × AreEmpty index.slots
