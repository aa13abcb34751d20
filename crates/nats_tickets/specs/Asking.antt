-- Requests that wait for a reply, found by their tickets and by the subjects of their replies.
use Rattle.std.specs.Prelude.{◌≡◌, ◌<◌, ◌≤◌, ℕ, cond, Bool, List, [], ◌∷◌, Option, Some, None}
use Rattle.std.specs.Ordering.{nat_cmp}
use Rattle.std.specs.Map.{lookup}
use Rattle.std.specs.BTreeMap.{is_at}
use Rattle.std.specs.Cmp.Lexicographic.{slice_cmp}
use Rattle.nats_history.specs.Tickets.{requests_but}
use Rattle.nats_tables.specs.Rows.{look}

-- whether two subjects are one
abbrev pub is_it : List ℕ → List ℕ → Bool
is_it subject other = is_at (slice_cmp nat_cmp subject) other

-- the ticket that an index has at a subject
abbrev pub find : List ℕ → List (List ℕ × ℕ) → Option ℕ
find subject index = lookup (is_at (slice_cmp nat_cmp subject)) index

-- what an index finds without a subject
abbrev pub found_but : List ℕ → List ℕ → List (List ℕ × ℕ) → Option ℕ
found_but subject other index = cond (is_it subject other) None (find other index)

-- all tickets are so many at most
abbrev pub AllBelow : ℕ → List (ℕ × List ℕ) → Type 0
AllBelow n [] = Unit {0}
AllBelow n (request ∷ more) = (request.0 ≤ n) × AllBelow n more

-- all tickets are less than that
abbrev pub AllUnder : ℕ → List (ℕ × List ℕ) → Type 0
AllUnder n [] = Unit {0}
AllUnder n (request ∷ more) = (request.0 < n) × AllUnder n more

-- a subject leads to the one request that waits for it
pub record Indexed (requests : List (ℕ × List ℕ)) (index : List (List ℕ × ℕ)) : Type 0 where
  pub leads : (subject : List ℕ) (ticket : ℕ) → find subject index ≡ Some ticket → look ticket requests ≡ Some subject
  pub found : (ticket : ℕ) (subject : List ℕ) → look ticket requests ≡ Some subject → find subject index ≡ Some ticket

-- the others than that of a ticket, if there is one
abbrev pub but_if : Option ℕ → List (ℕ × List ℕ) → List (ℕ × List ℕ)
but_if None requests = requests
but_if (Some ticket) requests = requests_but ticket requests

-- what is found of a number then
abbrev pub gone_at : Option ℕ → ℕ → Option (List ℕ) → Option (List ℕ)
gone_at None k o = o
gone_at (Some d) k o = cond (is_at (nat_cmp d) k) None o

-- what an index finds without a subject, if there is one
abbrev pub found_but_if : Option (List ℕ) → List ℕ → List (List ℕ × ℕ) → Option ℕ
found_but_if None other index = find other index
found_but_if (Some subject) other index = found_but subject other index
