-- The words of a command line that ask for workers.
use Rattle.std.specs.Prelude.{ℕ, ◌≤◌, ◌&&◌, nat_le, List, [], ◌∷◌, Option, Some, None, option_and_then, if◌then◌else◌, codes, bytes_eq}
use Rattle.nats_spelling.specs.Spelling.{field_number}
use Rattle.nats_worker_text.specs.declared.asked.TheConstants.{MOST_WORKERS, MOST_PUBLISHES}
use Rattle.nats_worker_text.specs.declared.asked.Crew.{Crew}
use Rattle.nats_worker_text.specs.declared.asked.Crew.TheVariants.{Seats, Threads}

-- the number, if it is from 1 to the most
abbrev pub up_to : ℕ → ℕ → Option ℕ
up_to most n = if nat_le 1 n && nat_le n most then Some n else None

abbrev pub both : (ℕ → ℕ → Crew) → Option ℕ → Option ℕ → Option Crew
both crew (Some n) (Some k) = Some (crew n k)
both crew (Some n) None = None
both crew None k = None

-- which workers the words ask for, and how many publishes of each: those of `seats N K` and `threads N K`, N from 1 to
-- 64 and K from 1 to 10,000
abbrev pub crew_asked : List (List ℕ) → Option Crew
crew_asked (word ∷ workers ∷ count ∷ []) =
    if bytes_eq word (codes "seats")
    then both Seats (option_and_then (up_to MOST_WORKERS) (field_number workers))
    (option_and_then (up_to MOST_PUBLISHES) (field_number count))
    else (if bytes_eq word (codes "threads")
    then both Threads (option_and_then (up_to MOST_WORKERS) (field_number workers))
    (option_and_then (up_to MOST_PUBLISHES) (field_number count))
    else None)
crew_asked words = None

-- so many may be asked for
abbrev pub IsAsked : ℕ → ℕ → Type 0
IsAsked workers count = (1 ≤ workers) × (workers ≤ MOST_WORKERS) × (1 ≤ count) × (count ≤ MOST_PUBLISHES)

abbrev pub IsFit : Crew → Type 0
IsFit (Seats workers count) = IsAsked workers count
IsFit (Threads workers count) = IsAsked workers count
