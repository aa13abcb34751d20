-- How a table shows the rows that it keeps, and those that it forgot.
use Rattle.std.specs.Prelude.{◌≡◌, ◌<◌, ◌≤◌, ℕ, suc, cond, Bool, true, false, ◌&&◌, List, [], ◌∷◌, map, Option, Some, None, if◌then◌else◌, ⊤}
use Rattle.std.specs.Ordering.{nat_cmp}
use Rattle.std.specs.Option.{IfSome, unwrap_or}
use Rattle.std.specs.Map.{lookup}
use Rattle.std.specs.BTreeMap.{is_at}
use Rattle.nats_tables.specs.Numbers.{count_from, item_of}

-- what is kept of a number
abbrev pub look : {A : Type 0} → ℕ → List (ℕ × A) → Option A
look s es = lookup (is_at (nat_cmp s)) es

-- fs is es with w at a number, where None takes it out
abbrev pub UpdatedAt : {A : Type 0} → ℕ → Option A → List (ℕ × A) → List (ℕ × A) → Type 0
UpdatedAt k w es fs = (q : ℕ) → look q fs ≡ cond (is_at (nat_cmp k) q) w (look q es)

-- the same where something holds, and else fs is es
abbrev pub UpdatedIf : {A : Type 0} → Bool → ℕ → Option A → List (ℕ × A) → List (ℕ × A) → Type 0
UpdatedIf b k w es fs = (q : ℕ) → look q fs ≡ cond (b && is_at (nat_cmp k) q) w (look q es)

-- what is kept of each number is `after`, where it was `before`, but for a number that now has w
abbrev pub ChangedAt : {A : Type 0} → ℕ → Option A → (before after : ℕ → Option A) → Type 0
ChangedAt k w before after = (q : ℕ) → after q ≡ cond (is_at (nat_cmp k) q) w (before q)

-- the same where something holds, and else `after` is `before`
abbrev pub ChangedIf : {A : Type 0} → Bool → ℕ → Option A → (before after : ℕ → Option A) → Type 0
ChangedIf b k w before after = (q : ℕ) → after q ≡ cond (b && is_at (nat_cmp k) q) w (before q)

-- the row of a number: those that are not kept look alike
abbrev pub row_in : {A : Type 0} → A → (ℕ → Option A) → ℕ → A
row_in gone kept s = unwrap_or (kept s) gone

-- the rows of all numbers that were given
abbrev pub rows_in : {A : Type 0} → A → ℕ → (ℕ → Option A) → List A
rows_in gone given kept = map (row_in gone kept) (count_from 1 given)

-- a row as it is shown: one that is over is forgotten
abbrev pub tidied : {A : Type 0} → (A → Bool) → A → A → A
tidied over gone row = if over row then gone else row

-- a number with its row stays in memory: it was given, and the row is not over
abbrev pub Stays : {A : Type 0} → (A → Bool) → ℕ → ℕ → A → Type 0
Stays over given s row = (0 < s) × (s ≤ given) × (over row ≡ false)

abbrev pub KeepsOnly : {A : Type 0} → (A → Bool) → ℕ → (ℕ → Option A) → Type 0
KeepsOnly over given kept = (s : ℕ) → IfSome (kept s) (Stays over given s)

-- a number that was given stays in memory, unless rows that are forgotten are over
abbrev pub KeepsAll : {A : Type 0} → (A → Bool) → A → ℕ → (ℕ → Option A) → Type 0
KeepsAll over gone given kept = (s : ℕ) → 0 < s → s ≤ given → kept s ≡ None → over gone ≡ true

-- what a table keeps: rows of given numbers that are not over, and all of them
abbrev pub Keeps : {A : Type 0} → (A → Bool) → A → ℕ → (ℕ → Option A) → Type 0
Keeps over gone given kept = KeepsOnly over given kept × KeepsAll over gone given kept

-- what an index has of what is kept of a number: nothing where that rests
abbrev pub woken : {A : Type 0} → (A → Bool) → Option A → Option ⊤
woken rests None = None
woken rests (Some row) = if rests row then None else Some tt

-- an index of the rows that do not rest
abbrev pub Indexes : {A : Type 0} → (A → Bool) → (ℕ → Option A) → List (ℕ × ⊤) → Type 0
Indexes rests kept ws = (s : ℕ) → look s ws ≡ woken rests (kept s)

-- the row of a number, where one that was not given looks like one that is forgotten
abbrev pub row_at : {A : Type 0} → A → ℕ → List A → A
row_at gone s rows = unwrap_or (item_of s rows) gone

-- the row of a number, if it was given and is not over
abbrev pub kept_row : {A : Type 0} → (A → Bool) → Option A → Option A
kept_row over None = None
kept_row over (Some row) = if over row then None else Some row

-- the number of the first row that does not rest, where the rows are numbered from that on
abbrev pub first_awake : {A : Type 0} → (A → Bool) → ℕ → List A → Option ℕ
first_awake rests s [] = None
first_awake rests s (row ∷ rows) = if rests row then first_awake rests (suc s) rows else Some s

-- each row that is over is shown as forgotten
abbrev pub Tidy : {A : Type 0} → (A → Bool) → A → List A → Type 0
Tidy over gone [] = ⊤
Tidy over gone (row ∷ rows) = (over row ≡ true → row ≡ gone) × Tidy over gone rows
