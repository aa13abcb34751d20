-- Subjects for replies.
use Rattle.std.specs.Prelude.{◌≡◌, ℕ, true, List, ◌++◌, length, codes}
use Rattle.std.specs.List.{list_all}
use Rattle.nats_names.specs.Names.{is_letter_or_digit}

-- an id: 22 ASCII letters or digits
pub record IsId (id : List ℕ) : Type 0 where
  pub len : length id ≡ 22
  pub letters : list_all is_letter_or_digit id ≡ true

-- a prefix, a dot and an id
abbrev pub IsInbox : List ℕ → Type 0
IsInbox text = (prefix : List ℕ) × (id : List ℕ) × (text ≡ prefix ++ (codes "." ++ id)) × IsId id
