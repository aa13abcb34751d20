-- Which numbers a version begins with, and whether they reach others.
use Rattle.std.specs.Prelude.{◌≡◌, ℕ, ℤ, pos, ◌+◌, ◌^◌, Bool, true, false, not, ◌&&◌, ◌||◌, ◌==◌, nat_lt, List, [], ◌∷◌, length, take, drop, Option, Some, None, if◌then◌else◌}
use Rattle.std.specs.Char.{is_ascii_digit}
use Rattle.std.specs.List.{position_or_len}
use Rattle.std.specs.Str.Parse.{digits_value}
use lib.Signed.{lt_z, le_z}
use Rattle.nats_versions.specs.declared.Version.{Version}

-- a text without this byte at its front, if it stands there
abbrev pub behind_letter : ℕ → List ℕ → List ℕ
behind_letter letter [] = []
behind_letter letter (b ∷ text) = if b == letter then text else b ∷ text

-- no digit
abbrev pub is_other : ℕ → Bool
is_other b = not (is_ascii_digit b)

-- how many digits stand at the front
abbrev pub digits_len : List ℕ → ℕ
digits_len text = position_or_len is_other text

abbrev pub digits : List ℕ → List ℕ
digits text = take (digits_len text) text

abbrev pub behind_digits : List ℕ → List ℕ
behind_digits text = drop (digits_len text) text

-- the number that digits spell, below 2^63; no digits spell 0
abbrev pub number : List ℕ → Option ℤ
number digits = if nat_lt (digits_value 10 digits) (2 ^ 63) then Some (pos (digits_value 10 digits)) else None

-- three numbers, each of which is there
abbrev pub version_of : Option ℤ → Option ℤ → Option ℤ → Option Version
version_of (Some major) (Some minor) (Some patch) = Some (record { major = major; minor = minor; patch = patch })
version_of (Some major) (Some minor) None = None
version_of (Some major) None patch = None
version_of None minor patch = None

-- the three numbers of a text whose first number is there: each behind the digits before it, and one dot
abbrev pub numbered : List ℕ → Option Version
numbered text =
    version_of (number (digits text)) (number (digits (behind_letter 46 (behind_digits text))))
    (number (digits (behind_letter 46 (behind_digits (behind_letter 46 (behind_digits text))))))

-- the version that a text begins with: an optional v, digits, and up to twice an optional dot and digits, which read 0
-- where they are missing. Numbers are below 2^63
abbrev pub version_in : List ℕ → Option Version
version_in text = if digits_len (behind_letter 118 text) == 0 then None else numbered (behind_letter 118 text)

-- a number is larger than another one, or equal to it and so are those behind it
abbrev pub or_behind : ℤ → ℤ → Bool → Bool
or_behind number wanted behind = lt_z wanted number || (le_z wanted number && behind)

-- major, minor and patch reach others, compared in this order
abbrev pub reaches : Version → Version → Bool
reaches version wanted =
    or_behind version.major wanted.major
    (or_behind version.minor wanted.minor (le_z wanted.patch version.patch))

abbrev pub option_reaches : Option Version → Version → Bool
option_reaches (Some version) wanted = reaches version wanted
option_reaches None wanted = false

-- a server of this version has what came with the wanted one
abbrev pub is_compatible : List ℕ → Version → Bool
is_compatible text wanted = option_reaches (version_in text) wanted
