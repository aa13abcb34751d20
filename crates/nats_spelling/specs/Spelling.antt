-- How bytes and numbers are spelled in the fields of a line.
use Rattle.std.specs.Prelude.{ℕ, ◌+◌, ◌-◌, ◌*◌, ◌/◌, ◌%◌, ◌^◌, Bool, false, not, ◌&&◌, ◌==◌, nat_lt, nat_le, List, [], ◌∷◌, length, Option, Some, None, option_and_then, if◌then◌else◌, codes}
use Rattle.std.specs.Option.{option_map}
use Rattle.std.specs.Char.{is_ascii_digit}
use Rattle.std.specs.List.{flat_map, list_all}
use Rattle.std.specs.Str.{is_utf8, bytes_eq}
use Rattle.std.specs.Str.Parse.{digits_value}
use Rattle.nats_names.specs.Names.{is_token}

-- ---- spelling

-- the bytes that stand for themselves: `!` to `}` without `%`
abbrev pub is_plain : ℕ → Bool
is_plain b = nat_le 33 b && nat_le b 125 && not (b == 37)

-- the others
abbrev pub is_odd : ℕ → Bool
is_odd b = not (is_plain b)

-- a hexadecimal digit, in upper case
abbrev pub hex_digit : ℕ → ℕ
hex_digit n = if nat_lt n 10 then 48 + n else 55 + n

-- one byte: itself, or `%` and two digits
abbrev pub letter : ℕ → List ℕ
letter b = if is_plain b then b ∷ [] else 37 ∷ hex_digit (b / 16) ∷ hex_digit (b % 16) ∷ []

-- bytes, one after another; the empty text is `%` alone
abbrev pub spelled : List ℕ → List ℕ
spelled [] = codes "%"
spelled (b ∷ bytes) = flat_map letter (b ∷ bytes)

-- a text, or `~` where it is absent
abbrev pub spelled_or_absent : Option (List ℕ) → List ℕ
spelled_or_absent None = codes "~"
spelled_or_absent (Some bytes) = spelled bytes

-- ---- reading what is spelled

-- what a hexadecimal digit in upper case stands for
abbrev pub hex_value : ℕ → Option ℕ
hex_value d =
    if nat_le 48 d && nat_le d 57 then Some (d - 48) else (if nat_le 65 d && nat_le d 70 then Some (d - 55) else None)

-- only what does not stand for itself is spelled by two digits
abbrev pub byte_of_digits : Option ℕ → Option ℕ → Option ℕ
byte_of_digits (Some high) (Some low) = if is_plain (16 * high + low) then None else Some (16 * high + low)
byte_of_digits (Some high) None = None
byte_of_digits None low = None

abbrev pub escaped : ℕ → ℕ → Option ℕ
escaped high low = byte_of_digits (hex_value high) (hex_value low)

abbrev pub onto_plain : ℕ → Option (List ℕ) → Option (List ℕ)
onto_plain b rest = if is_plain b then option_map (λ bytes. b ∷ bytes) rest else None

abbrev pub onto_escaped : Option ℕ → Option (List ℕ) → Option (List ℕ)
onto_escaped None rest = None
onto_escaped (Some b) rest = option_map (λ bytes. b ∷ bytes) rest

-- the bytes that letters spell
abbrev pub letters : List ℕ → Option (List ℕ)
letters [] = Some []
letters (a ∷ []) = onto_plain a (Some [])
letters (a ∷ b ∷ []) = onto_plain a (letters (b ∷ []))
letters (a ∷ b ∷ c ∷ more) =
    if a == 37 then onto_escaped (escaped b c) (letters more) else onto_plain a (letters (b ∷ c ∷ more))

-- the bytes that a field spells, in the one way that they are spelled
abbrev pub field_bytes : List ℕ → Option (List ℕ)
field_bytes [] = None
field_bytes (a ∷ []) = if a == 37 then Some [] else letters (a ∷ [])
field_bytes (a ∷ b ∷ more) = letters (a ∷ b ∷ more)

abbrev pub utf8_text : List ℕ → Option (List ℕ)
utf8_text bytes = if is_utf8 bytes then Some bytes else None

-- the text that a field spells
abbrev pub field_text : List ℕ → Option (List ℕ)
field_text field = option_and_then utf8_text (field_bytes field)

-- the text that a field spells, or `~` where it is absent
abbrev pub field_optional : List ℕ → Option (Option (List ℕ))
field_optional field = if bytes_eq field (codes "~") then Some None else option_map Some (field_text field)

abbrev pub token_text : List ℕ → Option (List ℕ)
token_text text = if is_token text then Some text else None

-- the token that a field spells
abbrev pub field_token : List ℕ → Option (List ℕ)
field_token field = option_and_then token_text (field_text field)

-- ---- numbers

-- a zero before further digits
abbrev pub has_leading_zero : List ℕ → Bool
has_leading_zero [] = false
has_leading_zero (d ∷ []) = false
has_leading_zero (d ∷ e ∷ more) = d == 48

-- one or more decimal digits without a leading zero
abbrev pub is_numeral : List ℕ → Bool
is_numeral field = not (length field == 0) && not (has_leading_zero field) && list_all is_ascii_digit field

-- the number of a field, below 2^64
abbrev pub field_number : List ℕ → Option ℕ
field_number field =
    if is_numeral field && nat_lt (digits_value 10 field) (2 ^ 64) then Some (digits_value 10 field) else None
