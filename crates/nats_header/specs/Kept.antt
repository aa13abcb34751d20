-- Fields that are kept in a table, or nowhere while there is none.
use Rattle.std.specs.Prelude.{[], Option, Some, None}
use Rattle.nats_header.specs.Headers.{Headers}

-- the fields of a table where there is one
abbrev pub if_kept : {T : Type 0} → (T → Headers) → Option T → Headers
if_kept fields None = []
if_kept fields (Some table) = fields table
