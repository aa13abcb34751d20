-- The texts of header errors.
use Rattle.std.specs.Prelude.{ℕ, List, codes}
use Rattle.nats_header.specs.declared.error.HeaderError.{HeaderError}
use Rattle.nats_header.specs.declared.error.HeaderError.TheVariants.{Name, Value, NoMemory}

-- what an error prints; the backslashes stand as written
abbrev pub header_error_text : HeaderError → List ℕ
header_error_text Name =
    codes "invalid header name (name cannot contain non-ascii alphanumeric characters other than '-')"
header_error_text Value =
    codes "invalid character found in header value (value cannot contain '\\r' or '\\n')"
header_error_text NoMemory = codes "out of memory"
