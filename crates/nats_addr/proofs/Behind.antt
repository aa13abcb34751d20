-- Addresses behind others.
use Rattle.std.proofs.Common.{List, ◌++◌, Result, Ok, Err}
use Rattle.url.specs.Parts.{Parts}
use Rattle.nats_names.specs.declared.addr_error.AddrError.{AddrError}

-- these addresses, and then those that are answered
abbrev pub behind : List Parts → Result (List Parts) AddrError → Result (List Parts) AddrError
behind addrs (Ok more) = Ok (addrs ++ more)
behind addrs (Err e) = Err e
