-- The servers of a pool.
use Rattle.std.specs.Prelude.{◌≡◌, ℕ, ◌+◌, ◌-◌, ◌^◌, min, Bool, true, false, not, ◌&&◌, List, bytes_eq, find, position, slice_index_or, slice_set, Option, Some, None, MatchOption}
use Rattle.std.specs.List.{list_any}
use Rattle.url.specs.Parts.{Parts, serialize}
use Rattle.nats_addr.specs.Addr.{is_websocket}
use Rattle.nats_pool.specs.declared.server.Server.{Server}
use Rattle.nats_pool.specs.declared.pool_parts.Outcome.{Outcome}
use Rattle.nats_pool.specs.declared.pool_parts.Outcome.TheVariants.{Connected, Failed}

-- addresses are equal where their texts are
unfoldable pub same_addr : Parts → Parts → Bool
same_addr a b = bytes_eq (serialize a) (serialize b)

-- a server that nothing is known of
abbrev pub new_server : Parts → Server
new_server addr =
    record { addr = addr; failed_attempts = 0; did_connect = false; is_discovered = false; last_error = None }

-- a server that another server told of
abbrev pub discovered_server : Parts → Server
discovered_server addr = record (new_server addr) { is_discovered = true }

-- some server has the address
unfoldable pub has_server : List Server → Parts → Bool
has_server servers addr = list_any (λ s. same_addr s.addr addr) servers

-- the first server that has the address
unfoldable pub find_server : List Server → Parts → Option Server
find_server servers addr = find (λ s. same_addr s.addr addr) servers

-- its place
unfoldable pub place_of : List Server → Parts → Option ℕ
place_of servers addr = position (λ s. same_addr s.addr addr) servers

-- the server at an address of a new pool: with what is known of one at that address, and named by the user
abbrev pub kept_of : Parts → Option Server → Server
kept_of addr None = new_server addr
kept_of addr (Some s) = record s { addr = addr; is_discovered = false }

abbrev pub kept : List Server → Parts → Server
kept servers addr = kept_of addr (find_server servers addr)

-- some addresses are of `ws` or `wss`, and some are not
abbrev pub is_mixed : List Parts → Bool
is_mixed addrs = list_any is_websocket addrs && list_any (λ addr. not (is_websocket addr)) addrs

-- a server after an attempt at it
abbrev pub after_attempt : Outcome → Server → Server
after_attempt Connected s = record s { failed_attempts = 0; did_connect = true; last_error = None }
after_attempt (Failed text) s =
    record s { failed_attempts = min (s.failed_attempts + 1) (2 ^ 64 - 1); last_error = Some text }

-- the first server of the address was told how the attempt went, and no other
abbrev pub Told : Parts → Outcome → List Server → List Server → Type 0
Told addr outcome before after =
    MatchOption (place_of before addr) (after ≡ before)
    (λ k. (s : Server) × (slice_index_or before k s ≡ s) × (after ≡ slice_set before k (after_attempt outcome s)))
