-- Addresses of servers: which texts spell one, and what one says.
use Rattle.std.specs.Prelude.{◌≡◌, ℕ, Bool, false, ◌&&◌, ◌||◌, ◌==◌, List, [], ◌∷◌, ◌++◌, slice_index, codes, bytes_eq, Option, Some, None, unwrap_or, Result, Ok, Err, if◌then◌else◌}
use Rattle.std.specs.Option.{option_or}
use Rattle.std.specs.Global.{Vec}
use Rattle.std.specs.Net.Addr.{ipv4_octets, ipv6_segments}
use Rattle.std.specs.Net.Text.{ipv4_text, hex_groups_text}
use Rattle.url.specs.Parts.{Parts, nonempty_host}
use Rattle.url.specs.Parser.{Parsed, parse_url}
use Rattle.url.specs.Scheme.{default_port}
use Rattle.url.specs.Input.{is_empty}
use Rattle.url.specs.declared.host.Host.{Host}
use Rattle.url.specs.declared.host.Host.TheVariants.{Domain, Ipv4, Ipv6}
use Rattle.nats_names.specs.declared.addr_error.AddrError.{AddrError}
use Rattle.nats_names.specs.declared.addr_error.AddrError.TheVariants.{Url, Scheme, NoMemory}

-- ---- texts

-- `://` stands at the front of a text
abbrev pub begins_with_mark : List ℕ → Bool
begins_with_mark text = slice_index text 0 == 58 && slice_index text 1 == 47 && slice_index text 2 == 47

-- `://` stands in a text
abbrev pub has_mark : List ℕ → Bool
has_mark [] = false
has_mark (b ∷ rest) = begins_with_mark (b ∷ rest) || has_mark rest

-- a text that names no scheme is of the scheme `nats`
abbrev pub with_scheme : List ℕ → List ℕ
with_scheme text = if has_mark text then text else codes "nats://" ++ text

-- the schemes of the protocol
abbrev pub is_known : List ℕ → Bool
is_known scheme = bytes_eq scheme (codes "nats") || bytes_eq scheme (codes "tls")
    || bytes_eq scheme (codes "ws") || bytes_eq scheme (codes "wss")

-- an address is a URL of a scheme of the protocol
abbrev pub of_url : Parts → Result Parts AddrError
of_url url = if is_known url.scheme then Ok url else Err Scheme

abbrev pub of_parsed : Parsed Parts → Result Parts AddrError
of_parsed (Ok url) = of_url url
of_parsed (Err e) = Err Url

-- the address that a text spells, or why it spells none
abbrev pub addr_of : List ℕ → Result Parts AddrError
addr_of text = of_parsed (parse_url None (with_scheme text))

-- one more address in front of others
abbrev pub onto_addrs : Parts → Result (List Parts) AddrError → Result (List Parts) AddrError
onto_addrs addr (Ok addrs) = Ok (addr ∷ addrs)
onto_addrs addr (Err e) = Err e

abbrev pub then_addrs : Result Parts AddrError → Result (List Parts) AddrError → Result (List Parts) AddrError
then_addrs (Ok addr) rest = onto_addrs addr rest
then_addrs (Err e) rest = Err e

-- the addresses that these texts spell; the first that spells none decides
abbrev pub addrs_of : List (List ℕ) → Result (List Parts) AddrError
addrs_of [] = Ok []
addrs_of (text ∷ more) = then_addrs (addr_of text) (addrs_of more)

-- the one address that a text spells, as a list
abbrev pub addrs_of_one : List ℕ → Result (List Parts) AddrError
addrs_of_one text = then_addrs (addr_of text) (Ok [])

-- what is expected was answered, unless memory was wanting
abbrev pub Answers : Result Parts AddrError → Result Parts AddrError → Type 0
Answers (Ok addr) expected = expected ≡ Ok addr
Answers (Err Url) expected = expected ≡ Err Url
Answers (Err Scheme) expected = expected ≡ Err Scheme
Answers (Err NoMemory) expected = Unit {0}

-- the same of lists
abbrev pub AnswersAll : Result (Vec Parts) AddrError → Result (List Parts) AddrError → Type 0
AnswersAll (Ok addrs) expected = expected ≡ Ok addrs.items
AnswersAll (Err Url) expected = expected ≡ Err Url
AnswersAll (Err Scheme) expected = expected ≡ Err Scheme
AnswersAll (Err NoMemory) expected = Unit {0}

-- ---- what an address says

abbrev pub is_tls : Parts → Bool
is_tls addr = bytes_eq addr.scheme (codes "tls")

unfoldable pub is_websocket : Parts → Bool
is_websocket addr = bytes_eq addr.scheme (codes "ws") || bytes_eq addr.scheme (codes "wss")

-- a host without the brackets of an IPv6 address
abbrev pub name_of_host : Option (Host (List ℕ)) → List ℕ
name_of_host None = []
name_of_host (Some (Domain domain)) = domain
name_of_host (Some (Ipv4 address)) = ipv4_text (ipv4_octets address)
name_of_host (Some (Ipv6 address)) = hex_groups_text (ipv6_segments address)

abbrev pub host_name : Parts → List ℕ
host_name addr = name_of_host (nonempty_host addr)

-- the port that is written, else the one that is known of the scheme, else that of the protocol
abbrev pub port_of : Parts → ℕ
port_of addr = unwrap_or (option_or addr.port (default_port addr.scheme)) 4222

abbrev pub unless_empty : List ℕ → Option (List ℕ)
unless_empty text = if is_empty text then None else Some text
