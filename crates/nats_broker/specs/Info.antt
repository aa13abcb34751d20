-- What a broker says of itself.
use Rattle.std.specs.Prelude.{ℕ, List, ◌++◌, codes}
use Rattle.std.specs.Fmt.{decimal}
use Rattle.nats_routing.specs.Texts.{crlf}

-- the line that a peer gets first: the protocol's `INFO`
abbrev pub info_text : List ℕ → ℕ → List ℕ
info_text server_id max_payload =
    codes "INFO {\"server_id\":\"" ++ server_id
    ++ codes "\",\"version\":\"2.10.0\",\"proto\":1,\"headers\":true,\"max_payload\":" ++ decimal max_payload
    ++ codes "}" ++ crlf
