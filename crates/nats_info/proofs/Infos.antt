-- An INFO is what its fields are.
use Rattle.std.proofs.Common.{◌≡◌, ℕ, ℤ, List, Option, refl}
use Rattle.nats_info.specs.declared.info.ServerInfo.{ServerInfo}

abbrev pub Three : Type 0
Three = List ℕ × List ℕ × List ℕ

abbrev pub Two : Type 0
Two = Option (List ℕ) × Option (List ℕ)

-- an INFO whose texts and number equal those of another, and whose other fields are that one's, is that one
pub same_info : (info : ServerInfo) (ids build : Three) (cluster : Two) (ip : List ℕ) (urls : List (List ℕ)) (proto : ℤ)
    → ids ≡ (info.server_id, info.server_name, info.host)
    → build ≡ (info.version, info.go, info.nonce)
    → cluster ≡ (info.cluster, info.domain)
    → ip ≡ info.client_ip
    → urls ≡ info.connect_urls
    → proto ≡ info.proto
    → record info { server_id = ids.0; server_name = ids.1; host = ids.2; version = build.0; go = build.1; nonce = build.2; cluster = cluster.0; domain = cluster.1; client_ip = ip; connect_urls = urls; proto = proto } ≡ info
same_info info ids build cluster ip urls proto a b c d e f = rw (a, b, c, d, e, f) refl
