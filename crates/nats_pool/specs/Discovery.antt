-- The servers that a server tells of.
use Rattle.std.specs.Prelude.{◌≡◌, ◌≤◌, ℕ, Bool, true, false, List, [], ◌∷◌, ◌++◌, length, Option, Result, Ok, Err, if◌then◌else◌}
use denote.Param.Members.{Mut}
use Rattle.std.specs.Global.{Vec}
use Rattle.url.specs.Parts.{Parts}
use Rattle.nats_addr.specs.Addr.{addr_of}
use Rattle.nats_info.specs.declared.info.ServerInfo.{ServerInfo}
use Rattle.nats_names.specs.declared.addr_error.AddrError.{AddrError}
use Rattle.nats_pool.specs.declared.pool_parts.Pool.{Pool}
use Rattle.nats_pool.specs.declared.server.Server.{Server}
use Rattle.nats_pool.specs.declared.server.ReconnectToServer.{ReconnectToServer}
use Rattle.nats_pool.specs.Pools.{servers_of, options_of}
use Rattle.nats_pool.specs.Servers.{discovered_server, has_server}

-- the servers with one more, where its address is new
abbrev pub with_discovered : List Server → Parts → List Server
with_discovered servers addr =
    if has_server servers addr then servers else servers ++ discovered_server addr ∷ []

-- the servers with that of an address; a text that spells none adds none
abbrev pub with_spelled : List Server → Result Parts AddrError → List Server
with_spelled servers (Ok addr) = with_discovered servers addr
with_spelled servers (Err e) = servers

-- the servers with those of these texts, in order
abbrev pub with_texts : List Server → List (List ℕ) → List Server
with_texts servers [] = servers
with_texts servers (text ∷ more) = with_texts (with_spelled servers (addr_of text)) more

-- a text stands in front of others where it spells no address
abbrev pub onto_skipped : List ℕ → Result Parts AddrError → List (List ℕ) → List (List ℕ)
onto_skipped text (Ok addr) more = more
onto_skipped text (Err e) more = text ∷ more

-- those of these texts that spell no address, in order
abbrev pub skipped_of : List (List ℕ) → List (List ℕ)
skipped_of [] = []
skipped_of (text ∷ more) = onto_skipped text (addr_of text) (skipped_of more)

module _ {X Y : Type 0} {F : X → Type 0} {G : Y → Type 0} {g : Mut ((x : X) × F x) (ℕ × Unit {0}) ℕ}
    {h : Mut ((y : Y) × G y) (Vec Server × (ServerInfo × Unit {0})) (Option ReconnectToServer)} where
  -- what comes of these texts in a pool that leaves such servers out, or doesn't, with the texts that are skipped
  abbrev pub DiscoversWhere : Bool → List (List ℕ) → Pool X Y F G g h → Pool X Y F G g h → List (List ℕ) → Type 0
  DiscoversWhere true urls before after skipped = (skipped ≡ []) × (after ≡ before)
  DiscoversWhere false urls before after skipped = (skipped ≡ skipped_of urls)
      × (servers_of after ≡ with_texts (servers_of before) urls) × (after ≡ record before { servers = after.servers })

  abbrev pub Discovers : List (List ℕ) → Pool X Y F G g h → Pool X Y F G g h → List (List ℕ) → Type 0
  Discovers urls before after skipped =
      DiscoversWhere ((options_of before).ignore_discovered_servers) urls before after skipped

  -- want of memory comes only where there are texts to read, and changes nothing
  abbrev pub WantsToDiscover : List (List ℕ) → Pool X Y F G g h → Pool X Y F G g h → Type 0
  WantsToDiscover urls before after =
      ((options_of before).ignore_discovered_servers ≡ false) × (1 ≤ length urls) × (after ≡ before)
