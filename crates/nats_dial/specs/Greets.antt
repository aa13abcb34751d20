-- What becomes of the handshake of a new link.
use Rattle.std.specs.Prelude.{◌≡◌, ℕ, Bool, true, List, Option, Some, Result, Ok, Err}
use Rattle.std.specs.Global.{Vec}
use Rattle.url.specs.Parts.{Parts}
use Rattle.nats_addr.specs.Addr.{is_tls, is_websocket}
use Rattle.nats_info.specs.declared.info.ServerInfo.{ServerInfo}
use Rattle.nats_pool.specs.Auths.{AuthValue}
use Rattle.nats_outside.specs.Told.{ReadTold, WriteTold, ClockTold}
use Rattle.nats_handshake.specs.Errors.{Failure}
use Rattle.nats_handshake.specs.Shaking.{Talk, finished, new_talk}
use Rattle.nats_handshake.specs.declared.stage.Stage.TheVariants as stage
use Rattle.nats_dial.specs.declared.linked.Greeted.{Greeted}
use Rattle.nats_dial.specs.Lines.{InTime}
use Rattle.nats_dial.specs.Taking.{TookIn}
use Rattle.nats_dial.specs.Tries.{IsUp, Unshaken, no_websocket}

-- a new handshake with this address, unless that is a websocket's
abbrev pub Begun : Parts → ℕ → ℕ → Result Talk Failure → Type 0
Begun addr timeout start (Ok t) = t ≡ new_talk addr timeout start
Begun addr timeout start (Err e) = (e ≡ no_websocket) × (is_websocket addr ≡ true)

-- a handshake that succeeded leaves its INFO, the rest, and the texts that were skipped
abbrev pub Finished : Talk → Result Greeted Failure → Type 0
Finished t (Ok ended) = (Some (ended.info, ended.rest.items) ≡ finished t.stage t.unread)
    × (ended.skipped.items ≡ t.skipped)
Finished t (Err e) = (info : ServerInfo) → t.stage ≡ stage.Linked info → ⊥

module _ {P : Type 0} (Takes : P → P → List (List ℕ) → List (List ℕ) → Type 0)
    (Offers : List ℕ → Result AuthValue (List ℕ) → Type 0) (by_option : Bool) (name : Option (List ℕ)) (no_echo : Bool)
    (timeout : ℕ) (addr : Parts) (start : ℕ)
  where
    -- the link is up in time, and the servers of its INFO were taken in; or why not
    abbrev pub Greets : P → Result Greeted Failure → ReadTold → WriteTold → ClockTold → P → Type 0
    Greets p (Ok ended) r w c q =
        IsUp Offers by_option (is_tls addr) name no_echo ended.info ended.rest.items r w
        × Takes p q ended.info.connect_urls ended.skipped.items × InTime start timeout c
    Greets p (Err e) r w c q =
        Unshaken Takes Offers by_option name no_echo timeout addr start e r w c × TookIn Takes p q
