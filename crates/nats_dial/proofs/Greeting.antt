-- The handshake of a new link, from its beginning to its end.
use Rattle.std.proofs.Common.{◌≡◌, refl, ◌∙◌, sym, ap, subst, ◌⊎◌, inl, inr, ℕ, Bool, true, false, if◌then◌else◌, List, [], Option, Some, None, Result, Ok, Err, IfSome}
use Rattle.std.specs.Global.{Vec}
use Rattle.std.specs.List.{concat}
use Rattle.url.specs.Parts.{Parts}
use Rattle.nats_addr.specs.Addr.{is_tls, is_websocket}
use Rattle.nats_info.specs.declared.info.ServerInfo.{ServerInfo}
use Rattle.nats_pool.specs.Auths.{AuthValue}
use Rattle.nats_outside.specs.Told.{ReadTold, WriteTold, ClockTold, IsFresh}
use Rattle.nats_handshake.specs.declared.stage.Stage.{Stage}
use Rattle.nats_handshake.specs.declared.stage.Stage.TheVariants as stage
use Rattle.nats_handshake.specs.declared.stage.Shake.TheVariants as shake
use Rattle.nats_handshake.specs.declared.course.Greeting.TheVariants as greeting
use Rattle.nats_handshake.specs.Course.{greeting_at}
use Rattle.nats_handshake.specs.Errors.{Failure}
use Rattle.nats_lines.specs.Operations.{front, sight}
use Rattle.nats_handshake.specs.Heard.{Heard}
use Rattle.nats_handshake.specs.Opened.{opened, opened_in}
use Rattle.nats_handshake.specs.Shaking.{Talk, finished, new_talk}
use Rattle.nats_dial.specs.Lines.{Line, IsAt, IsPlain, InTime}
use Rattle.nats_dial.specs.declared.linked.Greeted.{Greeted}
use Rattle.nats_dial.specs.Taking.{HasTook, TookIn}
use Rattle.nats_dial.specs.Tries.{no_websocket}
use Rattle.nats_dial.specs.Greets.{Begun, Finished, Greets}

-- where the answer is by whether the address is a websocket's
begun_by : (is_ws : Bool) (addr : Parts) (timeout start : ℕ) (result : Result Talk Failure) → is_websocket addr ≡ is_ws
    → result ≡ (if is_ws then Err no_websocket else Ok (new_talk addr timeout start)) → Begun addr timeout start result
begun_by true addr timeout start result ws is = rw is (refl, ws)
begun_by false addr timeout start result ws is = rw is refl

pub begun_of : (addr : Parts) (timeout start : ℕ) (result : Result Talk Failure)
    → result ≡ (if is_websocket addr then Err no_websocket else Ok (new_talk addr timeout start))
    → Begun addr timeout start result
begun_of addr timeout start result is = begun_by (is_websocket addr) addr timeout start result refl is

-- a link that begins gave and took nothing
nothing_known : {T : Type 0} (known : Option (List T)) → (known ≡ None) ⊎ (known ≡ Some [])
    → IfSome known (λ (x : List T). x ≡ [])
nothing_known known (inl is) = rw is tt
nothing_known known (inr is) = rw is refl

nothing_given : (known : Option (List (List ℕ))) → (known ≡ None) ⊎ (known ≡ Some [])
    → IfSome known (λ (x : List (List ℕ)). concat x ≡ [])
nothing_given known (inl is) = rw is tt
nothing_given known (inr is) = rw is refl

-- and it isn't opened
none_opened : opened_in [] [] ≡ None
unfolding front sight
none_opened = refl

nothing_opened : (known : Option (List (List ℕ))) → (known ≡ None) ⊎ (known ≡ Some [])
    → IfSome known (λ (x : List (List ℕ)). opened x ≡ opened_in [] [])
nothing_opened known (inl is) = rw is tt
nothing_opened known (inr is) = rw is (sym none_opened)

none_said : greeting_at (front []) ≡ greeting.Waits
unfolding front sight
none_said = refl

pub fresh_line : (Offers : List ℕ → Result AuthValue (List ℕ) → Type 0) (by_option : Bool) (name : Option (List ℕ)) (no_echo : Bool)
    (addr : Parts) (timeout start : ℕ) (t : Talk) (r : ReadTold) (w : WriteTold) → t ≡ new_talk addr timeout start → IsFresh r w
    → Line Offers by_option name no_echo (is_tls addr) start timeout [] [] t r w
fresh_line Offers by_option name no_echo addr timeout start t r w is fresh = rw is (record {
  heard = (refl, refl, none_said);
  out = refl;
  began = refl;
  time = refl;
  is_tls = refl;
  plain = tt;
  gave = nothing_given r.pieces fresh.no_pieces;
  opens = nothing_opened r.pieces fresh.no_pieces;
  waits = λ going. none_opened;
  took = nothing_known w.taken fresh.no_taken;
  no_ends = fresh.no_ends;
  no_faults = fresh.no_faults;
  no_write_faults = fresh.no_write_faults;
})

abbrev info_or : ServerInfo → Option (ServerInfo × List ℕ) → ServerInfo
info_or info None = info
info_or info (Some pair) = pair.0

abbrev rest_or : List ℕ → Option (ServerInfo × List ℕ) → List ℕ
rest_or rest None = rest
rest_or rest (Some pair) = pair.1

module _ {P : Type 0} (Takes : P → P → List (List ℕ) → List (List ℕ) → Type 0)
    (Offers : List ℕ → Result AuthValue (List ℕ) → Type 0) (by_option : Bool) (name : Option (List ℕ)) (no_echo : Bool)
    (timeout : ℕ) (addr : Parts) (start : ℕ)
  where
    up_of : (info : ServerInfo) (text wrote : List ℕ) (t : Talk) (r : ReadTold) (w : WriteTold) (c : ClockTold) (p q : P)
        (ended : Greeted) → t.stage ≡ stage.Linked info
        → Line Offers by_option name no_echo (is_tls addr) start timeout text wrote t r w → InTime start timeout c → r.wait ≡ None
        → HasTook Takes t.stage t.skipped p q
        → Some (ended.info, ended.rest.items) ≡ finished t.stage t.unread → ended.skipped.items ≡ t.skipped
        → Greets Takes Offers by_option name no_echo timeout addr start p (Ok ended) r w c q
    up_of info text wrote t r w c p q ended at line in_time no_wait took is skipped_is =
        let heard = subst (λ (s : Stage). Heard Offers name no_echo s t.unread wrote text) at line.heard in
        let had = subst (λ (s : Stage). HasTook Takes s t.skipped p q) at took in
        let same = is ∙ ap (λ (s : Stage). finished s t.unread) at in
        let info_is : ended.info ≡ info = ap (info_or info) same in
        let rest_is : ended.rest.items ≡ t.unread = ap (rest_or t.unread) same in
        rw (info_is, rest_is, skipped_is) (
          record {
            text = text;
            wrote = wrote;
            said = heard.0;
            plain = subst (λ (s : Stage). IsPlain by_option (is_tls addr) s) at line.plain;
            offers = heard.1;
            succeeds = heard.2;
            gave = line.gave;
            opens = line.opens;
            took = line.took;
            no_ends = line.no_ends;
            no_faults = line.no_faults;
            no_write_faults = line.no_write_faults;
            no_wait = no_wait;
          },
          had,
          in_time,
        )

    -- a handshake that succeeded
    pub greeted : (text wrote : List ℕ) (t : Talk) (r : ReadTold) (w : WriteTold) (c : ClockTold) (p q : P)
        (result : Result Greeted Failure) → IsAt shake.Done t.stage
        → Line Offers by_option name no_echo (is_tls addr) start timeout text wrote t r w → InTime start timeout c → r.wait ≡ None
        → HasTook Takes t.stage t.skipped p q
        → Finished t result → Greets Takes Offers by_option name no_echo timeout addr start p result r w c q
    greeted text wrote t r w c p q (Ok ended) at line in_time no_wait took is =
        up_of at.0 text wrote t r w c p q ended at.1 line in_time no_wait took is.0 is.1
    greeted text wrote t r w c p q (Err e) at line in_time no_wait took never = absurd (never at.0 at.1)
