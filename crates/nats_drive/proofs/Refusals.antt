-- A refusal behind the first round is one of the whole call.
use Rattle.std.proofs.Common.{◌≡◌, refl, sym, inl, inr, ◌⊎◌, ℕ, Bool, List, Option, Some, None, Result, Ok, Err}
use Rattle.std.proofs.Common.{IfErr, subst}
use Rattle.nats_pool.specs.Auths.{AuthValue}
use Rattle.nats_outside.specs.Told.{Seen}
use Rattle.nats_handshake.specs.Shaking.{wanting}
use Rattle.nats_dial.specs.Causes.{AllBack}
use Rattle.nats_start.specs.Steps.{HasWorld, WhyNotParsed}
use Rattle.nats_start.specs.declared.refused.Refused.{Refused}
use Rattle.nats_start.specs.declared.refused.Stopped.{Stopped}
use Rattle.nats_start.specs.declared.refused.Stopped.TheVariants as stop
use Rattle.nats_start.proofs.Returned.{none_back}
use Rattle.url.specs.Parts.{Parts}
use Rattle.nats_names.specs.declared.addr_error.AddrError.{AddrError}
use Rattle.nats_handshake.specs.Errors.{Failure}
use Rattle.nats_drive.specs.Refusing.{
  LinksWith,
  RefusesLinking,
  RefusesStarting,
  StartsWith,
  ConnectsWith,
  RefusesConnecting,
}

module _ {W : Type 0} (seen : W → Seen) where
  out_with : (a : Seen) (before : ℕ) (e : Stopped) (w : Option W) → e ≡ stop.Connect wanting
      → HasWorld (λ (w : W). AllBack a (seen w)) w → StartsWith seen a before before e w
  out_with a before e (Some w) is back =
      subst (λ (x : Stopped). StartsWith seen a before before x (Some w)) (sym is) (refl, back, refl)
  out_with a before e None is back = absurd back

  -- memory was wanting, and the world comes back
  pub out_starts : (a : Seen) (before : ℕ) (r : Refused W) → r.error ≡ stop.Connect wanting
      → HasWorld (λ (w : W). AllBack a (seen w)) r.world → RefusesStarting seen a before before r
  out_starts a before r is back = out_with a before r.error r.world is back

module _ (Offers : List ℕ → Result AuthValue (List ℕ) → Type 0) (by_option : Bool) (name : Option (List ℕ))
    (no_echo : Bool) (timeout : ℕ) {W : Type 0} (seen : W → Seen)
  where
    starts_with : (a : Seen) (before after : ℕ) (e : Stopped) (w : Option W) → StartsWith seen a before after e w
        → LinksWith Offers by_option name no_echo timeout seen a before after e w
    starts_with a before after (stop.Connect e) (Some w) (same, back, is) = (same, back, inl is)
    starts_with a before after (stop.Connect e) None s = absurd s
    starts_with a before after stop.Spawn (Some w) s = absurd s
    starts_with a before after stop.Spawn None s = s

    -- a refusal behind the first round is one of the whole
    pub starting_links : {L : Type 0} (r : Result L (Refused W)) (a : Seen) (before after : ℕ)
        → IfErr r (λ e. RefusesStarting seen a before after e)
        → IfErr r (λ e. RefusesLinking Offers by_option name no_echo timeout seen a before after e)
    starting_links (Ok l) a before after why = tt
    starting_links (Err e) a before after why = starts_with a before after e.error e.world why

    connects_with : (addrs : Result (List Parts) AddrError) (a : Seen) (before after : ℕ) (e : Stopped) (w : Option W)
        → LinksWith Offers by_option name no_echo timeout seen a before after e w
        → ConnectsWith Offers by_option name no_echo timeout seen addrs a before after e w
    connects_with addrs a before after (stop.Connect e) (Some w) (same, back, why) = (same, back, inr why)
    connects_with addrs a before after (stop.Connect e) None s = absurd s
    connects_with addrs a before after stop.Spawn (Some w) s = absurd s
    connects_with addrs a before after stop.Spawn None s = s

    -- a refusal over servers is one of the call that is handed their addresses
    pub linking_connects : {L : Type 0} (addrs : Result (List Parts) AddrError) (r : Result L (Refused W)) (a : Seen)
        (before after : ℕ) → IfErr r (λ e. RefusesLinking Offers by_option name no_echo timeout seen a before after e)
        → IfErr r (λ e. RefusesConnecting Offers by_option name no_echo timeout seen addrs a before after e)
    linking_connects addrs (Ok l) a before after why = tt
    linking_connects addrs (Err e) a before after why = connects_with addrs a before after e.error e.world why

    -- an address does not parse, or memory was wanting for them: no link came
    pub parsing_connects : (addrs : Result (List Parts) AddrError) (before : ℕ) (r : Refused W) (w : W) (e : Failure)
        → r ≡ record { error = stop.Connect e; world = Some w } → WhyNotParsed addrs e
        → RefusesConnecting Offers by_option name no_echo timeout seen addrs (seen w) before before r
    parsing_connects addrs before r w e is why = subst
        (λ (r : Refused W). RefusesConnecting Offers by_option name no_echo timeout seen addrs (seen w) before before r)
        (sym is) (refl, none_back (seen w), inl why)

    -- a refusal over what the world tells now is one over what it told before, where that is the same
    pub same_linking : {L : Type 0} (r : Result L (Refused W)) (a b : Seen) (before after : ℕ) → b ≡ a
        → IfErr r (λ e. RefusesLinking Offers by_option name no_echo timeout seen b before after e)
        → IfErr r (λ e. RefusesLinking Offers by_option name no_echo timeout seen a before after e)
    same_linking r a b before after same why =
        subst
        (λ (s : Seen). IfErr r (λ e. RefusesLinking Offers by_option name no_echo timeout seen s before after e))
        same why

    wanting_with : (a : Seen) (before : ℕ) (w : W) (e : Failure) → e ≡ wanting → seen w ≡ a
        → LinksWith Offers by_option name no_echo timeout seen a before before (stop.Connect e) (Some w)
    wanting_with a before w e is same = (refl, subst (λ (s : Seen). AllBack a s) (sym same) (none_back a), inl is)

    -- memory was wanting for a pool: no link came
    pub wanting_links : (a : Seen) (before : ℕ) (r : Refused W) (w : W) (e : Failure)
        → r ≡ record { error = stop.Connect e; world = Some w } → e ≡ wanting → seen w ≡ a
        → RefusesLinking Offers by_option name no_echo timeout seen a before before r
    wanting_links a before r w e is wants same = subst
        (λ (r : Refused W). RefusesLinking Offers by_option name no_echo timeout seen a before before r)
        (sym is) (wanting_with a before w e wants same)
