-- A round that gave no link, without its pool.
use Rattle.std.proofs.Common.{◌≡◌, refl, ap, inl, inr, ◌⊎◌, ℕ, Bool, List, Option, Result, Ok, Err}
use Rattle.nats_names.specs.declared.cause.Cause.{Cause}
use Rattle.nats_info.specs.declared.info.ServerInfo.{ServerInfo}
use Rattle.nats_pool.specs.Discovery.{skipped_of}
use Rattle.nats_lines.specs.Operations.{front}
use Rattle.nats_pool.specs.Auths.{AuthValue}
use Rattle.nats_pool.specs.declared.pool_parts.Planned.{Planned}
use Rattle.nats_pool.specs.Handing.{RoundTold}
use Rattle.nats_outside.specs.Told.{Seen}
use Rattle.nats_handshake.specs.declared.course.Greeting.{Greeting}
use Rattle.nats_handshake.specs.declared.course.Greeting.TheVariants as greeting
use Rattle.nats_handshake.specs.declared.error.ConnectErrorKind.{ConnectErrorKind}
use Rattle.nats_handshake.specs.declared.error.ConnectErrorKind.TheVariants as kind
use Rattle.nats_handshake.specs.Course.{greeting_at}
use Rattle.nats_handshake.specs.Errors.{Failure}
use Rattle.nats_handshake.specs.Heard.{RefusesIn, RefusesText}
use Rattle.nats_handshake.specs.Shaking.{Declines, wanting}
use Rattle.nats_dial.specs.Causes.{last_tls, LinkCause, ServerCause, Why, RoundCause}
use Rattle.nats_start.specs.Steps.{RoundFailed, TakesTexts}

module _ {P : Type 0} (Takes : P → P → List (List ℕ) → List (List ℕ) → Type 0)
    (Offers : List ℕ → Result AuthValue (List ℕ) → Type 0) (by_option : Bool) (name : Option (List ℕ)) (no_echo : Bool)
  where
    declines : (by_scheme : Bool) (info : ServerInfo) (p q : P) (k : ConnectErrorKind) (source : Option Cause)
        → Declines (Takes p q) (q ≡ p) Offers by_option name no_echo by_scheme info k source
        → Declines (TakesTexts tt tt) (tt {0} ≡ tt {0}) Offers by_option name no_echo by_scheme info k source
    declines by_scheme info p q kind.Tls source d = (d.0, d.1, refl)
    declines by_scheme info p q kind.ServerParse source d = absurd d
    declines by_scheme info p q kind.Authentication source d = (d.0, (skipped_of info.connect_urls, refl), d.2)
    declines by_scheme info p q kind.NoMemory source d = (d.0, inl refl)
    declines by_scheme info p q kind.Dns source d = absurd d
    declines by_scheme info p q kind.AuthorizationViolation source d = absurd d
    declines by_scheme info p q kind.TimedOut source d = absurd d
    declines by_scheme info p q kind.Io source d = absurd d
    declines by_scheme info p q kind.MaxReconnects source d = absurd d

    refuses_in : (by_scheme : Bool) (p q : P) (said : Greeting) (text : List ℕ) (e : Failure)
        → RefusesIn (Takes p q) (q ≡ p) Offers by_option name no_echo by_scheme said text e
        → RefusesIn (TakesTexts tt tt) (tt {0} ≡ tt {0}) Offers by_option name no_echo by_scheme said text e
    refuses_in by_scheme p q greeting.Waits text e r = r
    refuses_in by_scheme p q (greeting.Refuses why) text e r = r
    refuses_in by_scheme p q (greeting.Greets info n) text e (inr stops) = inr stops
    refuses_in by_scheme p q (greeting.Greets info n) text e (inl d) = inl (declines by_scheme info p q e.0 e.1 d)

    module _ (timeout : ℕ) where
      link : (by_scheme : Bool) (a : Seen) (e : Failure) (b : Seen)
          → LinkCause Takes Offers by_option name no_echo timeout by_scheme a e b
          → LinkCause TakesTexts Offers by_option name no_echo timeout by_scheme a e b
      link by_scheme a e b (inl is) = inl is
      link by_scheme a e b (inr (inl late)) = inr (inl late)
      link by_scheme a e b (inr (inr (inl failed))) = inr (inr (inl failed))
      link by_scheme a e b (inr (inr (inr (inl ended)))) = inr (inr (inr (inl ended)))
      link by_scheme a e b (inr (inr (inr (inr (text, gave, (p, q, refused)))))) =
          let why = refuses_in by_scheme p q (greeting_at (front text)) text e refused in
          inr (inr (inr (inr (text, gave, (tt, tt, why)))))

      server : (tried : List Planned) (a : Seen) (e : Failure) (b : Seen)
          → ServerCause Takes Offers by_option name no_echo timeout tried a e b
          → ServerCause TakesTexts Offers by_option name no_echo timeout tried a e b
      server tried a e b (inl asked) = inl asked
      server tried a e b (inr (inl empty)) = inr (inl empty)
      server tried a e b (inr (inr (inl socket))) = inr (inr (inl socket))
      server tried a e b (inr (inr (inr why))) = inr (inr (inr (link (last_tls tried) a e b why)))

      why : (tried rest : List Planned) (before after : RoundTold) (a : Seen) (e : Failure) (b : Seen)
          → Why Takes Offers by_option name no_echo timeout tried rest before after a e b
          → Why TakesTexts Offers by_option name no_echo timeout tried rest before after a e b
      why tried rest before after a e b (inl none) = inl none
      why tried rest before after a e b (inr (inl spent)) = inr (inl spent)
      why tried rest before after a e b (inr (inr (cause, done))) = inr (inr (server tried a e b cause, done))

      pub round_failed : (before after : RoundTold) (a : Seen) (e : Failure) (b : Seen)
          → RoundCause Takes Offers by_option name no_echo timeout before after a e b
          → RoundFailed Offers by_option name no_echo timeout a e b
      round_failed before after a e b (inl is) = (before, after, inl is)
      round_failed before after a e b (inr (tried, rest, has, handed, is)) =
          (before, after, inr (tried, rest, has, handed, why tried rest before after a e b is))
