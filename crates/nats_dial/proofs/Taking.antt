-- What becomes of a list of servers at one read.
use Rattle.std.proofs.Common.{◌≡◌, refl, ◌∙◌, sym, subst, ◌⊎◌, inl, inr, ℕ, Bool, List, Option, Result, Ok, Err}
use Rattle.nats_names.specs.declared.cause.Cause.{Cause}
use Rattle.nats_info.specs.declared.info.ServerInfo.{ServerInfo}
use Rattle.nats_pool.specs.Auths.{AuthValue}
use Rattle.nats_lines.specs.Operations.{front}
use Rattle.nats_handshake.specs.declared.error.ConnectErrorKind.{ConnectErrorKind}
use Rattle.nats_handshake.specs.declared.error.ConnectErrorKind.TheVariants as kind
use Rattle.nats_handshake.specs.declared.stage.Stage.{Stage}
use Rattle.nats_handshake.specs.declared.stage.Stage.TheVariants as stage
use Rattle.nats_handshake.specs.declared.stage.Shake.{Shake}
use Rattle.nats_handshake.specs.declared.stage.Shake.TheVariants as shake
use Rattle.nats_handshake.specs.declared.course.Greeting.{Greeting}
use Rattle.nats_handshake.specs.declared.course.Greeting.TheVariants as greeting
use Rattle.nats_handshake.specs.Course.{Course, greeting_at}
use Rattle.nats_handshake.specs.Errors.{Failure}
use Rattle.nats_handshake.specs.Shaking.{Talk, Goes, Greeted, Repelled, Declines, Heeds, FedAt, with_bytes}
use Rattle.nats_handshake.specs.Heard.{IsOpen}
use Rattle.nats_dial.specs.Lines.{IsAt}
use Rattle.nats_dial.specs.Taking.{TookIn, HasTook}
use Rattle.nats_dial.proofs.Exchanging.{heeds_at, fed_heeds, fed_refuses}

module _ {P : Type 0} (Takes : P → P → List (List ℕ) → List (List ℕ) → Type 0) where
  -- whatever a handshake took in, it took in once at most
  pub took_in : (at : Stage) (skipped : List (List ℕ)) (p q : P) → HasTook Takes at skipped p q → TookIn Takes p q
  took_in stage.Greets skipped p q had = inl had
  took_in (stage.Asks info left) skipped p q had = inr (info.connect_urls, skipped, had)
  took_in (stage.Linked info) skipped p q had = inr (info.connect_urls, skipped, had)
  took_in (stage.Refused kind) skipped p q had = had

  -- a handshake that knows the INFO took in what that tells of
  goes_took : (info : ServerInfo) (c : Course) (t new : Talk) (s : Shake) (p q : P) → Goes info c t s new
      → Takes p q info.connect_urls t.skipped → HasTook Takes new.stage new.skipped p q
  goes_took info c t new shake.More p q g took = rw g.1 took
  goes_took info c t new shake.Done p q g took = rw g.1 took

  module _ (Offers : List ℕ → Result AuthValue (List ℕ) → Type 0) (by_option : Bool) (name : Option (List ℕ)) (no_echo : Bool)
      (p q next : P)
    where
      greeted_took : (said : Greeting) (t new : Talk) (s : Shake) → t.stage ≡ stage.Greets → q ≡ p
          → Greeted (Takes q next) (next ≡ q) Offers by_option name no_echo said t s new → HasTook Takes new.stage new.skipped p next
      greeted_took greeting.Waits t new s e had g = rw (g.2, e) (g.0 ∙ had)
      greeted_took (greeting.Refuses r) t new s e had g = absurd g
      greeted_took (greeting.Greets info n) t new s e had g = goes_took info _ (record t { skipped = g.1 }) new s p next g.3
          (subst (λ (x : P). Takes x next info.connect_urls g.1) had g.2.1)

      heeds_took : (at : Stage) (t new : Talk) (s : Shake) → IsOpen at → t.stage ≡ at → HasTook Takes at t.skipped p q
          → Heeds (Takes q next) (next ≡ q) Offers by_option name no_echo at t (Ok s) new
          → HasTook Takes new.stage new.skipped p next
      heeds_took stage.Greets t new s going e had h = greeted_took (greeting_at (front t.unread)) t new s e had h
      heeds_took (stage.Asks info left) t new s going e had h = goes_took info _ t new s p next h.1
          (subst (λ (x : P). Takes p x info.connect_urls t.skipped) (sym h.0) had)
      heeds_took (stage.Linked info) t new s going e had h = absurd going
      heeds_took (stage.Refused kind) t new s going e had h = absurd going

      -- the bytes of a read were fed
      pub fed_took : (t new : Talk) (bytes : List ℕ) (s : Shake) → IsOpen t.stage → HasTook Takes t.stage t.skipped p q
          → FedAt (Takes q next) (next ≡ q) Offers by_option name no_echo t.stage t bytes (Ok s) new
          → IsAt s new.stage × HasTook Takes new.stage new.skipped p next
      fed_took t new bytes s going had fed =
          let h = fed_heeds (Takes q next) (next ≡ q) Offers by_option name no_echo t.stage t new bytes s going fed in (
            heeds_at (Takes q next) (next ≡ q) Offers by_option name no_echo t.stage (with_bytes t bytes) new s going refl h,
            heeds_took t.stage (with_bytes t bytes) new s going refl had h,
          )

      declined_took : (by_scheme : Bool) (info : ServerInfo) (k : ConnectErrorKind) (source : Option Cause) → q ≡ p
          → Declines (Takes q next) (next ≡ q) Offers by_option name no_echo by_scheme info k source → TookIn Takes p next
      declined_took by_scheme info kind.Tls source had d = inl (d.2 ∙ had)
      declined_took by_scheme info kind.Authentication source had d = inr (
        info.connect_urls,
        d.1.0,
        subst (λ (x : P). Takes x next info.connect_urls d.1.0) had d.1.1,
      )
      declined_took by_scheme info kind.NoMemory source had (none, inl stays) = inl (stays ∙ had)
      declined_took by_scheme info kind.NoMemory source had (none, inr took) = inr (
        info.connect_urls,
        took.0,
        subst (λ (x : P). Takes x next info.connect_urls took.0) had took.1,
      )
      declined_took by_scheme info kind.ServerParse source had d = absurd d
      declined_took by_scheme info kind.Dns source had d = absurd d
      declined_took by_scheme info kind.AuthorizationViolation source had d = absurd d
      declined_took by_scheme info kind.TimedOut source had d = absurd d
      declined_took by_scheme info kind.Io source had d = absurd d
      declined_took by_scheme info kind.MaxReconnects source had d = absurd d

      repelled_took : (said : Greeting) (t : Talk) (e : Failure) → q ≡ p
          → Repelled (Takes q next) (next ≡ q) Offers by_option name no_echo said t e → TookIn Takes p next
      repelled_took greeting.Waits t e had r = inl (r.0 ∙ had)
      repelled_took (greeting.Refuses why) t e had r = inl (r.0 ∙ had)
      repelled_took (greeting.Greets info n) t e had (inl d) = declined_took t.is_tls info e.0 e.1 had d
      repelled_took (greeting.Greets info n) t e had (inr r) = inr (
        info.connect_urls,
        r.1,
        subst (λ (x : P). Takes x next info.connect_urls r.1) had r.2.1,
      )

      refused_took : (at : Stage) (t new : Talk) (e : Failure) → IsOpen at → HasTook Takes at t.skipped p q
          → Heeds (Takes q next) (next ≡ q) Offers by_option name no_echo at t (Err e) new → TookIn Takes p next
      refused_took stage.Greets t new e going had h = repelled_took (greeting_at (front t.unread)) t e had h.0
      refused_took (stage.Asks info left) t new e going had h = inr (
        info.connect_urls,
        t.skipped,
        subst (λ (x : P). Takes p x info.connect_urls t.skipped) (sym h.0) had,
      )
      refused_took (stage.Linked info) t new e going had h = absurd going
      refused_took (stage.Refused kind) t new e going had h = absurd going

      -- the bytes of a read were refused
      pub fed_refused_took : (t new : Talk) (bytes : List ℕ) (e : Failure) → IsOpen t.stage → HasTook Takes t.stage t.skipped p q
          → FedAt (Takes q next) (next ≡ q) Offers by_option name no_echo t.stage t bytes (Err e) new → TookIn Takes p next
      fed_refused_took t new bytes e going had fed = refused_took t.stage (with_bytes t bytes) (with_bytes t bytes) e going had
          (fed_refuses (Takes q next) (next ≡ q) Offers by_option name no_echo t.stage t new bytes e going fed)
