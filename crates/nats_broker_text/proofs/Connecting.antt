-- A text is UTF-8, or says nothing.
use Rattle.std.proofs.Common.{◌≡◌, ℕ, Bool, true, false, List, Option, None, refl, sym, ap, ◌∙◌}
use Rattle.std.specs.Prelude.{if◌then◌else◌, option_and_then}
use Rattle.std.specs.Str.{is_utf8, IsUtf8}
use Rattle.std.proofs.lemmas.Str.{IsUtf8-from_is_utf8, is_utf8-from_IsUtf8}
use Rattle.serde_json.specs.Read.{read}
use Rattle.nats_broker_text.specs.declared.connect.Wishes.{Wishes}
use Rattle.nats_broker_text.specs.Connect.{wishes_of, wishes_at}

where_true : (test : Bool) (found : Option Wishes) → test ≡ true → (if test then found else None) ≡ found
where_true true found is = refl
where_true false found is = cc

pub by_text : (bytes text : List ℕ) → text ≡ bytes → IsUtf8 bytes → wishes_at bytes ≡ option_and_then wishes_of (read text)
by_text bytes text same utf8 =
    where_true (is_utf8 bytes) (option_and_then wishes_of (read bytes)) (is_utf8-from_IsUtf8 bytes utf8) ∙ ap (λ t. option_and_then wishes_of (read t)) (sym same)

other_step : (test : Bool) (bytes : List ℕ) (found : Option Wishes) → is_utf8 bytes ≡ test → ¬ (IsUtf8 bytes) → (if test then found else None) ≡ None
other_step true bytes found is never = absurd (never (IsUtf8-from_is_utf8 bytes is))
other_step false bytes found is never = refl

pub no_text : (bytes : List ℕ) → ¬ (IsUtf8 bytes) → wishes_at bytes ≡ None
no_text bytes never = other_step (is_utf8 bytes) bytes (option_and_then wishes_of (read bytes)) refl never
