-- An INFO is read from its object, and an object from its text.
use Rattle.std.proofs.Common.{◌≡◌, ℕ, Bool, true, false, List, Option, None, Err, refl, sym, ap, ◌∙◌, is_some}
use Rattle.std.specs.Prelude.{if◌then◌else◌, option_and_then}
use Rattle.std.specs.Str.{is_utf8, IsUtf8}
use Rattle.std.proofs.lemmas.Str.{IsUtf8-from_is_utf8, is_utf8-from_IsUtf8}
use Rattle.serde_json.specs.Data.{Data}
use Rattle.serde_json.specs.Find.{as_object}
use Rattle.serde_json.specs.Read.{read}
use Rattle.nats_info.specs.Info.{default_info}
use Rattle.nats_info.specs.Fields.{with_fields, info_of, info_at}
use Rattle.nats_info.specs.Errors.{Gives, Puts}
use Rattle.nats_info.specs.declared.info.ServerInfo.{ServerInfo}
use Rattle.nats_info.specs.declared.error.InfoError.{InfoError}
use Rattle.nats_info.specs.declared.error.InfoError.TheVariants.{Unreadable, NoMemory}

where_true : (test : Bool) (spelled : Option ServerInfo) → test ≡ true → (if test then spelled else None) ≡ spelled
where_true true spelled is = refl
where_true false spelled is = cc

-- where the fields are refused the object is
pub object_refused : (value : Data) (error : InfoError) (info new : ServerInfo)
    → info ≡ default_info → is_some (as_object value) ≡ true → Puts (with_fields value info) (Err error) new
    → Gives (info_of value) (Err error)
object_refused value Unreadable info new from object refused =
    where_true (is_some (as_object value)) (with_fields value default_info) object ∙ ap (with_fields value) (sym from) ∙ refused
object_refused value NoMemory info new from object refused = tt

-- what UTF-8 spells
pub spelled_by_text : (bytes text : List ℕ) → text ≡ bytes → IsUtf8 bytes → info_at bytes ≡ option_and_then info_of (read text)
unfolding info_at
spelled_by_text bytes text same utf8 =
    where_true (is_utf8 bytes) (option_and_then info_of (read bytes)) (is_utf8-from_IsUtf8 bytes utf8) ∙ ap (λ t. option_and_then info_of (read t)) (sym same)

other_step : (test : Bool) (bytes : List ℕ) (spelled : Option ServerInfo) → is_utf8 bytes ≡ test → ¬ (IsUtf8 bytes)
    → (if test then spelled else None) ≡ None
other_step true bytes spelled is never = absurd (never (IsUtf8-from_is_utf8 bytes is))
other_step false bytes spelled is never = refl

-- other bytes spell nothing
pub no_text : (bytes : List ℕ) → ¬ (IsUtf8 bytes) → info_at bytes ≡ None
unfolding info_at
no_text bytes never = other_step (is_utf8 bytes) bytes (option_and_then info_of (read bytes)) refl never
