-- The words of commands on a live link, and what each status says of them.
use Rattle.std.specs.Prelude.{◌≡◌, ◌⊎◌, ℕ, Bool, true, false, ◌&&◌, nat_le, List, [], ◌∷◌, ◌++◌, codes, bytes_eq, Option, Some, None, option_and_then, if◌then◌else◌}
use Rattle.std.specs.Io.KnownBytes.{Appends}
use Rattle.nats_outside.specs.Told.{Seen}
use Rattle.nats_spelling.specs.Lines.{lf}
use Rattle.nats_spelling.specs.Spelling.{field_number}
use Rattle.nats_live.specs.declared.error.LiveError.{LiveError}
use Rattle.nats_live.specs.declared.error.LiveError.TheVariants as refused
use Rattle.nats_live.specs.Causes.{live_error_text, Shows, WhyNotPublished, WhyNotReceived}
use Rattle.nats_live.specs.Ended.{WasPublished, WasReceived}
use Rattle.nats_replay.specs.Outside.{Rose, AppendsFront}

-- ---- words

-- the most messages that may be asked for
abbrev pub sub_limit : ℕ
sub_limit = 1000000

abbrev pub in_sub : ℕ → Option ℕ
in_sub n = if nat_le 1 n && nat_le n sub_limit then Some n else None

-- what words ask for on a live link: `pub ADDR SUBJECT PAYLOAD`, or `sub ADDR SUBJECT N`, N from 1 to a million
pub data LiveWords : Type 0 where
  publishes : List ℕ → List ℕ → List ℕ → LiveWords
  receives : List ℕ → List ℕ → ℕ → LiveWords
  others : LiveWords

abbrev pub receives_by : List ℕ → List ℕ → Option ℕ → LiveWords
receives_by addr subject (Some n) = receives addr subject n
receives_by addr subject None = others

abbrev pub live_of : List (List ℕ) → LiveWords
live_of (word ∷ addr ∷ subject ∷ last ∷ []) =
    if bytes_eq word (codes "pub") then publishes addr subject last else
    (if bytes_eq word (codes "sub") then receives_by addr subject (option_and_then in_sub (field_number last))
    else others)
live_of words = others

-- ---- texts

-- what is printed once a message was published
abbrev pub published_line : List ℕ
published_line = codes "published\n"

-- what is printed of a refusal: its text, or `link ended`
abbrev pub error_line : LiveError → List ℕ
error_line e = live_error_text e ++ lf

-- want of memory is told by no text
abbrev pub is_told : LiveError → Bool
is_told (refused.Connect e) = true
is_told (refused.Publish e) = true
is_told (refused.Subscribe e) = true
is_told refused.LinkEnded = true
is_told refused.NoMemory = false

abbrev pub IsToldOf : LiveError → Type 0
IsToldOf e = is_told e ≡ true

-- ---- statuses

-- a status with the text that is printed for it: 0 or 9 with all of it, 4 with a first part of it as the sink
-- failed, 7 with none of it
abbrev pub PrintsAt : ℕ → ℕ → List ℕ → ℕ → ℕ → Option (List ℕ) → Option (List ℕ) → Type 0
PrintsAt whole status text faults faults_now before now = ((status ≡ whole) × Appends before now text)
    ⊎ ((status ≡ 4) × Rose faults faults_now × AppendsFront before now text)

-- a refusal is printed, unless memory is wanting, for the call or for the text
abbrev pub RefusalAnswers : LiveError → ℕ → ℕ → ℕ → Option (List ℕ) → Option (List ℕ) → Type 0
RefusalAnswers e status faults faults_now before now =
    (IsToldOf e × PrintsAt 9 status (error_line e) faults faults_now before now) ⊎ (status ≡ 7)

-- what publishing comes to
abbrev pub PubAnswers : List ℕ → List ℕ → List ℕ → Seen → ℕ → Seen → ℕ → ℕ → Option (List ℕ) → Option (List ℕ) → Type 0
PubAnswers addr subject payload a status b faults faults_now before now = (status ≡ 7)
    ⊎ ((Shows addr (WasPublished subject payload) a b × PrintsAt 0 status published_line faults faults_now before now)
    ⊎ ((e : LiveError) × IsToldOf e × WhyNotPublished addr subject payload a e b
    × PrintsAt 9 status (error_line e) faults faults_now before now))

-- what receiving comes to
abbrev pub SubAnswers : List ℕ → List ℕ → ℕ → Seen → ℕ → Seen → ℕ → ℕ → Option (List ℕ) → Option (List ℕ) → Type 0
SubAnswers addr subject n a status b faults faults_now before now = (status ≡ 7)
    ⊎ (((text : List ℕ) × Shows addr (WasReceived subject n text) a b
    × PrintsAt 0 status text faults faults_now before now)
    ⊎ ((e : LiveError) × IsToldOf e × WhyNotReceived addr subject n a e b
    × PrintsAt 9 status (error_line e) faults faults_now before now))

-- what is printed of publishing, and of receiving: what was done, or why not
abbrev pub PubPrints : List ℕ → List ℕ → List ℕ → Seen → List ℕ → Seen → Type 0
PubPrints addr subject payload a text b = (Shows addr (WasPublished subject payload) a b × (text ≡ published_line))
    ⊎ ((e : LiveError) × IsToldOf e × WhyNotPublished addr subject payload a e b × (text ≡ error_line e))

abbrev pub SubPrints : List ℕ → List ℕ → ℕ → Seen → List ℕ → Seen → Type 0
SubPrints addr subject n a text b = Shows addr (WasReceived subject n text) a b
    ⊎ ((e : LiveError) × IsToldOf e × WhyNotReceived addr subject n a e b × (text ≡ error_line e))

-- what words come to that ask for either, if they do
abbrev pub LiveAnswersBy : LiveWords → Seen → Option ℕ → Seen → ℕ → ℕ → Option (List ℕ) → Option (List ℕ) → Type 0
LiveAnswersBy (publishes addr subject payload) a (Some status) b faults faults_now before now =
    PubAnswers addr subject payload a status b faults faults_now before now
LiveAnswersBy (receives addr subject n) a (Some status) b faults faults_now before now =
    SubAnswers addr subject n a status b faults faults_now before now
LiveAnswersBy others a None b faults faults_now before now = Unit {0}
LiveAnswersBy (publishes addr subject payload) a None b faults faults_now before now = ⊥
LiveAnswersBy (receives addr subject n) a None b faults faults_now before now = ⊥
LiveAnswersBy others a (Some status) b faults faults_now before now = ⊥

abbrev pub LiveAnswers : List (List ℕ) → Seen → Option ℕ → Seen → ℕ → ℕ → Option (List ℕ) → Option (List ℕ) → Type 0
LiveAnswers words a status b faults faults_now before now =
    LiveAnswersBy (live_of words) a status b faults faults_now before now
