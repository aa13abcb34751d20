-- What each status says of commands on a live link.
use Rattle.std.proofs.Common.{◌≡◌, ◌≢◌, refl, ◌∙◌, sym, ap, subst, inl, inr, ◌⊎◌, ℕ, arith, Bool, true, false, if◌then◌else◌, List, [], ◌∷◌, length, get_or, map, ◌<◌, ◌≤◌, Option, None, Some}
use Rattle.std.specs.Prelude.{codes, bytes_eq, not, option_and_then}
use Rattle.std.specs.Io.KnownBytes.{Appends}
use Rattle.nats_outside.specs.Told.{Seen}
use Rattle.nats_spelling.specs.Spelling.{field_number}
use Rattle.nats_live.specs.declared.error.LiveError.{LiveError}
use Rattle.nats_live.specs.Causes.{Shows, WhyNotPublished, WhyNotReceived}
use Rattle.nats_live.specs.Ended.{WasPublished, WasReceived}
use Rattle.nats_replay.specs.Outside.{Rose, AppendsFront}
use Rattle.nats_replay.specs.Live.{LiveWords, publishes, receives, others, live_of, in_sub, receives_by, IsToldOf, LiveAnswers, LiveAnswersBy, is_told, PubAnswers, SubAnswers, PubPrints, SubPrints, PrintsAt, RefusalAnswers, published_line, error_line}
use Rattle.nats_replay.specs.Words.{run_words, bulk_count, is_status_of_live}

-- ---- words

pub run_not_live : (words : List (List ℕ)) → words ≡ run_words → live_of words ≡ others
run_not_live words is = ap live_of is

pub bulk_not_live : (words : List (List ℕ)) (n : ℕ) → bulk_count words ≡ Some n → live_of words ≡ others
bulk_not_live [] n is = refl
bulk_not_live (word ∷ []) n is = refl
bulk_not_live (word ∷ number ∷ []) n is = refl
bulk_not_live (word ∷ number ∷ third ∷ more) n is = cc

publishes_live : (addr subject payload : List ℕ) → publishes addr subject payload ≢ others
publishes_live addr subject payload = (λ is. cc)

receives_live : (addr subject : List ℕ) (n : ℕ) → receives addr subject n ≢ others
receives_live addr subject n = (λ is. cc)

pub pub_live : (words : List (List ℕ)) (addr subject payload : List ℕ) → live_of words ≡ publishes addr subject payload
    → live_of words ≢ others
pub_live words addr subject payload is = λ none. publishes_live addr subject payload (sym is ∙ none)

pub sub_live : (words : List (List ℕ)) (addr subject : List ℕ) (n : ℕ) → live_of words ≡ receives addr subject n
    → live_of words ≢ others
sub_live words addr subject n is = λ none. receives_live addr subject n (sym is ∙ none)

-- ---- what they come to

pub pub_answers : (words : List (List ℕ)) (addr subject payload : List ℕ) (a b : Seen) (status faults faults_now : ℕ)
    (old new : Option (List ℕ))
    → live_of words ≡ publishes addr subject payload → LiveAnswers words a (Some status) b faults faults_now old new
    → PubAnswers addr subject payload a status b faults faults_now old new
pub_answers words addr subject payload a b status faults faults_now old new is answers =
    subst (λ (w : LiveWords). LiveAnswersBy w a (Some status) b faults faults_now old new) is answers

pub sub_answers : (words : List (List ℕ)) (addr subject : List ℕ) (n : ℕ) (a b : Seen) (status faults faults_now : ℕ)
    (old new : Option (List ℕ))
    → live_of words ≡ receives addr subject n → LiveAnswers words a (Some status) b faults faults_now old new
    → SubAnswers addr subject n a status b faults faults_now old new
sub_answers words addr subject n a b status faults faults_now old new is answers =
    subst (λ (w : LiveWords). LiveAnswersBy w a (Some status) b faults faults_now old new) is answers

-- ---- by status

pub published_by : (addr subject payload : List ℕ) (a b : Seen) (status faults faults_now : ℕ)
    (old new : Option (List ℕ)) → status ≡ 0
    → PubAnswers addr subject payload a status b faults faults_now old new
    → Shows addr (WasPublished subject payload) a b × Appends old new published_line
published_by addr subject payload a b status faults faults_now old new zero (inl seven) =
    absurd (omega (arith, zero, seven))
published_by addr subject payload a b status faults faults_now old new zero (inr (inl (shows, inl (is, text)))) =
    (shows, text)
published_by addr subject payload a b status faults faults_now old new zero
    (inr (inl (shows, inr (four, rose, text)))) =
    absurd (omega (arith, zero, four))
published_by addr subject payload a b status faults faults_now old new zero
    (inr (inr (e, told, why, inl (nine, text)))) =
    absurd (omega (arith, zero, nine))
published_by addr subject payload a b status faults faults_now old new zero
    (inr (inr (e, told, why, inr (four, rose, text)))) =
    absurd (omega (arith, zero, four))

pub received_by : (addr subject : List ℕ) (n : ℕ) (a b : Seen) (status faults faults_now : ℕ)
    (old new : Option (List ℕ)) → status ≡ 0
    → SubAnswers addr subject n a status b faults faults_now old new
    → (text : List ℕ) × Shows addr (WasReceived subject n text) a b × Appends old new text
received_by addr subject n a b status faults faults_now old new zero (inl seven) = absurd (omega (arith, zero, seven))
received_by addr subject n a b status faults faults_now old new zero (inr (inl (text, shows, inl (is, appends)))) =
    (text, shows, appends)
received_by addr subject n a b status faults faults_now old new zero
    (inr (inl (text, shows, inr (four, rose, front)))) =
    absurd (omega (arith, zero, four))
received_by addr subject n a b status faults faults_now old new zero (inr (inr (e, told, why, inl (nine, text)))) =
    absurd (omega (arith, zero, nine))
received_by addr subject n a b status faults faults_now old new zero
    (inr (inr (e, told, why, inr (four, rose, text)))) =
    absurd (omega (arith, zero, four))

pub not_published_by : (addr subject payload : List ℕ) (a b : Seen) (status faults faults_now : ℕ)
    (old new : Option (List ℕ)) → status ≡ 9
    → PubAnswers addr subject payload a status b faults faults_now old new
    → (e : LiveError) × IsToldOf e × WhyNotPublished addr subject payload a e b × Appends old new (error_line e)
not_published_by addr subject payload a b status faults faults_now old new nine (inl seven) =
    absurd (omega (arith, nine, seven))
not_published_by addr subject payload a b status faults faults_now old new nine (inr (inl (shows, inl (zero, text)))) =
    absurd (omega (arith, nine, zero))
not_published_by addr subject payload a b status faults faults_now old new nine
    (inr (inl (shows, inr (four, rose, text)))) =
    absurd (omega (arith, nine, four))
not_published_by addr subject payload a b status faults faults_now old new nine
    (inr (inr (e, told, why, inl (is, text)))) =
    (e, told, why, text)
not_published_by addr subject payload a b status faults faults_now old new nine
    (inr (inr (e, told, why, inr (four, rose, text)))) =
    absurd (omega (arith, nine, four))

pub not_received_by : (addr subject : List ℕ) (n : ℕ) (a b : Seen) (status faults faults_now : ℕ)
    (old new : Option (List ℕ)) → status ≡ 9
    → SubAnswers addr subject n a status b faults faults_now old new
    → (e : LiveError) × IsToldOf e × WhyNotReceived addr subject n a e b × Appends old new (error_line e)
not_received_by addr subject n a b status faults faults_now old new nine (inl seven) =
    absurd (omega (arith, nine, seven))
not_received_by addr subject n a b status faults faults_now old new nine
    (inr (inl (text, shows, inl (zero, appends)))) =
    absurd (omega (arith, nine, zero))
not_received_by addr subject n a b status faults faults_now old new nine
    (inr (inl (text, shows, inr (four, rose, front)))) =
    absurd (omega (arith, nine, four))
not_received_by addr subject n a b status faults faults_now old new nine (inr (inr (e, told, why, inl (is, text)))) =
    (e, told, why, text)
not_received_by addr subject n a b status faults faults_now old new nine
    (inr (inr (e, told, why, inr (four, rose, text)))) =
    absurd (omega (arith, nine, four))

pub pub_cut_by : (addr subject payload : List ℕ) (a b : Seen) (status faults faults_now : ℕ)
    (old new : Option (List ℕ)) → status ≡ 4
    → PubAnswers addr subject payload a status b faults faults_now old new
    → (text : List ℕ) × PubPrints addr subject payload a text b × AppendsFront old new text
pub_cut_by addr subject payload a b status faults faults_now old new four (inl seven) =
    absurd (omega (arith, four, seven))
pub_cut_by addr subject payload a b status faults faults_now old new four (inr (inl (shows, inl (zero, text)))) =
    absurd (omega (arith, four, zero))
pub_cut_by addr subject payload a b status faults faults_now old new four (inr (inl (shows, inr (is, rose, text)))) =
    (published_line, inl (shows, refl), text)
pub_cut_by addr subject payload a b status faults faults_now old new four
    (inr (inr (e, told, why, inl (nine, text)))) =
    absurd (omega (arith, four, nine))
pub_cut_by addr subject payload a b status faults faults_now old new four
    (inr (inr (e, told, why, inr (is, rose, text)))) =
    (error_line e, inr (e, told, why, refl), text)

pub sub_cut_by : (addr subject : List ℕ) (n : ℕ) (a b : Seen) (status faults faults_now : ℕ)
    (old new : Option (List ℕ)) → status ≡ 4
    → SubAnswers addr subject n a status b faults faults_now old new
    → (text : List ℕ) × SubPrints addr subject n a text b × AppendsFront old new text
sub_cut_by addr subject n a b status faults faults_now old new four (inl seven) = absurd (omega (arith, four, seven))
sub_cut_by addr subject n a b status faults faults_now old new four (inr (inl (text, shows, inl (zero, appends)))) =
    absurd (omega (arith, four, zero))
sub_cut_by addr subject n a b status faults faults_now old new four (inr (inl (text, shows, inr (is, rose, front)))) =
    (text, inl shows, front)
sub_cut_by addr subject n a b status faults faults_now old new four (inr (inr (e, told, why, inl (nine, text)))) =
    absurd (omega (arith, four, nine))
sub_cut_by addr subject n a b status faults faults_now old new four (inr (inr (e, told, why, inr (is, rose, text)))) =
    (error_line e, inr (e, told, why, refl), text)

-- ---- the statuses

is_one : (status n : ℕ) → status ≡ n → is_status_of_live n ≡ true → is_status_of_live status ≡ true
is_one status n is one = ap is_status_of_live is ∙ one

pub pub_status : (addr subject payload : List ℕ) (a b : Seen) (status faults faults_now : ℕ)
    (old new : Option (List ℕ))
    → PubAnswers addr subject payload a status b faults faults_now old new → is_status_of_live status ≡ true
pub_status addr subject payload a b status faults faults_now old new (inl seven) = is_one status 7 seven refl
pub_status addr subject payload a b status faults faults_now old new (inr (inl (shows, inl (zero, text)))) =
    is_one status 0 zero refl
pub_status addr subject payload a b status faults faults_now old new (inr (inl (shows, inr (four, rose, text)))) =
    is_one status 4 four refl
pub_status addr subject payload a b status faults faults_now old new (inr (inr (e, told, why, inl (nine, text)))) =
    is_one status 9 nine refl
pub_status addr subject payload a b status faults faults_now old new
    (inr (inr (e, told, why, inr (four, rose, text)))) =
    is_one status 4 four refl

pub sub_status : (addr subject : List ℕ) (n : ℕ) (a b : Seen) (status faults faults_now : ℕ)
    (old new : Option (List ℕ))
    → SubAnswers addr subject n a status b faults faults_now old new → is_status_of_live status ≡ true
sub_status addr subject n a b status faults faults_now old new (inl seven) = is_one status 7 seven refl
sub_status addr subject n a b status faults faults_now old new (inr (inl (text, shows, inl (zero, appends)))) =
    is_one status 0 zero refl
sub_status addr subject n a b status faults faults_now old new (inr (inl (text, shows, inr (four, rose, front)))) =
    is_one status 4 four refl
sub_status addr subject n a b status faults faults_now old new (inr (inr (e, told, why, inl (nine, text)))) =
    is_one status 9 nine refl
sub_status addr subject n a b status faults faults_now old new (inr (inr (e, told, why, inr (four, rose, text)))) =
    is_one status 4 four refl

status_by : (w : LiveWords) (a b : Seen) (status faults faults_now : ℕ) (old new : Option (List ℕ))
    → LiveAnswersBy w a (Some status) b faults faults_now old new → is_status_of_live status ≡ true
status_by (publishes addr subject payload) a b status faults faults_now old new answers =
    pub_status addr subject payload a b status faults faults_now old new answers
status_by (receives addr subject n) a b status faults faults_now old new answers =
    sub_status addr subject n a b status faults faults_now old new answers
status_by others a b status faults faults_now old new answers = absurd answers

-- the statuses of a command on a live link
pub live_status : (words : List (List ℕ)) (a b : Seen) (status faults faults_now : ℕ) (old new : Option (List ℕ))
    → LiveAnswers words a (Some status) b faults faults_now old new → is_status_of_live status ≡ true
live_status words a b status faults faults_now old new answers =
    status_by (live_of words) a b status faults faults_now old new answers

-- ---- what was printed

-- a status that is another than that of want of memory
pub not_wanting : {A : Type 0} (whole status : ℕ) (text : List ℕ) (faults faults_now : ℕ) (old new : Option (List ℕ))
    → whole ≢ 7 → PrintsAt whole status text faults faults_now old new → status ≡ 7 → A
not_wanting whole status text faults faults_now old new other (inl (is, all)) seven = absurd (other (sym is ∙ seven))
not_wanting whole status text faults faults_now old new other (inr (four, rose, front)) seven =
    absurd (omega (arith, four, seven))

pub refusal_told : (e : LiveError) (status faults faults_now : ℕ) (text : List ℕ) (old new : Option (List ℕ))
    → is_told e ≡ true → text ≡ error_line e → PrintsAt 9 status text faults faults_now old new
    → RefusalAnswers e status faults faults_now old new
refusal_told e status faults faults_now text old new told is prints =
    inl (told, subst (λ (t : List ℕ). PrintsAt 9 status t faults faults_now old new) is prints)

pub pub_refused : (addr subject payload : List ℕ) (a b : Seen) (e : LiveError) (status faults faults_now : ℕ)
    (old new : Option (List ℕ))
    → WhyNotPublished addr subject payload a e b → RefusalAnswers e status faults faults_now old new
    → PubAnswers addr subject payload a status b faults faults_now old new
pub_refused addr subject payload a b e status faults faults_now old new why (inl (told, prints)) =
    inr (inr (e, told, why, prints))
pub_refused addr subject payload a b e status faults faults_now old new why (inr seven) = inl seven

pub sub_refused : (addr subject : List ℕ) (n : ℕ) (a b : Seen) (e : LiveError) (status faults faults_now : ℕ)
    (old new : Option (List ℕ))
    → WhyNotReceived addr subject n a e b → RefusalAnswers e status faults faults_now old new
    → SubAnswers addr subject n a status b faults faults_now old new
sub_refused addr subject n a b e status faults faults_now old new why (inl (told, prints)) =
    inr (inr (e, told, why, prints))
sub_refused addr subject n a b e status faults faults_now old new why (inr seven) = inl seven

-- ---- words that are four, and others

pub fewer_not_live : {A : Type 0} (text : A → List ℕ) (words : List A) → length words < 4
    → live_of (map text words) ≡ others
fewer_not_live text [] few = refl
fewer_not_live text (w ∷ []) few = refl
fewer_not_live text (w ∷ x ∷ []) few = refl
fewer_not_live text (w ∷ x ∷ y ∷ []) few = refl
fewer_not_live text (w ∷ x ∷ y ∷ z ∷ more) few = absurd (omega arith)

-- each of four words is the one at its place
pub four_words : {A : Type 0} (text : A → List ℕ) (words : List A) (w a s l : A) → 4 ≤ length words → length words < 5
    → w ≡ get_or words 0 w → a ≡ get_or words 1 a → s ≡ get_or words 2 s → l ≡ get_or words 3 l
    → map text words ≡ text w ∷ text a ∷ text s ∷ text l ∷ []
four_words text [] w a s l some few is1 is2 is3 is4 = absurd (omega arith)
four_words text (x ∷ []) w a s l some few is1 is2 is3 is4 = absurd (omega arith)
four_words text (x ∷ y ∷ []) w a s l some few is1 is2 is3 is4 = absurd (omega arith)
four_words text (x ∷ y ∷ z ∷ []) w a s l some few is1 is2 is3 is4 = absurd (omega arith)
four_words {A = A} text (x ∷ y ∷ z ∷ v ∷ []) w a s l some few is1 is2 is3 is4 =
    ap (λ (t : A). text t ∷ text y ∷ text z ∷ text v ∷ []) (sym is1)
    ∙ (ap (λ (t : A). text w ∷ text t ∷ text z ∷ text v ∷ []) (sym is2)
    ∙ (ap (λ (t : A). text w ∷ text a ∷ text t ∷ text v ∷ []) (sym is3)
    ∙ ap (λ (t : A). text w ∷ text a ∷ text s ∷ text t ∷ []) (sym is4)))
four_words text (x ∷ y ∷ z ∷ v ∷ u ∷ more) w a s l some few is1 is2 is3 is4 = absurd (omega arith)

-- what four words ask for, by whether the first is `pub`, whether it is `sub`, and the number that the last spells
abbrev asked : (a s l : List ℕ) → Bool → Bool → Option ℕ → LiveWords
asked a s l is_pub is_sub number =
    if is_pub then publishes a s l else (if is_sub then receives_by a s number else others)

asked_of : (w a s l : List ℕ) → live_of (w ∷ a ∷ s ∷ l ∷ []) ≡ asked a s l (bytes_eq w (codes "pub"))
    (bytes_eq w (codes "sub")) (option_and_then in_sub (field_number l))
asked_of w a s l = refl

not_pub : (w a s l : List ℕ) → bytes_eq w (codes "pub") ≡ false → live_of (w ∷ a ∷ s ∷ l ∷ []) ≡ asked a s l false
    (bytes_eq w (codes "sub")) (option_and_then in_sub (field_number l))
not_pub w a s l other =
    asked_of w a s l
    ∙ ap (λ (b : Bool). asked a s l b (bytes_eq w (codes "sub")) (option_and_then in_sub (field_number l))) other

live_receives : (w a s l : List ℕ) (n : ℕ) → bytes_eq w (codes "pub") ≡ false → bytes_eq w (codes "sub") ≡ true
    → option_and_then in_sub (field_number l) ≡ Some n → live_of (w ∷ a ∷ s ∷ l ∷ []) ≡ receives a s n
live_receives w a s l n other is number =
    not_pub w a s l other
    ∙ (ap (λ (b : Bool). asked a s l false b (option_and_then in_sub (field_number l))) is
    ∙ ap (λ (o : Option ℕ). asked a s l false true o) number)

pub not_false : (b : Bool) → not b ≡ false → b ≡ true
not_false true is = refl
not_false false is = cc

-- what receiving comes to is what the words come to that ask for it
pub receives_answer : (words : List (List ℕ)) (w a s l : List ℕ) (n : ℕ) (x y : Seen) (status faults faults_now : ℕ)
    (old new : Option (List ℕ)) → words ≡ w ∷ a ∷ s ∷ l ∷ [] → bytes_eq w (codes "pub") ≡ false
    → bytes_eq w (codes "sub") ≡ true → option_and_then in_sub (field_number l) ≡ Some n
    → SubAnswers a s n x status y faults faults_now old new
    → LiveAnswers words x (Some status) y faults faults_now old new
receives_answer words w a s l n x y status faults faults_now old new four other is number answers =
    subst (λ (asks : LiveWords). LiveAnswersBy asks x (Some status) y faults faults_now old new)
    (sym (ap live_of four ∙ live_receives w a s l n other is number)) answers

pub others_answer : (words : List (List ℕ)) (a : Seen) (faults : ℕ) (old : Option (List ℕ)) → live_of words ≡ others
    → LiveAnswers words a None a faults faults old old
others_answer words a faults old is =
    subst (λ (w : LiveWords). LiveAnswersBy w a None a faults faults old old) (sym is) tt

-- ---- words that play a script ask for no live link

pub run_publishes : {A : Type 0} (words : List (List ℕ)) (addr subject payload : List ℕ) → words ≡ run_words
    → live_of words ≡ publishes addr subject payload → A
run_publishes words addr subject payload run is =
    absurd (pub_live words addr subject payload is (run_not_live words run))

pub run_receives : {A : Type 0} (words : List (List ℕ)) (addr subject : List ℕ) (n : ℕ) → words ≡ run_words
    → live_of words ≡ receives addr subject n → A
run_receives words addr subject n run is = absurd (sub_live words addr subject n is (run_not_live words run))
