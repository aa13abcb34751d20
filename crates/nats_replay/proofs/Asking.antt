-- Words that ask for a script of another kind ask for nothing else; and what such a script comes to, by its status.
use Rattle.std.proofs.Common.{◌≡◌, ◌≢◌, inl, inr, refl, ◌∙◌, sym, ap, subst, ℕ, List, [], ◌∷◌, length, Option, None, Some, Ok, Err, arith}
use Rattle.std.proofs.lemmas.Option.{none-some, same_Some}
use Rattle.std.specs.Io.KnownBytes.{Appends}
use Rattle.nats_worker_text.specs.declared.asked.Crew.{Crew}
use Rattle.nats_worker_text.specs.Asked.{crew_asked}
use Rattle.nats_replay.specs.declared.top.Refusal.{Refusal}
use Rattle.nats_replay.specs.declared.top.Refusal.TheVariants.{ReadFault, NoMemory, TooLong}
use Rattle.nats_replay.specs.declared.top.Output.{Output}
use Rattle.nats_replay.specs.declared.asked.Asked.{Asked}
use Rattle.nats_replay.specs.Asked.{asked_by}
use Rattle.nats_replay.specs.Live.{publishes, receives, live_of, others}
use Rattle.nats_replay.specs.Outside.{Rose, AppendsFront, Tally}
use Rattle.nats_replay.specs.Played.{PlayedBy, status_of, status_of_ending}
use Rattle.nats_replay.specs.Scripts.{Says, AskedAnswers}
use Rattle.nats_replay.specs.Words.{run_words, bulk_count}

-- ---- words

abbrev Alone : List (List ℕ) → Type 0
Alone words = (words ≢ run_words) × (bulk_count words ≡ None) × (live_of words ≡ others)

three_not_run : (a b c : List ℕ) → a ∷ b ∷ c ∷ [] ≢ run_words
three_not_run a b c = λ is. omega (arith, ap (λ (l : List (List ℕ)). length l) is)

pub asked_alone : (words : List (List ℕ)) (asked : Asked) → Some asked ≡ asked_by words → Alone words
asked_alone [] asked is = absurd (none-some asked (sym is))
asked_alone (w ∷ []) asked is = (λ run. none-some asked (sym (is ∙ ap asked_by run)), refl, refl)
asked_alone (w ∷ v ∷ []) asked is = absurd (none-some asked (sym is))
asked_alone (w ∷ v ∷ u ∷ []) asked is = (three_not_run w v u, refl, refl)
asked_alone (w ∷ v ∷ u ∷ t ∷ words) asked is = absurd (none-some asked (sym is))

pub not_publishes : (words : List (List ℕ)) (addr subject payload : List ℕ) → live_of words ≡ others
    → live_of words ≡ publishes addr subject payload → ⊥
not_publishes words addr subject payload other is =
    let no : others ≡ publishes addr subject payload = sym other ∙ is in cc

pub not_receives : (words : List (List ℕ)) (addr subject : List ℕ) (n : ℕ) → live_of words ≡ others
    → live_of words ≡ receives addr subject n → ⊥
not_receives words addr subject n other is =
    let no : others ≡ receives addr subject n = sym other ∙ is in cc

-- the same of words that ask for workers
pub crew_alone : (words : List (List ℕ)) (crew : Crew) → Some crew ≡ crew_asked words → Alone words
crew_alone [] crew is = absurd (none-some crew (sym is))
crew_alone (w ∷ []) crew is = absurd (none-some crew (sym is))
crew_alone (w ∷ v ∷ []) crew is = absurd (none-some crew (sym is))
crew_alone (w ∷ v ∷ u ∷ []) crew is = (three_not_run w v u, refl, refl)
crew_alone (w ∷ v ∷ u ∷ t ∷ words) crew is = absurd (none-some crew (sym is))

-- what holds of the workers that the words ask for holds of them by any name
pub crew_answered : (Is : Crew → Type 0) (words : List (List ℕ)) (crew : Crew) → Some crew ≡ crew_asked words → Is crew
    → (other : Crew) → crew_asked words ≡ Some other → Is other
crew_answered Is words crew exact is other asks = subst Is (same_Some crew other (exact ∙ asks)) is

-- ---- what is answered

pub refused_answers : (asked : Asked) (held : Option (List ℕ)) (before after : Tally) (refusal : Refusal)
    (status faults faults_now : ℕ) (written now : Option (List ℕ))
    → PlayedBy (Says asked) held before after (Err refusal) → status ≡ status_of refusal
    → AskedAnswers asked held before after status faults faults_now written now
refused_answers asked held before after ReadFault status faults faults_now written now h is = inl (is, h)
refused_answers asked held before after NoMemory status faults faults_now written now h is = inr (inl is)
refused_answers asked held before after TooLong status faults faults_now written now h is = inr (inr (inl (is, h.0, h.1)))

pub printed_answers : (asked : Asked) (held : Option (List ℕ)) (before after : Tally) (output : Output)
    (status faults faults_now : ℕ) (written now : Option (List ℕ))
    → PlayedBy (Says asked) held before after (Ok output) → status ≡ status_of_ending output.ending
    → Appends written now output.text.items
    → AskedAnswers asked held before after status faults faults_now written now
printed_answers asked held before after output status faults faults_now written now h is whole =
    inr (inr (inr (output.ending, output.text.items, h, inl (is, whole))))

pub cut_answers : (asked : Asked) (held : Option (List ℕ)) (before after : Tally) (output : Output)
    (status faults faults_now : ℕ) (written now : Option (List ℕ))
    → PlayedBy (Says asked) held before after (Ok output) → status ≡ 4 → Rose faults faults_now
    → AppendsFront written now output.text.items
    → AskedAnswers asked held before after status faults faults_now written now
cut_answers asked held before after output status faults faults_now written now h is rose front =
    inr (inr (inr (output.ending, output.text.items, h, inr (is, rose, front))))

-- the words ask for one script alone
pub answers_asked : (words : List (List ℕ)) (one asked : Asked) (held : Option (List ℕ)) (before after : Tally)
    (status faults faults_now : ℕ) (written now : Option (List ℕ))
    → Some one ≡ asked_by words → asked_by words ≡ Some asked
    → AskedAnswers one held before after status faults faults_now written now
    → AskedAnswers asked held before after status faults faults_now written now
answers_asked words one asked held before after status faults faults_now written now is other answers =
    subst (λ (a : Asked). AskedAnswers a held before after status faults faults_now written now)
    (same_Some one asked (is ∙ other)) answers
