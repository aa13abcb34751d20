-- What several steps in a row tell, at a view that is known.
use Rattle.std.proofs.Common.{◌≡◌, ℕ, ◌+◌, ◌%◌, ◌^◌, ◌<◌, List, [], ◌∷◌, ◌++◌, length, Option, Some, refl, sym, ◌∙◌, subst}
use mathlib.Core.Option.{none}
use Rattle.atomic_table.specs.Table.{State, step, Allows, opening}
use Rattle.nats_ticket_lock.specs.declared.rule.Stage.TheVariants.{Turn, Held}
use Rattle.nats_ticket_lock.specs.declared.rule.View.{View}
use Rattle.nats_ticket_lock.specs.Rule.{Owns, Kept, newcomer}
use Rattle.nats_ticket_lock.specs.Steps.{staged, recorded, numbered, first_number, ticket_no, Sat, gave, added, was_numbered}
use Rattle.nats_ticket_lock.proofs.Moves.{gives_back, adds, makes, begins}

module _ {K E D : Type 0} (by : E → ℕ) (entries : D → List E) (made : D → ℕ) (suits : K → D → Type 0) (key : K) where
  abbrev Rule : State (Option D) (View K E) → Type 0
  Rule = Kept by entries made suits key

  pub gives_as : (slots id : ℕ) (me : Sat K E D) (v : View K E) (t : ℕ) (y : D) (about : K) → slots ≡ 1 → me ≡ (v, (0, Some y) ∷ []) → v.stage ≡ Held t → entries y ≡ v.seen → made y ≡ v.made → v.about ≡ Some about → suits about y
      → Allows Rule slots id me 0 (λ n. n) (gave (step slots 0 0 0 none) me)
  gives_as slots id me v t y about one eq is ey my ab su = subst (λ (m : Sat K E D). Allows Rule slots id m 0 (λ n. n) (gave (step slots 0 0 0 none) m)) (sym eq) (gives_back by entries made suits key slots id (v, (0, Some y) ∷ []) t y about one is refl ey my ab su)

  pub adds_as : (slots id : ℕ) (me : Sat K E D) (v : View K E) (t : ℕ) (y : D) (e : E) → me ≡ (v, (0, Some y) ∷ []) → v.stage ≡ Held t → entries y ≡ v.seen ++ e ∷ [] → 0 < by e → first_number v.accounts ≡ by e → length v.seen + v.made < 2 ^ 63
      → Allows Rule slots id me 0 (λ n. (n + 1) % 2 ^ 64) (added by entries (step slots 0 1 0 none) me)
  adds_as slots id me v t y e eq is ey pos first room = subst (λ (m : Sat K E D). Allows Rule slots id m 0 (λ n. (n + 1) % 2 ^ 64) (added by entries (step slots 0 1 0 none) m)) (sym eq) (adds by entries made suits key slots id (v, (0, Some y) ∷ []) t y e is refl ey pos first room)

  pub makes_as : (slots id : ℕ) (me : Sat K E D) (v : View K E) (t : ℕ) (y : D) → me ≡ (v, (0, Some y) ∷ []) → v.stage ≡ Held t → length v.seen + v.made < 2 ^ 63
      → Allows Rule slots id me 0 (λ n. (n + 1) % 2 ^ 64) (was_numbered (step slots 0 1 0 none) me)
  makes_as slots id me v t y eq is room = subst (λ (m : Sat K E D). Allows Rule slots id m 0 (λ n. (n + 1) % 2 ^ 64) (was_numbered (step slots 0 1 0 none) m)) (sym eq) (makes by entries made suits key slots id (v, (0, Some y) ∷ []) t is room)

module _ {K E D : Type 0} where
  pub after_add : (by : E → ℕ) (entries : D → List E) (v : View K E) (y : D) (me1 me2 : Sat K E D) → me1 ≡ (v, (0, Some y) ∷ []) → added by entries (step 1 0 1 0 none) me1 0 me2 → (e : E) → entries y ≡ v.seen ++ e ∷ []
      → (me2 ≡ (recorded e v, (0, Some y) ∷ [])) × Owns by (recorded e v).seen (recorded e v).accounts
  after_add by entries v y me1 me2 p q e ey = let a : added by entries (step 1 0 1 0 none) (v, (0, Some y) ∷ []) 0 me2 = subst (λ (m : Sat K E D). added by entries (step 1 0 1 0 none) m 0 me2) p q in a y e refl ey

  pub after_make : (v : View K E) (y : D) (me1 me2 : Sat K E D) → me1 ≡ (v, (0, Some y) ∷ []) → me2 ≡ (numbered me1.0, me1.1) → me2 ≡ (numbered v, (0, Some y) ∷ [])
  after_make v y me1 me2 p q = q ∙ (λ i. (numbered (p i).0, (p i).1))

  pub after_give : (v : View K E) (y : D) (t : ℕ) (me1 me2 : Sat K E D) → me1 ≡ (v, (0, Some y) ∷ []) → v.stage ≡ Held t → me2 ≡ (staged (Turn (ticket_no me1.0.stage)) me1.0, []) → me2 ≡ (staged (Turn t) v, [])
  after_give v y t me1 me2 p is r = r ∙ (λ i. (staged (Turn (ticket_no (p i).0.stage)) (p i).0, [])) ∙ (λ i. (staged (Turn (ticket_no (is i))) v, []))

module _ {K E D : Type 0} (by : E → ℕ) (entries : D → List E) (made : D → ℕ) (suits : K → D → Type 0) (key : K) where
  pub begins_as : (items : List (Option D)) (y : D) → items ≡ Some y ∷ [] → entries y ≡ [] → made y ≡ 1 → suits key y → Kept by entries made suits key (opening (1 ∷ 0 ∷ 0 ∷ []) items (newcomer key))
  begins_as items y eq ey my su = subst (λ (l : List (Option D)). Kept by entries made suits key (opening (1 ∷ 0 ∷ 0 ∷ []) l (newcomer key))) (sym eq) (begins by entries made suits key y ey my su)
