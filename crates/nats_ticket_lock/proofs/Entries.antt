-- Entries under a number, and starts of a list.
use Rattle.std.proofs.Common.{◌<◌, nat_le, length-append, subst, ⊎_elim, ◌≡◌, ◌≢◌, ℕ, ◌≤◌, List, [], ◌∷◌, ◌++◌, length, map, Bool, true, false, nat_eq, eq-eqb, ne_eqb, refl, sym, ap, ◌∙◌, arith}
use Rattle.std.proofs.lemmas.List.{append_assoc, append-nil}
use Rattle.std.proofs.lemmas.Bool.Decides.{leb_tells}
use mathlib.Core.Option.{some-injective}
use lib.ListN.{get_elem?}
use Rattle.nats_ticket_lock.specs.declared.rule.Account.{Account}
use Rattle.nats_ticket_lock.specs.Tally.{count_in}
use Rattle.nats_ticket_lock.specs.Rule.{keep_if, calls_of, Begins, number_of, Owns, Heard}
use Rattle.nats_ticket_lock.specs.Steps.{longer, pick, Earlier, add_own}

module _ {E : Type 0} where
  keep_append : (b : Bool) (x : E) (ys zs : List E) → keep_if b x ys ++ zs ≡ keep_if b x (ys ++ zs)
  keep_append true x ys zs = refl
  keep_append false x ys zs = refl

  calls_snoc : (by : E → ℕ) (n : ℕ) (l : List E) (e : E) → calls_of by n (l ++ e ∷ []) ≡ calls_of by n l ++ keep_if (nat_eq (by e) n) e []
  calls_snoc by n [] e = refl
  calls_snoc by n (x ∷ xs) e = ap (keep_if (nat_eq (by x) n) x) (calls_snoc by n xs e) ∙ sym (keep_append (nat_eq (by x) n) x (calls_of by n xs) (keep_if (nat_eq (by e) n) e []))

  pub calls_hit : (by : E → ℕ) (n : ℕ) (l : List E) (e : E) → by e ≡ n → calls_of by n (l ++ e ∷ []) ≡ calls_of by n l ++ e ∷ []
  calls_hit by n l e s = calls_snoc by n l e ∙ ap (λ (b : Bool). calls_of by n l ++ keep_if b e []) (eq-eqb (by e) n s)

  pub calls_miss : (by : E → ℕ) (n : ℕ) (l : List E) (e : E) → by e ≢ n → calls_of by n (l ++ e ∷ []) ≡ calls_of by n l
  calls_miss by n l e s = calls_snoc by n l e ∙ ap (λ (b : Bool). calls_of by n l ++ keep_if b e []) (ne_eqb (by e) n s) ∙ append-nil (calls_of by n l)

  pub begins_all : (l : List E) → Begins l l
  begins_all l = ([], sym (append-nil l))

  pub begins_more : (all l : List E) (e : E) → Begins all l → Begins (all ++ e ∷ []) l
  begins_more all l e h = (h.0 ++ e ∷ [], ap (λ (x : List E). x ++ e ∷ []) h.1 ∙ append_assoc l h.0 (e ∷ []))

  pub heard_more : (all : List E) (ls : List (List E)) (e : E) → Heard all ls → Heard (all ++ e ∷ []) ls
  heard_more all [] e h = tt
  heard_more all (l ∷ ls) e h = (begins_more all l e h.0, heard_more all ls e h.1)

  pub heard_append : (all : List E) (xs ys : List (List E)) → Heard all xs → Heard all ys → Heard all (xs ++ ys)
  heard_append all [] ys h k = k
  heard_append all (x ∷ xs) ys h k = (h.0, heard_append all xs ys h.1 k)

  pub owns_append : (by : E → ℕ) (all : List E) (xs ys : List (Account E)) → Owns by all xs → Owns by all ys → Owns by all (xs ++ ys)
  owns_append by all [] ys h k = k
  owns_append by all (x ∷ xs) ys h k = (h.0, owns_append by all xs ys h.1 k)

  pub numbers_append : (xs ys : List (Account E)) → map number_of (xs ++ ys) ≡ map number_of xs ++ map number_of ys
  numbers_append [] ys = refl
  numbers_append (x ∷ xs) ys = ap (λ (l : List ℕ). x.number ∷ l) (numbers_append xs ys)

  -- an entry under no number of these
  pub owns_more : (by : E → ℕ) (all : List E) (e : E) (accounts : List (Account E)) → count_in (by e) (map number_of accounts) ≡ 0 → Owns by all accounts → Owns by (all ++ e ∷ []) accounts
  owns_more by all e [] z h = tt
  owns_more by all e (a ∷ rest) z h =
      let ne : by e ≢ a.number = λ s. omega (arith, z, s) in
      let z' : count_in (by e) (map number_of rest) ≡ 0 = omega (arith, z) in
      (calls_miss by a.number all e ne ∙ h.0, owns_more by all e rest z' h.1)

  -- an entry under the first of these
  pub owns_one_more : (by : E → ℕ) (all : List E) (e : E) (a : Account E) (rest : List (Account E)) → by e ≡ a.number → count_in (by e) (map number_of rest) ≡ 0 → Owns by all (a ∷ rest)
      → Owns by (all ++ e ∷ []) (add_own e (a ∷ rest))
  owns_one_more by all e a rest s z h = (calls_hit by a.number all e s ∙ ap (λ (x : List E). x ++ e ∷ []) h.0, owns_more by all e rest z h.1)

  pub pick_either : (P : List E → Type 0) (b : Bool) (xs ys : List E) → P xs → P ys → P (pick b xs ys)
  pick_either P true xs ys p q = p
  pick_either P false xs ys p q = q

  abbrev tail_of : List E → List E
  tail_of [] = []
  tail_of (x ∷ xs) = xs

  -- of two starts of one list the shorter is a start of the other
  pub begins_shorter : (l m r q : List E) → l ++ r ≡ m ++ q → length l ≤ length m → Begins m l
  begins_shorter [] m r q e h = (m, refl)
  begins_shorter (x ∷ xs) [] r q e h = absurd (omega (arith, h))
  begins_shorter (x ∷ xs) (y ∷ ys) r q e h =
      let t = begins_shorter xs ys r q (ap tail_of e) (omega (arith, h)) in
      (t.0, λ i. some-injective y x (ap (λ (l : List E). get_elem? l 0) (sym e)) i ∷ t.1 i)

  pub earlier : (all seen : List E) (ls : List (List E)) → Begins all seen → Heard all ls → Earlier seen ls
  earlier all seen [] b h = tt
  earlier all seen (l ∷ ls) b h = ((λ le. begins_shorter l seen h.0.0 b.0 (sym h.0.1 ∙ b.1) le), earlier all seen ls b h.1)

  calls_append : (by : E → ℕ) (n : ℕ) (xs ys : List E) → calls_of by n (xs ++ ys) ≡ calls_of by n xs ++ calls_of by n ys
  calls_append by n [] ys = refl
  calls_append by n (x ∷ xs) ys = ap (keep_if (nat_eq (by x) n) x) (calls_append by n xs ys) ∙ sym (keep_append (nat_eq (by x) n) x (calls_of by n xs) (calls_of by n ys))

  no_more : (l r : List E) → l ++ r ≡ l → r ≡ []
  no_more l [] e = refl
  no_more l (x ∷ xs) e = absurd (let k = ap length e in let j = length-append l (x ∷ xs) in omega (arith, k, j))

  -- what all entries and the earlier ones have under a number, those between have
  same_between : (by : E → ℕ) (n : ℕ) (low r q own : List E) → calls_of by n ((low ++ r) ++ q) ≡ own → calls_of by n low ≡ own → calls_of by n (low ++ r) ≡ own
  same_between by n low r q own a l =
      let cr = calls_of by n r in let cq = calls_of by n q in
      let e : own ++ (cr ++ cq) ≡ own = sym (append_assoc own cr cq) ∙ (λ i. (sym l i ++ cr) ++ cq) ∙ (λ i. sym (calls_append by n low r) i ++ cq) ∙ sym (calls_append by n (low ++ r) q) ∙ a in
      let z : cr ++ cq ≡ [] = no_more own (cr ++ cq) e in
      let k = ap length z in let j = length-append cr cq in
      calls_append by n low r ∙ (λ i. l i ++ none_of cr (omega (arith, k, j)) i) ∙ append-nil own
    where
      none_of : (x : List E) → length x ≡ 0 → x ≡ []
      none_of [] h = refl
      none_of (y ∷ ys) h = absurd (omega (arith, h))

  pub owns_between : (by : E → ℕ) (all mid low : List E) (accounts : List (Account E)) → Begins all mid → Begins mid low → Owns by all accounts → Owns by low accounts → Owns by mid accounts
  owns_between by all mid low [] b c h k = tt
  owns_between by all mid low (a ∷ rest) b c h k =
      (subst (λ (m : List E). calls_of by a.number m ≡ a.own) (sym c.1) (same_between by a.number low c.0 b.0 a.own (ap (calls_of by a.number) ((λ i. sym c.1 i ++ b.0) ∙ sym b.1) ∙ h.0) k.0), owns_between by all mid low rest b c h.1 k.1)

  pub longer_begins : (all xs ys : List E) → Begins all xs → Begins all ys → Begins (longer xs ys) xs × Begins (longer xs ys) ys
  longer_begins all xs ys b c = ⊎_elim
      (λ (t : (nat_le (length xs) (length ys) ≡ true) × (length xs ≤ length ys)). subst (λ (m : List E). Begins m xs × Begins m ys) (ap (λ (x : Bool). pick x ys xs) (sym t.0)) (begins_shorter xs ys b.0 c.0 (sym b.1 ∙ c.1) t.1, begins_all ys))
      (λ (t : (nat_le (length xs) (length ys) ≡ false) × (length ys < length xs)). subst (λ (m : List E). Begins m xs × Begins m ys) (ap (λ (x : Bool). pick x ys xs) (sym t.0)) (begins_all xs, begins_shorter ys xs c.0 b.0 (sym c.1 ∙ b.1) (omega (arith, t.1))))
      (leb_tells (length xs) (length ys))
