-- Where a ticket stands among the settled ones.
use Rattle.std.proofs.Common.{◌≡◌, ℕ, zero, suc, ◌<◌, ◌≤◌, true, false, cond, ◌==◌, List, [], ◌∷◌, ◌++◌, length, get_or, take, drop, Some, None, refl, sym, ◌∙◌, ap, arith}
use Rattle.std.proofs.lemmas.List.{append-nil, append_assoc, drop_all}
use Rattle.nats_history.specs.declared.call.CallReply.{CallReply}
use Rattle.nats_tickets.specs.Kept.{reply_in, without, IsPlaceIn}

abbrev Settled : Type 0
Settled = List (ℕ × CallReply)

-- the first i are of other tickets
pub record Past (ticket i : ℕ) (xs : Settled) : Type 0 where
  pub reply : reply_in ticket xs ≡ reply_in ticket (drop i xs)
  pub others : without ticket xs ≡ take i xs ++ without ticket (drop i xs)

pub begins : (ticket : ℕ) (xs : Settled) → Past ticket 0 xs
begins ticket xs = record { reply = refl; others = refl }

-- what stands at a place, and what is behind it
at_place : (i : ℕ) (xs : Settled) (x : ℕ × CallReply) → i < length xs → x ≡ get_or xs i x → (drop i xs ≡ x ∷ drop (suc i) xs) × (take (suc i) xs ≡ take i xs ++ x ∷ [])
at_place i [] x less at = absurd (omega arith)
at_place zero (y ∷ xs) x less at = (ap (λ z. z ∷ xs) (sym at), ap (λ z. z ∷ []) (sym at))
at_place (suc i) (y ∷ xs) x less at =
    let rest = at_place i xs x (omega arith) at in
    (rest.0, ap (λ zs. y ∷ zs) rest.1)

same_at : (i : ℕ) (xs : Settled) (x y : ℕ × CallReply) → i < length xs → x ≡ get_or xs i x → y ≡ get_or xs i y → y ≡ x
same_at i [] x y less a b = absurd (omega arith)
same_at zero (z ∷ xs) x y less a b = b ∙ sym a
same_at (suc i) (z ∷ xs) x y less a b = same_at i xs x y (omega arith) a b

take_past : (i : ℕ) (xs : Settled) → length xs ≤ i → take i xs ≡ xs
take_past zero [] past = refl
take_past zero (x ∷ xs) past = absurd (omega arith)
take_past (suc i) [] past = refl
take_past (suc i) (x ∷ xs) past = ap (λ ys. x ∷ ys) (take_past i xs (omega arith))

pub one_past : (ticket i j : ℕ) (xs : Settled) (x : ℕ × CallReply) → j ≡ suc i → i < length xs → x ≡ get_or xs i x → (ticket == x.0) ≡ false → Past ticket i xs → Past ticket j xs
one_past ticket i j xs x e less at apart before =
    let here = at_place i xs x less at in
    let rest = drop (suc i) xs in
    record {
      reply = before.reply
          ∙ (ap (reply_in ticket) here.0
          ∙ (ap (λ b. cond b (Some x.1) (reply_in ticket rest)) apart ∙ ap (λ k. reply_in ticket (drop k xs)) (sym e)));
      others = before.others
          ∙ (ap (λ ys. take i xs ++ without ticket ys) here.0
          ∙ (ap (λ b. take i xs ++ cond b rest (x ∷ without ticket rest)) apart
          ∙ (sym (append_assoc (take i xs) (x ∷ []) (without ticket rest))
          ∙ (ap (λ ys. ys ++ without ticket rest) (sym here.1) ∙ ap (λ k. take k xs ++ without ticket (drop k xs)) (sym e)))));
    }

pub found : (ticket i : ℕ) (xs : Settled) (x : ℕ × CallReply) → i < length xs → x ≡ get_or xs i x → (ticket == x.0) ≡ true → Past ticket i xs → IsPlaceIn ticket xs (Some i)
found ticket i xs x less at same before =
    let here = at_place i xs x less at in
    let rest = drop (suc i) xs in (
      less,
      (
        λ y at_y.
            before.reply
            ∙ (ap (reply_in ticket) here.0
            ∙ (ap (λ b. cond b (Some x.1) (reply_in ticket rest)) same ∙ ap (λ (z : ℕ × CallReply). Some z.1) (sym (same_at i xs x y less at at_y)))),
        before.others
            ∙ (ap (λ ys. take i xs ++ without ticket ys) here.0 ∙ ap (λ b. take i xs ++ cond b rest (x ∷ without ticket rest)) same),
      ),
    )

pub none_found : (ticket i : ℕ) (xs : Settled) → length xs ≤ i → Past ticket i xs → IsPlaceIn ticket xs None
none_found ticket i xs past before = (
  before.reply ∙ ap (reply_in ticket) (drop_all i xs past),
  before.others ∙ (ap (λ ys. take i xs ++ without ticket ys) (drop_all i xs past) ∙ (append-nil (take i xs) ∙ take_past i xs past)),
)
