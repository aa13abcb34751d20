-- Lists whose items are told one by one.
use Rattle.std.proofs.Common.{◌≡◌, ℕ, suc, ◌+◌, ◌<◌, List, ◌∷◌, length, get_or, drop, sym, ap, ◌∙◌, subst, add-one, drop-cons}
use Rattle.nats_client_text.specs.Law.{AreTexts}
use Rattle.nats_history.specs.declared.config.Config.{Config}
use Rattle.nats_link_text.specs.Typed.{IsText, IsTypedConfig}
use Rattle.nats_moves.specs.declared.moves.Move.{Move}
use Rattle.nats_own_laws.specs.Own.{AreTypedConfigs, IsTypedMove, AreTypedMoves}

pub next_item : {A : Type 0} (xs : List A) (i : ℕ) (x : A) → i < length xs → x ≡ get_or xs i x → drop i xs ≡ x ∷ drop (i + 1) xs
next_item xs i x less at =
    drop-cons xs i x less ∙ (ap (λ y. y ∷ drop (suc i) xs) (sym at) ∙ ap (λ k. x ∷ drop k xs) (sym (add-one i)))

-- the values up to one were told: so all are where those behind it are
pub values_on : (values : List (List ℕ)) (i : ℕ) (value : List ℕ) → i < length values → value ≡ get_or values i value → IsText value
    → (AreTexts (drop i values) → AreTexts values) → AreTexts (drop (i + 1) values) → AreTexts values
values_on values i value less at is before rest =
    before (subst AreTexts (sym (next_item values i value less at)) (is, rest))

pub moves_on : (moves : List Move) (i : ℕ) (step : Move) → i < length moves → step ≡ get_or moves i step → IsTypedMove step
    → (AreTypedMoves (drop i moves) → AreTypedMoves moves) → AreTypedMoves (drop (i + 1) moves) → AreTypedMoves moves
moves_on moves i step less at is before rest = before (subst AreTypedMoves (sym (next_item moves i step less at)) (is, rest))

pub configs_on : (configs : List Config) (i : ℕ) (config : Config) → i < length configs → config ≡ get_or configs i config → IsTypedConfig config
    → (AreTypedConfigs (drop i configs) → AreTypedConfigs configs) → AreTypedConfigs (drop (i + 1) configs) → AreTypedConfigs configs
configs_on configs i config less at is before rest =
    before (subst AreTypedConfigs (sym (next_item configs i config less at)) (is, rest))
