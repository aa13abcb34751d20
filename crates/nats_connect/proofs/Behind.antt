-- Tokens that are written one after another.
use Rattle.std.proofs.Common.{◌≡◌, refl, ◌∙◌, ap, ℕ, List, [], ◌∷◌, ◌++◌, codes}
use Rattle.std.proofs.lemmas.List.{append_assoc}
use Rattle.json.specs.Token.{Token}
use Rattle.json.specs.Print.{print}
use Rattle.nats_connect.specs.declared.info.ConnectInfo.{ConnectInfo}
use Rattle.nats_connect.specs.Connect.{object_of, connect_text}

-- what two writes add is added by both
pub both : (a b c xs ys : List Token) → b ≡ a ++ xs → c ≡ b ++ ys → c ≡ a ++ (xs ++ ys)
both a b c xs ys first then = then ∙ ap (λ (ts : List Token). ts ++ ys) first ∙ append_assoc a xs ys

-- the line of an object's tokens
pub line_of : (before : List ℕ) (tokens : List Token) (inner items : List ℕ) (info : ConnectInfo)
    → before ≡ codes "CONNECT " → tokens ≡ object_of info → inner ≡ before ++ print tokens
    → items ≡ inner ++ 13 ∷ 10 ∷ [] → items ≡ connect_text info
unfolding connect_text
line_of before tokens inner items info b t i e = rw (e, i, b, t) refl
