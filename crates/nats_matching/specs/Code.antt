-- What the code's values say.
use Rattle.std.specs.Prelude.{ℕ, List, [], ◌∷◌, Option, Some, None}
use Rattle.std.specs.Borrow.{Bor}
use Rattle.nats_matching.specs.declared.matching.Token.{Token}
use Rattle.nats_matching.specs.Matching.{tokens_of}

-- the tokens of what is left of a text
abbrev pub tokens_left : Option (Bor (List ℕ)) → List (List ℕ)
tokens_left None = []
tokens_left (Some text) = tokens_of text.now

-- the tokens of a text that is cut behind its first token, or has none left
abbrev pub tokens_from : Option Token → List (List ℕ)
tokens_from None = []
tokens_from (Some token) = token.text.now ∷ tokens_left token.left
