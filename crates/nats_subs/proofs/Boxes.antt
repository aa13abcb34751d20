-- The youngest of some messages in boxes.
use Rattle.std.specs.Global.{Box}
use Rattle.std.proofs.Common.{◌≡◌, List, [], ◌∷◌, map, Option, option_map, refl, ◌∙◌, ap}
use Rattle.nats_message.specs.declared.message.Message.{Message}
use Rattle.nats_history.specs.Queue.{last}
use Rattle.nats_subs.specs.Boxes.{inner}

last_inner : (boxes : List (Box Message)) → option_map inner (last boxes) ≡ last (map inner boxes)
last_inner [] = refl
last_inner (b ∷ []) = refl
last_inner (b ∷ c ∷ more) = last_inner (c ∷ more)

pub last_seen : (boxes : List (Box Message)) (messages : List Message) (found : Option (Box Message)) → found ≡ last boxes → map inner boxes ≡ messages → option_map inner found ≡ last messages
last_seen boxes messages found is same = ap (option_map inner) is ∙ (last_inner boxes ∙ ap last same)
