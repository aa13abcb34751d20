-- A prefix, a dot and an id are a subject for replies.
use Rattle.std.proofs.Common.{◌≡◌, ℕ, true, List, ◌++◌, length, codes, Result, Ok, Err, IfOk}
use Rattle.std.specs.List.{list_all}
use Rattle.nats_names.specs.Names.{is_letter_or_digit}
use Rattle.nats_hub.specs.Inboxes.{IsInbox}

pub inbox_is : {X E : Type 0} (bytes : X → List ℕ) (x : Result X E) (prefix id : List ℕ)
    → IfOk x (λ text. bytes text ≡ prefix ++ (codes "." ++ id)) → length id ≡ 22 → list_all is_letter_or_digit id ≡ true
    → IfOk x (λ text. IsInbox (bytes text))
inbox_is bytes (Ok text) prefix id is len letters = (prefix, id, is, record { len = len; letters = letters })
inbox_is bytes (Err e) prefix id is len letters = tt
