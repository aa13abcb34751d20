-- What comes back of a hub that is not finished.
use Rattle.std.specs.Prelude.{◌≡◌, ℕ, ◌<◌, ◌^◌, List, codes}
use Rattle.nats_client.specs.Views.{ClientView}
use Rattle.nats_client.specs.declared.client.FinishError.{FinishError}
use Rattle.nats_client.specs.declared.client.FinishError.TheVariants.{Held, NoMemory}

-- the client comes back as it was: held where it has fewer than all parts
abbrev pub Returned : {G : Type 0} → ClientView → FinishError G → Type 0
Returned client (Held same) = (client.parts < 2 ^ 63) × (same ≡ client)
Returned client (NoMemory same) = (client.parts ≡ 2 ^ 63) × (same ≡ client)

-- what is printed of it
abbrev pub finish_error_text : {G : Type 0} → FinishError G → List ℕ
finish_error_text (Held client) = codes "another client or subscriber is not settled"
finish_error_text (NoMemory client) = codes "out of memory"
