-- What comes back of a hub that is not finished.
use Rattle.std.specs.Prelude.{◌≡◌, ◌<◌, ◌^◌, ℕ}
use Rattle.nats_hub.specs.Tallying.{Holding}
use Rattle.nats_hub.specs.declared.holder.Unfinished.{Unfinished}
use Rattle.nats_hub.specs.declared.holder.Unfinished.TheVariants.{Held, NoMemory}

-- the holder comes back as it was: held where it has fewer than all parts
abbrev pub Back : {G : Type 0} → Holding → Unfinished G → Type 0
Back holder (Held same) = (holder.parts < 2 ^ 63) × (same ≡ holder)
Back holder (NoMemory same) = (holder.parts ≡ 2 ^ 63) × (same ≡ holder)
