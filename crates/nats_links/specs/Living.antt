-- What calls beside a link tell of their causes.
use Rattle.std.specs.Prelude.{◌⊎◌}
use Rattle.nats_outside.specs.Told.{ReadTold}
use Rattle.nats_outside.specs.Counts.{Rose, RoseBy}

-- the counts of a reading half did not fall
abbrev pub ReadsOn : ReadTold → ReadTold → Type 0
ReadsOn before after = RoseBy 0 before.faults after.faults × RoseBy 0 before.ends after.ends

-- a reading half failed, or met its end
abbrev pub ReadBroke : ReadTold → ReadTold → Type 0
ReadBroke before after = Rose before.faults after.faults ⊎ Rose before.ends after.ends
