-- What the refusal to clone a holder prints.
use Rattle.std.specs.Prelude.{ℕ, List, codes}
use Rattle.nats_hub.specs.declared.holder.CloneError.{CloneError}
use Rattle.nats_hub.specs.declared.holder.CloneError.TheVariants as refused

abbrev pub clone_error_text : CloneError → List ℕ
clone_error_text refused.NoPart = codes "no part left"
clone_error_text refused.NoMemory = codes "out of memory"
