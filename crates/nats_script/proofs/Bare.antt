-- A line that has no further field.
use Rattle.std.proofs.Common.{◌≡◌, Bool, true, false, List, ℕ, Option, Some, None, is_some, not, Bor, refl, sym, ap}
use Rattle.std.specs.Option.{option_copied}
use Rattle.std.proofs.lemmas.Bool.{false≢true}
use Rattle.nats_spelling.specs.Cut.{parts_behind}
use Rattle.nats_spelling.proofs.Cuts.{parts_of}
use Rattle.nats_script.specs.Script.{is_bare}

-- nothing was cut off exactly where no field is left
pub bare_where : (behind : Option (Bor (List ℕ))) (b : Bool) → is_some behind ≡ not b → b ≡ is_bare (parts_behind 32 (option_copied behind))
bare_where None true e = refl
bare_where None false e = absurd (false≢true e)
bare_where (Some rest) true e = absurd (false≢true (sym e))
bare_where (Some rest) false e = sym (ap is_bare (parts_of 32 rest.now).are)
