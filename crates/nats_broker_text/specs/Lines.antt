-- Lines of a text.
use Rattle.std.specs.Prelude.{◌≡◌, ℕ, Bool, false, List, Option, None, is_some}
use Rattle.std.specs.Bool.{OnFalse}
use Rattle.nats_lines.specs.Operations.{Cut, cut_line}
use Rattle.nats_broker_text.specs.Commands.{is_ready}

-- whether a text has a line's end
abbrev pub has_line : List ℕ → Bool
has_line text = is_some (cut_line text)

-- what is remembered of unread bytes: where no line's end was found there is none, and whether there is something to do
abbrev pub Remembers : Bool → Bool → List ℕ → Type 0
Remembers ended ready bytes = OnFalse ended (cut_line bytes ≡ None) × (ready ≡ is_ready bytes)
