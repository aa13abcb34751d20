-- A link that is handed back.
use Rattle.std.specs.Prelude.{◌≡◌, ◌≤◌, true}
use Rattle.nats_outside.specs.Told.{ReadTold, WriteTold, Seen, hung_up}

-- its writing half was shut, which changes no byte and may fail, and then both halves were handed back
pub record IsBack (r : ReadTold) (w : WriteTold) (a b : Seen) : Type 0 where
  pub shut : WriteTold
  pub is_shut : shut.is_shut ≡ true
  pub taken : shut.taken ≡ w.taken
  pub faults : w.faults ≤ shut.faults
  pub back : b ≡ record a { dialer = hung_up r shut a.dialer }
