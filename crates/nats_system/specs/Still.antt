-- What a clock tells that stands still.
use Rattle.nats_outside.specs.Told.{ClockTold}
use Rattle.nats_system.specs.declared.still_clock.StillClock.{StillClock}

abbrev pub still_told_of : StillClock → ClockTold
still_told_of c = record { last = 0; start = 0; starts = c.starts; nap = c.nap; slept = c.slept }
