-- The parts of sources and sinks that stand over others.
use Rattle.std.specs.Prelude.{ℕ}
use Rattle.nats_replay.specs.declared.outside.Reading.{Reading}
use Rattle.nats_replay.specs.declared.outside.Writing.{Writing}
use Rattle.nats_replay.specs.declared.memory.Failing.{Failing}
use Rattle.nats_replay.specs.Outside.{Tally}

-- the reader that a source stands over, and the source's counts
abbrev pub reading_inner : {R : Type 0} → Reading R → R
reading_inner s = s.inner

abbrev pub reading_counts : {R : Type 0} → Reading R → Tally
reading_counts s = record { given = s.given; ends = s.ends; faults = s.faults }

-- the writer that a sink stands over, and the sink's count of faults
abbrev pub writing_inner : {W : Type 0} → Writing W → W
writing_inner s = s.inner

abbrev pub writing_faults : {W : Type 0} → Writing W → ℕ
writing_faults s = s.faults

-- what a failing source or sink stands over, and its count of faults
abbrev pub failing_inner : {T : Type 0} → Failing T → T
failing_inner s = s.inner

abbrev pub failing_faults : {T : Type 0} → Failing T → ℕ
failing_faults s = s.faults
