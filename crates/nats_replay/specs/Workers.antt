-- What is printed of workers that publish at one session.
use Rattle.std.specs.Prelude.{◌≡◌, ◌⊎◌, ℕ, ◌*◌, List, Option}
use Rattle.nats_worker_text.specs.declared.asked.Crew.{Crew}
use Rattle.nats_worker_text.specs.declared.asked.Crew.TheVariants.{Seats, Threads}
use Rattle.nats_seat_text.specs.Report.{TellsOfWorkers}
use Rattle.nats_thread_text.specs.Report.{TellsOfThreads}
use Rattle.nats_replay.specs.Live.{PrintsAt}

-- the text tells of them: of workers with seats, what the closed journal of their session has; of workers with clients,
-- what their hub came to
abbrev pub Tells : Crew → List ℕ → Type 0
Tells (Seats workers count) text = TellsOfWorkers workers count text
Tells (Threads workers count) text = TellsOfThreads (workers * count) text

-- memory was wanting, and nothing is printed; or what tells of the workers is printed, unless the sink failed
abbrev pub CrewAnswers : Crew → ℕ → ℕ → ℕ → Option (List ℕ) → Option (List ℕ) → Type 0
CrewAnswers crew status faults faults_now written now = (status ≡ 7)
    ⊎ ((text : List ℕ) × Tells crew text × PrintsAt 0 status text faults faults_now written now)
