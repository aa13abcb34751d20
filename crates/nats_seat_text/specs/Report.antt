-- What is printed of the closed journal of a session at which workers published.
use Rattle.std.specs.Prelude.{◌≡◌, ℕ, zero, suc, ◌*◌, Bool, false, List, [], ◌++◌, count_by, codes, decimal}
use Rattle.nats_history.specs.declared.config.Config.{Config}
use Rattle.nats_history.specs.declared.turn.Turn.{Turn}
use Rattle.nats_core.specs.declared.entry.StepReply.{StepReply}
use Rattle.nats_core.specs.declared.entry.StepReply.TheVariants as replies
use Rattle.nats_core.specs.Journal.{turns_of}
use Rattle.nats_bulk.specs.Summary.{is_accepted, line}
use Rattle.nats_desk.specs.declared.entry.SeatEntry.{SeatEntry}
use Rattle.nats_desk.specs.Journal.{IsRightBySeat, plain}
use Rattle.nats_seat_workers.specs.Publishing.{EachAccepted, EachPublished, HasNoOthers, accepted_by}
use Rattle.nats_worker_text.specs.Settings.{workers_config}
use Rattle.nats_worker_text.specs.Taken.{bytes_taken, written_out}

-- ---- accepted calls

-- the reply is that of a call that was accepted, with a number or without
abbrev pub accepts : StepReply → Bool
accepts (replies.Call reply) = is_accepted reply
accepts reply = false

abbrev pub was_accepted : SeatEntry → Bool
was_accepted e = accepts e.reply

-- how many entries of a journal are calls that were accepted
abbrev pub accepted_in : List SeatEntry → ℕ
accepted_in journal = count_by was_accepted journal

-- ---- its turns

-- the turns of a journal, in order
abbrev pub turns_in : List SeatEntry → List Turn
turns_in journal = turns_of (plain journal)

-- ---- the text

abbrev pub worker_line : ℕ → ℕ → List ℕ
worker_line worker n = codes "worker " ++ (decimal worker ++ (codes " " ++ (decimal n ++ codes "\n")))

-- a line for each of so many workers, with how many of its publishes were accepted: those of the seat whose number is
-- one more than the worker's
abbrev pub worker_lines : ℕ → List SeatEntry → List ℕ
worker_lines zero journal = []
worker_lines (suc n) journal = worker_lines n journal ++ worker_line (suc n) (accepted_by (suc (suc n)) journal)

-- what the link takes of a journal under these settings, and of so many writes behind it
abbrev pub text_length : Config → ℕ → List SeatEntry → ℕ
text_length c n journal = bytes_taken c (written_out c n (turns_in journal))

-- the accepted calls, the bytes that the link takes, and a line for each of so many workers, where they made so many
-- calls in all
abbrev pub report : ℕ → ℕ → List SeatEntry → List ℕ
report workers calls journal =
    (line (codes "accepted") (accepted_in journal)
    ++ line (codes "text") (text_length (workers_config calls) calls journal))
    ++ worker_lines workers journal

-- the text tells of the closed journal of a session at which so many workers made k publishes each, all of which were
-- accepted, and nothing else was done but that a link came up
abbrev pub TellsOfWorkers : ℕ → ℕ → List ℕ → Type 0
TellsOfWorkers workers k text = (journal : List SeatEntry)
    × EachPublished workers k journal × EachAccepted workers k journal × HasNoOthers workers journal
    × (accepted_in journal ≡ workers * k) × IsRightBySeat (workers_config (workers * k)) journal
    × (text ≡ report workers (workers * k) journal)
