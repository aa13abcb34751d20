-- What workers with clients of their own publish, and what is printed of what their hub came to.
use Rattle.std.specs.Prelude.{◌≡◌, ℕ, List, ◌++◌, None, codes, decimal}
use Rattle.nats_message.specs.declared.message.OutboundMessage.{OutboundMessage}
use Rattle.nats_core.specs.Journal.{IsRight, turns_of}
use Rattle.nats_bulk.specs.Summary.{line}
use Rattle.nats_hub.specs.declared.audit.Audit.{Audit}
use Rattle.nats_hub.specs.Tallying.{accepted_in}
use Rattle.nats_worker_text.specs.Taken.{bytes_taken, written_out}

-- the publish k of a worker: the number k in decimal on its subject
abbrev pub message_of : ℕ → ℕ → OutboundMessage
message_of worker k =
    record { subject = codes "t." ++ decimal worker; reply = None; payload = decimal k; headers = None }

-- what a hub came to that kept its journal: that is right under its settings, its accepted calls were counted, and they
-- are as many as its holders made
abbrev pub IsFinished : Audit → Type 0
IsFinished audit = IsRight audit.config audit.journal.items
    × (audit.tally.accepted ≡ accepted_in audit.journal.items)
    × (audit.tally.made ≡ audit.tally.accepted)

-- how many bytes link 1 takes as the journal's turns are played under its settings, and so many whole writes behind
-- them where a link is up there; 0 where one of these may not come, or there is no link
abbrev pub text_length : ℕ → Audit → ℕ
text_length calls audit = bytes_taken audit.config (written_out audit.config calls (turns_of audit.journal.items))

-- the accepted calls, and the bytes that the link takes, where so many calls were made in all
abbrev pub report : ℕ → Audit → List ℕ
report calls audit = line (codes "accepted") audit.tally.accepted ++ line (codes "text") (text_length calls audit)

-- the text tells what a hub came to, at which so many calls were made in all
abbrev pub TellsOfThreads : ℕ → List ℕ → Type 0
TellsOfThreads calls text = (audit : Audit) × IsFinished audit × (text ≡ report calls audit)
