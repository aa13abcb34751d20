-- No smuggling: what a link carries is exactly the commands of its part of the history.
use Rattle.std.specs.Prelude.{◌≡◌, false, List, map}
use Rattle.nats_message.specs.declared.op.ClientOp.{ClientOp}
use Rattle.nats_commands.specs.Commands.{command_texts}
use Rattle.nats_client_text.specs.Grammar.{read_of}
use Rattle.nats_client_text.specs.Law.{as_read}
use Rattle.nats_client_text.specs.declared.read.ClientEnd.TheVariants as end
use Rattle.nats_client_text.specs.declared.read.ClientRead.{ClientRead}
use Rattle.nats_history.specs.declared.config.Config.{Config}
use Rattle.nats_history.specs.declared.turn.Turn.{Turn}
use Rattle.nats_history.specs.declared.transcript.LinkRow.{LinkRow}
use Rattle.nats_history.specs.declared.transcript.Transcript.{Transcript}
use Rattle.nats_history.specs.Schedule.{steps}
use Rattle.nats_history.specs.Transcripts.{transcript}
use Rattle.nats_link_text.specs.Sent.{sent_commands, carried}
use Rattle.nats_link_text.specs.Typed.{IsTypedConfig, AreTypedTurns}

-- what the grammar of client commands reads in all that a link carries
abbrev pub carried_read : LinkRow → ClientRead
carried_read row = read_of (carried row)

-- commands that are read to the end of a text: a publish with an empty header map is read as one without headers
abbrev pub read_whole : List ClientOp → ClientRead
read_whole ops = record { ops = map as_read ops; «end» = end.Whole }

-- each link of a transcript carries the texts of the commands of its part of the history and nothing else, whatever
-- the settings
abbrev pub CarriesTexts : Type 0
CarriesTexts = (c : Config) (turns : List Turn)
    → map carried (transcript c turns).links ≡ map command_texts (sent_commands c (steps c turns))

-- what the links of a transcript carry is read, link by link, to its end as exactly the commands of each link
abbrev pub ReadsSent : Config → List Turn → Transcript → Type 0
ReadsSent c turns t = map carried_read t.links ≡ map read_whole (sent_commands c (steps c turns))

-- so it is where subjects are tested before they are taken
abbrev pub NoSmuggling : Type 0
NoSmuggling = (c : Config) (turns : List Turn)
    → c.skip_subject_validation ≡ false → IsTypedConfig c → AreTypedTurns turns → ReadsSent c turns (transcript c turns)
