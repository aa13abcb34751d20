-- The commands that a session writes on its links, in the order of history: those whose texts are the links' texts.
use Rattle.std.specs.Prelude.{ℕ, List, [], ◌∷◌, ◌++◌, if◌then◌else◌}
use Rattle.nats_message.specs.declared.op.ClientOp.{ClientOp}
use Rattle.nats_history.specs.declared.config.Config.{Config}
use Rattle.nats_history.specs.declared.transcript.LinkRow.{LinkRow}
use Rattle.nats_history.specs.History.{Step, opened, link_end, History, is_up, requested, at_of, rows_of, commands}

-- the commands that a step writes after a history: a call that is handled its own, a new link those that subscribe
-- again, a PING that is read its PONG, a tick its PING
abbrev pub commands_by : Config → History → Step → List ClientOp
commands_by c h step = commands c (requested h) (at_of h) (rows_of c h) step

-- the commands of the newest link: those written since it came up
abbrev pub link_commands : Config → History → List ClientOp
link_commands c [] = []
link_commands c ((place, opened info) ∷ h) = commands_by c h (opened info)
link_commands c ((place, step) ∷ h) = link_commands c h ++ commands_by c h step

-- those of each link that ended
abbrev pub ended_commands : Config → History → List (List ClientOp)
ended_commands c [] = []
ended_commands c ((place, link_end end) ∷ h) = ended_commands c h ++ link_commands c h ∷ []
ended_commands c (e ∷ h) = ended_commands c h

abbrev pub up_commands : Config → History → List (List ClientOp)
up_commands c h = if is_up h then link_commands c h ∷ [] else []

-- those of each link, oldest first
abbrev pub sent_commands : Config → History → List (List ClientOp)
sent_commands c h = ended_commands c h ++ up_commands c h

-- all that a link carries: what it took, and what waits for it
abbrev pub carried : LinkRow → List ℕ
carried row = row.taken ++ row.left
