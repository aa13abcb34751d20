-- The steps that were due come first, and leave the journal and the settings as they are.
use Rattle.std.proofs.Common.{◌≡◌, true, IfErr, IfOk, subst, ◌∙◌}
use Rattle.nats_core.proofs.Cores.{none_caught_up}
use Rattle.nats_desk.specs.Journal.{may_come, reply_at}
use Rattle.nats_desk.specs.Refusals.{Refused}
use Rattle.nats_desk.proofs.Keeping.{noted_due, config_due}
use Rattle.nats_desk.proofs.notes.play_turn.Goals as goal

pub play_next-requires-clause-none : goal.play_next-requires-clause-none
play_next-requires-clause-none c = none_caught_up c.args.core.now c.catch_up.new.self c.in-Ok.ensures.ok

pub play_next-requires-clause-noted : goal.play_next-requires-clause-noted
play_next-requires-clause-noted c = noted_due c.args.core.now c.catch_up.new.self c.args.journal.now.items c.in-Ok.ensures.plays c.requires

pub returns-in-Ok-clause-exact : goal.returns-in-Ok-clause-exact
returns-in-Ok-clause-exact c =
    subst (λ k. IfOk c.play_next.result (λ reply. (may_come k c.args.journal.now.items c.args.turn ≡ true) × (reply ≡ reply_at k c.args.journal.now.items c.args.turn)))
    (config_due c.args.core.now c.catch_up.new.self c.in-Ok.ensures.plays) c.play_next.ensures.exact

pub returns-in-Ok-clause-refused : goal.returns-in-Ok-clause-refused
returns-in-Ok-clause-refused c =
    subst (λ k. IfErr c.play_next.result (λ e. Refused k c.args.journal.now.items c.args.turn e))
    (config_due c.args.core.now c.catch_up.new.self c.in-Ok.ensures.plays) c.play_next.ensures.refused

pub returns-in-Ok-clause-config : goal.returns-in-Ok-clause-config
returns-in-Ok-clause-config c = c.play_next.ensures.config ∙ config_due c.args.core.now c.catch_up.new.self c.in-Ok.ensures.plays

pub returns-in-Err-clause-noted : goal.returns-in-Err-clause-noted
returns-in-Err-clause-noted c = noted_due c.args.core.now c.catch_up.new.self c.args.journal.now.items c.in-Err.ensures.plays c.requires

pub returns-in-Err-clause-config : goal.returns-in-Err-clause-config
returns-in-Err-clause-config c = config_due c.args.core.now c.catch_up.new.self c.in-Err.ensures.plays
