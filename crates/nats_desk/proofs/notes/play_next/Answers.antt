-- Where no step is due, the parts that the journal makes are those of the session.
use Rattle.std.proofs.Common.{◌≡◌, true, false, refl, sym, ◌∙◌, rules}
use Rattle.nats_history.specs.Schedule.{is_valid_turn}
use Rattle.nats_core.specs.Calls.{parts_in}
use Rattle.nats_core.proofs.Cores.{may_where_none}
use Rattle.nats_desk.proofs.Keeping.{noted_more, may_come_is, reply_at_is}
use Rattle.nats_desk.proofs.notes.play_next.Goals as goal

pub returns-then-not-may_play-clause-refused : goal.returns-then-not-may_play-clause-refused
returns-then-not-may_play-clause-refused c =
    let no : c.may_play.result ≡ false = search rules in
    let invalid : is_valid_turn (parts_in c.args.core.now) c.args.turn ≡ false = sym (may_where_none (parts_in c.args.core.now) c.args.turn c.requires.none) ∙ (sym c.may_play.ensures.may ∙ no) in
    (refl, may_come_is c.args.core.now c.args.journal.now.items c.args.turn false c.requires.noted (c.may_play.ensures.whole c.requires.noted.kept c.requires.none) invalid)

pub returns-in-Ok-clause-exact : goal.returns-in-Ok-clause-exact
returns-in-Ok-clause-exact c =
    let yes : c.may_play.result ≡ true = search rules in
    let valid : is_valid_turn (parts_in c.args.core.now) c.args.turn ≡ true = sym (may_where_none (parts_in c.args.core.now) c.args.turn c.requires.none) ∙ (sym c.may_play.ensures.may ∙ yes) in
    let whole = c.may_play.ensures.whole c.requires.noted.kept c.requires.none in (
      may_come_is c.args.core.now c.args.journal.now.items c.args.turn true c.requires.noted whole valid,
      reply_at_is c.args.core.now c.args.journal.now.items c.args.turn c.in-Ok.reply c.requires.noted whole c.in-Ok.ensures.reply,
    )

pub returns-in-Ok-clause-noted : goal.returns-in-Ok-clause-noted
returns-in-Ok-clause-noted c =
    let yes : c.may_play.result ≡ true = search rules in
    let valid : is_valid_turn (parts_in c.args.core.now) c.args.turn ≡ true = sym (may_where_none (parts_in c.args.core.now) c.args.turn c.requires.none) ∙ (sym c.may_play.ensures.may ∙ yes) in
    noted_more c.args.core.now c.play_prepared.new.core c.args.journal.now.items c.play_prepared.new.journal.items c.args.seat c.args.turn c.in-Ok.reply c.requires.noted
    (c.may_play.ensures.whole c.requires.noted.kept c.requires.none) valid c.in-Ok.ensures.reply c.in-Ok.ensures.noted c.in-Ok.ensures.entries c.in-Ok.ensures.kept c.in-Ok.ensures.config
