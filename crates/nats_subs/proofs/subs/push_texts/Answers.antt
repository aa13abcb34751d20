-- One that is over has no commands.
use Rattle.std.proofs.Common.{◌++◌, sym, ◌∙◌, ap}
use Rattle.std.proofs.lemmas.List.{append-nil}
use Rattle.std.proofs.lemmas.Result.{on_ok_weaker}
use Rattle.std.specs.Option.{option_copied}
use Rattle.nats_tables.specs.Numbers.{item_of}
use Rattle.nats_subs.specs.Delivery.{commands_at}
use Rattle.nats_subs.proofs.Counted.{commands_kept}
use Rattle.nats_subs.proofs.subs.push_texts.Goals as goal

pub returns-in-Some : goal.returns-in-Some
returns-in-Some c =
    let sid = c.args.sid in
    let ops = c.args.ops.now.items in
    let row = sym (ap option_copied c.in-Some.is) ∙ c.item.ensures in
    on_ok_weaker c.push_texts.result
    (λ is. is ∙ ap (λ more. ops ++ more) (ap (commands_at c.args.texts sid) row ∙ commands_kept c.args.texts sid (item_of sid c.args.table.now)))
    c.push_texts.ensures

pub returns-in-None : goal.returns-in-None
returns-in-None c =
    let sid = c.args.sid in
    let ops = c.args.ops.now.items in
    let row = sym (ap option_copied c.in-None.is) ∙ c.item.ensures in
    sym (append-nil ops) ∙ ap (λ more. ops ++ more) (ap (commands_at c.args.texts sid) row ∙ commands_kept c.args.texts sid (item_of sid c.args.table.now))
