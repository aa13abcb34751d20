-- Each value is a text, or there is no list.
use Rattle.std.proofs.Common.{suc, drop, sym, ap, ◌∙◌, add-one}
use Rattle.serde_json.specs.View.{view, items_view}
use Rattle.nats_info.specs.Fields.{texts_of}
use Rattle.nats_info.proofs.Texts.{behind_texts, text_read, text_missing, values_left}
use Rattle.nats_info.proofs.fields.texts_of.Goals as goal

pub returns-in_default : goal.returns-in_default
returns-in_default c =
    let values = c.args.values.now in
    let k = c.loop-value.value-index in
    let texts = c.loop-value.texts in
    let value = view c.value-item.result in
    let left = values_left values k c.value-item.result c.loop-value-test.true c.value-item.is in
    sym c.loop-value.invariant ∙ ap (λ items. behind_texts texts (texts_of items)) left
    ∙ ap (behind_texts texts) (text_missing value (items_view (drop (suc k) values)) (sym c.in_default.ensures))

pub loop-value-preserved : goal.loop-value-preserved
loop-value-preserved c =
    let values = c.args.values.now in
    let k = c.loop-value.value-index in
    let texts = c.loop-value.texts in
    let value = view c.value-item.result in
    let left = values_left values k c.value-item.result c.loop-value-test.true c.value-item.is in
    let read = text_read value (items_view (drop (suc k) values)) c.in-Some.text.now texts (sym c.in-Some.ensures) in
    rw (c.in_ok-push.ensures.ok, c.in_ok-from_text.ensures, add-one k) (sym read ∙ ap (λ items. behind_texts texts (texts_of items)) (sym left) ∙ c.loop-value.invariant)
