-- Where the line ends behind its last word, such a message is what stands there.
use Rattle.std.proofs.Common.{◌≡◌, ◌+◌, ◌-◌, true, length, take, drop, refl, ap, sym, subst, ◌∙◌, arith, tests}
use Rattle.std.specs.Prelude.{IsTrue}
use Rattle.nats_lines.specs.Operations.{plain, message, message_of, got, takes_memory}
use Rattle.nats_plain.specs.Plain.{Parts, plain_head}
use Rattle.nats_plain.proofs.PlainLines.{plain_clear, plain_whole, on_err}
use Rattle.nats_lines.proofs.Seen.{got_whole, whole_takes}
use Rattle.nats_plain.proofs.plain.read_plain.Goals as goal

pub line_end-end-requires-clause-clear : goal.line_end-end-requires-clause-clear
line_end-end-requires-clause-clear g c =
    let t = c.in-Some-plain_text.text in
    let buf = c.args.buf.now in
    let parts : Parts t buf = subst (Parts t) (c.as_slice.ensures ∙ c.in-Some.ensures) c.in-Some-plain_text.ensures in
    plain_clear t buf (c.len.result - length t.line.rest.now) parts (ap (λ n. n - length t.line.rest.now) (c.len.ensures.value ∙ ap length c.in-Some.ensures))

pub returns-in_err-message-clause-memory : goal.returns-in_err-message-clause-memory
returns-in_err-message-clause-memory g c =
    let t = c.in-Some-plain_text.text in
    let buf = c.args.buf.now in
    let end = c.line_end-end.result in
    let op = message t.sid (message_of (plain_head t) (take t.count (drop 2 t.line.rest.now))) in
    let parts : Parts t buf = subst (Parts t) (c.as_slice.ensures ∙ c.in-Some.ensures) c.in-Some-plain_text.ensures in
    let at : end.place ≡ length buf - length t.line.rest.now =
    c.line_end-end.ensures.there ∙ ap (λ n. n - length t.line.rest.now) (c.len.ensures.value ∙ ap length c.in-Some.ensures) in
    let ended : end.ended ≡ true = grind (arith, tests, c.if-not-end.false) in
    on_err c.from_residual.result (IsTrue (takes_memory buf))
    (whole_takes buf (plain op) (end.place + t.count + 4) (plain_whole t buf end.place end.ended parts at ended c.line_end-end.ensures.looked))

pub returns-clause-plain : goal.returns-clause-plain
returns-clause-plain g c =
    let t = c.in-Some-plain_text.text in
    let buf = c.args.buf.now in
    let end = c.line_end-end.result in
    let op = message t.sid (message_of (plain_head t) (take t.count (drop 2 t.line.rest.now))) in
    let parts : Parts t buf = subst (Parts t) (c.as_slice.ensures ∙ c.in-Some.ensures) c.in-Some-plain_text.ensures in
    let at : end.place ≡ length buf - length t.line.rest.now =
    c.line_end-end.ensures.there ∙ ap (λ n. n - length t.line.rest.now) (c.len.ensures.value ∙ ap length c.in-Some.ensures) in
    let ended : end.ended ≡ true = grind (arith, tests, c.if-not-end.false) in
    let seen = plain_whole t buf end.place end.ended parts at ended c.line_end-end.ensures.looked in
    sym (got_whole buf (plain op) (end.place + t.count + 4) op seen refl)
    ∙ ap (λ m. got (message t.sid m) (end.place + t.count + 4)) (sym c.in_ok-message.ensures)
