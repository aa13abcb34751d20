-- Bytes that are not none are spelled letter by letter.
use Rattle.std.proofs.Common.{◌≡◌, ◌≤◌, ℕ, List, ◌++◌, length, take, drop, ap, sym, ◌∙◌, arith, length-drop, refl}
use Rattle.std.specs.List.{flat_map}
use Rattle.std.proofs.lemmas.List.{take_all, take_rest}
use Rattle.nats_spelling.specs.Spelling.{letter}
use Rattle.nats_spelling.proofs.Spelled.{spelled_letters, letters_more}
use Rattle.nats_spelling.proofs.spelling.push_spelled.Goals as goal

pub loop-at-preserved : goal.loop-at-preserved
loop-at-preserved c =
    let bytes = c.args.bytes.now in
    let at = c.loop-at.at in
    let n = c.in_ok-at.field-0 in
    let fits : n ≤ length (drop at bytes) = rw (take_rest bytes at) at c.in_ok-at.ensures.some.1 in
    let more : c.push_run.new.out.items ≡ c.loop-at.out.items ++ flat_map letter (take n (drop at bytes)) =
    rw (take_rest bytes at) at c.in_ok-at.ensures.spelled in (
      omega (arith, fits, length-drop at bytes, c.loop-at.invariant.0),
      letters_more at n bytes (drop at bytes) c.args.out.now.items c.loop-at.out.items c.push_run.new.out.items refl c.loop-at.invariant.1 more,
    )

pub returns : goal.returns
returns c =
    let bytes = c.args.bytes.now in
    let all = ap (λ (t : List ℕ). c.args.out.now.items ++ flat_map letter t) (take_all c.loop-at.at bytes (omega (arith, c.loop-at-test.false))) in
    rw (spelled_letters bytes (sym c.if-is_empty.ensures)) (c.loop-at.invariant.1 ∙ all)
