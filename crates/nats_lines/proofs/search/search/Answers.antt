-- A text without an LF behind a clear front has no line's end; where its first one ends no line, the search goes on
-- past it.
use Rattle.std.proofs.Common.{◌≡◌, ◌+◌, ◌-◌, length, take, drop, None, Some, refl, ap, arith, ◌∙◌}
use Rattle.std.proofs.lemmas.List.{take_rest}
use Rattle.memchr.specs.Find.{IsFirstByte, is_byte}
use Rattle.nats_lines.proofs.Scans.{lf_fits, clear_past, clear_short, clear_within, uncut, uncut_end}
use Rattle.nats_lines.proofs.search.search.Goals as goal

pub returns-then-at-len-clause-none : goal.returns-then-at-len-clause-none
returns-then-at-len-clause-none g c =
    uncut_end (c.loop-lf.place + c.in-Some.lf) c.args.buf.now c.if-ends_line.ensures.none (omega (arith, c.if-at-len.true, c.len.ensures.value))

pub loop-lf-preserved : goal.loop-lf-preserved
loop-lf-preserved g c =
    let buf = c.args.buf.now in
    let place = c.loop-lf.place in
    let lf = c.in-Some.lf in
    let found : IsFirstByte (is_byte 10) (drop place buf) (Some lf) = rw (take_rest c.as_slice-bytes.result.now place, c.as_slice-bytes.ensures) at c.in-Some.ensures in
    let fits = lf_fits place lf buf found in (
      omega (arith, fits),
      clear_past place (place + lf) lf buf refl c.if-ends_line.ensures.none found (omega (arith, fits, c.if-at-len.false, c.len.ensures.value)),
      omega (arith, fits, c.ends_line.ensures.step, c.loop-lf.invariant.2),
      omega (arith, c.ends_line.ensures.counts, c.loop-lf.invariant.3),
    )

pub returns-clause-looked : goal.returns-clause-looked
returns-clause-looked g c =
    let buf = c.args.buf.now in
    let place = c.loop-lf.place in
    let raw : IsFirstByte (is_byte 10) (take (length c.as_slice-bytes.result.now - place) (drop place c.as_slice-bytes.result.now)) None = c.in_default.ensures in
    let none = uncut place buf c.loop-lf.invariant.1 (rw (take_rest c.as_slice-bytes.result.now place, c.as_slice-bytes.ensures) at raw) in
    let is : c.saturating_sub.result ≡ length buf - 1 = c.saturating_sub.ensures ∙ ap (λ n. n - 1) c.len-2.ensures.value in
    rw is (omega arith, clear_short buf none, tt)

pub returns-clause-none : goal.returns-clause-none
returns-clause-none g c =
    let place = c.loop-lf.place in
    let raw : IsFirstByte (is_byte 10) (take (length c.as_slice-bytes.result.now - place) (drop place c.as_slice-bytes.result.now)) None = c.in_default.ensures in
    uncut place c.args.buf.now c.loop-lf.invariant.1 (rw (take_rest c.as_slice-bytes.result.now place, c.as_slice-bytes.ensures) at raw)

pub returns-clause-paid : goal.returns-clause-paid
returns-clause-paid g c =
    omega (arith, clear_within c.loop-lf.place c.args.buf.now c.loop-lf.invariant.1, c.saturating_sub.ensures, c.len-2.ensures.value, c.loop-lf.invariant.2)
