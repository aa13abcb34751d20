-- Cut where the digits end, which may be the end of the text.
use Rattle.std.proofs.Common.{◌∙◌, ap, take, drop}
use Rattle.std.specs.Char.{is_ascii_digit}
use Rattle.std.specs.List.{list_all}
use Rattle.nats_versions.proofs.Digits.{other_at, no_other, all_digits}
use Rattle.nats_versions.proofs.cut_digits.Goals as goal

pub returns-in-Some-clause-digits : goal.returns-in-Some-clause-digits
returns-in-Some-clause-digits c =
    ap (λ front. list_all is_ascii_digit front)
    (c.split_at.ensures.front
    ∙ ap (λ n. take n c.args.text.now) (other_at c.args.text.now c.in-Some.place c.in-Some.ensures.place))
    ∙ all_digits c.args.text.now

pub returns-in-None-clause-front : goal.returns-in-None-clause-front
returns-in-None-clause-front c =
    c.split_at-in-None.ensures.front
    ∙ ap (λ n. take n c.args.text.now) (no_other c.args.text.now c.in-None.ensures.place)

pub returns-in-None-clause-rest : goal.returns-in-None-clause-rest
returns-in-None-clause-rest c =
    c.split_at-in-None.ensures.back
    ∙ ap (λ n. drop n c.args.text.now) (no_other c.args.text.now c.in-None.ensures.place)

pub returns-in-None-clause-digits : goal.returns-in-None-clause-digits
returns-in-None-clause-digits c =
    ap (λ front. list_all is_ascii_digit front)
    (c.split_at-in-None.ensures.front
    ∙ ap (λ n. take n c.args.text.now) (no_other c.args.text.now c.in-None.ensures.place))
    ∙ all_digits c.args.text.now
