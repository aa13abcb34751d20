use Rattle.nats_connect.proofs.Behind.{both}
use Rattle.nats_connect.proofs.text.put_first.Goals as goal

pub returns : goal.returns
returns c =
    let t = c.args.json.now.tokens in
    let s1 = c.put_switch.new.json.tokens in
    let s2 = c.put_switch-2.new.json.tokens in
    let s3 = c.put_optional.new.json.tokens in
    let s4 = c.put_optional-2.new.json.tokens in
    let s5 = c.put_optional-3.new.json.tokens in
    let s6 = c.put_optional-4.new.json.tokens in
    let s7 = c.put_switch-3.new.json.tokens in
    let s8 = c.put_text.new.json.tokens in
    let e2 = both t s1 s2 _ _ c.in_ok-put_switch.ensures.1 c.in_ok-put_switch-2.ensures.1 in
    let e3 = both t s2 s3 _ _ e2 c.in_ok-put_optional.ensures.1 in
    let e4 = both t s3 s4 _ _ e3 c.in_ok-put_optional-2.ensures.1 in
    let e5 = both t s4 s5 _ _ e4 c.in_ok-put_optional-3.ensures.1 in
    let e6 = both t s5 s6 _ _ e5 c.in_ok-put_optional-4.ensures.1 in
    let e7 = both t s6 s7 _ _ e6 c.in_ok-put_switch-3.ensures.1 in
    let e8 = both t s7 s8 _ _ e7 c.in_ok-put_text.ensures.1 in
    (simp (c.in_ok-put_text.ensures.0, c.in_ok-put_switch-3.ensures.0, c.in_ok-put_optional-4.ensures.0, c.in_ok-put_optional-3.ensures.0, c.in_ok-put_optional-2.ensures.0, c.in_ok-put_optional.ensures.0, c.in_ok-put_switch-2.ensures.0, c.in_ok-put_switch.ensures.0), e8)
