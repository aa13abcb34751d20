use Rattle.std.proofs.Common.{◌∙◌, ap, ℕ, List, ◌++◌, codes}
use Rattle.json.specs.Token.{Token}
use Rattle.nats_connect.specs.Connect.{object_of}
use Rattle.nats_connect.proofs.Behind.{both, line_of}
use Rattle.nats_connect.proofs.text.connect_text.Goals as goal

pub returns : goal.returns
returns c =
    let info = c.args.info.now in
    let t = c.new-json.result.tokens in
    let s1 = c.begin_object.new.self.tokens in
    let s2 = c.put_first.new.json.tokens in
    let s3 = c.put_last.new.json.tokens in
    let s4 = c.end_object.new.self in
    let e2 = both t s1 s2 _ _ c.in_ok-begin_object.ensures.ok c.in_ok-put_first.ensures.1 in
    let e3 = both t s2 s3 _ _ e2 c.in_ok-put_last.ensures.1 in
    let e4 = both t s3 s4.tokens _ _ e3 c.in_ok-end_object.ensures.ok in
    let tokens = e4 ∙ ap (λ (ts : List Token). ts ++ object_of info) c.new-json.ensures.tokens in
    let before = c.in_ok-end_object.ensures.room.0 ∙ c.in_ok-put_last.ensures.0 ∙ c.in_ok-put_first.ensures.0
    ∙ c.in_ok-begin_object.ensures.room.0 ∙ c.new-json.ensures.before ∙ c.in_ok-extend_from_slice.ensures.items
    ∙ ap (λ (xs : List ℕ). xs ++ codes "CONNECT ") c.new-text.ensures.items in
    line_of s4.before s4.tokens _ _ info before tokens c.into_inner-text.ensures.items
    c.in_ok-extend_from_slice-2.ensures.items
