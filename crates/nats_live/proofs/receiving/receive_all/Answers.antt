-- A round writes, takes and reads; it ends where enough was taken, or the link is over.
use Rattle.std.proofs.Common.{rules, arith, sym, ◌∙◌, ap, subst, ℕ, Result, Err}
use Rattle.std.specs.Global.{Vec}
use Rattle.nats_session.specs.Handler.{Seen}
use Rattle.nats_live.specs.declared.error.LiveError.{LiveError}
use Rattle.nats_live.specs.Flow.{ReceiveEnds}
use Rattle.nats_live.proofs.Wants.{err_by}
use Rattle.nats_live.proofs.Ends.{round_ends, round_on, round_over, round_taken, rounds_begin}
use Rattle.nats_live.proofs.receiving.receive_all.Goals as goal

pub rounds-init : goal.rounds-init
rounds-init g c = record {
  next = search rules;
  finite = search rules;
  len = search rules;
  some = c.requires.some;
  far = λ subject joined head first receives up took.
      rw c.new-text.ensures.items (rounds_begin subject joined first head c.args.count c.args.core.now.session
      (g.L.LinkRead.read_told c.args.read.now)
      (g.T.LinkWrite.write_told c.args.write.now) receives up took c.requires.some);
}

pub returns-then-wanted-eq0 : goal.returns-then-wanted-eq0
returns-then-wanted-eq0 g c = λ subject joined head first receives up took.
    let on = c.rounds.invariant.far subject joined head first receives up took in
    let wrote = c.in_ok-write_all.ensures subject _ _ head first _ _ on.far.receives on.far.wrote in
    let t = round_taken subject joined first head c.args.count c.rounds.wanted c.in_ok-wanted.wanted
    c.rounds.text.items
    c.take_all.new.text.items c.rounds.core.session c.write_all.new.core.session c.take_all.new.core.session
    (g.L.LinkRead.read_told c.args.read.now) (g.L.LinkRead.read_told c.rounds.read)
    (g.T.LinkWrite.write_told c.rounds.write)
    (g.T.LinkWrite.write_told c.write_all.new.write) on wrote
    (λ had receives. c.in_ok-wanted.ensures subject _ had first _ _ receives) in
    round_ends subject joined first head c.args.count c.take_all.new.text c.take_all.new.core.session
    (g.L.LinkRead.read_told c.args.read.now) (g.L.LinkRead.read_told c.rounds.read)
    (g.T.LinkWrite.write_told c.write_all.new.write)
    (rw c.if-wanted-eq0.true at t)

pub returns-then-not-is_up : goal.returns-then-not-is_up
returns-then-not-is_up g c = λ subject joined head first receives up took.
    let on = c.rounds.invariant.far subject joined head first receives up took in
    let wrote = c.in_ok-write_all.ensures subject _ _ head first _ _ on.far.receives on.far.wrote in
    let t = round_taken subject joined first head c.args.count c.rounds.wanted c.in_ok-wanted.wanted
    c.rounds.text.items
    c.take_all.new.text.items c.rounds.core.session c.write_all.new.core.session c.take_all.new.core.session
    (g.L.LinkRead.read_told c.args.read.now) (g.L.LinkRead.read_told c.rounds.read)
    (g.T.LinkWrite.write_told c.rounds.write)
    (g.T.LinkWrite.write_told c.write_all.new.write) on wrote
    (λ had receives. c.in_ok-wanted.ensures subject _ had first _ _ receives) in
    round_over subject joined first head c.args.count c.in_ok-wanted.wanted c.take_all.new.text.items
    c.take_all.new.core.session
    (g.L.LinkRead.read_told c.args.read.now) (g.L.LinkRead.read_told c.rounds.read)
    (g.T.LinkWrite.write_told c.write_all.new.write)
    t (omega (arith, c.if-wanted-eq0.false)) (sym (c.is_up.ensures ∙ ap (λ (s : Seen). s.parts.link.is_up) c.handler.ensures.session) ∙ c.if-not-is_up.true)

pub rounds-preserved : goal.rounds-preserved
rounds-preserved g c = record {
  next = search rules;
  finite = search rules;
  len = c.read_some.ensures.len ∙ c.rounds.invariant.len;
  some = omega (arith, c.if-wanted-eq0.false);
  far = λ subject joined head first receives up took.
      let on = c.rounds.invariant.far subject joined head first receives up took in
      let wrote = c.in_ok-write_all.ensures subject _ _ head first _ _ on.far.receives on.far.wrote in
      let t = round_taken subject joined first head c.args.count c.rounds.wanted c.in_ok-wanted.wanted
      c.rounds.text.items
      c.take_all.new.text.items c.rounds.core.session c.write_all.new.core.session c.take_all.new.core.session
      (g.L.LinkRead.read_told c.args.read.now) (g.L.LinkRead.read_told c.rounds.read)
      (g.T.LinkWrite.write_told c.rounds.write)
      (g.T.LinkWrite.write_told c.write_all.new.write) on wrote
      (λ had receives. c.in_ok-wanted.ensures subject _ had first _ _ receives) in
      round_on subject joined first head c.read_some.new.buf c.args.count c.in_ok-wanted.wanted
      c.take_all.new.text.items
      c.take_all.new.core c.read_some.new.core (g.L.LinkRead.read_told c.args.read.now)
      (g.L.LinkRead.read_told c.rounds.read)
      (g.L.LinkRead.read_told c.read_some.new.read) (g.T.LinkWrite.write_told c.write_all.new.write)
      c.in_ok-read_some.field-0 t
      (omega (arith, c.if-wanted-eq0.false)) (sym (c.is_up.ensures ∙ ap (λ (s : Seen). s.parts.link.is_up) c.handler.ensures.session) ∙ c.if-not-is_up.false)
      (omega (arith, c.read_some.ensures.len, c.rounds.invariant.len, c.requires.fits))
      c.in_ok-read_some.ensures.reads;
}

pub returns-in_err-wanted : goal.returns-in_err-wanted
returns-in_err-wanted g c = λ subject joined head first receives up took.
    let on = c.rounds.invariant.far subject joined head first receives up took in
    let wrote = c.in_ok-write_all.ensures subject _ _ head first _ _ on.far.receives on.far.wrote in
    let F : Result (Vec ℕ) LiveError → Type 0 = λ r. ReceiveEnds subject joined first c.args.count head r
    c.take_all.new.core.session (g.L.LinkRead.read_told c.args.read.now) (g.L.LinkRead.read_told c.rounds.read)
    (g.T.LinkWrite.write_told c.write_all.new.write) in
    err_by F c.in_err-wanted.field-0.0 c.from_residual-in_err-wanted.result c.from_residual-in_err-wanted.ensures.0
    c.from_residual-in_err-wanted.ensures.1
    (subst (λ (e : LiveError). F (Err e)) (sym (c.in_err-wanted.ensures subject _ _ first _ _ wrote.1)) tt)
