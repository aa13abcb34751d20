-- The last run goes on, or one begins.
use Rattle.std.proofs.Common.{◌∙◌, ◌++◌, ◌∷◌, [], ap, arith}
use Rattle.nats_tickets.proofs.Sorts.{pushed_kind, runs_more}
use Rattle.nats_tickets.proofs.kinds.Kinds.push.Goals as goal

pub invariant_of-self-2 : goal.invariant_of-self-2
invariant_of-self-2 c =
    runs_more c.self.inside.given c.in-Some.given c.args.is_request c.self.inside.runs.items c.extend.new.runs.items (omega (arith, c.in-Some.ensures)) c.self.invariant c.in_ok-extend.ensures.ok

pub returns-clause-ok : goal.returns-clause-ok
returns-clause-ok c =
    pushed_kind c.self.inside.given c.in-Some.given c.args.is_request c.self.inside.runs.items c.extend.new.runs.items (omega (arith, c.in-Some.ensures)) c.self.invariant c.in_ok-extend.ensures.ok
    ∙ ap (λ ks. ks ++ c.args.is_request ∷ []) c.self.view_is
