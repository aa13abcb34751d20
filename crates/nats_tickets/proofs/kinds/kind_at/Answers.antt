-- The runs that begin before the ticket come first.
use Rattle.std.proofs.Common.{rules, nat_lt}
use Rattle.std.proofs.lemmas.List.Sorted.{IsPartitionPoint-from_clause}
use Rattle.nats_tickets.proofs.Sorts.{parted, point_first, point_later}
use Rattle.nats_tickets.proofs.kinds.kind_at.Goals as goal

pub returns-then-behind-eq0 : goal.returns-then-behind-eq0
returns-then-behind-eq0 c =
    let point = IsPartitionPoint-from_clause (λ r. nat_lt r.before c.args.ticket) _ _ c.partition_point-behind.ensures.partitioned (parted 0 c.args.given c.args.ticket c.args.runs.now c.requires) (λ a r q k. search rules) in
    point_first c.partition_point-behind.result c.args.ticket c.args.runs.now c.if-behind-eq0.true c.partition_point-behind.ensures.bound point

pub returns : goal.returns
returns c =
    let point = IsPartitionPoint-from_clause (λ r. nat_lt r.before c.args.ticket) _ _ c.partition_point-behind.ensures.partitioned (parted 0 c.args.given c.args.ticket c.args.runs.now c.requires) (λ a r q k. search rules) in
    point_later c.partition_point-behind.result c.args.ticket c.args.runs.now _ c.if-behind-eq0.false c.partition_point-behind.ensures.bound point
