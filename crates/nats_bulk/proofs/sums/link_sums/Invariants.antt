-- each sum so far is that of the rows before this one, and below 2^64 a row
use Rattle.std.proofs.Common.{◌≡◌, ◌≤◌, ◌*◌, ◌^◌, length, take}
use Rattle.std.specs.List.{sum_by}
use Rattle.nats_history.specs.declared.transcript.LinkRow.{LinkRow}
use Rattle.nats_bulk.proofs.sums.link_sums.Given as goal

abbrev pub invariant-loop-row : goal.invariant-loop-row
invariant-loop-row l = record {
  taken : l.sums.taken ≡ sum_by (λ (row : LinkRow). length row.taken) (take l.row-index l.rows);
  left : l.sums.left ≡ sum_by (λ (row : LinkRow). length row.left) (take l.row-index l.rows);
  taken_fits : l.sums.taken ≤ l.row-index * 2 ^ 64;
  left_fits : l.sums.left ≤ l.row-index * 2 ^ 64;
}
