-- each sum so far is that of the rows before this one, and below 2^64 a row
use Rattle.std.proofs.Common.{◌≡◌, ◌≤◌, ◌*◌, ◌^◌, length, take, count_by}
use Rattle.std.specs.List.{sum_by}
use Rattle.nats_history.specs.declared.transcript.SubRow.{SubRow}
use Rattle.nats_bulk.specs.Summary.{got_message}
use Rattle.nats_bulk.proofs.sums.sub_sums.Given as goal

abbrev pub invariant-loop-row : goal.invariant-loop-row
invariant-loop-row l = record {
  puts : l.sums.puts ≡ sum_by (λ (row : SubRow). length row.puts) (take l.row-index l.rows);
  takes : l.sums.takes ≡ sum_by (λ (row : SubRow). count_by got_message row.takes) (take l.row-index l.rows);
  drops : l.sums.drops ≡ sum_by (λ (row : SubRow). length row.drops) (take l.row-index l.rows);
  puts_fit : l.sums.puts ≤ l.row-index * 2 ^ 64;
  takes_fit : l.sums.takes ≤ l.row-index * 2 ^ 64;
  drops_fit : l.sums.drops ≤ l.row-index * 2 ^ 64;
}
