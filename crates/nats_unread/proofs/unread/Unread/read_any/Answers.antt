-- What is read follows from what is seen, and memory is wanting only where it is taken.
use Rattle.std.proofs.Common.{◌≡◌, ap, refl}
use Rattle.std.specs.Prelude.{option_map}
use Rattle.nats_lines.specs.Operations.{got_or_fault, op_view}
use Rattle.nats_decode.specs.Decoder.{op_text_view}
use Rattle.nats_unread.specs.Kept.{Unread}
use Rattle.nats_lines.proofs.Seen.{bad_seen, lost_fits, whole_front, found_fits}
use Rattle.nats_unread.proofs.Answering.{reads_less, reads_bad, reads_found, reads_refused}
use Rattle.nats_unread.proofs.unread.Unread.read_any.Goals as goal

pub advance-requires : goal.advance-requires
advance-requires c = lost_fits c.args.self.now.bytes c.in-Fault.n (bad_seen c.args.self.now.bytes c.in-Fault.n c.in-Fault.ensures)

pub returns-in_err-found-in-Whole-clause-reads : goal.returns-in_err-found-in-Whole-clause-reads
returns-in_err-found-in-Whole-clause-reads c =
    let same : c.args.self.now.bytes ≡ c.args.self.now.bytes = refl in
    reads_refused c.args.self.now.bytes c.args.self.now.bytes (op_text_view c.in-Whole.text) c.in-Whole.len c.from_residual.result same c.in-Whole.ensures c.from_residual.ensures.1

pub take-requires : goal.take-requires
take-requires c =
    let seen = c.args.self.now.bytes in
    let found = c.in_ok-found-in-Whole.found in
    found_fits (got_or_fault c.in-Whole.len c.lost_at-lost.result (option_map op_view found)) seen
    (whole_front seen (op_text_view c.in-Whole.text) c.in-Whole.len c.lost_at-lost.result found c.in-Whole.ensures c.lost_at-lost.ensures c.in_ok-found-in-Whole.ensures)

pub returns-in-Unfinished-clause-reads : goal.returns-in-Unfinished-clause-reads
returns-in-Unfinished-clause-reads c =
    let same : c.args.self.now.bytes ≡ c.args.self.now.bytes = refl in
    reads_less c.args.self.now.bytes c.args.self.now.bytes c.await_body.new.self.bytes same c.in-Unfinished.ensures (ap (λ (u : Unread). u.bytes) c.await_body.ensures)

pub returns-in-Fault-clause-reads : goal.returns-in-Fault-clause-reads
returns-in-Fault-clause-reads c =
    let same : c.args.self.now.bytes ≡ c.args.self.now.bytes = refl in
    reads_bad c.args.self.now.bytes c.args.self.now.bytes c.advance.new.self.bytes c.in-Fault.n same c.in-Fault.ensures c.advance.ensures.bytes

pub returns-in_ok-found-in-Whole-clause-reads : goal.returns-in_ok-found-in-Whole-clause-reads
returns-in_ok-found-in-Whole-clause-reads c =
    let same : c.args.self.now.bytes ≡ c.args.self.now.bytes = refl in
    let seen = c.args.self.now.bytes in
    let found = c.in_ok-found-in-Whole.found in
    reads_found c.args.self.now.bytes seen c.take.new.self.bytes (op_text_view c.in-Whole.text) c.in-Whole.len
    (got_or_fault c.in-Whole.len c.lost_at-lost.result (option_map op_view found)) c.take.result same c.in-Whole.ensures
    (whole_front seen (op_text_view c.in-Whole.text) c.in-Whole.len c.lost_at-lost.result found c.in-Whole.ensures c.lost_at-lost.ensures c.in_ok-found-in-Whole.ensures)
    c.take.ensures.reads
