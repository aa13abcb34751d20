-- The writing half was shut, and both were handed back.
use Rattle.nats_live.proofs.end.hand_back.Goals as goal

pub returns-clause-back : goal.returns-clause-back
returns-clause-back g c = record {
  shut = g.W.Write.LinkWrite.write_told c.end_writing.new.write;
  is_shut = c.end_writing.ensures.shut;
  taken = c.end_writing.ensures.taken;
  faults = c.end_writing.ensures.faults;
  back = c.hang_up.ensures.told;
}
