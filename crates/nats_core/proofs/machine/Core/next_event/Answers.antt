-- An event is handed out, and the journal stays.
use Rattle.nats_core.proofs.Cores.{sound_event}
use Rattle.nats_core.proofs.machine.Core.next_event.Goals as goal

pub invariant_of-self : goal.invariant_of-self
invariant_of-self c =
    sound_event c.self.inside.is_kept c.self.inside.entries.items c.self.inside.session c.next_event.new.self c.next_event.result c.self.invariant c.next_event.ensures.rest c.next_event.ensures.stands
