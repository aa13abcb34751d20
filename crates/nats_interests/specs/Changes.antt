-- What the code's changes of an interest are.
use Rattle.std.specs.Prelude.{ℕ, if◌then◌else◌}
use Rattle.nats_interests.specs.declared.interest.Interest.{Interest}
use Rattle.nats_interests.specs.declared.interests.Change.{Change}
use Rattle.nats_interests.specs.declared.interests.Change.TheVariants.{Count, Limit}
use Rattle.nats_interests.specs.Interests.{is_of, limit_to, count_one}

abbrev pub changed : Change → Interest → Interest
changed Count i = count_one i
changed (Limit most) i = limit_to most i

abbrev pub changed_of : ℕ → ℕ → Change → Interest → Interest
changed_of peer sid change i = if is_of peer sid i then changed change i else i
