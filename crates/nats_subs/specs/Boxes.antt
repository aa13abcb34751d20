-- What is in a box.
use Rattle.std.specs.Global.{Box}
use Rattle.nats_message.specs.declared.message.Message.{Message}
use Rattle.nats_history.specs.declared.call.TakeReply.{TakeReply}
use Rattle.nats_history.specs.declared.call.TakeReply.TheVariants as takes
use Rattle.nats_subs.specs.declared.taken.BoxedReply.{BoxedReply}
use Rattle.nats_subs.specs.declared.taken.BoxedReply.TheVariants as boxed

abbrev pub inner : Box Message → Message
inner b = b.value

-- the reply, apart from where its message is
abbrev pub boxed_view : BoxedReply → TakeReply
boxed_view (boxed.Message m) = takes.Message m.value
boxed_view boxed.Empty = takes.Empty
boxed_view boxed.Ended = takes.Ended
