-- What the kinds of errors of a client's calls print.
use Rattle.std.specs.Prelude.{ℕ, List, codes}
use Rattle.nats_system.specs.declared.errors.PublishErrorKind.{PublishErrorKind}
use Rattle.nats_system.specs.declared.errors.PublishErrorKind.TheVariants as publish
use Rattle.nats_system.specs.declared.errors.SubscribeErrorKind.{SubscribeErrorKind}
use Rattle.nats_system.specs.declared.errors.SubscribeErrorKind.TheVariants as subscribe

abbrev pub publish_kind_text : PublishErrorKind → List ℕ
publish_kind_text publish.MaxPayloadExceeded = codes "max payload size exceeded"
publish_kind_text publish.InvalidSubject = codes "invalid subject"
publish_kind_text publish.Send = codes "failed to send message"
publish_kind_text publish.Full = codes "client inbox is full"
publish_kind_text publish.NoMemory = codes "out of memory"

abbrev pub subscribe_kind_text : SubscribeErrorKind → List ℕ
subscribe_kind_text subscribe.InvalidSubject = codes "invalid subject"
subscribe_kind_text subscribe.InvalidQueueName = codes "invalid queue name"
subscribe_kind_text subscribe.Other = codes "subscribe failed"
subscribe_kind_text subscribe.Full = codes "client inbox is full"
subscribe_kind_text subscribe.NoMemory = codes "out of memory"
