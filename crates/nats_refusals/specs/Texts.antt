-- What the errors of calls print.
use Rattle.std.specs.Prelude.{ℕ, List, ◌++◌, codes}
use Rattle.nats_names.specs.declared.cause.Cause.{Cause}
use Rattle.nats_names.specs.Causes.{cause_text}
use Rattle.nats_refusals.specs.declared.kinds.RequestErrorKind.{RequestErrorKind}
use Rattle.nats_refusals.specs.declared.kinds.RequestErrorKind.TheVariants as request
use Rattle.nats_refusals.specs.declared.kinds.FlushErrorKind.{FlushErrorKind}
use Rattle.nats_refusals.specs.declared.kinds.FlushErrorKind.TheVariants as flush
use Rattle.nats_refusals.specs.declared.kinds.ServerPoolErrorKind.{ServerPoolErrorKind}
use Rattle.nats_refusals.specs.declared.kinds.ServerPoolErrorKind.TheVariants as pool

abbrev pub request_kind_text : RequestErrorKind → List ℕ
request_kind_text request.TimedOut = codes "request timed out"
request_kind_text request.NoResponders = codes "no responders"
request_kind_text request.InvalidSubject = codes "invalid subject"
request_kind_text request.MaxPayloadExceeded = codes "max payload size exceeded"
request_kind_text request.Other = codes "request failed"
request_kind_text request.NoMemory = codes "out of memory"

abbrev pub flush_kind_text : FlushErrorKind → List ℕ
flush_kind_text flush.SendError = codes "failed to send flush request"
flush_kind_text flush.FlushError = codes "flush failed"
flush_kind_text flush.NoMemory = codes "out of memory"

abbrev pub server_pool_kind_text : ServerPoolErrorKind → List ℕ
server_pool_kind_text pool.Send = codes "failed to send server_pool command"
server_pool_kind_text pool.NoMemory = codes "out of memory"

abbrev pub unsubscribe_text : List ℕ
unsubscribe_text = codes "failed to send unsubscribe"

abbrev pub drain_text : Cause → List ℕ
drain_text source = codes "failed to send drain: " ++ cause_text source

abbrev pub reconnect_text : Cause → List ℕ
reconnect_text source = codes "failed to send reconnect: " ++ cause_text source
