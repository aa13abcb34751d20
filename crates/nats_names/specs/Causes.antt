-- What causes and errors of calls print.
use Rattle.std.specs.Prelude.{ℕ, List, ◌++◌, Option, Some, None, option_map, codes}
use Rattle.std.specs.Fmt.{decimal}
use Rattle.nats_names.specs.Errors.{server_error_text, auth_error_text, addr_error_text}
use Rattle.nats_names.specs.declared.cause.OpWord.{OpWord}
use Rattle.nats_names.specs.declared.cause.OpWord.TheVariants as op
use Rattle.nats_names.specs.declared.cause.Cause.{Cause}
use Rattle.nats_names.specs.declared.cause.Cause.TheVariants as cause

-- the word of an operation
abbrev pub op_word_text : OpWord → List ℕ
op_word_text op.Ok = codes "OK"
op_word_text op.Info = codes "INFO"
op_word_text op.Ping = codes "PING"
op_word_text op.Pong = codes "PONG"
op_word_text op.Err = codes "ERR"
op_word_text op.Msg = codes "MSG"

-- what a cause prints
abbrev pub cause_text : Cause → List ℕ
cause_text cause.Closed = codes "channel closed"
cause_text cause.NoNumber = codes "no number left"
cause_text cause.NoPart = codes "no part left"
cause_text cause.Format = codes "invalid subject format"
cause_text (cause.Payload limit size) =
    codes "Payload size limit of " ++ (decimal limit ++ (codes " exceeded by message size of " ++ decimal size))
cause_text cause.NoResponders = codes "no responders"
cause_text cause.BrokenPipe = codes "broken pipe"
cause_text cause.Dropped = codes "request dropped"
cause_text cause.NoInfo = codes "expected INFO, got nothing"
cause_text (cause.Unexpected word) = codes "unexpected operation: " ++ op_word_text word
cause_text cause.Fault = codes "link failed"
cause_text cause.ReadFault = codes "invalid server operation"
cause_text cause.NoPong = codes "no PONG within 16 operations"
cause_text cause.NoAddress = codes "no addresses resolved"
cause_text cause.AllFailed = codes "all connection attempts failed"
cause_text (cause.Server error) = server_error_text error
cause_text (cause.Auth error) = auth_error_text error
cause_text (cause.Addr error) = addr_error_text error
cause_text (cause.Io text) = text
cause_text cause.NoMemory = codes "out of memory"

-- what stands behind the kind: nothing, or a colon, a space and the cause
abbrev pub source_text : Option Cause → List ℕ → List ℕ
source_text None text = text
source_text (Some source) text = text ++ codes ": " ++ cause_text source

-- what an error prints, where it is known what its kind prints
abbrev pub error_text : {Kind : Type 0} → (Kind → Option (List ℕ)) → Kind × Option Cause → Option (List ℕ)
error_text output error = option_map (source_text error.1) (output error.0)
