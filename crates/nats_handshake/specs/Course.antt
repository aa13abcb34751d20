-- What a server says in a handshake.
use Rattle.std.specs.Prelude.{◌≡◌, ℕ, zero, suc, List, [], ◌++◌, drop, Some}
use Rattle.nats_names.specs.declared.cause.Cause.{Cause}
use Rattle.nats_names.specs.declared.cause.Cause.TheVariants as cause
use Rattle.nats_names.specs.declared.cause.OpWord.{OpWord}
use Rattle.nats_names.specs.declared.cause.OpWord.TheVariants as word
use Rattle.nats_names.specs.declared.server_error.ServerError.{ServerError}
use Rattle.nats_names.specs.declared.server_error.ServerError.TheVariants as server_error
use Rattle.nats_message.specs.declared.op.ClientOp.TheVariants as client
use Rattle.nats_commands.specs.Commands.{command_text}
use Rattle.nats_lines.specs.Operations.{Operation, message, info_op, error_op, ok_op, ping_op, pong_op, Front, unfinished, got, fault, front}
use Rattle.nats_handshake.specs.declared.error.ConnectErrorKind.TheVariants as kind
use Rattle.nats_handshake.specs.Errors.{Failure}
use Rattle.nats_handshake.specs.declared.course.Step.{Step}
use Rattle.nats_handshake.specs.declared.course.Step.TheVariants as step
use Rattle.nats_handshake.specs.declared.course.Verdict.{Verdict}
use Rattle.nats_handshake.specs.declared.course.Verdict.TheVariants as verdict
use Rattle.nats_handshake.specs.declared.course.Greeting.{Greeting}
use Rattle.nats_handshake.specs.declared.course.Greeting.TheVariants as greeting
use Rattle.nats_handshake.specs.declared.course.Course as code

abbrev pub io : Cause → Failure
io source = (kind.Io, Some source)

-- ---- the first operation is the server's INFO

-- the word of an operation
abbrev pub word_of_op : Operation → OpWord
word_of_op (message sid m) = word.Msg
word_of_op (info_op info) = word.Info
word_of_op (error_op e) = word.Err
word_of_op ok_op = word.Ok
word_of_op ping_op = word.Ping
word_of_op pong_op = word.Pong

abbrev pub greeting_by : Operation → ℕ → Greeting
greeting_by (info_op info) n = greeting.Greets info n
greeting_by op n = greeting.Refuses (io (cause.Unexpected (word_of_op op)))

-- what stands at the front of the server's text: any other operation is refused
abbrev pub greeting_at : Front → Greeting
greeting_at unfinished = greeting.Waits
greeting_at (fault n) = greeting.Refuses (io cause.ReadFault)
greeting_at (got op n) = greeting_by op n

-- how many bytes of a text a greeting takes
abbrev pub greeted_within : Greeting → ℕ
greeted_within greeting.Waits = 0
greeted_within (greeting.Greets info n) = n
greeted_within (greeting.Refuses r) = 0

-- ---- then the server answers to CONNECT and PING

-- the server's word of an error, which is kept
abbrev pub refusal_by : ServerError → Failure
refusal_by server_error.AuthorizationViolation =
    (kind.AuthorizationViolation, Some (cause.Server server_error.AuthorizationViolation))
refusal_by (server_error.SlowConsumer sid) = io (cause.Server (server_error.SlowConsumer sid))
refusal_by (server_error.Other text) = io (cause.Server (server_error.Other text))

-- what one operation comes to, which takes n bytes: `+OK` and a further INFO are skipped, a PING is answered, a
-- PONG is success
abbrev pub step_by : Operation → ℕ → Step
step_by (message sid m) n = step.Refuses (io (cause.Unexpected word.Msg))
step_by (info_op info) n = step.Skips n
step_by (error_op e) n = step.Refuses (refusal_by e)
step_by ok_op n = step.Skips n
step_by ping_op n = step.Answers n
step_by pong_op n = step.Succeeds n

abbrev pub step_at : Front → Step
step_at unfinished = step.Waits
step_at (fault n) = step.Refuses (io cause.ReadFault)
step_at (got op n) = step_by op n

-- how many bytes a step takes
abbrev pub taken_by : Step → ℕ
taken_by step.Waits = 0
taken_by (step.Skips n) = n
taken_by (step.Answers n) = n
taken_by (step.Succeeds n) = n
taken_by (step.Refuses r) = 0

-- what the operations of a text come to: the verdict, how many operations may still come, the bytes behind those
-- that were read, and what is written to answer them
pub record Course : Type 0 where
  pub verdict : Verdict
  pub left : ℕ
  pub rest : List ℕ
  pub out : List ℕ

-- after a step with n more operations to come; `more` is what the text behind it comes to
abbrev pub course_by : Step → ℕ → List ℕ → Course → Course
course_by step.Waits n text more = record { verdict = verdict.Waits; left = suc n; rest = text; out = [] }
course_by (step.Refuses r) n text more = record { verdict = verdict.Refuses r; left = suc n; rest = text; out = [] }
course_by (step.Succeeds k) n text more = record { verdict = verdict.Succeeds; left = n; rest = drop k text; out = [] }
course_by (step.Skips k) n text more = more
course_by (step.Answers k) n text more = record more { out = command_text client.Pong ++ more.out }

-- what the operations of a text come to where so many may come; where none may there was no PONG in time
unfoldable pub course : ℕ → List ℕ → Course
course zero text = record { verdict = verdict.Refuses (io cause.NoPong); left = 0; rest = text; out = [] }
course (suc n) text =
    course_by (step_at (front text)) n text (course n (drop (taken_by (step_at (front text))) text))

-- a course whose answers stand behind these bytes
abbrev pub behind_out : List ℕ → Course → Course
behind_out out c = record c { out = out ++ c.out }

-- the course that the code tells of a text
abbrev pub course_view : List ℕ → code.Course → Course
course_view text c = record { verdict = c.verdict; left = c.left; rest = drop c.taken text; out = c.out.items }

-- a text with more behind it comes to what a course leaves with more behind it, and its answers stand behind those
-- of the course
abbrev pub GoesOnAlike : Course → List ℕ → Course → Type 0
GoesOnAlike c more whole = whole ≡ behind_out c.out (course c.left (c.rest ++ more))

-- a text that comes in two pieces, cut anywhere, comes to what the whole text does
abbrev pub CutAnywhere : Type 0
CutAnywhere = (left : ℕ) (text more : List ℕ) → (course left text).verdict ≡ verdict.Waits
    → GoesOnAlike (course left text) more (course left (text ++ more))
